use Rattle.hc_test_desks.proofs.Reserved.{all_put}
use Rattle.hc_test_desks.proofs.phases.commit.Goals as goal

pub propose-requires : goal.propose-requires
propose-requires g c = record { put = all_put c.args.writes.now (g.D.Desk.account c.args.desk.now) c.requires.putting }
