use Rattle.hc_judge.proofs.Circles.{no_two_name_each_other}
use Rattle.hc_judge.proofs.laws.no_two_name_each_other.Goals as goal

pub returns : goal.returns
returns g c = no_two_name_each_other g.T.Speech.language
