use Rattle.hc_verdict.proofs.Names.{named_where_found}
use Rattle.hc_verdict.proofs.named.find_named.Goals as goal

pub returns-clause-named : goal.returns-clause-named
returns-clause-named c = named_where_found c.args.scripts.now c.args.transcripts.now c.find_transactions.result c.find_transactions.ensures
