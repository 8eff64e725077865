use Rattle.hc_lex.specs.Keywords.{keyword_of, table}
use Rattle.hc_lex.proofs.WordOrder.{table_rises}
use Rattle.hc_lex.proofs.keyword.keyword_of.Goals as goal

pub look_up-requires : goal.look_up-requires
unfolding table
look_up-requires c = table_rises

pub returns : goal.returns
unfolding keyword_of table
returns c = c.look_up.ensures
