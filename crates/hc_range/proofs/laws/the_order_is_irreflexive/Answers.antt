use Rattle.std.proofs.Common.{sym, ◌∙◌}
use Rattle.std.proofs.lemmas.Bool.{true≢false}
use Rattle.hc_range.proofs.ByteOrder.{below_irrefl}
use Rattle.hc_range.proofs.laws.the_order_is_irreflexive.Goals as goal

pub returns : goal.returns
returns c = λ key h. true≢false (sym h ∙ below_irrefl key)
