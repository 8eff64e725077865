use Rattle.std.proofs.Common.{◌∙◌, sym, nat_eq}
use Rattle.hc_bind.proofs.Columns.{any_of_sets}
use Rattle.hc_bind.proofs.change.is_set.Goals as goal

pub returns : goal.returns
returns c = c.any_set.ensures ∙ sym (any_of_sets (nat_eq c.args.place) c.args.before.now)
