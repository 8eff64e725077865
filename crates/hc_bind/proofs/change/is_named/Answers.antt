use Rattle.std.proofs.Common.{◌∙◌, sym, nat_eq}
use Rattle.hc_bind.proofs.Columns.{any_of_places}
use Rattle.hc_bind.proofs.change.is_named.Goals as goal

pub returns : goal.returns
returns c = c.any_placed.ensures ∙ sym (any_of_places (nat_eq c.args.place) c.args.before.now)
