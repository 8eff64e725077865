use Rattle.std.proofs.Common.{◌∙◌, sym}
use Rattle.hc_bind.proofs.Aggregates.{any_in_terms}
use Rattle.hc_bind.proofs.aggregate.terms_have.Goals as goal

pub returns : goal.returns
returns c = c.any_term.ensures ∙ sym (any_in_terms c.args.terms.now)
