-- Zeros, then two rows, then four words.
use Rattle.std.proofs.Common.{sym, subst, ◌∙◌}
use Rattle.hc_rule.specs.Start.{IsBlank}
use Rattle.hc_rule.proofs.Laying.{zeros_blank}
use Rattle.hc_steps.proofs.first.first_words.Goals as goal

pub lay_pages-requires-clause-blank : goal.lay_pages-requires-clause-blank
lay_pages-requires-clause-blank c = subst (λ ws. IsBlank c.args.layout.now ws) (sym (c.as_mut_slice.ensures.value ∙ c.in_ok-words.ensures.items_if_clones_equal (λ x clone. clone))) (zeros_blank c.args.layout.now c.total.result c.total.ensures)
