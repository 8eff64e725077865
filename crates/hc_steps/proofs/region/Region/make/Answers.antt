-- The rule holds of the first words.
use Rattle.std.proofs.Common.{sym, subst, ◌∷◌, []}
use Rattle.hc_rule.specs.Rule.{Holds}
use Rattle.hc_rule.specs.Views.{first_view}
use Rattle.hc_rule.proofs.Start.{start_holds}
use Rattle.hc_steps.proofs.region.Region.make.Goals as goal

pub of_words-requires : goal.of_words-requires
of_words-requires c = subst (λ ws. Holds c.args.layout ws (first_view ∷ [])) (sym c.as_slice.ensures.value) (start_holds c.args.layout c.in_ok-words.words.items c.in_ok-words.ensures)
