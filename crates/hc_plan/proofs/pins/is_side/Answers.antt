use Rattle.std.proofs.Common.{sym, ◌∙◌}
use Rattle.std.proofs.lemmas.Bool.{eq-eqb, ne_eqb}
use Rattle.hc_schema.specs.Paths.{facts}
use Rattle.hc_plan.proofs.Counting.{side_here, side_elsewhere, no_side}
use Rattle.hc_plan.proofs.pins.is_side.Goals as goal

pub returns-then-from-place : goal.returns-then-from-place
returns-then-from-place c =
    c.is_before.ensures ∙ sym (side_here c.args.place c.in-Some.at (facts c.args.offset c.args.column.now) (facts c.args.offset c.args.other.now) (sym (c.column_of.ensures c.args.offset) ∙ c.in-Some.is) (eq-eqb c.in-Some.at c.args.place (sym c.from.ensures ∙ c.if-from-place.true)))

pub returns-else-from-place : goal.returns-else-from-place
returns-else-from-place c =
    ne_eqb c.from.result c.args.place c.if-from-place.false ∙ sym (side_elsewhere c.args.place c.in-Some.at (facts c.args.offset c.args.column.now) (facts c.args.offset c.args.other.now) (sym (c.column_of.ensures c.args.offset) ∙ c.in-Some.is) (ne_eqb c.in-Some.at c.args.place (λ h. c.if-from-place.false (c.from.ensures ∙ h))))

pub returns-in-None : goal.returns-in-None
returns-in-None c =
    sym (no_side c.args.place (facts c.args.offset c.args.column.now) (facts c.args.offset c.args.other.now) (sym (c.column_of.ensures c.args.offset) ∙ c.in-None.is))
