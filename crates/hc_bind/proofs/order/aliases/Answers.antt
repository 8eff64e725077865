use Rattle.std.proofs.Common.{◌∙◌, ap, sym, Some, None}
use Rattle.std.specs.Prelude.{if◌then◌else◌}
use Rattle.std.specs.Option.{option_or}
use Rattle.hc_schema.specs.Binding.Queries.{has_alias}
use Rattle.hc_bind.specs.First.{place_at}
use Rattle.hc_bind.specs.Settings.{answer_of}
use Rattle.hc_bind.proofs.FirstPlaces.{known_more}
use Rattle.hc_bind.proofs.order.aliases.Goals as goal

pub loop-i-preserved : goal.loop-i-preserved
loop-i-preserved c =
    known_more answer_of has_alias c.args.answers.now c.loop-i.i c.index-answers-i.result (place_at c.loop-i.places) (place_at c.note_alias.new.places) c.loop-i-test.true c.index-answers-i.is c.loop-i.invariant
    (λ q. c.in_ok-note_alias.ensures q
    ∙ ap (λ a. option_or (place_at c.loop-i.places q) (if has_alias q (answer_of a) then Some c.in_ok-place.place else None)) (sym c.index-answers-i.is)
    ∙ ap (λ k. option_or (place_at c.loop-i.places q) (if has_alias q (answer_of c.index-answers-i.result) then Some k else None)) c.in_ok-place.ensures.ok)
