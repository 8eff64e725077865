use Rattle.std.proofs.Common.{◌≡◌, ℕ, List, true, subst, sym, ◌∙◌, ◌↔◌, refl}
use Rattle.std.proofs.lemmas.Bool.{false≢true}
use Rattle.hc_range.specs.Ranges.{InAny, InRange, Includes, IsNonEmpty, IsNormal}
use Rattle.hc_range.specs.declared.range.Range.{Range}
use Rattle.hc_range.proofs.ByteOrder.{below_irrefl}
use Rattle.hc_range.proofs.Searched.{Includes-iff_ends, empty_holds_none}
use Rattle.hc_range.proofs.log.ReadLog.includes.Goals as goal

pub returns-then-not-is_non_empty : goal.returns-then-not-is_non_empty
returns-then-not-is_non_empty c =
    (λ _ key at. absurd (empty_holds_none c.args.part.now key c.is_non_empty.result c.is_non_empty.ensures c.if-not-is_non_empty.true at), λ _. refl)

pub returns-in-Some : goal.returns-in-Some
returns-in-Some c =
    subst (λ (ranges : List Range). (c.is_end_at_most.result ≡ true) ↔ Includes ranges c.args.part.now) (c.as_slice.ensures.value ∙ c.self.view_is)
    (Includes-iff_ends c.as_slice.result.now c.in-Some.range.now c.args.part.now c.is_end_at_most.result
    (subst IsNormal (sym c.as_slice.ensures.value) c.self.invariant.0) c.in-Some.ensures.found.0
    (subst (λ (key : List ℕ). InRange c.in-Some.range.now key) c.as_slice-2.ensures c.in-Some.ensures.found.1) c.is_end_at_most.ensures)

pub returns-in-None : goal.returns-in-None
returns-in-None c =
    let holds : IsNonEmpty c.args.part.now = c.is_non_empty.ensures.0 c.if-not-is_non_empty.false in
    let absent : InAny c.args.self.now c.args.part.now.lo → ⊥ =
    subst (λ (ranges : List Range). InAny ranges c.args.part.now.lo → ⊥) (c.as_slice.ensures.value ∙ c.self.view_is)
    (subst (λ (key : List ℕ). InAny c.as_slice.result.now key → ⊥) c.as_slice-2.ensures c.in-None.ensures.absent) in
    (λ e. absurd (false≢true e), λ includes. absurd (absent (includes c.args.part.now.lo (below_irrefl c.args.part.now.lo, holds))))
