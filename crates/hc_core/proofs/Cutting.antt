-- What is so of the keys below a cut, and of a range that is cut there.
use Rattle.std.proofs.Common.{◌≡◌, ◌∙◌, inr, ⊎_elim, refl, sym, ap, subst, ℕ, List, Result, Ok, Err, IfOk}
use Rattle.hc_range.specs.declared.range.Range.{Range}
use Rattle.hc_range.specs.Order.{IsBelow}
use Rattle.hc_range.specs.Ranges.{InRange}
use Rattle.hc_range.proofs.ByteOrder.{at_most_trans, below_flip, empty_least}
use Rattle.hc_range.proofs.Ends.{under_down}
use Rattle.hc_core.specs.Cutting.{IsCutAt, IsUpto, stopped_by}
use Rattle.hc_core.specs.Desk.{HasMet, StopsAt, StopsIn, end_of}
use Rattle.hc_core.specs.declared.account.Entry.{Entry}
use Rattle.hc_core.specs.declared.outcome.Met.{Met}
use Rattle.hc_core.specs.declared.stop.Next.{Next}
use Rattle.hc_core.specs.declared.stop.Next.TheVariants.{More, End}

-- a desk that cuts may stop anywhere
pub stops_anywhere : (next : Next) → StopsAt (λ _. Unit {0}) next
stops_anywhere (More key) = tt
stops_anywhere End = tt

pub stops_anywhere_ok : {E : Type 0} (r : Result Next E) → IfOk r (StopsAt (λ _. Unit {0}))
stops_anywhere_ok (Ok next) = stops_anywhere next
stops_anywhere_ok (Err e) = tt

module _ (from key : List ℕ) (range below : Range) (upto : IsUpto key below) (cut : IsCutAt from range key) where
  -- the key that a call begins at is below the cut
  pub in_front : InRange below from
  in_front = subst (λ (r : Range). InRange r from) (sym upto) (empty_least from, cut.0)

  -- a key above it and below the cut is in the range
  pub stops_in : InRange range from → (stop : List ℕ) → IsBelow from stop → InRange below stop → IsBelow from stop × InRange range stop
  stops_in begins stop above inside =
      let under = (subst (λ (r : Range). InRange r stop) upto inside).1 in (
        above,
        (at_most_trans range.lo from stop begins.0 (below_flip from stop above), under_down stop key range.hi (below_flip stop key under) cut.1.1),
      )

  -- a call that stops below the cut, or at it, stops in the range
  pub stops_by : InRange range from → (next : Next) → StopsIn from below next → StopsIn from range (stopped_by key next)
  stops_by begins (More stop) stops = stops_in begins stop stops.0 stops.1
  stops_by begins End stops = cut

  -- and it went up to the same key
  pub end_by : (next : Next) → end_of range (stopped_by key next) ≡ end_of below next
  end_by (More stop) = refl
  end_by End = ap (λ (r : Range). r.hi) (sym upto)

  -- what was refused below the cut was refused in the range
  pub met_in : InRange range from → (conn : ℕ) (met : Met) (before after : List Entry) → HasMet conn from below met before after → HasMet conn from range met before after
  met_in begins conn met before after h = (
    h.0,
    h.1,
    ⊎_elim
        (λ (whole : h.0 ≡ below.hi). inr (key, whole ∙ ap (λ (r : Range). r.hi) upto, cut.0, cut.1))
        (λ stop. let s = stops_in begins stop.0 stop.2 stop.3 in inr (stop.0, stop.1, s.0, s.1))
        h.2,
    h.3,
    h.4,
  )
