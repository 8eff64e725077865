-- Looking: what looks at the log add to what a seat knows.
use Rattle.std.specs.Prelude.{◌≡◌, ◌≢◌, ◌⊎◌, ℕ, ◌+◌, ◌<◌, ◌≤◌, List, ◌++◌, map, Bool, true, false}
use Rattle.hc_base.specs.Lookup.{Among}
use Rattle.hc_base.specs.declared.numbers.Cid.{Cid}
use Rattle.hc_rows.specs.declared.layout.Layout.{Layout}
use Rattle.hc_rows.specs.Places.{log_at}
use Rattle.hc_rule.specs.declared.view.View.{View}
use Rattle.hc_rule.specs.declared.view.Found.{Found}
use Rattle.hc_rule.specs.declared.view.SeenPlace.{SeenPlace}
use Rattle.hc_base.specs.declared.seat_word.SeatWord.TheVariants as seat
use Rattle.hc_core.specs.Account.{IsIdle, WhenOpen}
use Rattle.hc_rule.specs.Kinds.LoadLog.{own_txns, Begins, Proposes, at_end}

-- the notes of words that were found empty, by their numbers; `place` is where the word of each number is
abbrev pub empty_at : (ℕ → ℕ) → List ℕ → List Found
empty_at place numbers = map (λ n. record { place = place n; word = 0 }) numbers

-- the view with more of the log seen, with more places found taken, and with more found empty
abbrev pub with_looks : Layout → Cid → List SeenPlace → List ℕ → View → View
with_looks y seen more empty v = record v { seen = seen; places = more ++ v.places; found = empty_at (log_at y) empty ++ v.found }

-- the place of this number was found taken
abbrev pub IsFoundTaken : ℕ → List SeenPlace → Type 0
IsFoundTaken c more = (x : SeenPlace) × Among x more × (x.cid.0 ≡ c)

-- The seat looked at the log, and nothing else is new in its view. What it has seen has not become less: it is the same, or up
-- to a place that was found taken.
pub record Looked (y : Layout) (v w : View) : Type 0 where
  pub seen : Cid
  pub more : List SeenPlace
  pub empty : List ℕ
  pub least : v.seen.0 ≤ seen.0
  pub upto : (seen.0 ≡ v.seen.0) ⊎ IsFoundTaken seen.0 more
  pub is : w ≡ with_looks y seen more empty v

-- and the word of this number was found empty, by a load that noted so
abbrev pub FindsEmpty : Layout → ℕ → View → View → Type 0
FindsEmpty y c v w = (looked : Looked y v w) × Among c looked.empty

-- the log was found to end after all that the seat has seen: a load found the next word empty
abbrev pub FindsEnd : Layout → View → View → Type 0
FindsEnd y v w = FindsEmpty y (w.seen.0 + 1) v w

-- One place was looked at. Where it is taken, the seat has seen the log up to there, and no further if it had not; else the
-- place is past all that it has seen.
abbrev pub LooksAt : Layout → ℕ → View → Bool → View → Type 0
LooksAt y c v true w = Looked y v w × (c ≤ w.seen.0) × ((w.seen.0 ≡ v.seen.0) ⊎ (w.seen.0 ≡ c))
LooksAt y c v false w = FindsEmpty y c v w × (w.seen.0 < c)

-- the seat looked, and the word of this number was found empty, unless it is the one that was known to be so
abbrev pub Narrows : Layout → ℕ → ℕ → View → View → Type 0
Narrows y known c v w = (looked : Looked y v w) × ((c ≡ known) ⊎ Among c looked.empty)

-- the open transaction has drawn an id and is undecided
abbrev pub MayPropose : View → Type 0
MayPropose v = WhenOpen (own_txns v) (λ t. (t.id ≢ 0) × (t.place ≡ 0))

-- the log was found to end, and then the account has the proposal of the number after all that is seen
abbrev pub Proposed : Layout → ℕ → View → Cid → View → Type 0
Proposed y conn v c w = (u : View) × FindsEnd y v u × (c.0 ≡ u.seen.0 + 1) × (w ≡ at_end Proposes conn u)

-- the seat is starting, and no transaction is open
abbrev pub MayBegin : View → Type 0
MayBegin v = (v.stage ≡ seat.Starting) × IsIdle (own_txns v)

-- the log was found to end, and then a transaction has begun, whose snapshot is all that is seen
abbrev pub Began : Layout → ℕ → View → Cid → View → Type 0
Began y conn v s w = (u : View) × FindsEnd y v u × (s ≡ u.seen) × (w ≡ at_end Begins conn u)
