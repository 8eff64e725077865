-- Seeking: what a search for a free id adds to what a seat knows.
use Rattle.std.specs.Prelude.{◌≡◌, ◌≢◌, ◌⊎◌, ℕ, ◌+◌, ◌<◌, ◌^◌, List, ◌++◌, Bool, true, false}
use Rattle.hc_base.specs.Lookup.{Among}
use Rattle.hc_base.specs.declared.numbers.Cid.{Cid}
use Rattle.hc_base.specs.declared.seat_word.SeatWord.TheVariants as seat
use Rattle.hc_base.specs.declared.tid_word.TidWord.{TidWord}
use Rattle.hc_base.specs.declared.tid_word.TidWord.TheVariants as tid
use Rattle.hc_core.specs.Account.{Txn, WhenOpen}
use Rattle.hc_rows.specs.declared.layout.Layout.{Layout}
use Rattle.hc_rows.specs.Places.{tid_at}
use Rattle.hc_rule.specs.declared.view.View.{View}
use Rattle.hc_rule.specs.declared.view.SeenWord.{SeenWord}
use Rattle.hc_rule.specs.Kinds.LoadLog.{own_txns}
use Rattle.hc_rule.specs.Kinds.LoadPage.{with_found}
use Rattle.hc_rule.specs.Kinds.TidWord.{with_seen, drew}
use Rattle.hc_tidlog.specs.Looking.{empty_at}

-- the view with more words of ids found, and more found empty
abbrev pub with_words : Layout → List SeenWord → List ℕ → View → View
with_words y more empty v = record v { words = more ++ v.words; found = empty_at (tid_at y) empty ++ v.found }

-- an id is one of those that were found drawn
abbrev pub IsFound : ℕ → List SeenWord → Type 0
IsFound id more = (x : SeenWord) × Among x more × (x.tid.0 ≡ id)

-- The seat found words of ids, and nothing else is new in its view. A search that was at one id is at another one now, which
-- is among them, or is the same.
pub record Reached (y : Layout) (from id : ℕ) (v w : View) : Type 0 where
  pub more : List SeenWord
  pub empty : List ℕ
  pub is : w ≡ with_words y more empty v
  pub found : (id ≡ from) ⊎ IsFound id more

-- one id was looked at: its word was noted, or that it was empty
abbrev pub LookedAt : Layout → ℕ → View → Bool → View → Type 0
LookedAt y id v true w = (form : TidWord) × (form ≢ tid.Empty) × (w ≡ with_seen id form v)
LookedAt y id v false w = w ≡ with_found (tid_at y id) 0 v

-- the open transaction reads its snapshot and has no id, and the ordinal is above those that the connection drew with
pub record CanDraw (number : ℕ) (v : View) : Type 0 where
  pub snapshot : Cid
  pub reads : v.stage ≡ seat.Snapshot snapshot
  pub undrawn : WhenOpen (own_txns v) (λ t. t.id ≡ 0)
  pub ord : (0 < number) × (number < 2 ^ 17)
  pub above : (t : Txn) → Among t (own_txns v) → t.ord < number

-- the id before was found drawn, or there is none, and then this one was drawn
abbrev pub DrewNext : Layout → ℕ → ℕ → View → ℕ → View → Type 0
DrewNext y conn ord v id w = (before : ℕ) × (u : View) × (id ≡ before + 1) × Reached y 0 before v u × (w ≡ drew (record { conn = conn; id = id; ord = ord }) u)

-- this id was found drawn, by a step that noted so, and nothing else is new but words of ids
abbrev pub FoundDrawn : Layout → ℕ → View → View → Type 0
FoundDrawn y id v w = (more : List SeenWord) × (empty : List ℕ) × (w ≡ with_words y more empty v) × IsFound id more
