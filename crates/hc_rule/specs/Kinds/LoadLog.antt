-- A load of the word of a commit number. The seat notes the id where it is taken, and the place where it is empty. Where it is
-- empty, and the one before is seen taken, all that are committed are seen: a transaction may begin there, or propose the number.
use Rattle.std.specs.Prelude.{◌≡◌, ◌≢◌, ◌⊎◌, ⊤, ℕ, ◌+◌, ◌<◌, ◌≤◌, List, ◌∷◌, cond, ltb}
use Rattle.hc_base.specs.declared.numbers.Cid.{Cid}
use Rattle.hc_base.specs.declared.seat_word.SeatWord.TheVariants as seat
use Rattle.atomic_table.specs.Table.{Me}
use Rattle.hc_core.specs.Account.{Txn, txns, IsIdle, WhenOpen}
use Rattle.hc_core.specs.Diary.{entry_of}
use Rattle.hc_core.specs.declared.account.Entry.{Entry}
use Rattle.hc_core.specs.declared.event.Event.TheVariants.{Begin, Propose}
use Rattle.hc_core.specs.declared.outcome.Outcome.TheVariants.{Began, Proposed}
use Rattle.hc_rule.specs.declared.view.View.{View}
use Rattle.hc_rule.specs.Views.{bare}
use Rattle.hc_rule.specs.Kinds.LoadPage.{with_found}

-- the transactions of the seat's own connection, newest first
abbrev pub own_txns : View → List Txn
own_txns v = txns v.account.entries

-- the view with one entry more in its account
abbrev pub with_entry : Entry → View → View
with_entry e v = record v { account = record { entries = e ∷ v.account.entries } }

-- the greater commit number
abbrev pub later : Cid → ℕ → Cid
later seen c = cond (ltb seen.0 c) (record { 0 = c }) seen

-- the view with a place of the log that was found taken, and the id there
abbrev pub with_place : ℕ → ℕ → View → View
with_place c id v = record v { seen = later v.seen c; places = record { cid = record { 0 = c }; tid = record { 0 = id } } ∷ v.places }

-- what a load is for: to look, to begin a transaction where it finds the end, or to propose it
pub data Looking : Type 0 where
  Looks : Looking
  Begins : Looking
  Proposes : Looking

-- what each asks of the seat and of the number
abbrev pub Asks : Looking → ℕ → View → Type 0
Asks Looks c v = ⊤
Asks Begins c v = (c ≡ v.seen.0 + 1) × (v.stage ≡ seat.Starting) × IsIdle (own_txns v)
Asks Proposes c v = (c ≡ v.seen.0 + 1) × WhenOpen (own_txns v) (λ t. (t.id ≢ 0) × (t.place ≡ 0))

-- what each enters into the account of its connection where it finds the word empty
abbrev pub at_end : Looking → ℕ → View → View
at_end Looks conn v = v
at_end Begins conn v = with_entry (entry_of (Begin conn) (Began v.seen)) v
at_end Proposes conn v = with_entry (entry_of (Propose conn) (Proposed (record { 0 = v.seen.0 + 1 }))) v

-- A load of the word of commit number c by the seat of a connection, where there are ids up to `last`.
pub record LogLoad : Type 0 where
  pub kind : Looking
  pub conn : ℕ
  pub c : ℕ
  pub last : ℕ

-- what it tells, where the word is at this place
abbrev pub LoadsLog : ℕ → LogLoad → View → ℕ → Me Unit View → Type 0
LoadsLog place l v n after =
    ((n ≡ 0) × (v.seen.0 < l.c) × (after ≡ bare (at_end l.kind l.conn (with_found place 0 v))))
    ⊎ ((n ≢ 0) × (n ≤ l.last) × (l.c ≤ l.last) × (after ≡ bare (with_place l.c n v)))
