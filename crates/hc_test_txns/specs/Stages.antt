-- Stages: what is known of a connection whose transactions read and put nothing, from one moment when its seat is idle to the
-- next.
use Rattle.std.specs.Prelude.{◌≡◌, ◌≢◌, ℕ, ◌<◌, ◌^◌, Bool, true, false, Some, List, [], ◌∷◌}
use Rattle.hc_base.specs.declared.numbers.Cid.{Cid}
use Rattle.hc_base.specs.declared.seat_word.SeatWord.TheVariants as seat
use Rattle.hc_base.specs.declared.tid_word.TidWord.TheVariants as tid
use Rattle.hc_core.specs.Account.{Txn, begun_at}
use Rattle.hc_rule.specs.declared.view.View.{View}
use Rattle.hc_rule.specs.Kinds.LoadLog.{own_txns}
use Rattle.hc_rule.specs.Kinds.TidWord.{IsRolledBack}
use Rattle.hc_steps.specs.Same.{IsSame}
use Rattle.hc_test_txns.specs.Done.{are_done}
use Rattle.hc_test_txns.specs.declared.lone.Lone.{Lone}

-- it began with this snapshot, drew an id with an ordinal, proposes a number and is committed at one; 0 says not yet
abbrev pub txn_of : ℕ → ℕ → ℕ → ℕ → ℕ → Txn
txn_of s id ord c place = record (begun_at s) { id = id; ord = ord; proposed = c; place = place }

-- an ordinal that a transaction may draw with
abbrev pub IsOrdinal : ℕ → Type 0
IsOrdinal number = (0 < number) × (number < 2 ^ 17)

-- the seat is idle, and the ordinals of its transactions are below this one
abbrev pub MayStart : ℕ → View → Type 0
MayStart number v = (v.stage ≡ seat.Idle) × (are_done number (own_txns v) ≡ true)

-- the newest transaction of the seat's connection, and those before have ended and drew with ordinals below this one
pub record IsNewest (number : ℕ) (t : Txn) (v : View) : Type 0 where
  pub rest : List Txn
  pub is : own_txns v ≡ t ∷ rest
  pub done : are_done number rest ≡ true

-- it reads its snapshot and has drawn no id, and the seat owns no page
pub record HasStarted (number : ℕ) (v : View) : Type 0 where
  pub none : v.pages ≡ []
  pub snapshot : Cid
  pub reads : v.stage ≡ seat.Snapshot snapshot
  pub newest : IsNewest number (txn_of snapshot.0 0 0 0 0) v

-- it has drawn an id with this ordinal, and the seat owns no page; a proposal and a commit number may be there
pub record IsDrawn (id number c place : ℕ) (v : View) : Type 0 where
  pub none : v.pages ≡ []
  pub some : id ≢ 0
  pub own : v.own ≡ Some (record { 0 = id })
  pub snapshot : ℕ
  pub newest : IsNewest number (txn_of snapshot id number c place) v
  pub stays : IsRolledBack v.word → ⊥

-- and the word of its id says that it validates the number that it proposes
abbrev pub Validates : ℕ → ℕ → ℕ → ℕ → View → Type 0
Validates conn id number c v = IsDrawn id number c 0 v × (v.word ≡ tid.Validating conn number (record { 0 = c }))

-- by the answer: the id 1 is drawn, or it is another's
abbrev pub DrewFirst : ℕ → Bool → View → Type 0
DrewFirst number true v = IsDrawn 1 number 0 0 v
DrewFirst number false v = HasStarted number v

-- it has nothing in its write set, and the seat owns no page, so it may end
pub record MayEnd (number : ℕ) (v : View) : Type 0 where
  pub none : v.pages ≡ []
  pub t : Txn
  pub nothing : t.write_set ≡ []
  pub running : t.ended ≡ false
  pub ord : t.ord ≡ number
  pub newest : IsNewest number t v

-- the connection is the same, and so is the ordinal
abbrev pub IsSameLone : Lone → Lone → Type 0
IsSameLone before after = IsSame before.grip after.grip × (after.ord ≡ before.ord)
