-- Stores of the word of the seat's own connection: it is about to take a snapshot, it reads its snapshot, or its transaction
-- ends.
use Rattle.std.specs.Prelude.{◌≡◌, ◌≢◌, ◌⊎◌, ℕ, [], None}
use Rattle.hc_base.specs.declared.seat_word.SeatWord.{SeatWord}
use Rattle.hc_base.specs.declared.seat_word.SeatWord.TheVariants as seat
use Rattle.hc_base.specs.declared.tid_word.TidWord.TheVariants as tid
use Rattle.atomic_table.specs.Table.{Me}
use Rattle.hc_core.specs.Account.{WhenOpen}
use Rattle.hc_core.specs.Diary.{entry_of}
use Rattle.hc_core.specs.declared.event.Event.TheVariants.{End}
use Rattle.hc_core.specs.declared.outcome.Outcome.TheVariants.{Done}
use Rattle.hc_rule.specs.declared.view.View.{View}
use Rattle.hc_rule.specs.Views.{bare}
use Rattle.hc_rule.specs.Kinds.LoadLog.{own_txns, with_entry}

-- the view with another word of its connection
abbrev pub with_stage : SeatWord → View → View
with_stage word v = record v { stage = word }

-- what is asked of the seat: to be starting it is idle, the snapshot is that of the transaction which has just begun, and a
-- transaction ends that is committed or has nothing in its write set, and the seat owns no page then
abbrev pub MayStand : SeatWord → View → Type 0
MayStand seat.Idle v = WhenOpen (own_txns v) (λ t. (t.place ≢ 0) ⊎ (t.write_set ≡ [])) × (v.pages ≡ [])
MayStand seat.Starting v = v.stage ≡ seat.Idle
MayStand (seat.Snapshot snapshot) v = (v.stage ≡ seat.Starting) × WhenOpen (own_txns v) (λ t. t.snapshot ≡ snapshot.0)

-- the view after it
abbrev pub stood : SeatWord → ℕ → View → View
stood seat.Idle conn v = record (with_entry (entry_of (End conn) Done) v) { stage = seat.Idle; own = None; word = tid.Empty }
stood seat.Starting conn v = with_stage seat.Starting v
stood (seat.Snapshot snapshot) conn v = with_stage (seat.Snapshot snapshot) v

-- A store of a word by the seat of a connection, and what it tells.
pub record SeatStore : Type 0 where
  pub word : SeatWord
  pub conn : ℕ

-- an idle seat owns no page, by the rule
abbrev pub OwnsNoneIdle : View → Type 0
OwnsNoneIdle v = v.stage ≡ seat.Idle → v.pages ≡ []

abbrev pub StoresSeat : SeatStore → View → Me Unit View → Type 0
StoresSeat s v after = OwnsNoneIdle v × (after ≡ bare (stood s.word s.conn v))
