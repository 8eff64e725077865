-- An exchange of an empty word of the log by the own id: the transaction is committed then, at this number.
use Rattle.std.specs.Prelude.{◌≡◌, ◌≢◌, ◌⊎◌, ℕ, ◌≤◌, Some}
use Rattle.hc_base.specs.Lookup.{Among}
use Rattle.hc_base.specs.declared.tid_word.TidWord.TheVariants as tid
use Rattle.hc_range.specs.Ranges.{Includes}
use Rattle.atomic_table.specs.Table.{Me}
use Rattle.hc_core.specs.Account.{Txn, PartRead, WhenOpen}
use Rattle.hc_core.specs.Diary.{entry_of}
use Rattle.hc_core.specs.declared.account.Entry.{Entry}
use Rattle.hc_core.specs.declared.event.Event.TheVariants.{Decide}
use Rattle.hc_core.specs.declared.outcome.Outcome.TheVariants.{Decided, Lost}
use Rattle.hc_rule.specs.declared.view.View.{View}
use Rattle.hc_rule.specs.Views.{bare}
use Rattle.hc_rule.specs.Kinds.LoadLog.{own_txns, with_entry, with_place}

-- An exchange at commit number c for this id, by the seat of a connection, where there are ids up to `last`.
pub record Winning : Type 0 where
  pub conn : ℕ
  pub c : ℕ
  pub id : ℕ
  pub last : ℕ

-- the number is proposed, the transaction is undecided, and each part that it read lies in the parts checked for it
abbrev pub IsReady : ℕ → Txn → Type 0
IsReady c t = (t.proposed ≡ c) × (t.place ≡ 0) × ((read : PartRead) → Among read t.reads → Includes t.checked read.part)

-- what is asked of the seat: the word of its id says that it validates this number
pub record MayWin (w : Winning) (v : View) : Type 0 where
  pub own : v.own ≡ Some (record { 0 = w.id })
  pub ord : ℕ
  pub validating : v.word ≡ tid.Validating w.conn ord (record { 0 = w.c })
  pub ready : WhenOpen (own_txns v) (IsReady w.c)

-- what is entered into the account of the connection: the number is won, or lost to another id
abbrev pub decided : Winning → Entry
decided w = entry_of (Decide w.conn) (Decided (record { 0 = w.c }))

abbrev pub lost : Winning → ℕ → Entry
lost w n = entry_of (Decide w.conn) (Lost (record { cid = record { 0 = w.c }; other = record { 0 = n } }))

-- the view after it
abbrev pub won_by : Winning → View → View
won_by w v = with_entry (decided w) (with_place w.c w.id v)

abbrev pub lost_to : Winning → ℕ → View → View
lost_to w n v = with_entry (lost w n) (with_place w.c n v)

-- what the exchange tells
abbrev pub WinsLog : Winning → View → ℕ → Me Unit View → Type 0
WinsLog w v n after = (w.c ≤ w.last) × (((n ≡ 0) × (after ≡ bare (won_by w v))) ⊎ ((n ≢ 0) × (n ≤ w.last) × (after ≡ bare (lost_to w n v))))
