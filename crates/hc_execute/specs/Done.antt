-- What one of the three statements does to a transaction, by the value at its id.
use Rattle.std.specs.Prelude.{◌≡◌, ℕ, ℤ, FitsSigned, Option, Some, None, List, ◌∷◌, ⊤}
use Rattle.std.specs.Int.{w64}
use Rattle.hc_core.specs.declared.account.Entry.{Entry}
use Rattle.hc_core.specs.declared.cells.Write.{Write}
use Rattle.hc_txn.specs.Reading.{only}
use Rattle.hc_txn.specs.Stores.{Store, Agrees, over}
use Rattle.hc_txn.specs.Transactions.{Transaction, LogsKeyToo, LogsWithin, reads_of}
use Rattle.hc_meaning.specs.declared.answer.Answer.{Answer}
use Rattle.hc_table.specs.declared.action.Action.{Action}
use Rattle.hc_table.specs.Rows.{record_of, row_key, row_record}
use Rattle.hc_table.specs.Statements.{answer_at, id_of, put_at}

abbrev pub Fits : Option ℤ → Type 0
Fits None = ⊤
Fits (Some v) = FitsSigned w64 v

-- a value is the one whose record is there, where a record of a row is
abbrev pub IsValueIn : Option ℤ → Option (List ℕ) → Type 0
IsValueIn there found = (v : Option ℤ) → Fits v → found ≡ record_of v → there ≡ v

-- at a key it is that of each store that agrees with what was read, under the own writes
abbrev pub IsThere : List Entry → List Write → List ℕ → Option ℤ → Type 0
IsThere account own key there = (store : Store) → Agrees (reads_of account) store → IsValueIn there (over own store key)

-- the own writes with a row's new value, where one is put
abbrev pub own_with : List ℕ → Option ℤ → List Write → List Write
own_with key None own = own
own_with key (Some v) own = record { key = key; rec = Some (row_record v) } ∷ own

-- a statement was carried out
pub record IsDone (action : Action) (account : List Entry) (before after : Transaction) (answer : Answer) : Type 0 where
  pub there : Option ℤ
  pub is_there : IsThere account before.own (row_key (id_of action)) there
  pub answered : answer ≡ answer_at action there
  pub own : after.own ≡ own_with (row_key (id_of action)) (put_at action there) before.own
  pub log : LogsKeyToo (row_key (id_of action)) before.log after.log

-- or it was not, for want of memory
abbrev pub IsLeft : Action → Transaction → Transaction → Type 0
IsLeft action before after = (after.own ≡ before.own) × LogsWithin (only (row_key (id_of action))) before.log after.log
