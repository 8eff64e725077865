-- A statement of a language, run by a transaction over a desk. What it answers, leaves and reads is said of every database that
-- may be the transaction's snapshot, as far as its desk's account tells.
use Rattle.std.specs.Prelude.{◌≡◌, ℕ, List, ◌⊎◌, ◌↔◌}
use Rattle.hc_range.specs.Ranges.{InAny}
use Rattle.hc_ast.specs.declared.statement.Stmt.{Stmt}
use Rattle.hc_core.specs.declared.account.Entry.{Entry}
use Rattle.hc_core.specs.declared.cells.Write.{Write}
use Rattle.hc_transcript.specs.declared.refusal.Refusal.{Refusal}
use Rattle.hc_transcript.specs.declared.reply.Line.TheVariants.{Error}
use Rattle.hc_txn.specs.Stores.{Store, Agrees, over}
use Rattle.hc_txn.specs.Transactions.{Transaction, reads_of}
use Rattle.hc_meaning.specs.declared.answer.Answer.{Answer}
use Rattle.hc_meaning.specs.Runs.Language.{Language, record_at}

-- a database as a store
abbrev pub store_of : (L : Language) → L.Db → Store
store_of L db key = record_at (L.cells db) key

-- on this snapshot a transaction with these own writes sees this database
abbrev pub Sees : (L : Language) → L.Db → List Write → L.Db → Type 0
Sees L snapshot own db = (key : List ℕ) → over own (store_of L snapshot) key ≡ store_of L db key

-- a database that may be the snapshot, and one that the transaction sees there before the statement
pub record IsSeenBy (L : Language) (account : List Entry) (own : List Write) (snapshot db : L.Db) : Type 0 where
  pub snapshot_is : L.IsDb snapshot
  pub agrees : Agrees (reads_of account) (store_of L snapshot)
  pub is : L.IsDb db
  pub sees : Sees L snapshot own db

-- it answered what the language says, the transaction sees the database that the statement leaves, and its log has what the
-- statement reads too
pub record HasRunOn (L : Language) (statement : Stmt) (before after : Transaction) (answer : Answer) (snapshot db : L.Db) : Type 0 where
  pub answered : (L.run db statement).answer ≡ answer
  pub sees : Sees L snapshot after.own (L.run db statement).db
  pub logged : (key : List ℕ) → InAny after.log key ↔ (InAny before.log key ⊎ InAny (L.reads db statement) key)

-- whatever the snapshot is
abbrev pub HasRun : (L : Language) → Stmt → List Entry → Transaction → Transaction → Answer → Type 0
HasRun L statement account before after answer = (snapshot db : L.Db) → IsSeenBy L account before.own snapshot db → HasRunOn L statement before after answer snapshot db

-- a refusal leaves the own writes
abbrev pub ChangesNothing : Transaction → Transaction → Answer → Type 0
ChangesNothing before after answer = (refusal : Refusal) → answer.last ≡ Error refusal → after.own ≡ before.own

-- memory ran out: the own writes are as before, and nothing but what the statement reads was logged
abbrev pub HasFallenShort : (L : Language) → Stmt → List Entry → Transaction → Transaction → Type 0
HasFallenShort L statement account before after = (after.own ≡ before.own)
    × ((key : List ℕ) → InAny before.log key → InAny after.log key)
    × ((snapshot db : L.Db) → IsSeenBy L account before.own snapshot db → (key : List ℕ) → InAny after.log key → InAny before.log key ⊎ InAny (L.reads db statement) key)
