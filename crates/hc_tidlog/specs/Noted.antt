-- Noted: what a seat has noted of a transaction, by its id. It notes what it finds in the words of ids and in places of the
-- log.
use Rattle.std.specs.Prelude.{◌≡◌, ◌≢◌, ◌⊎◌, ℕ, ◌<◌, List}
use Rattle.hc_base.specs.Lookup.{Among}
use Rattle.hc_base.specs.declared.tid_word.TidWord.{TidWord}
use Rattle.hc_base.specs.declared.tid_word.TidWord.TheVariants as tid
use Rattle.hc_core.specs.Account.{Txn}
use Rattle.hc_rule.specs.declared.view.View.{View}
use Rattle.hc_rule.specs.declared.view.SeenWord.{SeenWord}
use Rattle.hc_rule.specs.declared.view.SeenPlace.{SeenPlace}
use Rattle.hc_rule.specs.Seen.{IsAbove}

-- the word of this id had this form, when so much of the log was seen
abbrev pub HasNoted : View → ℕ → TidWord → ℕ → Type 0
HasNoted v id form seen = Among (record { tid = record { 0 = id }; word = form; seen = record { 0 = seen } }) v.words

-- this place of the log has this id
abbrev pub HasFound : View → ℕ → ℕ → Type 0
HasFound v c id = Among (record { cid = record { 0 = c }; tid = record { 0 = id } }) v.places

-- the transaction is committed at this number: its word said so, or the log has its id there
abbrev pub ShowsCommitted : View → ℕ → ℕ → Type 0
ShowsCommitted v id c = (0 < c) × (((conn : ℕ) × (ord : ℕ) × (seen : ℕ) × HasNoted v id (tid.Committed conn ord (record { 0 = c })) seen) ⊎ HasFound v c id)

-- it is rolled back: its word said so
abbrev pub ShowsRolledBack : View → ℕ → Type 0
ShowsRolledBack v id = (conn : ℕ) × (ord : ℕ) × (seen : ℕ) × HasNoted v id (tid.RolledBack conn ord) seen

-- the number that a word names is above this one, or the log has another id there
abbrev pub IsNotBelow : View → ℕ → ℕ → ℕ → Type 0
IsNotBelow v id bound c = (bound < c) ⊎ ((other : ℕ) × (other ≢ id) × (0 < c) × HasFound v c other)

-- It was undecided when so much of the log was seen: its word said that it is live, or that it validates a number, which is
-- above that bound or another's.
abbrev pub ShowsUndecided : View → ℕ → ℕ → Type 0
ShowsUndecided v id bound = (conn : ℕ) × (ord : ℕ)
    × (HasNoted v id (tid.Live conn ord) bound ⊎ ((c : ℕ) × HasNoted v id (tid.Validating conn ord (record { 0 = c })) bound × IsNotBelow v id bound c))

-- a fact holds of each transaction that has the id
abbrev pub IsTrueOf : (ℕ → List Txn) → ℕ → (Txn → Type 0) → Type 0
IsTrueOf of id P = (j : ℕ) (t : Txn) → Among t (of j) → t.id ≡ id → P t

-- What the notes of a view show is true of the transactions of all connections: it has this commit number, it has none, or
-- it has one above the bound, if any.
pub record AreTrue (of : ℕ → List Txn) (v : View) : Type 0 where
  pub committed : (id c : ℕ) → ShowsCommitted v id c → IsTrueOf of id (λ t. t.place ≡ c)
  pub rolled_back : (id : ℕ) → ShowsRolledBack v id → IsTrueOf of id (λ t. t.place ≡ 0)
  pub undecided : (id bound : ℕ) → ShowsUndecided v id bound → IsTrueOf of id (λ t. IsAbove bound t)

-- a view has all notes that another one has
abbrev pub KeepsNotes : View → View → Type 0
KeepsNotes v w = ((x : SeenWord) → Among x v.words → Among x w.words) × ((x : SeenPlace) → Among x v.places → Among x w.places)
