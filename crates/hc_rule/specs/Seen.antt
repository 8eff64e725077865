-- What was seen of the log and of the words of ids, and stays true: a seat may use it at any later step.
use Rattle.std.specs.Prelude.{◌≡◌, ◌≢◌, ◌⊎◌, ℕ, ◌<◌, ◌≤◌, List}
use Rattle.hc_base.specs.Lookup.{Among}
use Rattle.hc_base.specs.declared.tid_word.TidWord.{TidWord}
use Rattle.hc_base.specs.declared.tid_word.TidWord.TheVariants as tid
use Rattle.hc_core.specs.Account.{Txn}
use Rattle.hc_rule.specs.declared.view.SeenWord.{SeenWord}
use Rattle.hc_rule.specs.declared.view.SeenPlace.{SeenPlace}
use Rattle.hc_rule.specs.Views.{Knowledge}

-- if the transaction is ever committed, its commit number is above this one
abbrev pub IsAbove : ℕ → Txn → Type 0
IsAbove seen t = t.place ≢ 0 → seen < t.place

-- the transaction of connection `conn` with this id and ordinal
abbrev pub IsTxn : (ℕ → List Txn) → ℕ → ℕ → ℕ → (Txn → Type 0) → Type 0
IsTxn of id conn ord P = (t : Txn) × Among t (of conn) × (t.id ≡ id) × (t.ord ≡ ord) × P t

-- What stays true of the transaction whose id had a word of this form, when so much of the log was seen. It is not committed
-- up to there unless the word says so, or names the number that it may have. A word that says rolled back stays.
abbrev pub Stays : (ℕ → TidWord) → (ℕ → List Txn) → ℕ → ℕ → TidWord → Type 0
Stays form of id seen tid.Empty = ⊥
Stays form of id seen (tid.Live conn ord) = IsTxn of id conn ord (λ t. IsAbove seen t)
Stays form of id seen (tid.Validating conn ord c) = IsTxn of id conn ord (λ t. IsAbove seen t ⊎ (t.place ≡ c.0))
Stays form of id seen (tid.Committed conn ord c) = IsTxn of id conn ord (λ t. (t.place ≡ c.0) × (c.0 ≢ 0))
Stays form of id seen (tid.RolledBack conn ord) = IsTxn of id conn ord (λ t. t.place ≡ 0) × (form id ≡ tid.RolledBack conn ord)

-- what a seat noted of a word, and of a place of the log; `size` transactions are committed
abbrev pub IsSeenWord : ℕ → (ℕ → TidWord) → (ℕ → List Txn) → SeenWord → Type 0
IsSeenWord size form of x = (x.tid.0 ≢ 0) × (x.seen.0 ≤ size) × Stays form of x.tid.0 x.seen.0 x.word

abbrev pub IsSeenPlace : (ℕ → ℕ) → SeenPlace → Type 0
IsSeenPlace log x = (log x.cid.0 ≡ x.tid.0) × (x.tid.0 ≢ 0)

-- `log` has the words of commit numbers and `form` the forms of ids' words
pub record AreSeen (log : ℕ → ℕ) (size : ℕ) (form : ℕ → TidWord) (of : ℕ → List Txn) (know : ℕ → Knowledge) : Type 0 where
  pub within : (i : ℕ) → (know i).seen ≤ size
  pub words : (i : ℕ) (x : SeenWord) → Among x (know i).words → IsSeenWord size form of x
  pub places : (i : ℕ) (x : SeenPlace) → Among x (know i).places → IsSeenPlace log x
