-- Words of transaction ids. A word is stored before the check or after the commit that it tells of: one that says validating
-- may be that of a committed transaction, and the log says so then.
use Rattle.std.specs.Prelude.{◌≡◌, ◌≢◌, ◌⊎◌, ℕ, ◌<◌, Option, Some, None, List, [], ◌∷◌, cond}
use Rattle.hc_base.specs.Lookup.{Among}
use Rattle.hc_base.specs.Words.{IsTidWord, tid_word}
use Rattle.hc_base.specs.declared.numbers.Tid.{Tid}
use Rattle.hc_base.specs.declared.tid_word.TidWord.{TidWord}
use Rattle.hc_base.specs.declared.tid_word.TidWord.TheVariants as tid
use Rattle.hc_core.specs.Account.{Txn}
use Rattle.hc_rule.specs.declared.view.Role.{Role}
use Rattle.hc_rule.specs.declared.view.Role.TheVariants.{Connection}
use Rattle.hc_rule.specs.Views.{Knowledge}

-- it is the word of a transaction of this connection, with its ordinal
abbrev pub IsOwner : ℕ → Txn → ℕ → ℕ → Type 0
IsOwner j t conn ord = (conn ≡ j) × (ord ≡ t.ord)

-- what the form of its word says of a transaction of connection j that has drawn its id
abbrev pub Shows : ℕ → Txn → TidWord → Type 0
Shows j t tid.Empty = ⊥
Shows j t (tid.Live conn ord) = IsOwner j t conn ord × (t.place ≡ 0)
Shows j t (tid.Validating conn ord c) = IsOwner j t conn ord × ((t.place ≡ 0) ⊎ (t.place ≡ c.0))
Shows j t (tid.Committed conn ord c) = IsOwner j t conn ord × (t.place ≡ c.0)
Shows j t (tid.RolledBack conn ord) = IsOwner j t conn ord × (t.place ≡ 0)

-- `words` has the words of ids and `form` their forms; `drawn` ids are drawn
pub record AreWorded (words : ℕ → ℕ) (form : ℕ → TidWord) (drawn : ℕ) (of : ℕ → List Txn) : Type 0 where
  pub word : (id : ℕ) → words id ≡ tid_word (form id)
  pub fits : (id : ℕ) → IsTidWord (form id)
  pub none : (id : ℕ) → (0 < id → drawn < id) → form id ≡ tid.Empty
  pub shows : (j : ℕ) (t : Txn) → Among t (of j) → t.id ≢ 0 → Shows j t (form t.id)

-- the id of the open transaction, and 0 where none is open or it has not drawn one
abbrev pub open_id : List Txn → ℕ
open_id [] = 0
open_id (t ∷ ts) = cond t.ended 0 t.id

-- a seat knows the id, where there is one
abbrev pub IsOpenId : ℕ → Option Tid → Type 0
IsOpenId id None = id ≡ 0
IsOpenId id (Some t) = (id ≡ t.0) × (t.0 ≢ 0)

-- and the form of its word
pub record AreOwn (role : ℕ → Role) (know : ℕ → Knowledge) (form : ℕ → TidWord) (of : ℕ → List Txn) : Type 0 where
  pub id : (i conn : ℕ) → role i ≡ Connection conn → IsOpenId (open_id (of conn)) (know i).own
  pub word : (i conn : ℕ) → role i ≡ Connection conn → form (open_id (of conn)) ≡ (know i).word
