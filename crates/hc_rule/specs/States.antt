-- States: the state of each page. A page is in one state by definition; the rule says that its word is the form of the
-- state, that the map names exactly the named pages, and that each seat knows exactly the pages that it owns. No step yet
-- makes a page ready, replaced, pending or one of limbo, and the views' lists of these are empty; that each has exactly its
-- states comes with the steps that fill it.
use Rattle.std.specs.Prelude.{◌≡◌, ◌≢◌, ℕ, ◌<◌, List, ⊤}
use Rattle.hc_base.specs.Lookup.{Among}
use Rattle.hc_base.specs.Words.{IsPageWord, page_word, map_word}
use Rattle.hc_base.specs.declared.page_word.PageWord.{PageWord}
use Rattle.hc_base.specs.declared.page_word.PageWord.TheVariants as word
use Rattle.hc_base.specs.declared.map_word.MapWord.TheVariants as mapped
use Rattle.hc_rule.specs.declared.view.Role.{Role}
use Rattle.hc_rule.specs.declared.view.Role.TheVariants.{Connection}
use Rattle.hc_rule.specs.declared.view.Row.{Row}
use Rattle.hc_rule.specs.declared.view.Claim.{Claim}
use Rattle.hc_rule.specs.declared.view.Claimed.TheVariants as claimed

-- Nobody has the page. A seat has it and writes it, and names the next one that it has. Its word says mapped, and the map
-- is about to name it. The map names it. It was replaced, and its word says mapped yet. A transaction that is not decided
-- replaced it. It was replaced, and no reader of a snapshot at or above the stamp may reach it. A seat is that of a
-- connection.
pub data State : Type 0 where
  Free : State
  Owned : ℕ → ℕ → State
  Ready : ℕ → ℕ → State
  Named : ℕ → State
  Replaced : ℕ → ℕ → State
  Pending : ℕ → ℕ → State
  Limbo : ℕ → State

-- the form of the word that a page in this state has
abbrev pub form_of : State → PageWord
form_of Free = word.Free
form_of (Owned seat next) = word.Owned seat next
form_of (Ready seat number) = word.Mapped (record { 0 = number })
form_of (Named number) = word.Mapped (record { 0 = number })
form_of (Replaced seat number) = word.Mapped (record { 0 = number })
form_of (Pending seat next) = word.Pending seat next
form_of (Limbo stamp) = word.Limbo (record { 0 = stamp })

-- the row of a kept page is the layout of a content and does not change, and only kept pages may be reached
abbrev pub IsKept : State → Type 0
IsKept Free = ⊥
IsKept (Owned seat next) = ⊥
IsKept (Ready seat number) = ⊥
IsKept (Named number) = ⊤
IsKept (Replaced seat number) = ⊤
IsKept (Pending seat next) = ⊤
IsKept (Limbo stamp) = ⊤

-- the seat of this connection owns the page
abbrev pub IsOwnedBy : ℕ → State → Type 0
IsOwnedBy conn Free = ⊥
IsOwnedBy conn (Owned seat next) = seat ≡ conn
IsOwnedBy conn (Ready seat number) = ⊥
IsOwnedBy conn (Named number) = ⊥
IsOwnedBy conn (Replaced seat number) = ⊥
IsOwnedBy conn (Pending seat next) = ⊥
IsOwnedBy conn (Limbo stamp) = ⊥

-- a page was claimed, whichever transaction it was for
abbrev pub HasClaimed : ℕ → List Claim → Type 0
HasClaimed p claims = (claim : Claim) × Among claim claims × (claim.claimed ≡ claimed.Page (record { 0 = p }))

-- `page` and `map` are the words, `role`, `hand` (the pages that are owned) and `claims` what the seats know. The first
-- two pages are there from the start; each other one that is not free has been claimed at some time.
pub record IsStated (state : ℕ → State) (page map : ℕ → ℕ) (role : ℕ → Role) (hand : ℕ → List Row) (claims : ℕ → List Claim) : Type 0 where
  pub form : (p : ℕ) → IsPageWord (form_of (state p))
  pub word : (p : ℕ) → page p ≡ page_word (form_of (state p))
  pub named : (p l : ℕ) → state p ≡ Named l → map l ≡ map_word (mapped.Page (record { 0 = p }))
  pub names : (p l : ℕ) → map l ≡ map_word (mapped.Page (record { 0 = p })) → state p ≡ Named l
  pub held : (i : ℕ) (row : Row) → Among row (hand i) → (conn : ℕ) × (role i ≡ Connection conn) × (state row.page.0 ≡ Owned conn row.next)
  pub holder : (p conn : ℕ) → IsOwnedBy conn (state p) → (i : ℕ) × (row : Row) × (role i ≡ Connection conn) × Among row (hand i) × (row.page.0 ≡ p)
  pub claimed : (p : ℕ) → 2 < p → state p ≢ Free → (i : ℕ) × HasClaimed p (claims i)
