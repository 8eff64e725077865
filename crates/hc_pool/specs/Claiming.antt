-- Claiming: what a claim adds to what a seat knows.
use Rattle.std.specs.Prelude.{◌≡◌, ◌≢◌, ◌⊎◌, ℕ, zero, suc, ◌+◌, ◌-◌, ◌<◌, cond, leb, List, [], ◌∷◌, length, ◌++◌, Bool, true, false}
use Rattle.hc_base.specs.Lookup.{Among}
use Rattle.hc_rows.specs.declared.layout.Layout.{Layout}
use Rattle.hc_rows.specs.Places.{page_at}
use Rattle.hc_rule.specs.declared.view.View.{View}
use Rattle.hc_rule.specs.declared.view.Found.{Found}
use Rattle.hc_rule.specs.Kinds.LoadPage.{with_found}
use Rattle.hc_rule.specs.Kinds.TakePage.{with_page, IsElsewhere}

-- the view with more words found
abbrev pub with_all_found : List Found → View → View
with_all_found more v = record v { found = more ++ v.found }

-- the word of a page was found not to be that of a free one
abbrev pub IsFoundTaken : Layout → ℕ → List Found → Type 0
IsFoundTaken y p more = (x : Found) × Among x more × (x.place ≡ page_at y p) × (x.word ≢ 0)

-- Each of these pages was found taken, by a step that wrote so into the view, and nothing else is new there.
pub record FindsTaken (y : Layout) (pages : ℕ → Type 0) (v w : View) : Type 0 where
  pub more : List Found
  pub is : w ≡ with_all_found more v
  pub each : (p : ℕ) → pages p → IsFoundTaken y p more

-- the page, which was not the seat's, is the seat's and names no next one; its row is as it was found
abbrev pub Claims : ℕ → View → View → Type 0
Claims p v w = IsElsewhere p v × (words : List ℕ) × (length words ≡ 256) × (more : List Found) × (w ≡ with_page p 0 words (with_all_found more v))

-- the page that comes after so many others in turn, from a page on: by their numbers, and after the last one the first
abbrev pub in_turn : ℕ → ℕ → ℕ → ℕ
in_turn pages from n = cond (leb (from + n) pages) (from + n) (from + n - pages)

-- a word that was found at this place
abbrev pub at : ℕ → ℕ → Found
at place word = record { place = place; word = word }

-- What a claim notes, the newest first, of a page that it finds taken: one load of its word. Where that is the word of a free
-- page an exchange follows, which finds another one.
abbrev pub IsLook : ℕ → List Found → Type 0
IsLook place notes = (n : ℕ) × (n ≢ 0) × ((notes ≡ at place n ∷ []) ⊎ (notes ≡ at place n ∷ at place 0 ∷ []))

-- the notes of so many pages in turn, each of which was looked at once
abbrev pub AreLooks : Layout → ℕ → ℕ → List Found → Type 0
AreLooks y from zero notes = notes ≡ []
AreLooks y from (suc n) notes = (last before : List Found) × (notes ≡ last ++ before) × IsLook (page_at y (in_turn y.pages from n)) last × AreLooks y from n before

-- so many pages were looked at in turn, and nothing else was done
abbrev pub LooksInTurn : Layout → ℕ → ℕ → View → View → Type 0
LooksInTurn y from n v w = (notes : List Found) × AreLooks y from n notes × (w ≡ with_all_found notes v)

-- the word of a page was loaded once and found to be that of a free page, and the page was taken
abbrev pub TakesFree : Layout → ℕ → View → View → Type 0
TakesFree y p v w = IsElsewhere p v × (words : List ℕ) × (length words ≡ 256) × (w ≡ with_page p 0 words (with_found (page_at y p) 0 v))

-- the page was taken after those that come before it in turn
abbrev pub TakesInTurn : Layout → ℕ → ℕ → View → View → Type 0
TakesInTurn y from p v w = (n : ℕ) × (n < y.pages) × (p ≡ in_turn y.pages from n) × (u : View) × LooksInTurn y from n v u × TakesFree y p u w

-- one page was tried
abbrev pub Tried : Layout → ℕ → View → Bool → View → Type 0
Tried y p v true w = TakesFree y p v w
Tried y p v false w = (notes : List Found) × IsLook (page_at y p) notes × (w ≡ with_all_found notes v)
