-- An exchange of a free page's word by the seat's own: the page is in its hand then, with the row as it is.
use Rattle.std.specs.Prelude.{◌≡◌, ◌≢◌, ◌⊎◌, ℕ, List, ◌∷◌, length, Bool, true, false, Option}
use Rattle.hc_base.specs.Lookup.{Among}
use Rattle.hc_base.specs.declared.numbers.Tid.{Tid}
use Rattle.atomic_table.specs.Table.{Me}
use Rattle.hc_rule.specs.declared.view.View.{View}
use Rattle.hc_rule.specs.declared.view.Row.{Row}
use Rattle.hc_rule.specs.declared.view.Claim.{Claim}
use Rattle.hc_rule.specs.declared.view.Claimed.TheVariants as claimed
use Rattle.hc_rule.specs.Hands.{row_of}
use Rattle.hc_rule.specs.Views.{bare}
use Rattle.hc_rule.specs.Kinds.LoadPage.{with_found}

-- a page that was claimed for the transaction with this id, or for one that has drawn none
abbrev pub claim_of : Option Tid → ℕ → Claim
claim_of own p = record { tid = own; claimed = claimed.Page (record { 0 = p }) }

-- the view with a page in hand, and the next one that it names; it was claimed for the open transaction
abbrev pub with_page : ℕ → ℕ → List ℕ → View → View
with_page p next words v = record v { pages = row_of p next words ∷ v.pages; claimed = claim_of v.own p ∷ v.claimed }

-- no page of this number is in hand
abbrev pub IsElsewhere : ℕ → View → Type 0
IsElsewhere p v = (row : Row) → Among row v.pages → row.page.0 ≢ p

-- the page was taken, which the seat had not, with its row of 256 words as it was
abbrev pub Takes : ℕ → ℕ → View → Me Unit View → Type 0
Takes p next v after = IsElsewhere p v × (words : List ℕ) × (length words ≡ 256) × (after ≡ bare (with_page p next words v))

-- What the exchange of the word at this place tells: where it found the word 0 the page was free; else the seat notes what
-- it found.
abbrev pub TakesPage : ℕ → ℕ → ℕ → View → ℕ → Me Unit View → Type 0
TakesPage place p next v n after = ((n ≡ 0) × Takes p next v after) ⊎ ((n ≢ 0) × (after ≡ bare (with_found place n v)))

-- the same by the answer: whether the page was taken
abbrev pub TookPage : ℕ → ℕ → ℕ → View → Bool → Me Unit View → Type 0
TookPage place p next v true after = Takes p next v after
TookPage place p next v false after = (n : ℕ) × (n ≢ 0) × (after ≡ bare (with_found place n v))
