-- Loads and stores of a word of an owned page's row.
use Rattle.std.specs.Prelude.{◌≡◌, ℕ, List, length, slice_index}
use Rattle.hc_base.specs.Lookup.{Among}
use Rattle.atomic_table.specs.Table.{Me}
use Rattle.hc_rule.specs.declared.view.View.{View}
use Rattle.hc_rule.specs.declared.view.Row.{Row}
use Rattle.hc_rule.specs.Hands.{changed, set_word, set_words}
use Rattle.hc_rule.specs.Views.{bare}

-- the view with a word of a page's row changed, and with all of them
abbrev pub with_word : ℕ → ℕ → ℕ → View → View
with_word p word n v = record v { pages = changed p (set_word word n) v.pages }

abbrev pub with_row : ℕ → List ℕ → View → View
with_row p words v = record v { pages = changed p (set_words words) v.pages }

-- what a load of a word tells: of an owned page it is the word of the row that the seat knows, which has 256 words
abbrev pub FindsWord : ℕ → ℕ → View → ℕ → Type 0
FindsWord p word v n = (row : Row) → Among row v.pages → row.page.0 ≡ p → (n ≡ slice_index row.words word) × (length row.words ≡ 256)

-- so a row of the page has 256 words
abbrev pub IsWhole : ℕ → View → Type 0
IsWhole p v = (row : Row) → Among row v.pages → row.page.0 ≡ p → length row.words ≡ 256

abbrev pub LoadsRow : ℕ → ℕ → View → ℕ → Me Unit View → Type 0
LoadsRow p word v n after = FindsWord p word v n × (after ≡ bare v)

-- what loads of all words tell
abbrev pub ReadsPage : ℕ → View → List ℕ → Type 0
ReadsPage p v words = (row : Row) → Among row v.pages → row.page.0 ≡ p → words ≡ row.words

-- what a store of a word tells
abbrev pub StoresRow : ℕ → ℕ → View → ℕ → Me Unit View → Type 0
StoresRow p word v n after = after ≡ bare (with_word p word n v)
