-- A load of a page's word: the seat notes what it found.
use Rattle.std.specs.Prelude.{◌≡◌, ℕ, ◌∷◌}
use Rattle.hc_base.specs.Words.{IsPageWord, page_word}
use Rattle.hc_base.specs.declared.page_word.PageWord.{PageWord}
use Rattle.atomic_table.specs.Table.{Me}
use Rattle.hc_rule.specs.declared.view.View.{View}
use Rattle.hc_rule.specs.Views.{bare}

-- the view with a word that was found at this place
abbrev pub with_found : ℕ → ℕ → View → View
with_found place n v = record v { found = record { place = place; word = n } ∷ v.found }

-- the number is the word of a form
abbrev pub IsForm : ℕ → Type 0
IsForm n = (form : PageWord) × IsPageWord form × (page_word form ≡ n)

-- what a load of the word at this place tells, where it is a page's
abbrev pub LoadsPage : ℕ → View → ℕ → Me Unit View → Type 0
LoadsPage place v n after = IsForm n × (after ≡ bare (with_found place n v))
