-- Hands: the rows of the pages that a seat owns.
use Rattle.std.specs.Prelude.{ℕ, List, [], ◌∷◌, cond, eqb, slice_set}
use Rattle.hc_rule.specs.declared.view.Row.{Row}

-- a page with the next one that it names, and its row
abbrev pub row_of : ℕ → ℕ → List ℕ → Row
row_of p next words = record { page = record { 0 = p }; next = next; words = words }

-- the rows with those of a page changed
abbrev pub changed : ℕ → (Row → Row) → List Row → List Row
changed p f [] = []
changed p f (x ∷ xs) = cond (eqb x.page.0 p) (f x) x ∷ changed p f xs

-- the rows but those of a page
abbrev pub without_page : ℕ → List Row → List Row
without_page p [] = []
without_page p (x ∷ xs) = cond (eqb x.page.0 p) (without_page p xs) (x ∷ without_page p xs)

-- a row with another next page, with one word changed, and with other words
abbrev pub set_next : ℕ → Row → Row
set_next next x = record x { next = next }

abbrev pub set_word : ℕ → ℕ → Row → Row
set_word word n x = record x { words = slice_set x.words word n }

abbrev pub set_words : List ℕ → Row → Row
set_words words x = record x { words = words }
