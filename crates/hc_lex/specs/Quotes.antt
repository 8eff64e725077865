-- Texts and quoted names.
--
-- That a quote within is written twice in a row is after SQLite's lang_expr.html, on string constants, and
-- lang_keywords.html, on names in double quotes.
use Rattle.std.specs.Prelude.{◌≡◌, ◌⊎◌, ℕ, List, ◌∷◌}
use Rattle.hc_text.specs.Quotes.{doubled, quoted}
use Rattle.hc_lex.specs.Characters.{BeginsWith}

-- `"` opens a quoted name, and `'` a text
abbrev pub IsQuote : ℕ → Type 0
IsQuote quote = (quote ≡ 34) ⊎ (quote ≡ 39)

-- characters in quotes: no quote follows the closing one
abbrev pub IsQuoted : ℕ → List ℕ → List ℕ → Type 0
IsQuoted quote text rest = (inner : List ℕ) × (text ≡ quoted quote inner) × ¬ BeginsWith quote rest

-- a quote opens, and none closes up to the end of the text
abbrev pub IsOpenQuoted : ℕ → List ℕ → Type 0
IsOpenQuoted quote bytes = (inner : List ℕ) × (bytes ≡ quote ∷ doubled quote inner)
