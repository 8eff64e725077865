-- Whitespace: spaces and comments, which may be between tokens.
--
-- Comments are those of SQLite's lang_comment.html. That page lets an unclosed `/*` run to the end of the
-- text. That this holds of `/*` at the very end too, which SQLite reads as two signs, is a rule of our own.
use Rattle.std.specs.Prelude.{◌≡◌, ◌≢◌, ◌⊎◌, ℕ, List, [], ◌∷◌, ◌++◌, codes, ⊤}
use Rattle.hc_lex.specs.declared.character.Class.TheVariants.{Space}
use Rattle.hc_lex.specs.declared.character.Run.TheVariants.{Line}
use Rattle.hc_lex.specs.Characters.{class_of, BeginsWith, IsRun, GoesOn}

-- one space
abbrev pub IsSpace : List ℕ → Type 0
IsSpace text = (b : ℕ) × (class_of b ≡ Space) × (text ≡ b ∷ [])

-- `--`, and what is on that line: `rest` is the line's end, or nothing
abbrev pub IsLineComment : List ℕ → List ℕ → Type 0
IsLineComment text rest = (inner : List ℕ) × (text ≡ 45 ∷ 45 ∷ inner) × IsRun Line inner × ¬ GoesOn Line rest

-- no `*/` is in this
abbrev pub HasNoClose : List ℕ → Type 0
HasNoClose [] = ⊤
HasNoClose (b ∷ bytes) = ¬ ((b ≡ 42) × BeginsWith 47 bytes) × HasNoClose bytes

-- `/*`, and what follows up to the first `*/`, or to the end of the text where there is none
abbrev pub IsBlockComment : List ℕ → List ℕ → Type 0
IsBlockComment text rest = (inner : List ℕ) × HasNoClose inner
    × ((text ≡ 47 ∷ 42 ∷ inner ++ codes "*/") ⊎ ((text ≡ 47 ∷ 42 ∷ inner) × (rest ≡ [])))

-- `text` is one space or one comment, where `rest` follows it
abbrev pub IsBlank : List ℕ → List ℕ → Type 0
IsBlank text rest = IsSpace text ⊎ (IsLineComment text rest ⊎ IsBlockComment text rest)

-- no space and no comment begins here
abbrev pub BeginsNoBlank : List ℕ → Type 0
BeginsNoBlank [] = ⊤
BeginsNoBlank (b ∷ bytes) = (class_of b ≢ Space) × ¬ ((b ≡ 45) × BeginsWith 45 bytes) × ¬ ((b ≡ 47) × BeginsWith 42 bytes)
