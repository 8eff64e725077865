-- The statements of a script.
--
-- A `;` outside literals, quoted names and comments ends a statement, as SQLite's lang.html has it. Where a
-- statement's bytes begin and end is a rule of our own.
use Rattle.std.specs.Prelude.{◌≡◌, ◌≢◌, ◌⊎◌, ℕ, ◌+◌, List, [], ◌∷◌, length, Option, Some, None, codes, replicate, Bool, true, not, ◌||◌, ◌==◌}
use Rattle.std.specs.List.{AllByRecursion, flat_map, filter_map}
use Rattle.hc_lex.specs.declared.part.Part.{Part}
use Rattle.hc_lex.specs.declared.part.Part.TheVariants.{Blank, Statement, Separator}
use Rattle.hc_lex.specs.declared.statements.Span.{Span}
use Rattle.hc_lex.specs.Blanks.{BeginsNoBlank, IsBlank}
use Rattle.hc_lex.specs.Characters.{is_space}
use Rattle.hc_lex.specs.Pieces.{Piece, Front}
use Rattle.hc_lex.specs.Quotes.{IsOpenQuoted, IsQuote, IsQuoted}

-- A text or a quoted name, also one that does not end. A blob's digits are the same here as a text after an `x`,
-- good or bad.
abbrev pub IsLiteral : List ℕ → List ℕ → Type 0
IsLiteral text rest = (quote : ℕ) × IsQuote quote × (IsQuoted quote text rest ⊎ (IsOpenQuoted quote text × (rest ≡ [])))

-- any other byte that is no space, begins no comment and ends no statement
abbrev pub IsPlain : ℕ → List ℕ → Type 0
IsPlain b rest = BeginsNoBlank (b ∷ rest) × ¬ IsQuote b × (b ≢ 59)

-- a byte that is so whatever follows it: it ends no statement, and begins neither a space nor a comment nor a quote
abbrev pub is_ordinary : ℕ → Bool
is_ordinary b = not (is_space b || b == 34 || b == 39 || b == 45 || b == 47 || b == 59)

-- each of these
abbrev pub AreOrdinary : List ℕ → Type 0
AreOrdinary text = AllByRecursion (λ b. is_ordinary b ≡ true) text

-- `text` is such a part, where `rest` follows it
abbrev pub IsPart : Part → List ℕ → List ℕ → Type 0
IsPart Blank text rest = IsBlank text rest
IsPart Statement text rest = IsLiteral text rest ⊎ ((b : ℕ) × (text ≡ b ∷ []) × IsPlain b rest)
IsPart Separator text rest = text ≡ codes ";"

-- what each byte belongs to
abbrev pub parts_of : List (Piece Part) → List Part
parts_of pieces = flat_map (λ piece. replicate (length piece.text) piece.kind) pieces

-- one more place in the first group
abbrev pub with_place : ℕ → List (List ℕ) → List (List ℕ)
with_place at [] = (at ∷ []) ∷ []
with_place at (group ∷ groups) = (at ∷ group) ∷ groups

-- the places of the bytes that belong to a statement, a group for each stretch between the bytes that end one
abbrev pub groups_of : ℕ → List Part → List (List ℕ)
groups_of at [] = [] ∷ []
groups_of at (Blank ∷ parts) = groups_of (at + 1) parts
groups_of at (Statement ∷ parts) = with_place at (groups_of (at + 1) parts)
groups_of at (Separator ∷ parts) = [] ∷ groups_of (at + 1) parts

-- the last of some places
abbrev pub last_of : ℕ → List ℕ → ℕ
last_of place [] = place
last_of place (next ∷ places) = last_of next places

-- from the first place up to the last one, and no statement where there is none
abbrev pub span_of : List ℕ → Option Span
span_of [] = None
span_of (place ∷ places) = Some (record { from = place; to = last_of place places + 1 })

-- the spans of the statements among pieces of a text
abbrev pub spans_of : List (Piece Part) → List Span
spans_of pieces = filter_map span_of (groups_of 0 (parts_of pieces))

-- these are the statements of the text
abbrev pub HasStatements : List ℕ → List Span → Type 0
HasStatements text spans = (pieces : List (Piece Part)) × Front IsPart pieces text [] × (spans ≡ spans_of pieces)
