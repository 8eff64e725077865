-- The faults: what is there where no token and no space or comment begins.
--
-- That the longest number is looked at, and that a character after it is the fault where its value fits, are
-- rules of our own, as are the kinds.
use Rattle.std.specs.Prelude.{◌≡◌, ◌≢◌, ◌⊎◌, ◌<◌, ◌≤◌, ℕ, List, [], ◌∷◌, ◌++◌, length}
use Rattle.hc_lex.specs.declared.character.Class.TheVariants.{Dollar, Other}
use Rattle.hc_lex.specs.declared.fault.LexKind.{LexKind}
use Rattle.hc_lex.specs.declared.fault.LexKind.TheVariants.{Char, OpenText, BadBlob, TooLarge}
use Rattle.hc_lex.specs.Characters.{class_of, BeginsWith}
use Rattle.hc_lex.specs.Quotes.{IsOpenQuoted, IsQuote}
use Rattle.hc_lex.specs.Tokens.{BeginsBlob, BeginsSpoiler, IsBlob, IsDigits, greatest_integer, value_of}

-- a character that begins no token: one of no use, `$`, `!` without `=` after it, or `|` without a second
abbrev pub BeginsStray : List ℕ → Type 0
BeginsStray [] = ⊥
BeginsStray (b ∷ bytes) = (class_of b ≡ Other) ⊎ ((class_of b ≡ Dollar)
    ⊎ (((b ≡ 33) × ¬ BeginsWith 61 bytes) ⊎ ((b ≡ 124) × ¬ BeginsWith 124 bytes)))

-- the bytes begin with digits, and then `rest`
abbrev pub BeginsDigits : List ℕ → List ℕ → List ℕ → Type 0
BeginsDigits bytes digits rest = (bytes ≡ digits ++ rest) × IsDigits digits rest

-- a number that fits has `offset` digits, and is followed by what may not follow a number
abbrev pub IsSpoiled : ℕ → List ℕ → Type 0
IsSpoiled offset bytes = (digits rest : List ℕ) × BeginsDigits bytes digits rest × (value_of digits ≤ greatest_integer)
    × BeginsSpoiler rest × (offset ≡ length digits)

-- at these bytes no token and no space or comment begins: a fault of this kind is `offset` bytes on
abbrev pub IsFlaw : LexKind → ℕ → List ℕ → Type 0
IsFlaw Char offset bytes = ((offset ≡ 0) × BeginsStray bytes) ⊎ IsSpoiled offset bytes
IsFlaw OpenText offset bytes = (offset ≡ 0) × (quote : ℕ) × IsQuote quote × IsOpenQuoted quote bytes
IsFlaw BadBlob offset bytes = (offset ≡ 0) × BeginsBlob bytes × ((text rest : List ℕ) → IsBlob text → bytes ≢ text ++ rest)
IsFlaw TooLarge offset bytes = (offset ≡ 0) × (digits rest : List ℕ) × BeginsDigits bytes digits rest × (greatest_integer < value_of digits)
