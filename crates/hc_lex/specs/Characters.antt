-- Characters: the class of each, and the runs of them that words, numbers, blobs and comments have.
--
-- A text is UTF-8, so a character past ASCII is bytes from 128 on. Which characters are spaces, which are
-- alphabetic, and that those past ASCII and `_` are alphabetic and `$` goes on with a name, is after SQLite's
-- tokenizer requirements, tokenreq.html; so the vertical tab is no space. Signs that have no use in the
-- statements that are read are `Other`, which is a rule of our own.
use Rattle.std.specs.Prelude.{◌≡◌, ℕ, List, [], ◌∷◌, ◌++◌, Bool, true, false, not, ◌&&◌, ◌||◌, ◌==◌, nat_le, if◌then◌else◌, IsTrue}
use Rattle.std.specs.Char.{is_ascii_digit, is_ascii_hexdigit}
use Rattle.std.specs.List.{AllByRecursion}
use Rattle.hc_lex.specs.declared.character.Class.{Class}
use Rattle.hc_lex.specs.declared.character.Class.TheVariants.{Space, Letter, Digit, Dollar, Quote, Sign, Other}
use Rattle.hc_lex.specs.declared.character.Run.{Run}
use Rattle.hc_lex.specs.declared.character.Run.TheVariants.{Name, Number, Blob, Line}

-- a tab, a line feed, a form feed, a carriage return or a blank
abbrev pub is_space : ℕ → Bool
is_space b = b == 9 || b == 10 || b == 12 || b == 13 || b == 32

-- an ASCII letter, `_`, or a part of a character past ASCII
abbrev pub is_letter : ℕ → Bool
is_letter b = (nat_le 65 b && nat_le b 90) || b == 95 || (nat_le 97 b && nat_le b 122) || nat_le 128 b

-- one of `( ) * + , - . /`, of `; < = >`, or `!`, `%` or `|`
abbrev pub is_sign : ℕ → Bool
is_sign b = b == 33 || b == 37 || (nat_le 40 b && nat_le b 47) || (nat_le 59 b && nat_le b 62) || b == 124

-- each character has one class
unfoldable pub class_of : ℕ → Class
class_of b =
    if is_space b then Space
    else (if is_letter b then Letter
    else (if is_ascii_digit b then Digit
    else (if b == 36 then Dollar
    else (if b == 34 || b == 39 then Quote
    else (if is_sign b then Sign
    else Other)))))

-- a name goes on with letters, digits and `$`
abbrev pub goes_on_with_name : Class → Bool
goes_on_with_name Space = false
goes_on_with_name Letter = true
goes_on_with_name Digit = true
goes_on_with_name Dollar = true
goes_on_with_name Quote = false
goes_on_with_name Sign = false
goes_on_with_name Other = false

-- A name has letters, digits and `$`; a number decimal digits; a blob hexadecimal digits; and a line anything
-- but a line feed.
abbrev pub is_in : Run → ℕ → Bool
is_in Name b = goes_on_with_name (class_of b)
is_in Number b = is_ascii_digit b
is_in Blob b = is_ascii_hexdigit b
is_in Line b = not (b == 10)

-- there is a first byte, and it passes
abbrev pub Begins : (ℕ → Type 0) → List ℕ → Type 0
Begins P [] = ⊥
Begins P (b ∷ bytes) = P b

-- the first byte is this one
abbrev pub BeginsWith : ℕ → List ℕ → Type 0
BeginsWith b bytes = Begins (λ first. first ≡ b) bytes

-- all of these belong to the run
abbrev pub IsRun : Run → List ℕ → Type 0
IsRun run text = AllByRecursion (λ b. IsTrue (is_in run b)) text

-- the run goes on here
abbrev pub GoesOn : Run → List ℕ → Type 0
GoesOn run rest = Begins (λ b. IsTrue (is_in run b)) rest

-- the bytes begin with the run `text`, which may be empty, and it does not go on
abbrev pub BeginsRun : Run → List ℕ → List ℕ → List ℕ → Type 0
BeginsRun run bytes text rest = (bytes ≡ text ++ rest) × IsRun run text × ¬ GoesOn run rest
