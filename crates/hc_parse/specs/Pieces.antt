-- What the tokens of a text are, so that their literals can be read.
use Rattle.std.specs.Prelude.{◌≡◌, ℕ, ◌≤◌, Bool, true, ◌==◌, ◌&&◌, if◌then◌else◌, List, [], ◌∷◌, length, slice_range, Option, Some, None}
use Rattle.std.specs.List.{AllByRecursion}
use Rattle.std.specs.Str.{IsCharBoundary}
use Rattle.hc_lex.specs.declared.token.Token.{Token}
use Rattle.std.specs.Char.{is_ascii_hexdigit}
use Rattle.hc_lex.specs.declared.token.TokenKind.{TokenKind}
use Rattle.hc_lex.specs.declared.token.TokenKind.TheVariants as kind
use Rattle.hc_grammar.specs.Kinds.{kind_number}

-- what a quote closes: nothing may follow it
abbrev pub closes : List ℕ → Option (List ℕ)
closes [] = Some []
closes (b ∷ rest) = None

-- each pair is of hexadecimal digits, and one byte more may follow
abbrev pub are_hex_pairs : List ℕ → Bool
are_hex_pairs [] = true
are_hex_pairs (b ∷ []) = true
are_hex_pairs (high ∷ low ∷ rest) = is_ascii_hexdigit high && (is_ascii_hexdigit low && are_hex_pairs rest)

-- the same after the mark of a blob and its quote
abbrev pub are_blob_digits : List ℕ → Bool
are_blob_digits [] = true
are_blob_digits (mark ∷ []) = true
are_blob_digits (mark ∷ quote ∷ digits) = are_hex_pairs digits

-- a blob is of hexadecimal digits
abbrev pub is_sound : TokenKind → List ℕ → Bool
is_sound of text = if kind_number of == kind_number kind.Blob then are_blob_digits text else true

-- a token is a stretch of the text between characters, and its literal can be read
abbrev pub IsSound : List ℕ → Token → Type 0
IsSound text token =
    (token.from ≤ token.to) × (token.to ≤ length text) × IsCharBoundary text token.from × IsCharBoundary text token.to
    × (is_sound token.kind (slice_range text token.from token.to) ≡ true)

-- each of these
abbrev pub AreSound : List ℕ → List Token → Type 0
AreSound text tokens = AllByRecursion (IsSound text) tokens
