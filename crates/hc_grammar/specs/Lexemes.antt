-- Lexemes: tokens with their texts, and what names and literals mean.
use Rattle.std.specs.Prelude.{◌≡◌, ◌⊎◌, ◌<◌, ℕ, pos, negsuc, ◌+◌, ◌*◌, ◌^◌, List, [], ◌∷◌, ◌++◌, map, slice_range}
use Rattle.std.specs.Char.{digit_value}
use Rattle.hc_lex.specs.declared.token.Token.{Token}
use Rattle.hc_lex.specs.declared.token.TokenKind.{TokenKind}
use Rattle.hc_lex.specs.declared.token.TokenKind.TheVariants as kind
use Rattle.hc_lex.specs.declared.keyword.Keyword.TheVariants as word
use Rattle.hc_value.specs.declared.value.Value.{Value}
use Rattle.hc_value.specs.declared.value.Value.TheVariants.{Null, Int, Text, Blob}
use Rattle.hc_text.specs.Quotes.{quoted}

pub record Lexeme : Type 0 where
  pub kind : TokenKind
  pub text : List ℕ

-- a token of a text as a lexeme
abbrev pub lexeme_of : List ℕ → Token → Lexeme
lexeme_of text token = record { kind = token.kind; text = slice_range text token.from token.to }

-- the tokens of a text as lexemes
abbrev pub lexemes_of : List ℕ → List Token → List Lexeme
lexemes_of text tokens = map (lexeme_of text) tokens

-- a name: its text, or those within `"`
abbrev pub IsName : Lexeme → List ℕ → Type 0
IsName lexeme name = ((lexeme.kind ≡ kind.Name) × (name ≡ lexeme.text)) ⊎ ((lexeme.kind ≡ kind.QuotedName) × (lexeme.text ≡ quoted 34 name))

-- pairs of hexadecimal digits, the high one first
abbrev pub SpellsBytes : List ℕ → List ℕ → Type 0
SpellsBytes digits [] = digits ≡ []
SpellsBytes digits (b ∷ bytes) =
    (high low : ℕ) × (rest : List ℕ) × (digits ≡ high ∷ low ∷ rest) × (b ≡ 16 * digit_value high + digit_value low) × SpellsBytes rest bytes

-- the digits of a blob are between quotes, after its mark
abbrev pub IsBlobOf : List ℕ → List ℕ → Type 0
IsBlobOf text bytes = (mark : ℕ) × (digits : List ℕ) × (text ≡ mark ∷ 39 ∷ digits ++ 39 ∷ []) × SpellsBytes digits bytes

-- A literal of one token. 9223372036854775808 is none.
abbrev pub IsLiteral : Lexeme → Value → Type 0
IsLiteral lexeme Null = lexeme.kind ≡ kind.Keyword word.Null
IsLiteral lexeme (Int (pos n)) = (lexeme.kind ≡ kind.Integer n) × (n < 2 ^ 63)
IsLiteral lexeme (Int (negsuc n)) = ⊥
IsLiteral lexeme (Text value) = (lexeme.kind ≡ kind.Text) × (lexeme.text ≡ quoted 39 value)
IsLiteral lexeme (Blob bytes) = (lexeme.kind ≡ kind.Blob) × IsBlobOf lexeme.text bytes
