-- No token, no space and no comment is empty.
use Rattle.std.proofs.Common.{◌≡◌, ◌<◌, ℕ, List, [], ◌∷◌, length, Option, None, Some, inl, inr, refl, ap, arith, length-append}
use Rattle.hc_lex.specs.declared.part.Part.{Part}
use Rattle.hc_lex.specs.declared.part.Part.TheVariants.{Blank, Statement, Separator}
use Rattle.hc_lex.specs.declared.token.TokenKind.{TokenKind}
use Rattle.hc_lex.specs.declared.token.TokenKind.TheVariants as kind
use Rattle.hc_lex.specs.Blanks.{IsBlank}
use Rattle.hc_lex.specs.Characters.{Begins}
use Rattle.hc_lex.specs.Pieces.{Skips}
use Rattle.hc_lex.specs.Reading.{IsTokenOrBlank}
use Rattle.hc_lex.specs.Statements.{IsLiteral, IsPart}
use Rattle.hc_lex.specs.Tokens.{IsToken}

-- a text with a first character is not empty
first_byte : (P : ℕ → Type 0) (text : List ℕ) → Begins P text → 0 < length text
first_byte P [] h = absurd h
first_byte P (b ∷ text) h = omega arith

filled : (text : List ℕ) → (text ≡ [] → ⊥) → 0 < length text
filled [] h = absurd (h refl)
filled (b ∷ text) h = omega arith

headed : (text : List ℕ) (b : ℕ) (more : List ℕ) → text ≡ b ∷ more → 0 < length text
headed text b more e = omega (arith, ap length e)

-- a space or a comment is not empty
blank_length : (text rest : List ℕ) → IsBlank text rest → 0 < length text
blank_length text rest (inl space) = headed text _ _ space.2
blank_length text rest (inr (inl line)) = headed text _ _ line.1
blank_length text rest (inr (inr (inner, free, inl closed))) = headed text _ _ closed
blank_length text rest (inr (inr (inner, free, inr never))) = headed text _ _ never.0

-- a token is not empty
token_length : (k : TokenKind) (text rest : List ℕ) → IsToken k text rest → 0 < length text
token_length kind.Name text rest is = first_byte _ text is.0.0
token_length (kind.Keyword k) text rest is = first_byte _ text is.0.0
token_length kind.QuotedName text rest is = headed text _ _ is.1
token_length kind.Text text rest is = headed text _ _ is.1
token_length kind.Blob text rest is = headed text _ _ is.5
token_length (kind.Integer n) text rest is = filled text is.0.0
token_length kind.LeftParen text rest is = headed text _ _ is
token_length kind.RightParen text rest is = headed text _ _ is
token_length kind.Comma text rest is = headed text _ _ is
token_length kind.Dot text rest is = headed text _ _ is
token_length kind.Plus text rest is = headed text _ _ is
token_length kind.Minus text rest is = headed text _ _ is.0
token_length kind.Star text rest is = headed text _ _ is
token_length kind.Slash text rest is = headed text _ _ is.0
token_length kind.Percent text rest is = headed text _ _ is
token_length kind.Equal text rest is = headed text _ _ is.0
token_length kind.DoubleEqual text rest is = headed text _ _ is
token_length kind.Less text rest is = headed text _ _ is.0
token_length kind.LessEqual text rest is = headed text _ _ is
token_length kind.Greater text rest is = headed text _ _ is.0
token_length kind.GreaterEqual text rest is = headed text _ _ is
token_length kind.LessGreater text rest is = headed text _ _ is
token_length kind.NotEqual text rest is = headed text _ _ is
token_length kind.DoubleBar text rest is = headed text _ _ is
token_length kind.Semicolon text rest is = headed text _ _ is

-- neither a token nor a space or a comment is empty
pub lexeme_length : (k : Option TokenKind) (text rest : List ℕ) → IsTokenOrBlank k text rest → 0 < length text
lexeme_length None text rest is = blank_length text rest is
lexeme_length (Some k) text rest is = token_length k text rest is

-- a literal is not empty
literal_length : (text rest : List ℕ) → IsLiteral text rest → 0 < length text
literal_length text rest (quote, is, inl closed) = headed text _ _ closed.1
literal_length text rest (quote, is, inr never) = headed text _ _ never.0.1

-- no part is empty
pub part_length : (k : Part) (text rest : List ℕ) → IsPart k text rest → 0 < length text
part_length Blank text rest is = blank_length text rest is
part_length Statement text rest (inl literal) = literal_length text rest literal
part_length Statement text rest (inr (b, is, plain)) = headed text b [] is
part_length Separator text rest is = headed text _ _ is

-- what is read leaves less
pub lexeme_moves : (k : Option TokenKind) (bytes rest : List ℕ) → Skips (IsTokenOrBlank k) bytes rest → length rest < length bytes
lexeme_moves k bytes rest skips =
    let some : 0 < length skips.0 = lexeme_length k skips.0 rest skips.2 in
    omega (arith, ap length skips.1, length-append skips.0 rest)

-- a part that is read leaves less
pub part_moves : (k : Part) (bytes rest : List ℕ) → Skips (IsPart k) bytes rest → length rest < length bytes
part_moves k bytes rest skips =
    let some : 0 < length skips.0 = part_length k skips.0 rest skips.2 in
    omega (arith, ap length skips.1, length-append skips.0 rest)
