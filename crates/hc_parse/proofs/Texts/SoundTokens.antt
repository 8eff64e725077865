-- The tokens of a text are stretches of it, and their literals can be read.
use Rattle.std.proofs.Common.{◌≡◌, ◌∙◌, ap, refl, ℕ, ◌+◌, ◌≤◌, ◌&&◌, true, List, [], ◌∷◌, ◌++◌, length, arith, ne_eqb}
use Rattle.std.proofs.Common.{Bool, false, ◌==◌}
use Rattle.std.specs.Prelude.{nat_lt, ◌^◌, ◌%◌, if◌then◌else◌, slice_range}
use Rattle.std.specs.Char.{is_ascii_hexdigit}
use Rattle.hc_lex.specs.declared.token.Token.{Token}
use Rattle.hc_lex.specs.declared.token.TokenKind.{TokenKind}
use Rattle.hc_lex.specs.declared.token.TokenKind.TheVariants as kind
use Rattle.hc_lex.specs.declared.character.Run.TheVariants as run
use Rattle.hc_lex.specs.Characters.{IsRun}
use Rattle.hc_lex.specs.Tokens.{IsToken, IsBlob}
use Rattle.hc_lex.specs.Places.{TokensAscend, TokensAtCharacters}
use Rattle.hc_lex.specs.Reading.{HasTokens}
use Rattle.hc_grammar.specs.Lexemes.{lexemes_of}
use Rattle.hc_grammar.specs.Kinds.{keyword_number}
use Rattle.hc_parse.specs.Pieces.{are_hex_pairs, are_blob_digits, is_sound, AreSound}
use Rattle.hc_grammar.proofs.Again.Given.{AreTokens, tokens_given}

-- digits in pairs, with a quote after them
pairs : (digits : List ℕ) → IsRun run.Blob digits → length digits % 2 ≡ 0 → are_hex_pairs (digits ++ 39 ∷ []) ≡ true
pairs [] are even = refl
pairs (high ∷ []) are even = absurd (let bad = even in cc)
pairs (high ∷ low ∷ digits) are even =
    ap (λ t. t && (is_ascii_hexdigit low && are_hex_pairs (digits ++ 39 ∷ []))) are.0
    ∙ ap (λ t. t && are_hex_pairs (digits ++ 39 ∷ [])) are.1.0
    ∙ pairs digits are.1.1 (omega (arith, even))

-- a blob's digits are such pairs
blob_sound : (text : List ℕ) → IsBlob text → are_blob_digits text ≡ true
blob_sound text h = ap are_blob_digits h.5 ∙ pairs h.1 h.3 h.4

-- an integer is no blob
integer_sound : (a b : Bool) (text : List ℕ) → (if (if a then 2 else (if b then 76 else 77)) == 4 then are_blob_digits text else true) ≡ true
integer_sound true b text = refl
integer_sound false true text = refl
integer_sound false false text = refl

-- a token's literal can be read
pub token_sound : (k : TokenKind) (text rest : List ℕ) → IsToken k text rest → is_sound k text ≡ true
token_sound kind.Name text rest h = refl
token_sound kind.QuotedName text rest h = refl
token_sound (kind.Integer n) text rest h = integer_sound (nat_lt n (2 ^ 63)) (n == 2 ^ 63) text
token_sound kind.Text text rest h = refl
token_sound kind.Blob text rest h = blob_sound text h
token_sound kind.LeftParen text rest h = refl
token_sound kind.RightParen text rest h = refl
token_sound kind.Comma text rest h = refl
token_sound kind.Dot text rest h = refl
token_sound kind.Plus text rest h = refl
token_sound kind.Minus text rest h = refl
token_sound kind.Star text rest h = refl
token_sound kind.Slash text rest h = refl
token_sound kind.Percent text rest h = refl
token_sound kind.Equal text rest h = refl
token_sound kind.DoubleEqual text rest h = refl
token_sound kind.Less text rest h = refl
token_sound kind.LessEqual text rest h = refl
token_sound kind.Greater text rest h = refl
token_sound kind.GreaterEqual text rest h = refl
token_sound kind.LessGreater text rest h = refl
token_sound kind.NotEqual text rest h = refl
token_sound kind.DoubleBar text rest h = refl
token_sound kind.Semicolon text rest h = refl
token_sound (kind.Keyword w) text rest h = ap (λ b. if b then are_blob_digits text else true) (ne_eqb (24 + keyword_number w) 4 (λ e. omega (arith, e)))

-- tokens that lie in order end in the text
ends_within : (low high : ℕ) (tokens : List Token) → TokensAscend low high tokens → low ≤ high
ends_within low high [] h = h
ends_within low high (token ∷ tokens) h = omega (arith, h.0, h.1, ends_within token.to high tokens h.2)

-- the tokens from a place on are sound
sound_from : (text : List ℕ) (low : ℕ) (tokens : List Token) → TokensAscend low (length text) tokens → TokensAtCharacters text tokens → AreTokens (lexemes_of text tokens) → AreSound text tokens
sound_from text low [] ascend at are = tt
sound_from text low (token ∷ tokens) ascend at are =
    let last = ends_within token.to (length text) tokens ascend.2 in (
      (omega (arith, ascend.1), last, at.0.0, at.0.1, token_sound token.kind (slice_range text token.from token.to) are.0.0 are.0.1),
      sound_from text token.to tokens ascend.2 at.1 are.1,
    )

-- the tokens of a text do so, since they lie in order and at characters
pub tokens_sound : (text : List ℕ) (tokens : List Token) → TokensAscend 0 (length text) tokens → TokensAtCharacters text tokens → HasTokens text tokens → AreSound text tokens
tokens_sound text tokens ascend at has = sound_from text 0 tokens ascend at (tokens_given text tokens has)
