-- Lexemes of a text are its tokens.
use Rattle.std.proofs.Common.{◌≡◌, ◌∙◌, ap, refl, sym, subst, ℕ, ◌+◌, List, [], ◌∷◌, ◌++◌, length, Option, Some, None, append_assoc, length-append}
use Rattle.std.specs.List.{AllByRecursion, slice_range}
use Rattle.hc_lex.specs.declared.token.Token.{Token}
use Rattle.hc_lex.specs.declared.token.TokenKind.{TokenKind}
use Rattle.hc_lex.specs.Pieces.{Piece, Front}
use Rattle.hc_lex.specs.Tokens.{IsToken}
use Rattle.hc_lex.specs.Reading.{IsTokenOrBlank, tokens_of, HasTokens}
use Rattle.hc_grammar.specs.Lexemes.{Lexeme, lexemes_of}
use Rattle.hc_grammar.proofs.Again.Slices.{slice_after}

-- a token, whatever is after it
abbrev pub IsSomeToken : Lexeme → Type 0
IsSomeToken lexeme = (rest : List ℕ) × IsToken lexeme.kind lexeme.text rest

-- each lexeme is such a token
abbrev pub AreTokens : List Lexeme → Type 0
AreTokens lexemes = AllByRecursion IsSomeToken lexemes

-- a piece of this kind is a token or is between tokens
by_kind : (kind : Option TokenKind) (bytes following text : List ℕ) (at : ℕ) (pieces : List (Piece (Option TokenKind)))
    → slice_range text at (at + length bytes) ≡ bytes → IsTokenOrBlank kind bytes following
    → AreTokens (lexemes_of text (tokens_of (at + length bytes) pieces)) → AreTokens (lexemes_of text (tokens_of at (record { kind = kind; text = bytes } ∷ pieces)))
by_kind None bytes following text at pieces here is rest = rest
by_kind (Some kind) bytes following text at pieces here is rest =
    ((following, subst (λ (l : List ℕ). IsToken kind l following) (sym here) is), rest)

-- one piece is a token or is between tokens
one_given : (piece : Piece (Option TokenKind)) (following text : List ℕ) (at : ℕ) (pieces : List (Piece (Option TokenKind)))
    → slice_range text at (at + length piece.text) ≡ piece.text → IsTokenOrBlank piece.kind piece.text following
    → AreTokens (lexemes_of text (tokens_of (at + length piece.text) pieces)) → AreTokens (lexemes_of text (tokens_of at (piece ∷ pieces)))
one_given piece following text at pieces here is rest = by_kind piece.kind piece.text following text at pieces here is rest

-- the pieces after a front are tokens of the whole
pieces_given : (front bytes text : List ℕ) (at : ℕ) (pieces : List (Piece (Option TokenKind))) → text ≡ front ++ bytes → at ≡ length front
    → Front IsTokenOrBlank pieces bytes [] → AreTokens (lexemes_of text (tokens_of at pieces))
pieces_given front bytes text at [] whole place are = tt
pieces_given front bytes text at (piece ∷ pieces) whole place are =
    let following = are.0 in
    let all : text ≡ front ++ (piece.text ++ following) = whole ∙ ap (λ l. front ++ l) are.1 in
    let rest = pieces_given (front ++ piece.text) following text (at + length piece.text) pieces
    (all ∙ sym (append_assoc front piece.text following)) (ap (λ n. n + length piece.text) place ∙ sym (length-append front piece.text)) are.3 in
    let here : slice_range text at (at + length piece.text) ≡ piece.text =
    ap (λ l. slice_range l at (at + length piece.text)) all
    ∙ ap (λ n. slice_range (front ++ (piece.text ++ following)) n (n + length piece.text)) place
    ∙ slice_after front piece.text following in
    one_given piece following text at pieces here are.2 rest

-- the tokens of a text are tokens
pub tokens_given : (text : List ℕ) (tokens : List Token) → HasTokens text tokens → AreTokens (lexemes_of text tokens)
tokens_given text tokens has =
    subst (λ (ts : List Token). AreTokens (lexemes_of text ts)) (sym has.2) (pieces_given [] text text 0 has.0 refl refl has.1)
