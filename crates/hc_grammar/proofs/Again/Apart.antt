-- Words with one space between two of them are tokens, each of its kind.
use Rattle.std.proofs.Common.{◌≡◌, ◌∙◌, ap, refl, sym, subst, ℕ, ◌+◌, List, [], ◌∷◌, ◌++◌, map, length, Option, Some, None, append_assoc, length-append, inl, arith}
use Rattle.std.specs.List.{AllByRecursion, slice_range}
use Rattle.hc_lex.specs.declared.token.Token.{Token}
use Rattle.hc_lex.specs.declared.token.TokenKind.{TokenKind}
use Rattle.hc_lex.specs.Pieces.{Piece, Front}
use Rattle.hc_lex.specs.Tokens.{IsToken}
use Rattle.hc_lex.specs.Characters.{class_of}
use Rattle.hc_lex.specs.Blanks.{IsBlank}
use Rattle.hc_lex.specs.Reading.{IsTokenOrBlank, tokens_of, HasTokens}
use Rattle.hc_ast.specs.Words.{Words, text_of, spaced}
use Rattle.hc_ast.proofs.Lists.{text_of_words}
use Rattle.hc_grammar.specs.Lexemes.{Lexeme, lexemes_of}
use Rattle.hc_grammar.proofs.Again.Slices.{slice_after}

-- the texts of lexemes
abbrev pub words_of : List Lexeme → Words
words_of lexemes = map (λ lexeme. lexeme.text) lexemes

-- a token wherever a space or the end follows
abbrev pub IsApart : Lexeme → Type 0
IsApart lexeme = IsToken lexeme.kind lexeme.text [] × ((more : List ℕ) → IsToken lexeme.kind lexeme.text (32 ∷ more))

-- each lexeme is a token before the end or a space
abbrev pub AreApart : List Lexeme → Type 0
AreApart lexemes = AllByRecursion IsApart lexemes

abbrev Pieces : Type 0
Pieces = List (Piece (Option TokenKind))

abbrev space : Piece (Option TokenKind)
space = record { kind = None; text = 32 ∷ [] }

abbrev piece_of : Lexeme → Piece (Option TokenKind)
piece_of lexeme = record { kind = Some lexeme.kind; text = lexeme.text }

-- a space before each lexeme
abbrev pieces_of : List Lexeme → Pieces
pieces_of [] = []
pieces_of (lexeme ∷ lexemes) = space ∷ piece_of lexeme ∷ pieces_of lexemes

-- a space is blank
one_space : (rest : List ℕ) → IsBlank (32 ∷ []) rest
unfolding class_of
one_space rest = inl (32, refl, refl)

-- a lexeme is a token before the others
before : (lexeme : Lexeme) (lexemes : List Lexeme) → IsApart lexeme → IsToken lexeme.kind lexeme.text (spaced (words_of lexemes))
before lexeme [] apart = apart.0
before lexeme (next ∷ lexemes) apart = apart.1 (next.text ++ spaced (words_of lexemes))

-- the pieces are the text
are_pieces : (lexemes : List Lexeme) → AreApart lexemes → Front IsTokenOrBlank (pieces_of lexemes) (spaced (words_of lexemes)) []
are_pieces [] apart = refl
are_pieces (lexeme ∷ lexemes) apart = (
  lexeme.text ++ spaced (words_of lexemes),
  refl,
  one_space (lexeme.text ++ spaced (words_of lexemes)),
  (spaced (words_of lexemes), refl, before lexeme lexemes apart.0, are_pieces lexemes apart.1),
)

abbrev Same : List ℕ → ℕ → List Lexeme → Type 0
Same text at lexemes = lexemes_of text (tokens_of at (pieces_of lexemes)) ≡ lexemes

-- a lexeme and the others after it
same_at : (front rest text : List ℕ) (lexeme : Lexeme) (lexemes : List Lexeme) → text ≡ front ++ (lexeme.text ++ rest)
    → Same text (length front + length lexeme.text) lexemes
    → lexemes_of text (tokens_of (length front) (piece_of lexeme ∷ pieces_of lexemes)) ≡ lexeme ∷ lexemes
same_at front rest text lexeme lexemes whole next =
    ap (λ (l : List ℕ). (let one : Lexeme = record { kind = lexeme.kind; text = l } in one) ∷ lexemes_of text (tokens_of (length front + length lexeme.text) (pieces_of lexemes)))
    (ap (λ (l : List ℕ). slice_range l (length front) (length front + length lexeme.text)) whole ∙ slice_after front lexeme.text rest)
    ∙ ap (λ (l : List Lexeme). lexeme ∷ l) next

-- the tokens among the pieces after a front are the lexemes
same_after : (front text : List ℕ) (lexemes : List Lexeme) → text ≡ front ++ spaced (words_of lexemes) → Same text (length front) lexemes
same_after front text [] whole = refl
same_after front text (lexeme ∷ lexemes) whole =
    let rest = spaced (words_of lexemes) in
    let first = front ++ 32 ∷ [] in
    let all : text ≡ first ++ (lexeme.text ++ rest) = whole ∙ sym (append_assoc front (32 ∷ []) (lexeme.text ++ rest)) in
    let next : Same text (length (first ++ lexeme.text)) lexemes =
    same_after (first ++ lexeme.text) text lexemes (all ∙ sym (append_assoc first lexeme.text rest)) in
    let here : Same text (length front) (lexeme ∷ lexemes) =
    subst (λ n. lexemes_of text (tokens_of n (piece_of lexeme ∷ pieces_of lexemes)) ≡ lexeme ∷ lexemes) (length-append front (32 ∷ []))
    (same_at first rest text lexeme lexemes all (subst (λ n. Same text n lexemes) (length-append first lexeme.text) next)) in
    here

-- the text of the words has these tokens
pub read_apart : (lexeme : Lexeme) (lexemes : List Lexeme) (text : List ℕ) → AreApart (lexeme ∷ lexemes) → text ≡ text_of (words_of (lexeme ∷ lexemes))
    → (tokens : List Token) × HasTokens text tokens × (lexemes_of text tokens ≡ lexeme ∷ lexemes)
read_apart lexeme lexemes text apart is =
    let pieces = piece_of lexeme ∷ pieces_of lexemes in
    let rest = spaced (words_of lexemes) in
    let all : text ≡ lexeme.text ++ rest = is ∙ text_of_words lexeme.text (words_of lexemes) in
    let none : length lexeme.text ≡ 0 + length lexeme.text = omega arith in (
      tokens_of 0 pieces,
      (pieces, (rest, all, before lexeme lexemes apart.0, are_pieces lexemes apart.1), refl),
      same_at [] rest text lexeme lexemes all (subst (λ n. Same text n lexemes) none (same_after lexeme.text text lexemes all)),
    )
