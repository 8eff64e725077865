-- The tokens between two places of a text.
use Rattle.std.proofs.Common.{◌≡◌, ◌∙◌, ◌+◌, ◌-◌, ◌<◌, ◌≤◌, ℕ, List, [], ◌∷◌, ◌++◌, length, drop, take, Option, None, Some, refl, sym, ap, subst, arith, length-append, length-drop, append_assoc}
use Rattle.std.proofs.Math.Seq.{drop-append_seam}
use Rattle.std.proofs.lemmas.List.{append-nil, take-append-drop}
use Rattle.hc_lex.specs.declared.fault.LexFault.TheVariants.{Bad, NoMemory}
use Rattle.hc_lex.specs.declared.fault.LexKind.{LexKind}
use Rattle.hc_lex.specs.declared.token.Token.{Token}
use Rattle.hc_lex.specs.declared.token.TokenKind.{TokenKind}
use Rattle.hc_lex.specs.Blanks.{IsBlank}
use Rattle.hc_lex.specs.Flaws.{IsFlaw}
use Rattle.hc_lex.specs.Laws.{AllTokensAreRead, FaultAfterTokens, ReadTokensComeFirst, TokensAreJoined}
use Rattle.hc_lex.specs.Pieces.{Piece, Front, Skips}
use Rattle.hc_lex.specs.Reading.{AreBlanks, HasFaultAfter, HasTokens, HasTokensBetween, IsNextToken, IsTokenOrBlank, token_if, tokens_of}
use Rattle.hc_lex.specs.Tokens.{IsToken}
use Rattle.hc_lex.proofs.FirstLexeme.{first_lexeme, lexeme_found, no_lexeme_at_end}
use Rattle.hc_lex.proofs.Fronts.{front_prefix, Front-append, Front-push, Front-size, piece, size_of}
use Rattle.hc_lex.proofs.Lengths.{lexeme_length}

-- the tokens of pieces and of others after them
tokens_of-append : (at : ℕ) (ps qs : List (Piece (Option TokenKind))) → tokens_of at (ps ++ qs) ≡ tokens_of at ps ++ tokens_of (at + size_of ps) qs
tokens_of-append at [] qs = ap (λ k. tokens_of k qs) (let e : at ≡ at + 0 = omega arith in e)
tokens_of-append at (p ∷ ps) qs =
    ap (λ ts. token_if p.kind at (at + length p.text) ++ ts) (tokens_of-append (at + length p.text) ps qs)
    ∙ sym (append_assoc (token_if p.kind at (at + length p.text)) (tokens_of (at + length p.text) ps) (tokens_of (at + length p.text + size_of ps) qs))
    ∙ ap (λ k. (token_if p.kind at (at + length p.text) ++ tokens_of (at + length p.text) ps) ++ tokens_of k qs) (let e : at + length p.text + size_of ps ≡ at + (length p.text + size_of ps) = omega arith in e)

-- where nothing was read, there are no blanks yet
pub no_blanks : (bytes rest : List ℕ) → rest ≡ bytes → AreBlanks bytes rest
no_blanks bytes rest e = ([], sym e, λ at. refl)

-- with a blank more
pub one_blank : (bytes rest tail : List ℕ) → AreBlanks bytes rest → Skips IsBlank rest tail → AreBlanks bytes tail
one_blank bytes rest tail (ps, front, none) skips = (
  ps ++ piece None skips.0 ∷ [],
  Front-push IsTokenOrBlank ps bytes rest None skips.0 tail front skips.1 skips.2,
  λ at. tokens_of-append at ps (piece None skips.0 ∷ []) ∙ ap (λ ts. ts ++ []) (none at),
)

-- what follows blanks after a place is no longer than the text
pub rest_within : (text : List ℕ) (from : ℕ) (rest : List ℕ) → AreBlanks (drop from text) rest → length rest ≤ length text
rest_within text from rest (ps, front, none) = omega (arith, Front-size IsTokenOrBlank ps (drop from text) rest front, length-drop from text)

-- what is left of a text is what follows a place
left_is : (text front rest : List ℕ) (at : ℕ) → text ≡ front ++ rest → at + length rest ≡ length text → drop at text ≡ rest
left_is text front rest at whole place =
    let same : at ≡ length front = omega (arith, ap length whole, length-append front rest) in
    ap (λ n. drop n text) same ∙ ap (λ t. drop (length front) t) whole ∙ drop-append_seam front rest

-- the bytes of pieces
bytes_of : List (Piece (Option TokenKind)) → List ℕ
bytes_of [] = []
bytes_of (p ∷ ps) = p.text ++ bytes_of ps

front_bytes : (ps : List (Piece (Option TokenKind))) (bytes rest : List ℕ) → Front IsTokenOrBlank ps bytes rest → bytes ≡ bytes_of ps ++ rest
unfolding bytes_of
front_bytes [] bytes rest front = front
front_bytes (p ∷ ps) bytes rest front = front.1 ∙ ap (λ r. p.text ++ r) (front_bytes ps front.0 rest front.3) ∙ sym (append_assoc p.text (bytes_of ps) rest)

-- pieces after a place leave what follows another one
left_after : (text : List ℕ) (from to : ℕ) (ps : List (Piece (Option TokenKind))) (rest : List ℕ) → Front IsTokenOrBlank ps (drop from text) rest → to + length rest ≡ length text → drop to text ≡ rest
left_after text from to ps rest front place =
    let bytes : drop from text ≡ bytes_of ps ++ rest = front_bytes ps (drop from text) rest front in
    left_is text (take from text ++ bytes_of ps) rest to
    (sym (take-append-drop from text) ∙ ap (λ r. take from text ++ r) bytes ∙ sym (append_assoc (take from text) (bytes_of ps) rest)) place

-- how far pieces after a place reach
reach : (text : List ℕ) (from : ℕ) (ps : List (Piece (Option TokenKind))) (rest : List ℕ) → from ≤ length text → Front IsTokenOrBlank ps (drop from text) rest → from + size_of ps + length rest ≡ length text
reach text from ps rest within front = omega (arith, Front-size IsTokenOrBlank ps (drop from text) rest front, length-drop from text)

-- the tokens of blanks and a token are that token
blank_token : (from : ℕ) (ps : List (Piece (Option TokenKind))) (t : List ℕ) (k : TokenKind) → tokens_of from ps ≡ [] → tokens_of from (ps ++ piece (Some k) t ∷ []) ≡ record { kind = k; from = from + size_of ps; to = from + size_of ps + length t } ∷ []
blank_token from ps t k none = tokens_of-append from ps (piece (Some k) t ∷ []) ∙ ap (λ ts. ts ++ tokens_of (from + size_of ps) (piece (Some k) t ∷ [])) none

-- a token after blanks
pub token_after : (text : List ℕ) (from : ℕ) (rest tail : List ℕ) (k : TokenKind) (at to : ℕ) → from ≤ length text → AreBlanks (drop from text) rest → Skips (IsToken k) rest tail
    → at ≡ length text - length rest → to ≡ length text - length tail → IsNextToken text from (Some (record { kind = k; from = at; to = to }))
token_after text from rest tail k at to within (ps, front, none) skips at_is to_is =
    let some : 0 < length skips.0 = lexeme_length (Some k) skips.0 tail skips.2 in
    let far : from + size_of ps + length rest ≡ length text = reach text from ps rest within front in
    let left : length rest ≡ length skips.0 + length tail = ap length skips.1 ∙ length-append skips.0 tail in
    let all : Front IsTokenOrBlank (ps ++ piece (Some k) skips.0 ∷ []) (drop from text) tail = Front-push IsTokenOrBlank ps (drop from text) rest (Some k) skips.0 tail front skips.1 skips.2 in
    let begins : from + size_of ps ≡ at = omega arith in
    let ends : from + size_of ps + length skips.0 ≡ to = omega arith in (
      (
        ps ++ piece (Some k) skips.0 ∷ [],
        subst (λ r. Front IsTokenOrBlank (ps ++ piece (Some k) skips.0 ∷ []) (drop from text) r) (sym (left_after text from to (ps ++ piece (Some k) skips.0 ∷ []) tail all (omega arith))) all,
        sym (blank_token from ps skips.0 k (none from)
            ∙ ap (λ n. record { kind = k; from = from + size_of ps; to = n } ∷ []) ends
            ∙ ap (λ n. record { kind = k; from = n; to = to } ∷ []) begins),
        omega arith,
        omega arith,
      ),
      omega arith,
    )

-- the end after blanks
pub end_after : (text : List ℕ) (from : ℕ) (rest : List ℕ) → from ≤ length text → AreBlanks (drop from text) rest → length rest ≡ 0 → IsNextToken text from None
end_after text from rest within (ps, front, none) nothing =
    let far : from + size_of ps + length rest ≡ length text = reach text from ps rest within front in
    (ps, subst (λ r. Front IsTokenOrBlank ps (drop from text) r) (sym (left_after text from (length text) ps rest front (omega arith))) front, sym (none from), within, omega arith)

-- a fault after blanks
pub fault_after : (text : List ℕ) (from : ℕ) (rest : List ℕ) (place at offset : ℕ) (kind : LexKind) → from ≤ length text → AreBlanks (drop from text) rest → IsFlaw kind offset rest
    → at ≡ length text - length rest → place ≡ at + offset → HasFaultAfter text from (Bad place kind)
fault_after text from rest place at offset kind within (ps, front, none) flaw at_is place_is =
    let far : from + size_of ps + length rest ≡ length text = reach text from ps rest within front in
    (rest, offset, (ps, front, none), flaw, omega arith)

-- where nothing was read, no token is between
pub none_between : (text : List ℕ) (tokens : List Token) → tokens ≡ [] → HasTokensBetween text 0 0 tokens
none_between text tokens e = ([], refl, e, omega arith, omega arith)

-- tokens up to a place and those from there on
pub joined : TokensAreJoined
joined text from at to tokens others (ps, front, e, low, within) (qs, later, e', low', within') =
    let far : from + size_of ps + length (drop at text) ≡ length text = reach text from ps (drop at text) (omega arith) front in
    let place : at ≡ from + size_of ps = omega (arith, length-drop at text) in (
      ps ++ qs,
      Front-append IsTokenOrBlank ps qs (drop from text) (drop at text) (drop to text) front later,
      ap (λ ts. ts ++ others) e ∙ ap (λ ts. tokens_of from ps ++ ts) (e' ∙ ap (λ n. tokens_of n qs) place) ∙ sym (tokens_of-append from ps qs),
      omega arith,
      within',
    )

-- with one token more
pub one_more : (text : List ℕ) (at : ℕ) (token : Token) (tokens more : List Token) → HasTokensBetween text 0 at tokens → IsNextToken text at (Some token) → more ≡ tokens ++ token ∷ [] → HasTokensBetween text 0 token.to more
one_more text at token tokens more so_far next more_is = subst (λ ts. HasTokensBetween text 0 token.to ts) (sym more_is) (joined text 0 at token.to tokens (token ∷ []) so_far next.0)

-- the tokens from the start to the end are those of the text
pub whole_is_read : AllTokensAreRead
whole_is_read text tokens (ps, front, e, low, within) =
    let nothing : drop (length text) text ≡ [] = left_is text text [] (length text) (sym (append-nil text)) (omega arith) in
    (ps, subst (λ r. Front IsTokenOrBlank ps text r) nothing front, e)

-- where no token follows, these are the tokens of the text
pub all_read : (text : List ℕ) (at : ℕ) (tokens : List Token) → HasTokensBetween text 0 at tokens → IsNextToken text at None → HasTokens text tokens
all_read text at tokens so_far next = whole_is_read text tokens (subst (λ ts. HasTokensBetween text 0 (length text) ts) (append-nil tokens) (joined text 0 at (length text) tokens [] so_far next))

-- what was read comes first
pub read_first : ReadTokensComeFirst
read_first text tokens read at (qs, all, e) (ps, front, e', low, within) =
    let far : 0 + size_of ps + length (drop at text) ≡ length text = reach text 0 ps (drop at text) (omega arith) front in
    let place : at ≡ 0 + size_of ps = omega (arith, length-drop at text) in
    let longer = front_prefix IsTokenOrBlank first_lexeme lexeme_found ps qs text (drop at text) [] no_lexeme_at_end front all in
    let nothing : drop (length text) text ≡ [] = left_is text text [] (length text) (sym (append-nil text)) (omega arith) in (
      tokens_of at longer.0,
      e ∙ ap (λ xs. tokens_of 0 xs) longer.1 ∙ tokens_of-append 0 ps longer.0 ∙ ap (λ ts. ts ++ tokens_of (0 + size_of ps) longer.0) (sym e') ∙ ap (λ n. read ++ tokens_of n longer.0) (sym place),
      (longer.0, subst (λ r. Front IsTokenOrBlank longer.0 (drop at text) r) (sym nothing) longer.2, refl, within, omega arith),
    )

-- a fault after tokens is one of the text
pub faulty : FaultAfterTokens
faulty text at tokens (Bad place kind) (ps, front, e, low, within) (rest, offset, (qs, later, none), flaw, place_is) =
    (ps ++ qs, rest, offset, Front-append IsTokenOrBlank ps qs text (drop at text) rest front later, flaw, place_is)
faulty text at tokens NoMemory between fault = tt
