-- Tokens and statements begin and end between characters: what ends before another piece ends in ASCII, or ASCII
-- follows, or nothing.
use Rattle.std.proofs.Common.{◌≡◌, ◌⊎◌, ◌∙◌, ◌==◌, ◌+◌, ◌<◌, ◌≤◌, not, ℕ, zero, suc, List, [], ◌∷◌, ◌++◌, length, get_or, replicate, Option, None, Some, inl, inr, refl, sym, ap, subst, arith, length-append, append_assoc}
use Rattle.std.specs.Option.{option_to_list}
use Rattle.std.specs.Str.{IsCharBoundary, IsUtf8}
use Rattle.std.proofs.Math.Seq.{get_or-append_seam}
use Rattle.std.proofs.lemmas.Bool.{eqb-true, false_from_ne_true}
use Rattle.std.proofs.lemmas.List.{append-nil}
use Rattle.std.proofs.lemmas.Str.{IsCharBoundary-after_ascii, IsCharBoundary-start}
use Rattle.hc_lex.specs.declared.character.Class.TheVariants.{Space, Letter}
use Rattle.hc_lex.specs.declared.character.Run.TheVariants as run
use Rattle.hc_lex.specs.declared.part.Part.{Part}
use Rattle.hc_lex.specs.declared.part.Part.TheVariants.{Blank, Statement, Separator}
use Rattle.hc_lex.specs.declared.statements.Span.{Span}
use Rattle.hc_lex.specs.declared.token.Token.{Token}
use Rattle.hc_lex.specs.declared.token.TokenKind.{TokenKind}
use Rattle.hc_lex.specs.declared.token.TokenKind.TheVariants as kind
use Rattle.hc_lex.specs.Blanks.{IsBlank}
use Rattle.hc_lex.specs.Characters.{Begins, GoesOn, class_of, goes_on_with_name}
use Rattle.hc_lex.specs.Laws.{StatementsLieAtCharacters, TokensLieAtCharacters}
use Rattle.hc_lex.specs.Pieces.{Piece, Front}
use Rattle.hc_lex.specs.Places.{SpansAtCharacters, TokensAtCharacters}
use Rattle.hc_text.specs.Quotes.{doubled}
use Rattle.hc_lex.specs.Quotes.{IsQuoted}
use Rattle.hc_lex.specs.Reading.{IsTokenOrBlank, token_if, tokens_of}
use Rattle.hc_lex.specs.Statements.{IsPart, groups_of, last_of, parts_of, span_of}
use Rattle.hc_lex.specs.Tokens.{IsToken}
use Rattle.hc_lex.proofs.Classes.{past_ascii_is_letter}
use Rattle.hc_lex.proofs.Lengths.{part_length}
use Rattle.hc_lex.proofs.SpansSoFar.{filter_map-continued, last_after, range, spans_from, spans_from-blank, spans_from-end, spans_from-nothing, spans_from-own}

-- a character past ASCII, or a part of one, is in front
abbrev pub BeginsPastAscii : List ℕ → Type 0
BeginsPastAscii bytes = Begins (λ b. 128 ≤ b) bytes

-- the last byte of the text is one of ASCII
abbrev pub EndsInAscii : List ℕ → Type 0
EndsInAscii text = (front : List ℕ) × (b : ℕ) × (b < 128) × (text ≡ front ++ b ∷ [])

-- a character ends with the text, where `tail` follows it
abbrev pub EndsCleanly : List ℕ → List ℕ → Type 0
EndsCleanly text tail = (¬ BeginsPastAscii tail) ⊎ EndsInAscii text

below_ascii : (b : ℕ) → (128 ≤ b → ⊥) → b < 128
below_ascii b h = omega arith

-- where a name ends, no character past ASCII follows
name_ends : (rest : List ℕ) → ¬ GoesOn run.Name rest → ¬ BeginsPastAscii rest
name_ends [] ends past = past
name_ends (b ∷ rest) ends past = ends (ap goes_on_with_name (past_ascii_is_letter b past))

-- where a line ends, none follows either
line_ends : (rest : List ℕ) → ¬ GoesOn run.Line rest → ¬ BeginsPastAscii rest
line_ends [] ends past = past
line_ends (b ∷ rest) ends past =
    ends (ap not (false_from_ne_true (b == 10) (λ e. let same : b ≡ 10 = eqb-true b 10 e in omega arith)))

-- a space is a byte of ASCII
space_is_ascii : (b : ℕ) → class_of b ≡ Space → b < 128
space_is_ascii b is = below_ascii b (λ past. let letter : class_of b ≡ Letter = past_ascii_is_letter b past in cc)

-- a space and a comment end cleanly
blank_ends : (text rest : List ℕ) → IsBlank text rest → EndsCleanly text rest
blank_ends text rest (inl (b, is, e)) = inr ([], b, space_is_ascii b is, e)
blank_ends text rest (inr (inl (inner, e, is, ends))) = inl (line_ends rest ends)
blank_ends text rest (inr (inr (inner, none, inl e))) =
    inr (47 ∷ 42 ∷ inner ++ 42 ∷ [], 47, omega arith, e ∙ ap (λ r. 47 ∷ 42 ∷ r) (sym (append_assoc inner (42 ∷ []) (47 ∷ []))))
blank_ends text rest (inr (inr (inner, none, inr (e, ends)))) = inl (λ past. subst (λ r. BeginsPastAscii r) ends past)

-- bytes whose first is one of ASCII do not begin past it
headed : (b : ℕ) (bytes more : List ℕ) → bytes ≡ b ∷ more → b < 128 → ¬ BeginsPastAscii bytes
headed b bytes more e small past = let here : 128 ≤ b = subst (λ bs. BeginsPastAscii bs) e past in omega arith

-- a space and a comment begin in ASCII
blank_begins : (text rest : List ℕ) → IsBlank text rest → ¬ BeginsPastAscii (text ++ rest)
blank_begins text rest (inl (b, is, e)) past = headed b (text ++ rest) rest (ap (λ t. t ++ rest) e) (space_is_ascii b is) past
blank_begins text rest (inr (inl (inner, e, is, ends))) past = headed 45 (text ++ rest) _ (ap (λ t. t ++ rest) e) (omega arith) past
blank_begins text rest (inr (inr (inner, none, inl e))) past = headed 47 (text ++ rest) _ (ap (λ t. t ++ rest) e) (omega arith) past
blank_begins text rest (inr (inr (inner, none, inr (e, ends)))) past = headed 47 (text ++ rest) _ (ap (λ t. t ++ rest) e) (omega arith) past

-- what is in quotes ends cleanly, and so do signs of one and of two characters
quoted_ends : (quote : ℕ) (text rest : List ℕ) → quote < 128 → IsQuoted quote text rest → EndsCleanly text rest
quoted_ends quote text rest small is = inr (quote ∷ doubled quote is.0, quote, small, is.1)

one_sign : (b : ℕ) (text rest : List ℕ) → b < 128 → text ≡ b ∷ [] → EndsCleanly text rest
one_sign b text rest small e = inr ([], b, small, e)

two_signs : (a b : ℕ) (text rest : List ℕ) → b < 128 → text ≡ a ∷ b ∷ [] → EndsCleanly text rest
two_signs a b text rest small e = inr (a ∷ [], b, small, e)

-- each token ends cleanly
token_ends : (k : TokenKind) (text rest : List ℕ) → IsToken k text rest → EndsCleanly text rest
token_ends kind.Name text rest is = inl (name_ends rest is.0.2)
token_ends (kind.Keyword k) text rest is = inl (name_ends rest is.0.2)
token_ends kind.QuotedName text rest is = quoted_ends 34 text rest (omega arith) is
token_ends kind.Text text rest is = quoted_ends 39 text rest (omega arith) is
token_ends kind.Blob text rest is = inr (is.0 ∷ 39 ∷ is.1, 39, omega arith, is.5)
token_ends (kind.Integer n) text rest is = inl (name_ends rest (λ goes. is.1 (inr goes)))
token_ends kind.LeftParen text rest is = one_sign 40 text rest (omega arith) is
token_ends kind.RightParen text rest is = one_sign 41 text rest (omega arith) is
token_ends kind.Comma text rest is = one_sign 44 text rest (omega arith) is
token_ends kind.Dot text rest is = one_sign 46 text rest (omega arith) is
token_ends kind.Plus text rest is = one_sign 43 text rest (omega arith) is
token_ends kind.Minus text rest is = one_sign 45 text rest (omega arith) is.0
token_ends kind.Star text rest is = one_sign 42 text rest (omega arith) is
token_ends kind.Slash text rest is = one_sign 47 text rest (omega arith) is.0
token_ends kind.Percent text rest is = one_sign 37 text rest (omega arith) is
token_ends kind.Equal text rest is = one_sign 61 text rest (omega arith) is.0
token_ends kind.DoubleEqual text rest is = two_signs 61 61 text rest (omega arith) is
token_ends kind.Less text rest is = one_sign 60 text rest (omega arith) is.0
token_ends kind.LessEqual text rest is = two_signs 60 61 text rest (omega arith) is
token_ends kind.Greater text rest is = one_sign 62 text rest (omega arith) is.0
token_ends kind.GreaterEqual text rest is = two_signs 62 61 text rest (omega arith) is
token_ends kind.LessGreater text rest is = two_signs 60 62 text rest (omega arith) is
token_ends kind.NotEqual text rest is = two_signs 33 61 text rest (omega arith) is
token_ends kind.DoubleBar text rest is = two_signs 124 124 text rest (omega arith) is
token_ends kind.Semicolon text rest is = one_sign 59 text rest (omega arith) is

-- a token and what is between tokens end cleanly
lexeme_ends : (k : Option TokenKind) (text rest : List ℕ) → IsTokenOrBlank k text rest → EndsCleanly text rest
lexeme_ends None text rest is = blank_ends text rest is
lexeme_ends (Some k) text rest is = token_ends k text rest is

-- a character ends where ASCII or nothing follows
boundary_before : (text front bytes : List ℕ) → text ≡ front ++ bytes → ¬ BeginsPastAscii bytes → IsCharBoundary text (length front)
boundary_before text front [] e clean =
    let whole : length text ≡ length front = ap length (e ∙ append-nil front) in
    (omega arith, λ within past. absurd (omega arith))
boundary_before text front (b ∷ bytes) e clean =
    let whole : length text ≡ length front + length (b ∷ bytes) = ap length e ∙ length-append front (b ∷ bytes) in
    let here : get_or text (length front) 0 ≡ b = ap (λ t. get_or t (length front) 0) e ∙ get_or-append_seam front b bytes 0 in
    (omega arith, λ within past. absurd (clean (subst (λ x. 128 ≤ x) here past)))

-- a character ends where a piece ends cleanly
boundary_after : (text front piece tail : List ℕ) → IsUtf8 text → text ≡ front ++ (piece ++ tail) → EndsCleanly piece tail → IsCharBoundary text (length front + length piece)
boundary_after text front piece tail utf8 e (inl clean) =
    subst (λ k. IsCharBoundary text k) (length-append front piece) (boundary_before text (front ++ piece) tail (e ∙ sym (append_assoc front piece tail)) clean)
boundary_after text front piece tail utf8 e (inr (more, b, small, last)) =
    let same : text ≡ (front ++ more) ++ b ∷ tail =
    e ∙ ap (λ p. front ++ (p ++ tail)) last ∙ ap (λ r. front ++ r) (append_assoc more (b ∷ []) tail) ∙ sym (append_assoc front more (b ∷ tail)) in
    let whole : length text ≡ length (front ++ more) + length (b ∷ tail) = ap length same ∙ length-append (front ++ more) (b ∷ tail) in
    let within : length (front ++ more) < length text = omega arith in
    let here : get_or text (length (front ++ more)) 0 ≡ b = ap (λ t. get_or t (length (front ++ more)) 0) same ∙ get_or-append_seam (front ++ more) b tail 0 in
    let place : length (front ++ more) + 1 ≡ length front + length piece = omega (arith, length-append front more, ap length last, length-append more (b ∷ [])) in
    subst (λ k. IsCharBoundary text k) place (IsCharBoundary-after_ascii text (length (front ++ more)) utf8 within (subst (λ x. x < 128) (sym here) small))

-- with one token more in front, or none, tokens lie at characters
with_token : (text : List ℕ) (k : Option TokenKind) (from to : ℕ) (tokens : List Token) → IsCharBoundary text from → IsCharBoundary text to → TokensAtCharacters text tokens → TokensAtCharacters text (token_if k from to ++ tokens)
with_token text None from to tokens first last later = later
with_token text (Some k) from to tokens first last later = ((first, last), later)

-- the tokens of pieces lie at characters, from a place between characters on
tokens_at : (text front : List ℕ) (ps : List (Piece (Option TokenKind))) (bytes : List ℕ) → IsUtf8 text → text ≡ front ++ bytes → IsCharBoundary text (length front) → Front IsTokenOrBlank ps bytes [] → TokensAtCharacters text (tokens_of (length front) ps)
tokens_at text front [] bytes utf8 e here is = tt
tokens_at text front (p ∷ ps) bytes utf8 e here is =
    let whole : text ≡ front ++ (p.text ++ is.0) = e ∙ ap (λ r. front ++ r) is.1 in
    let next : IsCharBoundary text (length front + length p.text) = boundary_after text front p.text is.0 utf8 whole (lexeme_ends p.kind p.text is.0 is.2) in
    let later : TokensAtCharacters text (tokens_of (length (front ++ p.text)) ps) =
    tokens_at text (front ++ p.text) ps is.0 utf8 (whole ∙ sym (append_assoc front p.text is.0)) (subst (λ k. IsCharBoundary text k) (sym (length-append front p.text)) next) is.3 in
    with_token text p.kind (length front) (length front + length p.text) (tokens_of (length front + length p.text) ps) here next
    (subst (λ k. TokensAtCharacters text (tokens_of k ps)) (length-append front p.text) later)

-- each token begins and ends between characters of its text
pub tokens_lie_at : TokensLieAtCharacters
tokens_lie_at text tokens utf8 (ps, front, e) =
    subst (λ ts. TokensAtCharacters text ts) (sym e) (tokens_at text [] ps text utf8 refl (IsCharBoundary-start text utf8) front)

-- a statement that goes on at `at`: it begins between characters
pub record GoesOnFrom (text : List ℕ) (place : ℕ) (places : List ℕ) (at : ℕ) : Type 0 where
  pub first : IsCharBoundary text place
  pub last : (last_of place places + 1 ≡ at) ⊎ IsCharBoundary text (last_of place places + 1)

-- it ends between characters, where the place `at` does
ends_at : (text : List ℕ) (place : ℕ) (places : List ℕ) (at : ℕ) → GoesOnFrom text place places at → IsCharBoundary text at → IsCharBoundary text (last_of place places + 1)
ends_at text place places at is here = elim is.last [ inl e ↦ subst (λ k. IsCharBoundary text k) (sym e) here | inr last ↦ last ]

-- with one statement more in front, statements lie at characters
with_span : (text : List ℕ) (place : ℕ) (places : List ℕ) (spans : List Span) → IsCharBoundary text place → IsCharBoundary text (last_of place places + 1) → SpansAtCharacters text spans → SpansAtCharacters text (option_to_list (span_of (place ∷ places)) ++ spans)
with_span text place places spans first last later = ((first, last), later)

-- what is known at the place `at`: it is one between characters, or a statement goes on there
abbrev pub IsOpenAt : List ℕ → List ℕ → ℕ → Type 0
IsOpenAt text [] at = IsCharBoundary text at
IsOpenAt text (place ∷ places) at = GoesOnFrom text place places at

-- what is known at a place stays known after a blank
blank_status : (text places : List ℕ) (at tail : ℕ) → IsCharBoundary text at → IsCharBoundary text tail → IsOpenAt text places at → IsOpenAt text places tail
blank_status text [] at tail here next is = next
blank_status text (place ∷ places) at tail here next is = record { first = is.first; last = inr (ends_at text place places at is here) }

-- after bytes of a statement, a statement goes on there
own_status : (text places : List ℕ) (n at : ℕ) → 0 < n → IsOpenAt text places at → IsOpenAt text (places ++ range at n) (at + n)
own_status text places zero at some is = absurd (omega arith)
own_status text [] (suc n) at some is = record { first = is; last = inl (last_after 0 [] at n) }
own_status text (place ∷ places) (suc n) at some is = record { first = is.first; last = inl (last_after place places at n) }

-- where a statement ends, or none is open, its span lies at characters with those after it
ended : (text places : List ℕ) (at : ℕ) (spans : List Span) → IsCharBoundary text at → IsOpenAt text places at → SpansAtCharacters text spans → SpansAtCharacters text (option_to_list (span_of places) ++ spans)
ended text [] at spans here is later = later
ended text (place ∷ places) at spans here is later = with_span text place places spans is.first (ends_at text place places at is here) later

-- the spans from here on lie at characters, whatever statement goes on here
abbrev Later : List ℕ → List ℕ → List Part → Type 0
Later text front more = (places : List ℕ) → IsOpenAt text places (length front) → SpansAtCharacters text (spans_from (length front) places more)

-- the spans from a piece on lie at characters where those after it do
step : (text front : List ℕ) (k : Part) (t tail places : List ℕ) (more : List Part) → IsUtf8 text → text ≡ front ++ (t ++ tail) → IsPart k t tail → IsOpenAt text places (length front) → Later text (front ++ t) more
    → SpansAtCharacters text (spans_from (length front) places (replicate (length t) k ++ more))
step text front Blank t tail places more utf8 e is here later =
    let before : IsCharBoundary text (length front) = boundary_before text front (t ++ tail) e (blank_begins t tail is) in
    let next : IsCharBoundary text (length (front ++ t)) = subst (λ k. IsCharBoundary text k) (sym (length-append front t)) (boundary_after text front t tail utf8 e (blank_ends t tail is)) in
    subst (λ spans. SpansAtCharacters text spans) (ap (λ k. spans_from k places more) (length-append front t) ∙ sym (spans_from-blank (length t) (length front) places more))
    (later places (blank_status text places (length front) (length (front ++ t)) before next here))
step text front Statement t tail places more utf8 e is here later =
    let place : length front + length t ≡ length (front ++ t) = sym (length-append front t) in
    subst (λ spans. SpansAtCharacters text spans)
    (ap (λ k. spans_from k (places ++ range (length front) (length t)) more) (length-append front t) ∙ sym (spans_from-own (length t) (length front) places more))
    (later (places ++ range (length front) (length t))
    (subst (λ k. IsOpenAt text (places ++ range (length front) (length t)) k) place (own_status text places (length t) (length front) (part_length Statement t tail is) here)))
step text front Separator t tail places more utf8 e is here later =
    let before : IsCharBoundary text (length front) = boundary_before text front (t ++ tail) e (headed 59 (t ++ tail) tail (ap (λ x. x ++ tail) is) (omega arith)) in
    let next : IsCharBoundary text (length (front ++ t)) = subst (λ k. IsCharBoundary text k) (sym (length-append front t)) (boundary_after text front t tail utf8 e (one_sign 59 t tail (omega arith) is)) in
    let one : length t ≡ 1 = ap length is in
    let place : length (front ++ t) ≡ length front + 1 = omega (arith, length-append front t) in
    subst (λ spans. SpansAtCharacters text spans)
    (sym (ap (λ n. spans_from (length front) places (replicate n Separator ++ more)) one ∙ spans_from-end (length front) places more))
    (ended text places (length front) (spans_from (length front + 1) [] more) before here (subst (λ k. SpansAtCharacters text (spans_from k [] more)) place (later [] next)))

-- the spans of the pieces from a place on lie at characters
spans_at : (text front places : List ℕ) (ps : List (Piece Part)) (bytes : List ℕ) → IsUtf8 text → text ≡ front ++ bytes → IsOpenAt text places (length front) → Front IsPart ps bytes [] → SpansAtCharacters text (spans_from (length front) places (parts_of ps))
spans_at text front places [] bytes utf8 e here is =
    let end : IsCharBoundary text (length front) = boundary_before text front [] (e ∙ ap (λ r. front ++ r) is) (λ past. past) in
    subst (λ spans. SpansAtCharacters text spans) (append-nil (option_to_list (span_of places)) ∙ sym (spans_from-nothing (length front) places))
    (ended text places (length front) [] end here tt)
spans_at text front places (p ∷ ps) bytes utf8 e here is =
    let whole : text ≡ front ++ (p.text ++ is.0) = e ∙ ap (λ r. front ++ r) is.1 in
    step text front p.kind p.text is.0 places (parts_of ps) utf8 whole is.2 here
    (λ next begun. spans_at text (front ++ p.text) next ps is.0 utf8 (whole ∙ sym (append_assoc front p.text is.0)) begun is.3)

-- each statement begins and ends between characters of its text
pub statements_lie_at : StatementsLieAtCharacters
statements_lie_at text spans utf8 (ps, front, e) =
    subst (λ ss. SpansAtCharacters text ss) (filter_map-continued (groups_of 0 (parts_of ps)) ∙ sym e)
    (spans_at text [] [] ps text utf8 refl (IsCharBoundary-start text utf8) front)
