-- Tokens and statements lie in their text, one after another.
use Rattle.std.proofs.Common.{◌≡◌, ◌∙◌, ◌+◌, ◌<◌, ◌≤◌, ℕ, List, [], ◌∷◌, ◌++◌, length, Option, None, Some, refl, sym, ap, subst, arith, length-append, replicate}
use Rattle.std.specs.List.{filter_map}
use Rattle.std.proofs.lemmas.List.{length-replicate}
use Rattle.hc_lex.specs.declared.part.Part.{Part}
use Rattle.hc_lex.specs.declared.part.Part.TheVariants.{Blank, Statement, Separator}
use Rattle.hc_lex.specs.declared.statements.Span.{Span}
use Rattle.hc_lex.specs.declared.token.Token.{Token}
use Rattle.hc_lex.specs.declared.token.TokenKind.{TokenKind}
use Rattle.hc_lex.specs.Laws.{StatementsLieInOrder, TokensLieInOrder}
use Rattle.hc_lex.specs.Pieces.{Piece, Front}
use Rattle.hc_lex.specs.Places.{SpansAscend, TokensAscend}
use Rattle.hc_lex.specs.Reading.{IsTokenOrBlank, token_if, tokens_of}
use Rattle.hc_lex.specs.Statements.{IsPart, groups_of, last_of, parts_of, span_of}
use Rattle.hc_lex.proofs.Fronts.{Front-size, size_of}
use Rattle.hc_lex.proofs.Lengths.{lexeme_length}
use Rattle.hc_lex.proofs.SpansSoFar.{filter_map-continued, spans_from, spans_from-end, spans_from-nothing, continued-with_place}

-- tokens that ascend from a place do so from any lower one
lowered : (low at high : ℕ) (tokens : List Token) → low ≤ at → TokensAscend at high tokens → TokensAscend low high tokens
lowered low at high [] less h = omega arith
lowered low at high (token ∷ tokens) less h = (omega (arith, h.0), h.1, h.2)

-- and with one token more in front, or none
one_ahead : (kind : Option TokenKind) (at to high : ℕ) (tokens : List Token) → at < to → TokensAscend to high tokens → TokensAscend at high (token_if kind at to ++ tokens)
one_ahead None at to high tokens less h = lowered at to high tokens (omega arith) h
one_ahead (Some k) at to high tokens less h = (omega arith, less, h)

-- the tokens of pieces ascend from the place where they begin
pieces_ascend : (at : ℕ) (ps : List (Piece (Option TokenKind))) (bytes : List ℕ) → Front IsTokenOrBlank ps bytes [] → TokensAscend at (at + length bytes) (tokens_of at ps)
pieces_ascend at [] bytes front = omega arith
pieces_ascend at (p ∷ ps) bytes front =
    let some : 0 < length p.text = lexeme_length p.kind p.text front.0 front.2 in
    let whole : length bytes ≡ length p.text + length front.0 = ap length front.1 ∙ length-append p.text front.0 in
    let same : (at + length p.text) + length front.0 ≡ at + length bytes = omega arith in
    let later : TokensAscend (at + length p.text) (at + length bytes) (tokens_of (at + length p.text) ps) =
    subst (λ high. TokensAscend (at + length p.text) high (tokens_of (at + length p.text) ps)) same (pieces_ascend (at + length p.text) ps front.0 front.3) in
    one_ahead p.kind at (at + length p.text) (at + length bytes) (tokens_of (at + length p.text) ps) (omega arith) later

-- the tokens of a text ascend from its start to its end
pub tokens_ascend : TokensLieInOrder
tokens_ascend text tokens (ps, front, e) = subst (λ ts. TokensAscend 0 (length text) ts) (sym e) (subst (λ high. TokensAscend 0 high (tokens_of 0 ps)) (let zero_add : 0 + length text ≡ length text = omega arith in zero_add) (pieces_ascend 0 ps text front))

-- statements that ascend from a place do so from any lower one
spans_lowered : (low at high : ℕ) (spans : List Span) → low ≤ at → SpansAscend at high spans → SpansAscend low high spans
spans_lowered low at high [] less h = omega arith
spans_lowered low at high (span ∷ spans) less h = (omega (arith, h.0), h.1, h.2)

-- the last of some places with one more is that one
last_of-push : (place : ℕ) (places : List ℕ) (at : ℕ) → last_of place (places ++ at ∷ []) ≡ at
last_of-push place [] at = refl
last_of-push place (next ∷ places) at = last_of-push next places at

-- where the end of a list of parts lies
high_more : (at : ℕ) (part : Part) (parts : List Part) → at + 1 + length parts ≡ at + length (part ∷ parts)
high_more at part parts = omega arith

-- the statement that goes on began at `place` and has its last byte before `at`
pub record GoesOnBelow (low place : ℕ) (places : List ℕ) (at : ℕ) : Type 0 where
  pub first : low ≤ place
  pub last : place ≤ last_of place places
  pub below : last_of place places < at

mutual
  spans_ascend : (low at : ℕ) (parts : List Part) → low ≤ at → SpansAscend low (at + length parts) (spans_from at [] parts)
  spans_ascend low at [] less = omega arith
  spans_ascend low at (Blank ∷ parts) less =
      subst (λ high. SpansAscend low high (spans_from (at + 1) [] parts)) (high_more at Blank parts) (spans_ascend low (at + 1) parts (omega arith))
  spans_ascend low at (Statement ∷ parts) less =
      subst (λ spans. SpansAscend low (at + length (Statement ∷ parts)) spans) (ap (λ groups. filter_map span_of groups) (sym (continued-with_place [] at (groups_of (at + 1) parts))))
      (subst (λ high. SpansAscend low high (spans_from (at + 1) (at ∷ []) parts)) (high_more at Statement parts)
      (going_ascends low at [] (at + 1) parts (record { first = less; last = omega arith; below = omega arith })))
  spans_ascend low at (Separator ∷ parts) less =
      subst (λ spans. SpansAscend low (at + length (Separator ∷ parts)) spans) (sym (spans_from-end at [] parts))
      (subst (λ high. SpansAscend low high (spans_from (at + 1) [] parts)) (high_more at Separator parts) (spans_ascend low (at + 1) parts (omega arith)))

  going_ascends : (low place : ℕ) (places : List ℕ) (at : ℕ) (parts : List Part) → GoesOnBelow low place places at → SpansAscend low (at + length parts) (spans_from at (place ∷ places) parts)
  going_ascends low place places at [] is =
      subst (λ spans. SpansAscend low (at + 0) spans) (sym (spans_from-nothing at (place ∷ places))) (is.first, omega (arith, is.last), omega (arith, is.below))
  going_ascends low place places at (Blank ∷ parts) is =
      subst (λ high. SpansAscend low high (spans_from (at + 1) (place ∷ places) parts)) (high_more at Blank parts)
      (going_ascends low place places (at + 1) parts (record { first = is.first; last = is.last; below = omega (arith, is.below) }))
  going_ascends low place places at (Statement ∷ parts) is =
      subst (λ spans. SpansAscend low (at + length (Statement ∷ parts)) spans) (ap (λ groups. filter_map span_of groups) (sym (continued-with_place (place ∷ places) at (groups_of (at + 1) parts))))
      (subst (λ high. SpansAscend low high (spans_from (at + 1) (place ∷ places ++ at ∷ []) parts)) (high_more at Statement parts)
      (going_ascends low place (places ++ at ∷ []) (at + 1) parts
      (record { first = is.first; last = omega (arith, is.last, is.below, last_of-push place places at); below = omega (arith, last_of-push place places at) })))
  going_ascends low place places at (Separator ∷ parts) is =
      subst (λ spans. SpansAscend low (at + length (Separator ∷ parts)) spans) (sym (spans_from-end at (place ∷ places) parts)) (
        is.first,
        omega (arith, is.last),
        subst (λ high. SpansAscend (last_of place places + 1) high (spans_from (at + 1) [] parts)) (high_more at Separator parts)
            (spans_ascend (last_of place places + 1) (at + 1) parts (omega (arith, is.below))),
      )

-- the parts are as many as the bytes of the pieces
parts_of-length : (ps : List (Piece Part)) → length (parts_of ps) ≡ size_of ps
parts_of-length [] = refl
parts_of-length (p ∷ ps) = length-append (replicate (length p.text) p.kind) (parts_of ps) ∙ ap (λ n. n + length (parts_of ps)) (length-replicate (length p.text) p.kind) ∙ ap (λ n. length p.text + n) (parts_of-length ps)

-- the statements of a text ascend from its start to its end
pub statements_ascend : StatementsLieInOrder
statements_ascend text spans (ps, front, e) =
    let high : 0 + length (parts_of ps) ≡ length text = omega (arith, parts_of-length ps, Front-size IsPart ps text [] front) in
    subst (λ ss. SpansAscend 0 (length text) ss) (filter_map-continued (groups_of 0 (parts_of ps)) ∙ sym e)
    (subst (λ h. SpansAscend 0 h (spans_from 0 [] (parts_of ps))) high (spans_ascend 0 0 (parts_of ps) (omega arith)))
