-- What a statement of a script hands on: its text alone has the same parts, so its tokens are none of them a `;`, and
-- the first begins it.
use Rattle.std.proofs.Common.{◌≡◌, ◌∙◌, ◌+◌, ◌-◌, ◌≢◌, ℕ, List, [], ◌∷◌, ◌++◌, length, take, drop, Option, None, Some, inl, inr, refl, sym, ap, subst, arith, length-append, append_assoc}
use Rattle.std.specs.List.{AllByRecursion, slice_range}
use Rattle.std.proofs.Math.Seq.{drop-append_seam, take-append_seam}
use Rattle.hc_lex.specs.declared.part.Part.{Part}
use Rattle.hc_lex.specs.declared.part.Part.TheVariants.{Blank, Statement, Separator}
use Rattle.hc_lex.specs.declared.statements.Span.{Span}
use Rattle.hc_lex.specs.declared.token.Token.{Token}
use Rattle.hc_lex.specs.declared.token.TokenKind.{TokenKind}
use Rattle.hc_lex.specs.declared.token.TokenKind.TheVariants as kind
use Rattle.hc_lex.specs.Blanks.{IsBlank}
use Rattle.hc_lex.specs.Characters.{Begins}
use Rattle.hc_lex.specs.Laws.{IsOneStatement, StatementsAreCutOut}
use Rattle.hc_lex.specs.Pieces.{Piece, Front}
use Rattle.hc_lex.specs.Reading.{HasTokens, token_if, tokens_of}
use Rattle.hc_lex.specs.Statements.{IsPart}
use Rattle.hc_lex.proofs.FirstPart.{first_part, no_part_at_end, part_found}
use Rattle.hc_lex.proofs.Fronts.{front_is_one}
use Rattle.hc_lex.proofs.LexemeParts.{AreParts, BeginsToken, HasNoEnd, lexemes_are_parts}
use Rattle.hc_lex.proofs.StatementPieces.{AreStatements, BeginsStatement, HasNoSeparator, IsStatementAt, statements_have_parts}

-- what begins bytes begins them with more after them
begins_more : (P : ℕ → Type 0) (rest more : List ℕ) → Begins P rest → Begins P (rest ++ more)
begins_more P [] more h = absurd h
begins_more P (b ∷ rest) more h = h

-- where nothing is left with more, nothing is left
nothing_left : (rest more : List ℕ) → rest ++ more ≡ [] → rest ≡ []
nothing_left [] more e = refl
nothing_left (b ∷ rest) more e = cc

-- a blank stays one where the text ends earlier
blank_cut : (t rest more : List ℕ) → IsBlank t (rest ++ more) → IsBlank t rest
blank_cut t rest more (inl space) = inl space
blank_cut t rest more (inr (inl (inner, e, is, ends))) = inr (inl (inner, e, is, λ goes. ends (begins_more _ rest more goes)))
blank_cut t rest more (inr (inr (inner, none, inl e))) = inr (inr (inner, none, inl e))
blank_cut t rest more (inr (inr (inner, none, inr (e, ends)))) = inr (inr (inner, none, inr (e, nothing_left rest more ends)))

-- and so does each part
part_cut : (k : Part) (t rest more : List ℕ) → IsPart k t (rest ++ more) → IsPart k t rest
part_cut Blank t rest more is = blank_cut t rest more is
part_cut Statement t rest more (inl (quote, is, inl (inner, e, ne))) = inl (quote, is, inl (inner, e, λ next. ne (begins_more _ rest more next)))
part_cut Statement t rest more (inl (quote, is, inr (opened, ends))) = inl (quote, is, inr (opened, nothing_left rest more ends))
part_cut Statement t rest more (inr (b, e, plain)) =
    inr (b, e, ((plain.0.0, (λ p. plain.0.1 (p.0, begins_more _ rest more p.1)), (λ p. plain.0.2 (p.0, begins_more _ rest more p.1))), plain.1, plain.2))
part_cut Separator t rest more is = is

-- the bytes of some parts
abbrev bytes_of : List (Piece Part) → List ℕ
bytes_of [] = []
bytes_of (p ∷ ps) = p.text ++ bytes_of ps

-- the bytes begin with those of their parts
front_bytes : (ps : List (Piece Part)) (bytes rest : List ℕ) → Front IsPart ps bytes rest → bytes ≡ bytes_of ps ++ rest
front_bytes [] bytes rest front = front
front_bytes (p ∷ ps) bytes rest front = front.1 ∙ ap (λ r. p.text ++ r) (front_bytes ps front.0 rest front.3) ∙ sym (append_assoc p.text (bytes_of ps) rest)

-- parts are those of their bytes alone
parts_alone : (ps : List (Piece Part)) (bytes rest : List ℕ) → Front IsPart ps bytes rest → Front IsPart ps (bytes_of ps) []
parts_alone [] bytes rest front = refl
parts_alone (p ∷ ps) bytes rest front =
    (bytes_of ps, refl, part_cut p.kind p.text (bytes_of ps) rest (subst (λ r. IsPart p.kind p.text r) (front_bytes ps front.0 rest front.3) front.2), parts_alone ps front.0 rest front.3)

-- the bytes of a statement are those of its parts
range_is : (text before inner after : List ℕ) (from to : ℕ) → text ≡ before ++ (inner ++ after) → from ≡ length before → to + length after ≡ length text → slice_range text from to ≡ inner
range_is text before inner after from to whole from_is to_is =
    let size : to - from ≡ length inner = omega (arith, ap length whole, length-append before (inner ++ after), length-append inner after) in
    ap (λ n. take n (drop from text)) size
    ∙ ap (λ n. take (length inner) (drop n text)) from_is
    ∙ ap (λ t. take (length inner) (drop (length before) t)) whole
    ∙ ap (λ t. take (length inner) t) (drop-append_seam before (inner ++ after))
    ∙ take-append_seam inner after

-- none of these tokens is a `;`
abbrev AreUnended : List Token → Type 0
AreUnended tokens = AllByRecursion (λ token. token.kind ≢ kind.Semicolon) tokens

-- with a token more in front that is no `;`, or none, none of them is
one_more : (k : Option TokenKind) (from to : ℕ) (tokens : List Token) → ◌≢◌ {A = Option TokenKind} k (Some kind.Semicolon) → AreUnended tokens → AreUnended (token_if k from to ++ tokens)
one_more None from to tokens ne all = all
one_more (Some k) from to tokens ne all = ((λ e. ne (ap Some e)), all)

-- the tokens of lexemes without `;` are none of them a `;`
tokens_unended : (at : ℕ) (qs : List (Piece (Option TokenKind))) → HasNoEnd qs → AreUnended (tokens_of at qs)
tokens_unended at [] all = tt
tokens_unended at (q ∷ qs) all = one_more q.kind at (at + length q.text) (tokens_of (at + length q.text) qs) all.0 (tokens_unended (at + length q.text) qs all.1)

-- the first of them begins where the lexemes do
first_token : (qs : List (Piece (Option TokenKind))) → BeginsToken qs → (first : Token) × (others : List Token) × (tokens_of 0 qs ≡ first ∷ others) × (first.from ≡ 0)
first_token [] first = absurd first
first_token (q ∷ qs) first = by_kind q.kind first
  where
    by_kind : (k : Option TokenKind) → ◌≢◌ {A = Option TokenKind} k None → (one : Token) × (others : List Token) × (token_if k 0 (0 + length q.text) ++ tokens_of (0 + length q.text) qs ≡ one ∷ others) × (one.from ≡ 0)
    by_kind None some = absurd (some refl)
    by_kind (Some k) some = (record { kind = k; from = 0; to = 0 + length q.text }, tokens_of (0 + length q.text) qs, refl, refl)

-- the tokens of a text with such parts
one_statement : (text : List ℕ) (ps : List (Piece Part)) (tokens : List Token) → Front IsPart ps text [] → HasNoSeparator ps → BeginsStatement ps → HasTokens text tokens → IsOneStatement tokens
one_statement text ps tokens front unended first (qs, lexemes, e) =
    let are : AreParts qs text = lexemes_are_parts qs text lexemes in
    let same = front_is_one IsPart first_part part_found ps are.parts text [] [] no_part_at_end no_part_at_end front are.front in
    let begins = first_token qs (are.first (subst (λ parts. BeginsStatement parts) same.0 first)) in (
      subst (λ ts. AreUnended ts) (sym e) (tokens_unended 0 qs (are.unended (subst (λ parts. HasNoSeparator parts) same.0 unended))),
      begins.0,
      begins.1,
      e ∙ begins.2,
      begins.3,
    )

-- a statement's tokens
of_statement : (text : List ℕ) (from to : ℕ) → IsStatementAt text from to → (tokens : List Token) → HasTokens (slice_range text from to) tokens → IsOneStatement tokens
of_statement text from to s tokens is =
    let whole : text ≡ s.before ++ (bytes_of s.parts ++ s.after) = s.whole ∙ ap (λ r. s.before ++ r) (front_bytes s.parts s.bytes s.after s.front) in
    let same : slice_range text from to ≡ bytes_of s.parts = range_is text s.before (bytes_of s.parts) s.after from to whole s.from_is s.to_is in
    one_statement (bytes_of s.parts) s.parts tokens (parts_alone s.parts s.bytes s.after s.front) s.unended s.first (subst (λ t. HasTokens t tokens) same is)

-- each statement of a script is one
each_statement : (text : List ℕ) (spans : List Span) → AreStatements text spans → AllByRecursion (λ span. (tokens : List Token) → HasTokens (slice_range text span.from span.to) tokens → IsOneStatement tokens) spans
each_statement text [] all = tt
each_statement text (span ∷ spans) all = (of_statement text span.from span.to all.0, each_statement text spans all.1)

pub statements_are_cut_out : StatementsAreCutOut
statements_are_cut_out text spans is = each_statement text spans (statements_have_parts text spans is)
