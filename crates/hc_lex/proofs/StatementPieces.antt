-- The pieces of each statement: the script's parts from its first byte up to its last one.
use Rattle.std.proofs.Common.{◌≡◌, ◌∙◌, ◌+◌, ◌<◌, ◌≢◌, ℕ, zero, suc, List, [], ◌∷◌, ◌++◌, length, replicate, refl, sym, ap, subst, arith, length-append, append_assoc}
use Rattle.std.specs.List.{AllByRecursion}
use Rattle.std.specs.Option.{option_to_list}
use Rattle.std.proofs.lemmas.List.{append-nil}
use Rattle.hc_lex.specs.declared.part.Part.{Part}
use Rattle.hc_lex.specs.declared.part.Part.TheVariants.{Blank, Statement, Separator}
use Rattle.hc_lex.specs.declared.statements.Span.{Span}
use Rattle.hc_lex.specs.Pieces.{Piece, Front}
use Rattle.hc_lex.specs.Statements.{HasStatements, IsPart, groups_of, last_of, parts_of, span_of}
use Rattle.hc_lex.proofs.Fronts.{Front-append, Front-push, piece}
use Rattle.hc_lex.proofs.Lengths.{part_length}
use Rattle.hc_lex.proofs.SpansSoFar.{filter_map-continued, last_after, range, spans_from, spans_from-blank, spans_from-end, spans_from-nothing, spans_from-own}

-- none of these parts ends a statement
abbrev pub HasNoSeparator : List (Piece Part) → Type 0
HasNoSeparator ps = AllByRecursion (λ p. p.kind ≢ Separator) ps

-- the first of these parts belongs to a statement
abbrev pub BeginsStatement : List (Piece Part) → Type 0
BeginsStatement [] = ⊥
BeginsStatement (p ∷ ps) = p.kind ≡ Statement

-- parts of a statement are in the text at these places
pub record IsStatementAt (text : List ℕ) (from to : ℕ) : Type 0 where
  pub before : List ℕ
  pub bytes : List ℕ
  pub after : List ℕ
  pub parts : List (Piece Part)
  pub whole : text ≡ before ++ bytes
  pub front : Front IsPart parts bytes after
  pub from_is : from ≡ length before
  pub to_is : to + length after ≡ length text
  pub unended : HasNoSeparator parts
  pub first : BeginsStatement parts

-- each of these statements has such parts
abbrev pub AreStatements : List ℕ → List Span → Type 0
AreStatements text spans = AllByRecursion (λ span. IsStatementAt text span.from span.to) spans

-- no separator is among two lists of parts where none is in either
unended-append : (ps qs : List (Piece Part)) → HasNoSeparator ps → HasNoSeparator qs → HasNoSeparator (ps ++ qs)
unended-append [] qs one two = two
unended-append (p ∷ ps) qs one two = (one.0, unended-append ps qs one.1 two)

-- more parts leave the first one
first-append : (ps qs : List (Piece Part)) → BeginsStatement ps → BeginsStatement (ps ++ qs)
first-append [] qs first = absurd first
first-append (p ∷ ps) qs first = first

-- a statement goes on: it has parts so far, and blanks up to `rest`
pub record GoesOn (text : List ℕ) (place : ℕ) (places : List ℕ) (rest : List ℕ) : Type 0 where
  pub so_far : IsStatementAt text place (last_of place places + 1)
  pub blanks : List (Piece Part)
  pub gap : Front IsPart blanks so_far.after rest
  pub unended : HasNoSeparator blanks

-- what is known before `rest`: nothing, or that a statement goes on
abbrev pub Before : List ℕ → List ℕ → List ℕ → Type 0
Before text [] rest = Unit {0}
Before text (place ∷ places) rest = GoesOn text place places rest

-- with a blank more, it goes on
with_blank : (text places t tail : List ℕ) → IsPart Blank t tail → Before text places (t ++ tail) → Before text places tail
with_blank text [] t tail is here = tt
with_blank text (place ∷ places) t tail is here = record {
  so_far = here.so_far;
  blanks = here.blanks ++ piece Blank t ∷ [];
  gap = Front-push IsPart here.blanks here.so_far.after (t ++ tail) Blank t tail here.gap refl is;
  unended = unended-append here.blanks (piece Blank t ∷ []) here.unended ((λ e. cc), tt);
}

-- where the last of the new places ends
new_end : (text front t tail places : List ℕ) (place n : ℕ) → length t ≡ suc n → text ≡ front ++ (t ++ tail) → last_of place (places ++ range (length front) (suc n)) + 1 + length tail ≡ length text
new_end text front t tail places place n size whole =
    omega (arith, last_after place places (length front) n, ap length whole, length-append front (t ++ tail), length-append t tail)

-- with a part of a statement more, it goes on, or begins
with_part : (text front places t tail : List ℕ) (n : ℕ) → n ≡ length t → text ≡ front ++ (t ++ tail) → IsPart Statement t tail → Before text places (t ++ tail) → Before text (places ++ range (length front) n) tail
with_part text front places t tail zero size whole is here = absurd (let some : 0 < length t = part_length Statement t tail is in omega arith)
with_part text front [] t tail (suc n) size whole is here = record {
  so_far = record {
    before = front;
    bytes = t ++ tail;
    after = tail;
    parts = piece Statement t ∷ [];
    whole = whole;
    front = (tail, refl, is, refl);
    from_is = refl;
    to_is = new_end text front t tail [] (length front) n (sym size) whole;
    unended = ((λ e. cc), tt);
    first = refl;
  };
  blanks = [];
  gap = refl;
  unended = tt;
}
with_part text front (place ∷ places) t tail (suc n) size whole is here =
    let s : IsStatementAt text place (last_of place places + 1) = here.so_far in
    let front_so_far : Front IsPart (s.parts ++ here.blanks) s.bytes (t ++ tail) = Front-append IsPart s.parts here.blanks s.bytes s.after (t ++ tail) s.front here.gap in
    record {
      so_far = record {
        before = s.before;
        bytes = s.bytes;
        after = tail;
        parts = (s.parts ++ here.blanks) ++ piece Statement t ∷ [];
        whole = s.whole;
        front = Front-push IsPart (s.parts ++ here.blanks) s.bytes (t ++ tail) Statement t tail front_so_far refl is;
        from_is = s.from_is;
        to_is = new_end text front t tail places place n (sym size) whole;
        unended = unended-append (s.parts ++ here.blanks) (piece Statement t ∷ []) (unended-append s.parts here.blanks s.unended here.unended) ((λ e. cc), tt);
        first = first-append (s.parts ++ here.blanks) (piece Statement t ∷ []) (first-append s.parts here.blanks s.first);
      };
      blanks = [];
      gap = refl;
      unended = tt;
    }

-- the statement that goes on, where it ends here, is one, and so are those after it
ended : (text places rest : List ℕ) (spans : List Span) → Before text places rest → AreStatements text spans → AreStatements text (option_to_list (span_of places) ++ spans)
ended text [] rest spans here later = later
ended text (place ∷ places) rest spans here later = (here.so_far, later)

-- the spans from here on are statements, whatever goes on here
abbrev Later : List ℕ → List ℕ → List ℕ → List Part → Type 0
Later text front rest more = (places : List ℕ) → Before text places rest → AreStatements text (spans_from (length front) places more)

-- the spans from a piece on are statements where those after it are
step : (text front : List ℕ) (k : Part) (t tail places : List ℕ) (more : List Part) → text ≡ front ++ (t ++ tail) → IsPart k t tail → Before text places (t ++ tail) → Later text (front ++ t) tail more
    → AreStatements text (spans_from (length front) places (replicate (length t) k ++ more))
step text front Blank t tail places more whole is here later =
    subst (λ spans. AreStatements text spans) (ap (λ k. spans_from k places more) (length-append front t) ∙ sym (spans_from-blank (length t) (length front) places more))
    (later places (with_blank text places t tail is here))
step text front Statement t tail places more whole is here later =
    subst (λ spans. AreStatements text spans)
    (ap (λ k. spans_from k (places ++ range (length front) (length t)) more) (length-append front t) ∙ sym (spans_from-own (length t) (length front) places more))
    (later (places ++ range (length front) (length t)) (with_part text front places t tail (length t) refl whole is here))
step text front Separator t tail places more whole is here later =
    let one : length t ≡ 1 = ap length is in
    let place : length (front ++ t) ≡ length front + 1 = omega (arith, length-append front t) in
    subst (λ spans. AreStatements text spans)
    (sym (ap (λ n. spans_from (length front) places (replicate n Separator ++ more)) one ∙ spans_from-end (length front) places more))
    (ended text places (t ++ tail) (spans_from (length front + 1) [] more) here (subst (λ k. AreStatements text (spans_from k [] more)) place (later [] tt)))

-- the spans of the pieces from a place on are statements
from_here : (text front places : List ℕ) (ps : List (Piece Part)) (bytes : List ℕ) → text ≡ front ++ bytes → Before text places bytes → Front IsPart ps bytes [] → AreStatements text (spans_from (length front) places (parts_of ps))
from_here text front places [] bytes whole here is =
    subst (λ spans. AreStatements text spans) (append-nil (option_to_list (span_of places)) ∙ sym (spans_from-nothing (length front) places)) (ended text places bytes [] here tt)
from_here text front places (p ∷ ps) bytes whole here is =
    let same : text ≡ front ++ (p.text ++ is.0) = whole ∙ ap (λ r. front ++ r) is.1 in
    step text front p.kind p.text is.0 places (parts_of ps) same is.2 (subst (λ r. Before text places r) is.1 here)
    (λ next goes. from_here text (front ++ p.text) next ps is.0 (same ∙ sym (append_assoc front p.text is.0)) goes is.3)

-- each statement of a script has such parts
pub statements_have_parts : (text : List ℕ) (spans : List Span) → HasStatements text spans → AreStatements text spans
statements_have_parts text spans (ps, front, e) =
    subst (λ ss. AreStatements text ss) (filter_map-continued (groups_of 0 (parts_of ps)) ∙ sym e) (from_here text [] [] ps text refl tt front)
