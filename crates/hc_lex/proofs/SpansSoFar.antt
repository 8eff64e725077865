-- The statements of what was read so far.
use Rattle.std.proofs.Common.{◌≡◌, ◌∙◌, ◌+◌, ◌-◌, ◌<◌, ◌≤◌, ℕ, List, [], ◌∷◌, ◌++◌, zero, suc, length, Option, None, Some, refl, sym, ap, subst, arith, length-append, append_assoc, replicate}
use Rattle.std.specs.List.{cons_option, filter_map}
use Rattle.std.specs.Option.{option_map_or, option_to_list}
use Rattle.std.proofs.lemmas.List.{append-nil, nil_from_length}
use Rattle.std.proofs.lemmas.Grind.{flat_map-append}
use Rattle.hc_lex.specs.declared.part.Part.{Part}
use Rattle.hc_lex.specs.declared.part.Part.TheVariants.{Blank, Statement, Separator}
use Rattle.hc_lex.specs.declared.statements.Span.{Span}
use Rattle.hc_lex.specs.Pieces.{Piece, Front, Skips}
use Rattle.hc_lex.specs.Statements.{AreOrdinary, HasStatements, IsPart, groups_of, last_of, parts_of, span_of, with_place}
use Rattle.hc_lex.proofs.Fronts.{Front-push, Front-size, piece, size_of}
use Rattle.hc_lex.proofs.PartLemmas.{ordinary_byte}

-- places in front of the first group
abbrev pub continued : List ℕ → List (List ℕ) → List (List ℕ)
continued places [] = places ∷ []
continued places (group ∷ groups) = (places ++ group) ∷ groups

-- the spans of the statements from the place `at` on, where the first goes on with these places
abbrev pub spans_from : ℕ → List ℕ → List Part → List Span
spans_from at places parts = filter_map span_of (continued places (groups_of at parts))

-- a place more in the first group follows the places in front of it
pub continued-with_place : (places : List ℕ) (at : ℕ) (groups : List (List ℕ)) → continued places (with_place at groups) ≡ continued (places ++ at ∷ []) groups
continued-with_place places at [] = refl
continued-with_place places at (group ∷ groups) = ap (λ g. g ∷ groups) (sym (append_assoc places (at ∷ []) group))

-- with no places in front, the groups have the spans they had
pub filter_map-continued : (groups : List (List ℕ)) → filter_map span_of (continued [] groups) ≡ filter_map span_of groups
filter_map-continued [] = refl
filter_map-continued (group ∷ groups) = refl

-- the places from `at` on, this many
abbrev pub range : ℕ → ℕ → List ℕ
range at zero = []
range at (suc n) = at ∷ range (at + 1) n

-- after bytes of blanks, the spans begin so many places on
pub spans_from-blank : (n at : ℕ) (places : List ℕ) (more : List Part) → spans_from at places (replicate n Blank ++ more) ≡ spans_from (at + n) places more
spans_from-blank zero at places more = ap (λ k. spans_from k places more) (let e : at ≡ at + 0 = omega arith in e)
spans_from-blank (suc n) at places more =
    spans_from-blank n (at + 1) places more ∙ ap (λ k. spans_from k places more) (let e : at + 1 + n ≡ at + suc n = omega arith in e)

-- after bytes of a statement, it goes on with their places
pub spans_from-own : (n at : ℕ) (places : List ℕ) (more : List Part) → spans_from at places (replicate n Statement ++ more) ≡ spans_from (at + n) (places ++ range at n) more
spans_from-own zero at places more =
    ap (λ k. spans_from k places more) (let e : at ≡ at + 0 = omega arith in e) ∙ ap (λ ps. spans_from (at + 0) ps more) (sym (append-nil places))
spans_from-own (suc n) at places more =
    ap (λ groups. filter_map span_of groups) (continued-with_place places at (groups_of (at + 1) (replicate n Statement ++ more)))
    ∙ spans_from-own n (at + 1) (places ++ at ∷ []) more
    ∙ ap (λ k. spans_from k ((places ++ at ∷ []) ++ range (at + 1) n) more) (let e : at + 1 + n ≡ at + suc n = omega arith in e)
    ∙ ap (λ ps. spans_from (at + suc n) ps more) (append_assoc places (at ∷ []) (range (at + 1) n))

-- at the end of a statement is its span, and none goes on after it
pub spans_from-end : (at : ℕ) (places : List ℕ) (more : List Part) → spans_from at places (Separator ∷ more) ≡ option_to_list (span_of places) ++ spans_from (at + 1) [] more
spans_from-end at places more =
    ap (λ ps. filter_map span_of (ps ∷ groups_of (at + 1) more)) (append-nil places)
    ∙ spans-cons (span_of places) (filter_map span_of (groups_of (at + 1) more))
    ∙ ap (λ spans. option_to_list (span_of places) ++ spans) (sym (filter_map-continued (groups_of (at + 1) more)))
  where
    spans-cons : (span : Option Span) (spans : List Span) → cons_option span spans ≡ option_to_list span ++ spans
    spans-cons None spans = refl
    spans-cons (Some s) spans = refl

-- where nothing follows, the span that goes on is the only one
pub spans_from-nothing : (at : ℕ) (places : List ℕ) → spans_from at places [] ≡ option_to_list (span_of places)
spans_from-nothing at places = ap (λ ps. filter_map span_of (ps ∷ [])) (append-nil places) ∙ only_one (span_of places)
  where
    only_one : (span : Option Span) → cons_option span [] ≡ option_to_list span
    only_one None = refl
    only_one (Some s) = refl

-- the last of so many places from one on
last_from : (at n : ℕ) → last_of at (range (at + 1) n) ≡ at + n
last_from at zero = omega arith
last_from at (suc n) = last_from (at + 1) n ∙ (let e : at + 1 + n ≡ at + suc n = omega arith in e)

-- where places end with n + 1 from a place on, the last is n after it
pub last_after : (place : ℕ) (places : List ℕ) (at n : ℕ) → last_of place (places ++ range at (suc n)) + 1 ≡ at + suc n
last_after place [] at n = omega (arith, last_from at n)
last_after place (next ∷ places) at n = last_after next places at n

-- a span with these ends is that span
same_span : (s : Span) (from to : ℕ) → s.from ≡ from → s.to ≡ to → s ≡ record { from = from; to = to }
same_span s from to e f = ap (λ k. record s { from = k }) e ∙ ap (λ k. record { from = from; to = k }) f

-- the span that goes on to the end of the new places
own_span : (places : List ℕ) (n at : ℕ) (s : Span) → s.from ≡ option_map_or (λ span. span.from) (span_of places) at → s.to ≡ at + n → 0 < n → Some s ≡ span_of (places ++ range at n)
own_span places zero at s from to some = absurd (omega arith)
own_span [] (suc n) at s from to some = ap Some (same_span s at (last_of at (range (at + 1) n) + 1) from (omega (arith, last_from at n)))
own_span (place ∷ places) (suc n) at s from to some =
    ap Some (same_span s place (last_of place (places ++ range at (suc n)) + 1) from (omega (arith, last_after place places at n)))

-- the bytes were read up to `rest`: these statements have ended, and one may not have
pub record SpansSoFar (bytes rest : List ℕ) (found : List Span) (unfinished : Option Span) : Type 0 where
  pub pieces : List (Piece Part)
  pub front : Front IsPart pieces bytes rest
  pub places : List ℕ
  pub unfinished_is : unfinished ≡ span_of places
  pub spans : (more : List Part) → spans_from 0 [] (parts_of pieces ++ more) ≡ found ++ spans_from (size_of pieces) places more

-- where nothing was read, no statement has begun
pub no_span_yet : (bytes : List ℕ) (found : List Span) → found ≡ [] → SpansSoFar bytes bytes found None
no_span_yet bytes found e = record {
  pieces = [];
  front = refl;
  places = [];
  unfinished_is = refl;
  spans = λ more. ap (λ spans. spans ++ spans_from 0 [] more) (sym e);
}

-- with one piece more, the pieces are longer by it
size_of-push : (ps : List (Piece Part)) (p : Piece Part) → size_of (ps ++ p ∷ []) ≡ size_of ps + length p.text
size_of-push [] p = omega arith
size_of-push (q ∷ ps) p = omega (arith, size_of-push ps p)

-- with one piece more, its parts follow the others
parts_of-push : (ps : List (Piece Part)) (p : Piece Part) → parts_of (ps ++ p ∷ []) ≡ parts_of ps ++ replicate (length p.text) p.kind
parts_of-push ps p =
    flat_map-append (λ q. replicate (length q.text) q.kind) ps (p ∷ []) ∙ ap (λ parts. parts_of ps ++ parts) (append-nil (replicate (length p.text) p.kind))

-- the spans with one more piece
with_piece : (ps : List (Piece Part)) (p : Piece Part) (found : List Span) (places : List ℕ) (more : List Part)
    → ((later : List Part) → spans_from 0 [] (parts_of ps ++ later) ≡ found ++ spans_from (size_of ps) places later)
    → spans_from 0 [] (parts_of (ps ++ p ∷ []) ++ more) ≡ found ++ spans_from (size_of ps) places (replicate (length p.text) p.kind ++ more)
with_piece ps p found places more spans =
    ap (λ parts. spans_from 0 [] (parts ++ more)) (parts_of-push ps p)
    ∙ ap (λ parts. spans_from 0 [] parts) (append_assoc (parts_of ps) (replicate (length p.text) p.kind) more)
    ∙ spans (replicate (length p.text) p.kind ++ more)

-- with a blank more, the same statements have ended and the same one goes on
pub blank_read : (bytes rest tail : List ℕ) (found : List Span) (unfinished : Option Span) → SpansSoFar bytes rest found unfinished → Skips (IsPart Blank) rest tail → SpansSoFar bytes tail found unfinished
blank_read bytes rest tail found unfinished s skips =
    let p : Piece Part = piece Blank skips.0 in
    record {
      pieces = s.pieces ++ p ∷ [];
      front = Front-push IsPart s.pieces bytes rest Blank skips.0 tail s.front skips.1 skips.2;
      places = s.places;
      unfinished_is = s.unfinished_is;
      spans = λ more. with_piece s.pieces p found s.places more s.spans
          ∙ ap (λ spans. found ++ spans) (spans_from-blank (length skips.0) (size_of s.pieces) s.places more
          ∙ ap (λ k. spans_from k s.places more) (sym (size_of-push s.pieces p)));
    }

-- with a piece of a statement more, the one that goes on ends after it
pub own_read : (bytes rest tail : List ℕ) (found : List Span) (unfinished : Option Span) (span : Span) (from to : ℕ) → SpansSoFar bytes rest found unfinished → Skips (IsPart Statement) rest tail
    → from ≡ length bytes - length rest → to ≡ length bytes - length tail → span.from ≡ option_map_or (λ s. s.from) unfinished from → span.to ≡ to → length tail < length rest
    → SpansSoFar bytes tail found (Some span)
own_read bytes rest tail found unfinished span from to s skips from_is to_is span_from span_to moves =
    let p : Piece Part = piece Statement skips.0 in
    let whole : length bytes ≡ size_of s.pieces + length rest = Front-size IsPart s.pieces bytes rest s.front in
    let left : length rest ≡ length skips.0 + length tail = ap length skips.1 ∙ length-append skips.0 tail in
    let at_from : from ≡ size_of s.pieces = omega arith in
    let at_to : span.to ≡ size_of s.pieces + length skips.0 = omega arith in
    record {
      pieces = s.pieces ++ p ∷ [];
      front = Front-push IsPart s.pieces bytes rest Statement skips.0 tail s.front skips.1 skips.2;
      places = s.places ++ range (size_of s.pieces) (length skips.0);
      unfinished_is = own_span s.places (length skips.0) (size_of s.pieces) span
          (span_from ∙ ap (λ o. option_map_or (λ x. x.from) o from) s.unfinished_is ∙ ap (λ k. option_map_or (λ x. x.from) (span_of s.places) k) at_from) at_to (omega arith);
      spans = λ more. with_piece s.pieces p found s.places more s.spans
          ∙ ap (λ spans. found ++ spans) (spans_from-own (length skips.0) (size_of s.pieces) s.places more
          ∙ ap (λ k. spans_from k (s.places ++ range (size_of s.pieces) (length skips.0)) more) (sym (size_of-push s.pieces p)));
    }

-- with ordinary bytes more, the one that goes on ends after them
pub ordinary_read : (word bytes rest tail : List ℕ) (found : List Span) (before span : Span) → SpansSoFar bytes rest found (Some before) → rest ≡ word ++ tail → AreOrdinary word
    → before.to ≡ length bytes - length rest → span.from ≡ before.from → span.to ≡ length bytes - length tail → SpansSoFar bytes tail found (Some span)
ordinary_read [] bytes rest tail found before span s e is ends from to =
    let same : span ≡ before = same_span span before.from before.to from (to ∙ ap (λ r. length bytes - length r) (sym e) ∙ sym ends) in
    subst (λ r. SpansSoFar bytes r found (Some span)) e (subst (λ x. SpansSoFar bytes rest found (Some x)) (sym same) s)
ordinary_read (b ∷ word) bytes rest tail found before span s e is ends from to =
    let next : Span = record { from = before.from; to = length bytes - length (word ++ tail) } in
    let skips : Skips (IsPart Statement) rest (word ++ tail) = subst (λ r. Skips (IsPart Statement) r (word ++ tail)) (sym e) (ordinary_byte b (word ++ tail) is.0) in
    let moves : length (word ++ tail) < length rest = omega (arith, ap length e) in
    ordinary_read word bytes (word ++ tail) tail found next span
    (own_read bytes rest (word ++ tail) found (Some before) next (length bytes - length rest) (length bytes - length (word ++ tail)) s skips refl refl refl refl moves)
    refl is.1 refl from to

-- with the end of a statement more, the one that went on has ended
pub end_read : (bytes rest tail : List ℕ) (found more : List Span) (unfinished : Option Span) → SpansSoFar bytes rest found unfinished → Skips (IsPart Separator) rest tail → more ≡ found ++ option_to_list unfinished → SpansSoFar bytes tail more None
end_read bytes rest tail found more unfinished s skips more_is =
    let p : Piece Part = piece Separator skips.0 in
    let one : length skips.0 ≡ 1 = ap length skips.2 in
    record {
      pieces = s.pieces ++ p ∷ [];
      front = Front-push IsPart s.pieces bytes rest Separator skips.0 tail s.front skips.1 skips.2;
      places = [];
      unfinished_is = refl;
      spans = λ later. with_piece s.pieces p found s.places later s.spans
          ∙ ap (λ n. found ++ spans_from (size_of s.pieces) s.places (replicate n Separator ++ later)) one
          ∙ ap (λ spans. found ++ spans) (spans_from-end (size_of s.pieces) s.places later)
          ∙ sym (append_assoc found (option_to_list (span_of s.places)) (spans_from (size_of s.pieces + 1) [] later))
          ∙ ap (λ o. (found ++ option_to_list o) ++ spans_from (size_of s.pieces + 1) [] later) (sym s.unfinished_is)
          ∙ ap (λ spans. spans ++ spans_from (size_of s.pieces + 1) [] later) (sym more_is)
          ∙ ap (λ k. more ++ spans_from k [] later) (ap (λ n. size_of s.pieces + n) (sym one) ∙ sym (size_of-push s.pieces p));
    }

-- where all was read, the found statements and the one that goes on are those of the text
pub all_cut : (bytes rest : List ℕ) (found all : List Span) (unfinished : Option Span) → SpansSoFar bytes rest found unfinished → length rest ≡ 0 → all ≡ found ++ option_to_list unfinished → HasStatements bytes all
all_cut bytes rest found all unfinished s e all_is = (
  s.pieces,
  subst (λ r. Front IsPart s.pieces bytes r) (nil_from_length rest e) s.front,
  all_is ∙ ap (λ o. found ++ option_to_list o) s.unfinished_is
      ∙ ap (λ spans. found ++ spans) (sym (spans_from-nothing (size_of s.pieces) s.places))
      ∙ sym (s.spans [])
      ∙ filter_map-continued (groups_of 0 (parts_of s.pieces ++ []))
      ∙ ap (λ parts. filter_map span_of (groups_of 0 parts)) (append-nil (parts_of s.pieces)),
)

-- what is left is no longer than the bytes
pub unread_within : (bytes rest : List ℕ) (found : List Span) (unfinished : Option Span) → SpansSoFar bytes rest found unfinished → length rest ≤ length bytes
unread_within bytes rest found unfinished s = omega (arith, Front-size IsPart s.pieces bytes rest s.front)
