-- The parts that lexemes are: a space or a comment is one blank, `;` ends a statement, and any other token has parts
-- of a statement. A blob and a text that follows it at once have their literal in common.
use Rattle.std.proofs.Common.{◌≡◌, ◌⊎◌, ◌∙◌, ◌≢◌, ◌==◌, if◌then◌else◌, Bool, true, false, ℕ, List, [], ◌∷◌, ◌++◌, Option, None, Some, inl, inr, refl, sym, ap, subst, arith, append_assoc}
use Rattle.std.specs.List.{AllByRecursion}
use Rattle.std.proofs.lemmas.Bool.{eq-eqb, false≢true, false_from_ne_true, eqb-true}
use Rattle.std.proofs.lemmas.Grind.{flat_map-append}
use Rattle.hc_lex.specs.declared.character.Class.TheVariants.{Space, Sign}
use Rattle.hc_lex.specs.declared.character.Run.TheVariants as run
use Rattle.hc_lex.specs.declared.part.Part.{Part}
use Rattle.hc_lex.specs.declared.part.Part.TheVariants.{Blank, Statement, Separator}
use Rattle.hc_lex.specs.declared.token.TokenKind.{TokenKind}
use Rattle.hc_lex.specs.declared.token.TokenKind.TheVariants as kind
use Rattle.hc_lex.specs.Characters.{BeginsWith, GoesOn, IsRun, class_of, goes_on_with_name}
use Rattle.hc_lex.specs.Pieces.{Piece, Front}
use Rattle.hc_text.specs.Quotes.{doubled}
use Rattle.hc_lex.specs.Quotes.{IsQuote, IsQuoted}
use Rattle.hc_lex.specs.Reading.{IsTokenOrBlank}
use Rattle.hc_lex.specs.Statements.{IsPart, IsPlain}
use Rattle.hc_lex.specs.Tokens.{IsBlob}
use Rattle.hc_lex.proofs.Classes.{digit_has_class, mark_has_class}
use Rattle.hc_lex.proofs.FirstLexeme.{closed_by, first_lexeme, lexeme_found, quote_39}
use Rattle.hc_lex.proofs.Fronts.{Front-append, piece}
use Rattle.hc_lex.proofs.Runs.{quote_is_no_hex}
use Rattle.hc_lex.proofs.Scans.{after_quote}
use Rattle.hc_lex.proofs.StatementPieces.{BeginsStatement, HasNoSeparator}

-- none of these lexemes is a `;`
abbrev pub HasNoEnd : List (Piece (Option TokenKind)) → Type 0
HasNoEnd qs = AllByRecursion (λ q. q.kind ≢ Some kind.Semicolon) qs

-- the first of these lexemes is a token
abbrev pub BeginsToken : List (Piece (Option TokenKind)) → Type 0
BeginsToken [] = ⊥
BeginsToken (q ∷ qs) = q.kind ≢ None

-- the bytes in front of `rest` are parts
abbrev HasParts : List ℕ → List ℕ → Type 0
HasParts text rest = (ps : List (Piece Part)) × Front IsPart ps (text ++ rest) rest

-- a byte that is neither a space nor a quote nor the beginning of a comment nor `;` is plain
plain : (b : ℕ) (rest : List ℕ) → class_of b ≢ Space → b ≢ 45 → b ≢ 47 → b ≢ 34 → b ≢ 39 → b ≢ 59 → IsPlain b rest
plain b rest space minus slash double single end = ((space, (λ p. minus p.0), (λ p. slash p.0)), (λ quote. elim quote [ inl e ↦ double e | inr e ↦ single e ]), end)

-- a character of a name is none of some byte that no name has
not_in_name : (b other : ℕ) → goes_on_with_name (class_of b) ≡ true → goes_on_with_name (class_of other) ≡ false → b ≢ other
not_in_name b other is isnt e = false≢true (sym isnt ∙ ap (λ x. goes_on_with_name (class_of x)) (sym e) ∙ is)

-- a character of a name is plain
name_is_plain : (b : ℕ) (rest : List ℕ) → goes_on_with_name (class_of b) ≡ true → IsPlain b rest
unfolding class_of
name_is_plain b rest is =
    plain b rest (λ e. false≢true (sym (ap goes_on_with_name e) ∙ is)) (not_in_name b 45 is refl) (not_in_name b 47 is refl) (not_in_name b 34 is refl) (not_in_name b 39 is refl) (not_in_name b 59 is refl)

-- characters of a name are parts, one each
name_parts : (text rest : List ℕ) → IsRun run.Name text → HasParts text rest
name_parts [] rest is = ([], refl)
name_parts (b ∷ text) rest is =
    let later : HasParts text rest = name_parts text rest is.1 in
    (piece Statement (b ∷ []) ∷ later.0, (text ++ rest, refl, inr (b, refl, name_is_plain b (text ++ rest) is.0), later.1))

-- digits are characters of a name
digits_of_name : (text : List ℕ) → IsRun run.Number text → IsRun run.Name text
digits_of_name [] is = tt
digits_of_name (b ∷ text) is = (ap goes_on_with_name (digit_has_class b is.0), digits_of_name text is.1)

-- a literal is one part
literal_parts : (quote : ℕ) (text rest : List ℕ) → IsQuote quote → IsQuoted quote text rest → HasParts text rest
literal_parts quote text rest is quoted = (piece Statement text ∷ [], (rest, refl, inl (quote, is, inl quoted), refl))

-- a sign is one part
one_sign : (b : ℕ) (text rest : List ℕ) → text ≡ b ∷ [] → IsPlain b rest → HasParts text rest
one_sign b text rest e is = (piece Statement (b ∷ []) ∷ [], (rest, ap (λ t. t ++ rest) e, inr (b, refl, is), refl))

-- a minus that begins no comment, and a slash that begins none, are plain
minus_is_plain : (rest : List ℕ) → ¬ BeginsWith 45 rest → IsPlain 45 rest
unfolding class_of
minus_is_plain rest ne = (((λ e. cc), (λ p. ne p.1), (λ p. absurd (omega (arith, p.0)))), (λ quote. elim quote [ inl e ↦ omega (arith, e) | inr e ↦ omega (arith, e) ]), (λ e. omega (arith, e)))

slash_is_plain : (rest : List ℕ) → ¬ BeginsWith 42 rest → IsPlain 47 rest
unfolding class_of
slash_is_plain rest ne = (((λ e. cc), (λ p. absurd (omega (arith, p.0))), (λ p. ne p.1)), (λ quote. elim quote [ inl e ↦ omega (arith, e) | inr e ↦ omega (arith, e) ]), (λ e. omega (arith, e)))

-- the number is neither a quote's nor that of `-`, `/` or `;`
abbrev is_common : ℕ → Bool
is_common b = if b == 45 then false else (if b == 47 then false else (if b == 34 then false else (if b == 39 then false else (if b == 59 then false else true))))

differs : (b other : ℕ) → is_common b ≡ true → is_common other ≡ false → b ≢ other
differs b other is isnt e = false≢true (sym isnt ∙ ap is_common (sym e) ∙ is)

-- any other sign is plain
sign_is_plain : (b : ℕ) (rest : List ℕ) → class_of b ≡ Sign → is_common b ≡ true → IsPlain b rest
sign_is_plain b rest sign is = plain b rest (λ e. cc) (differs b 45 is refl) (differs b 47 is refl) (differs b 34 is refl) (differs b 39 is refl) (differs b 59 is refl)

-- a sign other than those is one part, and two of them are two
other_sign : (b : ℕ) (text rest : List ℕ) → class_of b ≡ Sign → is_common b ≡ true → text ≡ b ∷ [] → HasParts text rest
other_sign b text rest sign is e = one_sign b text rest e (sign_is_plain b rest sign is)

two_signs : (a b : ℕ) (text rest : List ℕ) → (class_of a ≡ Sign) × (is_common a ≡ true) → (class_of b ≡ Sign) × (is_common b ≡ true) → text ≡ a ∷ b ∷ [] → HasParts text rest
two_signs a b text rest one two e = (
  piece Statement (a ∷ []) ∷ piece Statement (b ∷ []) ∷ [],
  (b ∷ rest, ap (λ t. t ++ rest) e, inr (a, refl, sign_is_plain a (b ∷ rest) one.0 one.1), (rest, refl, inr (b, refl, sign_is_plain b rest two.0 two.1), refl)),
)

-- no quote is among hexadecimal digits, so none is doubled
hex_undoubled : (digits : List ℕ) → IsRun run.Blob digits → doubled 39 digits ≡ digits
hex_undoubled [] is = refl
hex_undoubled (b ∷ digits) is =
    let other : (b == 39) ≡ false = false_from_ne_true (b == 39) (λ e. quote_is_no_hex [] (subst (λ x. GoesOn run.Blob (x ∷ [])) (eqb-true b 39 e) is.0)) in
    ap (λ t. (if t then b ∷ b ∷ [] else b ∷ []) ++ doubled 39 digits) other ∙ ap (λ ds. b ∷ ds) (hex_undoubled digits is.1)

-- the lexemes of these bytes, and the parts that they are
pub record AreParts (qs : List (Piece (Option TokenKind))) (bytes : List ℕ) : Type 0 where
  pub parts : List (Piece Part)
  pub front : Front IsPart parts bytes []
  pub unended : HasNoSeparator parts → HasNoEnd qs
  pub first : BeginsStatement parts → BeginsToken qs

-- the lexemes after a blob with these digits, and the parts from the quote on that opens them
record AreAfterBlob (qs : List (Piece (Option TokenKind))) (bytes : List ℕ) (digits : List ℕ) : Type 0 where
  parts : List (Piece Part)
  front : Front IsPart parts (39 ∷ digits ++ 39 ∷ bytes) []
  unended : HasNoSeparator parts → HasNoEnd qs

-- what holds of two lists of parts holds of the second
later_unended : (ps qs : List (Piece Part)) → HasNoSeparator (ps ++ qs) → HasNoSeparator qs
later_unended [] qs all = all
later_unended (p ∷ ps) qs all = later_unended ps qs all.1

-- a token that is no `;`, in front of lexemes
with_token : (k : TokenKind) (text rest : List ℕ) (qs : List (Piece (Option TokenKind))) → ◌≢◌ {A = Option TokenKind} (Some k) (Some kind.Semicolon) → HasParts text rest → AreParts qs rest → AreParts (piece (Some k) text ∷ qs) (text ++ rest)
with_token k text rest qs ne ps later = record {
  parts = ps.0 ++ later.parts;
  front = Front-append IsPart ps.0 later.parts (text ++ rest) rest [] ps.1 later.front;
  unended = λ all. (ne, later.unended (later_unended ps.0 later.parts all));
  first = λ is. (λ e. cc);
}

-- a blob in front of lexemes
with_blob : (text rest : List ℕ) (qs : List (Piece (Option TokenKind))) → IsBlob text → ((digits : List ℕ) → IsRun run.Blob digits → AreAfterBlob qs rest digits) → AreParts (piece (Some kind.Blob) text ∷ qs) (text ++ rest)
with_blob text rest qs is later =
    let parts : AreAfterBlob qs rest is.1 = later is.1 is.3 in
    let mark : IsPlain is.0 (39 ∷ is.1 ++ 39 ∷ rest) = name_is_plain is.0 (39 ∷ is.1 ++ 39 ∷ rest) (ap goes_on_with_name (mark_has_class is.0 is.2)) in
    record {
      parts = piece Statement (is.0 ∷ []) ∷ parts.parts;
      front = (39 ∷ is.1 ++ 39 ∷ rest, ap (λ t. t ++ rest) is.5 ∙ ap (λ r. is.0 ∷ 39 ∷ r) (append_assoc is.1 (39 ∷ []) rest), inr (is.0, refl, mark), parts.front);
      unended = λ all. ((λ e. cc), parts.unended all.1);
      first = λ first. (λ e. cc);
    }

-- each lexeme in front of others
with_lexeme : (k : Option TokenKind) (text rest : List ℕ) (qs : List (Piece (Option TokenKind))) → IsTokenOrBlank k text rest → AreParts qs rest → ((digits : List ℕ) → IsRun run.Blob digits → AreAfterBlob qs rest digits) → AreParts (piece k text ∷ qs) (text ++ rest)
unfolding class_of
with_lexeme None text rest qs is later blob = record {
  parts = piece Blank text ∷ later.parts;
  front = (rest, refl, is, later.front);
  unended = λ all. ((λ e. cc), later.unended all.1);
  first = λ first. absurd (let wrong : Blank ≡ Statement = first in cc);
}
with_lexeme (Some kind.Semicolon) text rest qs is later blob = record {
  parts = piece Separator text ∷ later.parts;
  front = (rest, refl, is, later.front);
  unended = λ all. absurd (all.0 refl);
  first = λ first. (λ e. cc);
}
with_lexeme (Some kind.Blob) text rest qs is later blob = with_blob text rest qs is blob
with_lexeme (Some kind.Name) text rest qs is later blob = with_token kind.Name text rest qs (λ e. cc) (name_parts text rest is.0.1) later
with_lexeme (Some (kind.Keyword k)) text rest qs is later blob = with_token (kind.Keyword k) text rest qs (λ e. cc) (name_parts text rest is.0.1) later
with_lexeme (Some (kind.Integer n)) text rest qs is later blob = with_token (kind.Integer n) text rest qs (λ e. cc) (name_parts text rest (digits_of_name text is.0.1)) later
with_lexeme (Some kind.QuotedName) text rest qs is later blob = with_token kind.QuotedName text rest qs (λ e. cc) (literal_parts 34 text rest (inl refl) is) later
with_lexeme (Some kind.Text) text rest qs is later blob = with_token kind.Text text rest qs (λ e. cc) (literal_parts 39 text rest (inr refl) is) later
with_lexeme (Some kind.LeftParen) text rest qs is later blob = with_token kind.LeftParen text rest qs (λ e. cc) (other_sign 40 text rest refl refl is) later
with_lexeme (Some kind.RightParen) text rest qs is later blob = with_token kind.RightParen text rest qs (λ e. cc) (other_sign 41 text rest refl refl is) later
with_lexeme (Some kind.Comma) text rest qs is later blob = with_token kind.Comma text rest qs (λ e. cc) (other_sign 44 text rest refl refl is) later
with_lexeme (Some kind.Dot) text rest qs is later blob = with_token kind.Dot text rest qs (λ e. cc) (other_sign 46 text rest refl refl is) later
with_lexeme (Some kind.Plus) text rest qs is later blob = with_token kind.Plus text rest qs (λ e. cc) (other_sign 43 text rest refl refl is) later
with_lexeme (Some kind.Minus) text rest qs is later blob = with_token kind.Minus text rest qs (λ e. cc) (one_sign 45 text rest is.0 (minus_is_plain rest is.1)) later
with_lexeme (Some kind.Star) text rest qs is later blob = with_token kind.Star text rest qs (λ e. cc) (other_sign 42 text rest refl refl is) later
with_lexeme (Some kind.Slash) text rest qs is later blob = with_token kind.Slash text rest qs (λ e. cc) (one_sign 47 text rest is.0 (slash_is_plain rest is.1)) later
with_lexeme (Some kind.Percent) text rest qs is later blob = with_token kind.Percent text rest qs (λ e. cc) (other_sign 37 text rest refl refl is) later
with_lexeme (Some kind.Equal) text rest qs is later blob = with_token kind.Equal text rest qs (λ e. cc) (other_sign 61 text rest refl refl is.0) later
with_lexeme (Some kind.DoubleEqual) text rest qs is later blob = with_token kind.DoubleEqual text rest qs (λ e. cc) (two_signs 61 61 text rest (refl, refl) (refl, refl) is) later
with_lexeme (Some kind.Less) text rest qs is later blob = with_token kind.Less text rest qs (λ e. cc) (other_sign 60 text rest refl refl is.0) later
with_lexeme (Some kind.LessEqual) text rest qs is later blob = with_token kind.LessEqual text rest qs (λ e. cc) (two_signs 60 61 text rest (refl, refl) (refl, refl) is) later
with_lexeme (Some kind.Greater) text rest qs is later blob = with_token kind.Greater text rest qs (λ e. cc) (other_sign 62 text rest refl refl is.0) later
with_lexeme (Some kind.GreaterEqual) text rest qs is later blob = with_token kind.GreaterEqual text rest qs (λ e. cc) (two_signs 62 61 text rest (refl, refl) (refl, refl) is) later
with_lexeme (Some kind.LessGreater) text rest qs is later blob = with_token kind.LessGreater text rest qs (λ e. cc) (two_signs 60 62 text rest (refl, refl) (refl, refl) is) later
with_lexeme (Some kind.NotEqual) text rest qs is later blob = with_token kind.NotEqual text rest qs (λ e. cc) (two_signs 33 61 text rest (refl, refl) (refl, refl) is) later
with_lexeme (Some kind.DoubleBar) text rest qs is later blob = with_token kind.DoubleBar text rest qs (λ e. cc) (two_signs 124 124 text rest (refl, refl) (refl, refl) is) later

-- the lexeme that begins with `'` is a text
text_of_quote : (o : Option (List ℕ)) (k : Option TokenKind) (rest : List ℕ) → closed_by kind.Text o ≡ Some (k, rest) → k ≡ Some kind.Text
text_of_quote None k rest e = cc
text_of_quote (Some r) k rest e =
    let pair : ◌≡◌ {A = Option TokenKind × List ℕ} (k, rest) (Some kind.Text, r) = cc in
    ap (λ p. p.0) pair

quote_is_text : (k : Option TokenKind) (text rest more : List ℕ) → IsTokenOrBlank k text rest → text ++ rest ≡ 39 ∷ more → k ≡ Some kind.Text
quote_is_text k text rest more is e =
    text_of_quote (after_quote 39 false more) k rest (sym (quote_39 more) ∙ ap first_lexeme (sym e) ∙ lexeme_found k text rest is)

-- a blob's digits in quotes, with no quote after them, are a literal
digits_quoted : (digits rest : List ℕ) → IsRun run.Blob digits → ¬ BeginsWith 39 rest → IsQuoted 39 (39 ∷ digits ++ 39 ∷ []) rest
digits_quoted digits rest is ne = (digits, ap (λ ds. 39 ∷ ds ++ 39 ∷ []) (sym (hex_undoubled digits is)), ne)

-- and so are they with a text that follows at once
digits_and_text : (digits text rest : List ℕ) → IsRun run.Blob digits → IsQuoted 39 text rest → IsQuoted 39 (39 ∷ digits ++ 39 ∷ text) rest
digits_and_text digits text rest is (inner, e, ne) = (
  digits ++ 39 ∷ inner,
  ap (λ t. 39 ∷ digits ++ 39 ∷ t) e
      ∙ ap (λ ds. 39 ∷ ds ++ (39 ∷ (39 ∷ doubled 39 inner ++ 39 ∷ []))) (sym (hex_undoubled digits is))
      ∙ sym (append_assoc (39 ∷ doubled 39 digits) (39 ∷ 39 ∷ doubled 39 inner) (39 ∷ []))
      ∙ ap (λ r. 39 ∷ r ++ 39 ∷ []) (sym (flat_map-append (λ b. if b == 39 then b ∷ b ∷ [] else b ∷ []) digits (39 ∷ inner))),
  ne,
)

-- lexemes after a blob that begin with a quote are a text and others, of which the text belongs to the blob's literal
text_after_blob : (text rest : List ℕ) (qs : List (Piece (Option TokenKind))) (digits : List ℕ) → IsRun run.Blob digits → IsQuoted 39 text rest → AreParts qs rest → AreAfterBlob (piece (Some kind.Text) text ∷ qs) (text ++ rest) digits
text_after_blob text rest qs digits is quoted later = record {
  parts = piece Statement (39 ∷ digits ++ 39 ∷ text) ∷ later.parts;
  front = (rest, ap (λ r. 39 ∷ r) (sym (append_assoc digits (39 ∷ text) rest)), inl (39, inr refl, inl (digits_and_text digits text rest is quoted)), later.front);
  unended = λ all. ((λ e. cc), later.unended all.1);
}

-- lexemes after a blob that begin with anything else leave its literal alone
others_after_blob : (qs : List (Piece (Option TokenKind))) (bytes digits : List ℕ) → IsRun run.Blob digits → ¬ BeginsWith 39 bytes → AreParts qs bytes → AreAfterBlob qs bytes digits
others_after_blob qs bytes digits is ne later = record {
  parts = piece Statement (39 ∷ digits ++ 39 ∷ []) ∷ later.parts;
  front = (bytes, ap (λ r. 39 ∷ r) (sym (append_assoc digits (39 ∷ []) bytes)), inl (39, inr refl, inl (digits_quoted digits bytes is ne)), later.front);
  unended = λ all. later.unended all.1;
}

-- bytes begin with a quote or not
quoted_or_not : (bytes : List ℕ) → ((more : List ℕ) × (bytes ≡ 39 ∷ more)) ⊎ (¬ BeginsWith 39 bytes)
quoted_or_not [] = inr (λ h. h)
quoted_or_not (b ∷ bytes) = by_test (b == 39) refl
  where
    by_test : (t : Bool) → (b == 39) ≡ t → ((more : List ℕ) × (b ∷ bytes ≡ 39 ∷ more)) ⊎ (¬ BeginsWith 39 (b ∷ bytes))
    by_test true e = inl (bytes, ap (λ x. x ∷ bytes) (eqb-true b 39 e))
    by_test false e = inr (λ same. false≢true (sym e ∙ eq-eqb b 39 same))

mutual
  pub lexemes_are_parts : (qs : List (Piece (Option TokenKind))) (bytes : List ℕ) → Front IsTokenOrBlank qs bytes [] → AreParts qs bytes
  lexemes_are_parts [] bytes front = record { parts = []; front = front; unended = λ all. tt; first = λ is. absurd is }
  lexemes_are_parts (q ∷ qs) bytes front =
      subst (λ bs. AreParts (q ∷ qs) bs) (sym front.1)
      (with_lexeme q.kind q.text front.0 qs front.2 (lexemes_are_parts qs front.0 front.3) (λ digits is. after_blob qs front.0 digits is front.3))

  after_blob : (qs : List (Piece (Option TokenKind))) (bytes digits : List ℕ) → IsRun run.Blob digits → Front IsTokenOrBlank qs bytes [] → AreAfterBlob qs bytes digits
  after_blob [] bytes digits is front =
      others_after_blob [] bytes digits is (subst (λ bs. ¬ BeginsWith 39 bs) (sym front) (λ h. h)) (record { parts = []; front = front; unended = λ all. tt; first = λ first. absurd first })
  after_blob (q ∷ qs) bytes digits is front = elim (quoted_or_not bytes) [
    | inl quote ↦
        let text : q.kind ≡ Some kind.Text = quote_is_text q.kind q.text front.0 quote.0 front.2 (sym front.1 ∙ quote.1) in
        let quoted : IsQuoted 39 q.text front.0 = subst (λ k. IsTokenOrBlank k q.text front.0) text front.2 in
        subst (λ k. AreAfterBlob (record { kind = k; text = q.text } ∷ qs) bytes digits) (sym text)
        (subst (λ bs. AreAfterBlob (piece (Some kind.Text) q.text ∷ qs) bs digits) (sym front.1)
        (text_after_blob q.text front.0 qs digits is quoted (lexemes_are_parts qs front.0 front.3)))
    | inr other ↦
        others_after_blob (q ∷ qs) bytes digits is other
        (subst (λ bs. AreParts (q ∷ qs) bs) (sym front.1)
        (with_lexeme q.kind q.text front.0 qs front.2 (lexemes_are_parts qs front.0 front.3) (λ more are. after_blob qs front.0 more are front.3)))
  ]
