-- A function that finds the part at the front, and that it finds what the definitions say.
use Rattle.std.proofs.Common.{◌≡◌, ◌∙◌, ◌==◌, ◌&&◌, if◌then◌else◌, true, false, ℕ, List, [], ◌∷◌, ◌++◌, drop, Option, None, Some, inl, inr, refl, sym, ap, append_assoc}
use Rattle.std.proofs.lemmas.Bool.{eqb-true, false_from_ne_true}
use Rattle.std.proofs.lemmas.List.{append-nil}
use Rattle.hc_lex.specs.declared.character.Class.{Class}
use Rattle.hc_lex.specs.declared.character.Class.TheVariants.{Space, Letter, Digit, Dollar, Quote, Sign, Other}
use Rattle.hc_lex.specs.declared.character.Run.TheVariants.{Line}
use Rattle.hc_lex.specs.declared.part.Part.{Part}
use Rattle.hc_lex.specs.declared.part.Part.TheVariants.{Blank, Statement, Separator}
use Rattle.hc_lex.specs.Blanks.{IsBlank}
use Rattle.hc_lex.specs.Characters.{BeginsWith, class_of}
use Rattle.hc_text.specs.Quotes.{doubled}
use Rattle.hc_lex.specs.Quotes.{IsQuote}
use Rattle.hc_lex.specs.Statements.{IsLiteral, IsPart, IsPlain}
use Rattle.hc_lex.proofs.Classes.{quote_class}
use Rattle.hc_lex.proofs.Scans.{after_close, after_close-closed, after_close-open, after_quote, after_quote-closed, after_quote-open, after_run, after_run-run, begins_byte, begins_is, both, not_equal}

-- the kind of a part, with what follows it, or nothing
abbrev pub Found : Type 0
Found = Option (Part × List ℕ)

-- a part of a statement, to the closing quote or the end
abbrev pub literal_in : Option (List ℕ) → Found
literal_in None = Some (Statement, [])
literal_in (Some rest) = Some (Statement, rest)

-- the part at a sign: the end of a statement, a comment, or a byte of one
abbrev pub sign_part : ℕ → List ℕ → Found
sign_part b bytes =
    if b == 59 then Some (Separator, bytes)
    else (if b == 45 && begins_byte 45 bytes then Some (Blank, after_run Line (drop 1 bytes))
    else (if b == 47 && begins_byte 42 bytes then Some (Blank, after_close (drop 1 bytes))
    else Some (Statement, bytes)))

-- the part that begins with a character of this class
abbrev pub part_in : Class → ℕ → List ℕ → Found
part_in Space b bytes = Some (Blank, bytes)
part_in Letter b bytes = Some (Statement, bytes)
part_in Digit b bytes = Some (Statement, bytes)
part_in Dollar b bytes = Some (Statement, bytes)
part_in Quote b bytes = literal_in (after_quote b false bytes)
part_in Sign b bytes = sign_part b bytes
part_in Other b bytes = Some (Statement, bytes)

-- the part at the front, or nothing
unfoldable pub first_part : List ℕ → Found
first_part [] = None
first_part (b ∷ bytes) = part_in (class_of b) b bytes

-- the part at the front is that of the first character's class
by_class : (b : ℕ) (bytes : List ℕ) (k : Class) → class_of b ≡ k → first_part (b ∷ bytes) ≡ part_in k b bytes
unfolding first_part
by_class b bytes k e = ap (λ c. part_in c b bytes) e

-- the part at a minus or a slash is that of the sign
sign_45 : (bytes : List ℕ) → first_part (45 ∷ bytes) ≡ sign_part 45 bytes
unfolding first_part class_of
sign_45 bytes = refl

sign_47 : (bytes : List ℕ) → first_part (47 ∷ bytes) ≡ sign_part 47 bytes
unfolding first_part class_of
sign_47 bytes = refl

-- a semicolon in front is found as the end of a statement
end_found : (rest : List ℕ) → first_part (59 ∷ rest) ≡ Some (Separator, rest)
unfolding first_part class_of
end_found rest = refl

-- the part at a quote is the literal that it begins
quote_found : (quote : ℕ) (bytes : List ℕ) → IsQuote quote → first_part (quote ∷ bytes) ≡ literal_in (after_quote quote false bytes)
unfolding first_part class_of
quote_found quote bytes (inl e) = ap (λ q. first_part (q ∷ bytes)) e ∙ ap (λ q. literal_in (after_quote q false bytes)) (sym e)
quote_found quote bytes (inr e) = ap (λ q. first_part (q ∷ bytes)) e ∙ ap (λ q. literal_in (after_quote q false bytes)) (sym e)

-- a space and a comment in front are found as such
blank_found : (text rest : List ℕ) → IsBlank text rest → first_part (text ++ rest) ≡ Some (Blank, rest)
blank_found text rest (inl (b, is, e)) = ap (λ t. first_part (t ++ rest)) e ∙ by_class b rest Space is
blank_found text rest (inr (inl (inner, e, is, ends))) =
    ap (λ t. first_part (t ++ rest)) e ∙ sign_45 (45 ∷ inner ++ rest) ∙ ap (λ r. Some (Blank, r)) (after_run-run Line inner rest is ends)
blank_found text rest (inr (inr (inner, none, inl e))) =
    ap (λ t. first_part (t ++ rest)) e ∙ sign_47 (42 ∷ (inner ++ 42 ∷ 47 ∷ []) ++ rest)
    ∙ ap (λ r. Some (Blank, after_close r)) (append_assoc inner (42 ∷ 47 ∷ []) rest) ∙ ap (λ r. Some (Blank, r)) (after_close-closed inner rest none)
blank_found text rest (inr (inr (inner, none, inr (e, ends)))) =
    ap (λ t. first_part (t ++ rest)) e ∙ ap (λ r. first_part (47 ∷ 42 ∷ inner ++ r)) ends ∙ ap (λ r. first_part (47 ∷ 42 ∷ r)) (append-nil inner)
    ∙ sign_47 (42 ∷ inner) ∙ ap (λ r. Some (Blank, r)) (after_close-open inner none ∙ sym ends)

-- a literal in front is found as a part of a statement
literal_found : (text rest : List ℕ) → IsLiteral text rest → first_part (text ++ rest) ≡ Some (Statement, rest)
literal_found text rest (quote, is, inl (inner, e, ne)) =
    ap (λ t. first_part (t ++ rest)) e
    ∙ quote_found quote ((doubled quote inner ++ quote ∷ []) ++ rest) is
    ∙ ap (λ bytes. literal_in (after_quote quote false bytes)) (append_assoc (doubled quote inner) (quote ∷ []) rest)
    ∙ ap literal_in (after_quote-closed quote inner rest ne)
literal_found text rest (quote, is, inr ((inner, e), ends)) =
    ap (λ t. first_part (t ++ rest)) e ∙ ap (λ r. first_part (quote ∷ doubled quote inner ++ r)) ends ∙ ap (λ r. first_part (quote ∷ r)) (append-nil (doubled quote inner))
    ∙ quote_found quote (doubled quote inner) is ∙ ap literal_in (after_quote-open quote inner) ∙ ap (λ r. Some (Statement, r)) (sym ends)

-- where two bytes do not begin here, the test of them fails
no_pair : (b one two : ℕ) (bytes : List ℕ) → ¬ ((b ≡ one) × BeginsWith two bytes) → (b == one && begins_byte two bytes) ≡ false
no_pair b one two bytes ne =
    false_from_ne_true (b == one && begins_byte two bytes)
    (λ e. let each : ((b == one) ≡ true) × (begins_byte two bytes ≡ true) = both (b == one) (begins_byte two bytes) e in ne (eqb-true b one each.0, begins_is two bytes each.1))

-- a plain byte, where it is a sign, is found as a part of a statement
plain_sign : (b : ℕ) (rest : List ℕ) → IsPlain b rest → sign_part b rest ≡ Some (Statement, rest)
plain_sign b rest plain =
    ap (λ t. if t then Some (Separator, rest) else (if b == 45 && begins_byte 45 rest then Some (Blank, after_run Line (drop 1 rest)) else (if b == 47 && begins_byte 42 rest then Some (Blank, after_close (drop 1 rest)) else Some (Statement, rest))))
    (not_equal b 59 plain.2)
    ∙ ap (λ t. if t then Some (Blank, after_run Line (drop 1 rest)) else (if b == 47 && begins_byte 42 rest then Some (Blank, after_close (drop 1 rest)) else Some (Statement, rest))) (no_pair b 45 45 rest plain.0.1)
    ∙ ap (λ t. if t then Some (Blank, after_close (drop 1 rest)) else Some (Statement, rest)) (no_pair b 47 42 rest plain.0.2)

plain_in : (b : ℕ) (rest : List ℕ) (k : Class) → class_of b ≡ k → IsPlain b rest → part_in k b rest ≡ Some (Statement, rest)
plain_in b rest Space e plain = absurd (plain.0.0 e)
plain_in b rest Letter e plain = refl
plain_in b rest Digit e plain = refl
plain_in b rest Dollar e plain = refl
plain_in b rest Quote e plain = absurd (plain.1 (quote_class b e))
plain_in b rest Sign e plain = plain_sign b rest plain
plain_in b rest Other e plain = refl

-- a plain byte in front is found as a part of a statement
plain_found : (b : ℕ) (rest : List ℕ) → IsPlain b rest → first_part (b ∷ rest) ≡ Some (Statement, rest)
unfolding first_part
plain_found b rest plain = plain_in b rest (class_of b) refl plain

-- each part in front is the one that is found
pub part_found : (k : Part) (text rest : List ℕ) → IsPart k text rest → first_part (text ++ rest) ≡ Some (k, rest)
part_found Blank text rest is = blank_found text rest is
part_found Statement text rest (inl literal) = literal_found text rest literal
part_found Statement text rest (inr (b, e, plain)) = ap (λ t. first_part (t ++ rest)) e ∙ plain_found b rest plain
part_found Separator text rest is = ap (λ t. first_part (t ++ rest)) is ∙ end_found rest

-- where the text ends, no part is found
pub no_part_at_end : first_part [] ≡ None
unfolding first_part
no_part_at_end = refl
