-- A text in quotes, read up to its end or up to a fault.
use Rattle.std.proofs.Common.{◌≡◌, ◌≢◌, ◌∙◌, ap, ℕ, ◌<◌, ◌⊎◌, inl, inr, List, [], ◌∷◌, ◌++◌, length, refl, sym, subst, append_assoc, arith}
use Rattle.std.specs.Str.{IsUtf8}
use Rattle.std.proofs.lemmas.Bool.{cases_eq}
use Rattle.std.proofs.lemmas.Str.{IsUtf8-nil}
use Rattle.std.proofs.lemmas.Grind.{flat_map-append}
use Rattle.std.proofs.lemmas.List.{append-nil, length-append, nil_from_length}
use Rattle.hc_text.specs.Quotes.{doubled_one, doubled}
use Rattle.hc_text.proofs.Doubled.{doubled_quote, doubled_other, doubled_more}
use Rattle.hc_text.specs.declared.utf8.Expected.{Expected}
use Rattle.hc_text.specs.declared.utf8.Expected.TheVariants.{Character}
use Rattle.hc_text.specs.Utf8.{Completes, IsOpen, IsNext, IsRefused, HasRead}
use Rattle.hc_text.proofs.Ends.{some_completes}
use Rattle.hc_transcript.specs.Literals.{text_literal}
use Rattle.hc_reply.specs.Mismatches.{NoQuote, SameFirst, IsMismatch}
use Rattle.hc_reply.proofs.FirstBytes.{IsPrefixFree, no_quote_there, same_byte}

-- a byte within quotes
abbrev pub twice : ℕ → List ℕ
twice b = doubled_one 39 b

-- no byte within quotes begins another
twice_free : (x o : ℕ) (r s : List ℕ) → twice x ++ r ≡ twice o ++ s → (x ≡ o) × (r ≡ s)
twice_free x o r s e = by (cases_eq x 39) (cases_eq o 39)
  where
    put : (l m : List ℕ) → twice x ≡ l → twice o ≡ m → l ++ r ≡ m ++ s
    put l m one two = ap (λ (k : List ℕ). k ++ r) (sym one) ∙ e ∙ ap (λ (k : List ℕ). k ++ s) two

    by : (x ≡ 39) ⊎ (x ≡ 39 → ⊥) → (o ≡ 39) ⊎ (o ≡ 39 → ⊥) → (x ≡ o) × (r ≡ s)
    by (inl is) (inl same) =
        let two : 39 ∷ 39 ∷ r ≡ 39 ∷ 39 ∷ s = put (39 ∷ 39 ∷ []) (39 ∷ 39 ∷ []) (doubled_quote 39 x is) (doubled_quote 39 o same) in
        let rest : r ≡ s = cc in
        (is ∙ sym same, rest)
    by (inl is) (inr other) =
        let mixed : 39 ∷ 39 ∷ r ≡ o ∷ s = put (39 ∷ 39 ∷ []) (o ∷ []) (doubled_quote 39 x is) (doubled_other 39 o other) in
        let bad : o ≡ 39 = cc in
        absurd (other bad)
    by (inr other) (inl is) =
        let mixed : x ∷ r ≡ 39 ∷ 39 ∷ s = put (x ∷ []) (39 ∷ 39 ∷ []) (doubled_other 39 x other) (doubled_quote 39 o is) in
        let bad : x ≡ 39 = cc in
        absurd (other bad)
    by (inr x_other) (inr o_other) =
        let one : x ∷ r ≡ o ∷ s = put (x ∷ []) (o ∷ []) (doubled_other 39 x x_other) (doubled_other 39 o o_other) in
        let first : x ≡ o = cc in
        let rest : r ≡ s = cc in
        (first, rest)

-- the text goes on after `out` with others: y is those within quotes, the quote, and what is after
abbrev After : List ℕ → List ℕ → List ℕ → List ℕ → Type 0
After out v following y = (d : List ℕ) × (v ≡ out ++ d) × (doubled 39 d ++ 39 ∷ following ≡ y)

-- what begins with the text so far goes on with it
pub goes_on_with : (out v following y : List ℕ) → NoQuote following → doubled 39 v ++ 39 ∷ following ≡ doubled 39 out ++ y → After out v following y
goes_on_with [] v following y ends e = (v, refl, e)
goes_on_with (o ∷ out) [] following y ends e = by (cases_eq o 39)
  where
    all : 39 ∷ following ≡ twice o ++ (doubled 39 out ++ y)
    all = e ∙ append_assoc (twice o) (doubled 39 out) y

    by : (o ≡ 39) ⊎ (o ≡ 39 → ⊥) → After (o ∷ out) [] following y
    by (inl is) =
        let two : 39 ∷ following ≡ 39 ∷ 39 ∷ (doubled 39 out ++ y) = all ∙ ap (λ (l : List ℕ). l ++ (doubled 39 out ++ y)) (doubled_quote 39 o is) in
        let rest : following ≡ 39 ∷ (doubled 39 out ++ y) = cc in
        absurd (subst NoQuote rest ends refl)
    by (inr other) =
        let one : 39 ∷ following ≡ o ∷ (doubled 39 out ++ y) = all ∙ ap (λ (l : List ℕ). l ++ (doubled 39 out ++ y)) (doubled_other 39 o other) in
        let is : o ≡ 39 = cc in
        absurd (other is)
goes_on_with (o ∷ out) (x ∷ v) following y ends e =
    let both = twice_free x o (doubled 39 v ++ 39 ∷ following) (doubled 39 out ++ y) (sym (append_assoc (twice x) (doubled 39 v) (39 ∷ following)) ∙ e ∙ append_assoc (twice o) (doubled 39 out) y) in
    let more = goes_on_with out v following y ends both.1 in
    (more.0, (λ i. both.0 i ∷ more.1 i), more.2)

-- what a text begins with after what was read: its quote, or a byte of it
begins_after : (P : Type 0) (d following : List ℕ) (b : ℕ) (o : List ℕ) → doubled 39 d ++ 39 ∷ following ≡ b ∷ o → (d ≡ [] → 39 ≡ b → following ≡ o → P) → ((x : List ℕ) → d ≡ b ∷ x → P) → P
begins_after P [] following b o e ends goes = let first : 39 ≡ b = cc in let rest : following ≡ o = cc in ends refl first rest
begins_after P (x ∷ d) following b o e ends goes = by (cases_eq x 39)
  where
    all : twice x ++ (doubled 39 d ++ 39 ∷ following) ≡ b ∷ o
    all = sym (append_assoc (twice x) (doubled 39 d) (39 ∷ following)) ∙ e

    by : (x ≡ 39) ⊎ (x ≡ 39 → ⊥) → P
    by (inl is) =
        let two : 39 ∷ 39 ∷ (doubled 39 d ++ 39 ∷ following) ≡ b ∷ o = ap (λ (l : List ℕ). l ++ (doubled 39 d ++ 39 ∷ following)) (sym (doubled_quote 39 x is)) ∙ all in
        let first : 39 ≡ b = cc in
        goes d (ap (λ (k : ℕ). k ∷ d) (is ∙ first))
    by (inr other) =
        let one : x ∷ (doubled 39 d ++ 39 ∷ following) ≡ b ∷ o = ap (λ (l : List ℕ). l ++ (doubled 39 d ++ 39 ∷ following)) (sym (doubled_other 39 x other)) ∙ all in
        let first : x ≡ b = cc in
        goes d (ap (λ (k : ℕ). k ∷ d) first)

-- a text in quotes and what is after it, by its quotes
literal_after : (v following : List ℕ) → text_literal v ++ following ≡ 39 ∷ (doubled 39 v ++ 39 ∷ following)
literal_after v following = ap (λ (l : List ℕ). 39 ∷ l) (append_assoc (doubled 39 v) (39 ∷ []) following)

-- no text in quotes begins another, where no quote follows
pub text_free : IsPrefixFree NoQuote IsUtf8 text_literal
text_free v w r s isv isw nr ns e =
    let inner : doubled 39 v ++ 39 ∷ r ≡ doubled 39 w ++ 39 ∷ s = let h : 39 ∷ (doubled 39 v ++ 39 ∷ r) ≡ 39 ∷ (doubled 39 w ++ 39 ∷ s) = sym (literal_after v r) ∙ e ∙ literal_after w s in cc in
    let more = goes_on_with w v r (39 ∷ s) nr inner in
    let less = goes_on_with v w s (39 ∷ r) ns (sym inner) in
    let none : more.0 ≡ [] = nil_from_length more.0 (omega (arith, ap length more.1, length-append w more.0, ap length less.1, length-append v less.0)) in
    let rest : r ≡ s = (let h : 39 ∷ r ≡ 39 ∷ s = ap (λ (d : List ℕ). doubled 39 d ++ 39 ∷ r) (sym none) ∙ more.2 in cc) in
    (more.1 ∙ ap (λ (d : List ℕ). w ++ d) none ∙ append-nil w, rest)

-- a mismatch in a text in quotes
abbrev Mismatched : List ℕ → List ℕ → Type 0
Mismatched bytes rest = IsMismatch NoQuote IsUtf8 text_literal bytes rest

-- a mismatch where no quote is
pub mismatch_without_quote : (bytes : List ℕ) → NoQuote bytes → Mismatched bytes bytes
mismatch_without_quote bytes none = record {
  before = [];
  splits = refl;
  value = [];
  more = text_literal [];
  has = IsUtf8-nil;
  begins = refl;
  none = λ v following other is ends same e. subst NoQuote (sym e) (no_quote_there bytes other same none) refl;
}

-- some text goes on from here
begun : (out : List ℕ) (e : Expected) → IsOpen e → HasRead Character out e → (v : List ℕ) × (more : List ℕ) × IsUtf8 v × (text_literal v ≡ (39 ∷ doubled 39 out) ++ more)
begun out e alive goes =
    let x = some_completes e alive in (
      out ++ x.0,
      doubled 39 x.0 ++ 39 ∷ [],
      (goes x.0).0 x.1,
      ap (λ (l : List ℕ). 39 ∷ (l ++ 39 ∷ [])) (flat_map-append twice out x.0) ∙ ap (λ (l : List ℕ). 39 ∷ l) (append_assoc (doubled 39 out) (doubled 39 x.0) (39 ∷ [])),
    )

-- a text that goes on after what was read
texts_after : (out v following other : List ℕ) → NoQuote following → text_literal v ++ following ≡ (39 ∷ doubled 39 out) ++ other → After out v following other
texts_after out v following other ends e =
    let inner : doubled 39 v ++ 39 ∷ following ≡ doubled 39 out ++ other = let h : 39 ∷ (doubled 39 v ++ 39 ∷ following) ≡ 39 ∷ (doubled 39 out ++ other) = sym (literal_after v following) ∙ e in cc in
    goes_on_with out v following other ends inner

-- a mismatch after what was read, where no text goes on
mismatch_there : (out bytes rest : List ℕ) (e : Expected) → IsOpen e → HasRead Character out e → bytes ≡ (39 ∷ doubled 39 out) ++ rest
    → ((v following other : List ℕ) → IsUtf8 v → SameFirst rest other → After out v following other → ⊥) → Mismatched bytes rest
mismatch_there out bytes rest e alive goes all none =
    let some = begun out e alive goes in
    record {
      before = 39 ∷ doubled 39 out;
      splits = all;
      value = some.0;
      more = some.1;
      has = some.2;
      begins = some.3;
      none = λ v following other is ends same h. none v following other is same (texts_after out v following other ends h);
    }

-- a mismatch at the end of the bytes, within the quotes
pub mismatch_at_end : (out bytes rest : List ℕ) (e : Expected) → IsOpen e → HasRead Character out e → bytes ≡ (39 ∷ doubled 39 out) ++ rest → rest ≡ [] → Mismatched bytes rest
mismatch_at_end out bytes rest e alive goes all nothing =
    mismatch_there out bytes rest e alive goes all (λ v following other is same more.
    nothing_there more.0 following other (subst (λ (l : List ℕ). SameFirst l other) nothing same) more.2)
  where
    nothing_there : (d following other : List ℕ) → SameFirst [] other → doubled 39 d ++ 39 ∷ following ≡ other → ⊥
    nothing_there d following (o ∷ other) same h = same
    nothing_there d following [] same h = omega (arith, ap length h, length-append (doubled 39 d) (39 ∷ following))

-- a byte that may not come
pub mismatch_at_byte : (out bytes rest after : List ℕ) (b : ℕ) (e : Expected) → IsOpen e → HasRead Character out e → bytes ≡ (39 ∷ doubled 39 out) ++ rest → rest ≡ b ∷ after
    → IsRefused e b → (b < 128 → Completes e [] → ⊥) → Mismatched bytes rest
mismatch_at_byte out bytes rest after b e alive goes all first refused closed =
    mismatch_there out bytes rest e alive goes all (λ v following other is same more.
    let o = same_byte b after other (subst (λ (l : List ℕ). SameFirst l other) first same) in
    begins_after ⊥ more.0 following b o.0 (more.2 ∙ o.1)
    (λ nothing quote rest. closed (omega (arith, quote)) ((goes []).1 (subst IsUtf8 (more.1 ∙ ap (λ (l : List ℕ). out ++ l) nothing) is)))
    (λ x byte. refused x ((goes (b ∷ x)).1 (subst IsUtf8 (more.1 ∙ ap (λ (l : List ℕ). out ++ l) byte) is))))

-- ---- one byte more, and the end

-- what makes a text after one byte more is told by what is expected next
pub goes_further : (out : List ℕ) (e n : Expected) (b : ℕ) → HasRead Character out e → IsNext e b n → HasRead Character (out ++ b ∷ []) n
goes_further out e n b goes next x =
    let same : (out ++ b ∷ []) ++ x ≡ out ++ b ∷ x = append_assoc out (b ∷ []) x in (
      λ h. subst IsUtf8 (sym same) ((goes (b ∷ x)).0 ((next.1 x).0 h)),
      λ h. (next.1 x).1 ((goes (b ∷ x)).1 (subst IsUtf8 same h)),
    )

-- with one byte more, or a quote twice, the text that was read is longer by it
pub written_further : (out bytes rest after left : List ℕ) (b : ℕ) → bytes ≡ (39 ∷ doubled 39 out) ++ rest → rest ≡ b ∷ after
    → ((b ≡ 39) × (after ≡ 39 ∷ left)) ⊎ ((b ≢ 39) × (after ≡ left)) → bytes ≡ (39 ∷ doubled 39 (out ++ b ∷ [])) ++ left
written_further out bytes rest after left b all first which = all ∙ ap (λ (l : List ℕ). (39 ∷ doubled 39 out) ++ l) (by which) ∙ more
  where
    by : ((b ≡ 39) × (after ≡ 39 ∷ left)) ⊎ ((b ≢ 39) × (after ≡ left)) → rest ≡ twice b ++ left
    by (inl quote) = first ∙ (λ i. quote.0 i ∷ quote.1 i) ∙ ap (λ (l : List ℕ). l ++ left) (sym (doubled_quote 39 b quote.0))
    by (inr other) = first ∙ ap (λ (l : List ℕ). b ∷ l) other.1 ∙ ap (λ (l : List ℕ). l ++ left) (sym (doubled_other 39 b other.0))

    more : (39 ∷ doubled 39 out) ++ (twice b ++ left) ≡ (39 ∷ doubled 39 (out ++ b ∷ [])) ++ left
    more = ap (λ (l : List ℕ). 39 ∷ l) (sym (append_assoc (doubled 39 out) (twice b) left) ∙ ap (λ (l : List ℕ). l ++ left) (sym (doubled_more 39 out b)))

-- where the last quote is, the bytes begin with the whole text in quotes
pub ended_here : (out bytes rest after : List ℕ) (b : ℕ) → bytes ≡ (39 ∷ doubled 39 out) ++ rest → rest ≡ b ∷ after → b ≡ 39 → bytes ≡ text_literal out ++ after
ended_here out bytes rest after b all first quote =
    all ∙ ap (λ (l : List ℕ). (39 ∷ doubled 39 out) ++ l) (first ∙ ap (λ (k : ℕ). k ∷ after) quote) ∙ sym (literal_after out after)

-- what was read is a text, where nothing has to come
pub text_so_far : (out : List ℕ) (e : Expected) → HasRead Character out e → Completes e [] → IsUtf8 out
text_so_far out e goes done = subst IsUtf8 (append-nil out) ((goes []).0 done)
