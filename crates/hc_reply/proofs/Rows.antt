-- A row, read value by value.
use Rattle.std.proofs.Common.{◌≡◌, ◌≢◌, ◌∙◌, ap, ℕ, ◌<◌, inl, inr, Bool, true, false, List, [], ◌∷◌, ◌++◌, length, flat_map, refl, sym, subst, append_assoc, arith}
use Rattle.std.proofs.lemmas.Grind.{flat_map-append}
use Rattle.std.proofs.lemmas.List.{append-nil, length-append}
use Rattle.hc_value.specs.declared.value.Value.{Value}
use Rattle.hc_value.specs.declared.value.Value.TheVariants.{Null, Int, Text, Blob}
use Rattle.std.specs.List.{AllByRecursion}
use Rattle.hc_transcript.specs.Literals.{value_text, values_text, IsPrintable}
use Rattle.hc_transcript.specs.Fields.{Values, IsContent}
use Rattle.hc_reply.specs.Fields.{content_end}
use Rattle.hc_reply.specs.Rows.{separator, NoSeparator}
use Rattle.hc_reply.specs.Mismatches.{EndsValue, EndsAfter, SameFirst, Anything, IsMismatch}
use Rattle.hc_reply.proofs.FirstBytes.{IsPrefixFree, IsToldByFirst, same_ends}
use Rattle.hc_reply.proofs.Values.{value_free}

-- values of which each has a bar after it
abbrev pub before_bars : List Value → List ℕ
before_bars values = flat_map (λ v. value_text v ++ 124 ∷ []) values

-- at least one value, and each printable
abbrev IsRow : List Value → Type 0
IsRow values = IsContent Values values

-- the values, and the line's end
abbrev row_end : List Value → List ℕ
row_end values = content_end Values values

-- each can be printed
abbrev pub ArePrintable : List Value → Type 0
ArePrintable values = AllByRecursion IsPrintable values

-- what may come after a value: a separator
pub ends_value : (b : Bool) (r : List ℕ) → EndsValue (separator b ∷ r)
ends_value true r = (inl (omega arith), λ e. omega (arith, e))
ends_value false r = (inr (omega arith), λ e. omega (arith, e))

-- a separator may come after each value
ends_after : (v : Value) (b : Bool) (r : List ℕ) → EndsAfter v (separator b ∷ r)
ends_after Null b r = tt
ends_after (Int n) b r = (ends_value b r).0
ends_after (Text text) b r = (ends_value b r).1
ends_after (Blob bytes) b r = tt

-- printable values with one more after them are printable
pub printable_more : (values : List Value) (v : Value) → ArePrintable values → IsPrintable v → ArePrintable (values ++ v ∷ [])
printable_more [] v are is = (is, tt)
printable_more (w ∷ values) v are is = (are.0, printable_more values v are.1 is)

-- with one value more, there is one
some_value : (values : List Value) (v : Value) → values ++ v ∷ [] ≢ []
some_value [] v e = cc
some_value (w ∷ values) v e = cc

-- printable values with one more after them are a row
pub row_more : (values : List Value) (v : Value) → ArePrintable values → IsPrintable v → IsRow (values ++ v ∷ [])
row_more values v are is = (some_value values v, printable_more values v are is)

-- the text of a row, by its first value
row_cons : (v w : Value) (values : List Value) → row_end (v ∷ w ∷ values) ≡ value_text v ++ 124 ∷ row_end (w ∷ values)
row_cons v w values = append_assoc (value_text v) (124 ∷ values_text (w ∷ values)) (10 ∷ [])

-- the text of a row, by its last one
row_last : (values : List Value) (v : Value) → row_end (values ++ v ∷ []) ≡ before_bars values ++ (value_text v ++ 10 ∷ [])
row_last [] v = refl
row_last (w ∷ values) v =
    first values
    ∙ ap (λ (l : List ℕ). value_text w ++ 124 ∷ l) (row_last values v)
    ∙ sym (append_assoc (value_text w) (124 ∷ []) (before_bars values ++ (value_text v ++ 10 ∷ [])))
    ∙ sym (append_assoc (value_text w ++ 124 ∷ []) (before_bars values) (value_text v ++ 10 ∷ []))
  where
    first : (us : List Value) → row_end (w ∷ (us ++ v ∷ [])) ≡ value_text w ++ 124 ∷ row_end (us ++ v ∷ [])
    first [] = row_cons w v []
    first (u ∷ us) = row_cons w u (us ++ v ∷ [])

-- one value more, with its bar
before_bars_more : (values : List Value) (v : Value) → before_bars (values ++ v ∷ []) ≡ before_bars values ++ (value_text v ++ 124 ∷ [])
before_bars_more values v =
    flat_map-append (λ w. value_text w ++ 124 ∷ []) values (v ∷ []) ∙ ap (λ (l : List ℕ). before_bars values ++ l) (append-nil (value_text v ++ 124 ∷ []))

-- with one value more and the line's end, the bytes begin with the whole row
pub written_last : (bytes rest following left : List ℕ) (values : List Value) (v : Value) → bytes ≡ before_bars values ++ rest → rest ≡ value_text v ++ following → following ≡ 10 ∷ left
    → bytes ≡ row_end (values ++ v ∷ []) ++ left
written_last bytes rest following left values v all there end =
    all ∙ ap (λ (l : List ℕ). before_bars values ++ l) (there ∙ ap (λ (l : List ℕ). value_text v ++ l) end ∙ sym (append_assoc (value_text v) (10 ∷ []) left))
    ∙ sym (append_assoc (before_bars values) (value_text v ++ 10 ∷ []) left) ∙ ap (λ (l : List ℕ). l ++ left) (sym (row_last values v))

-- with one value more and a bar, the bytes begin with these values and their bars
pub written_more : (bytes rest following left : List ℕ) (values : List Value) (v : Value) → bytes ≡ before_bars values ++ rest → rest ≡ value_text v ++ following → following ≡ 124 ∷ left
    → bytes ≡ before_bars (values ++ v ∷ []) ++ left
written_more bytes rest following left values v all there end =
    all ∙ ap (λ (l : List ℕ). before_bars values ++ l) (there ∙ ap (λ (l : List ℕ). value_text v ++ l) end ∙ sym (append_assoc (value_text v) (124 ∷ []) left))
    ∙ sym (append_assoc (before_bars values) (value_text v ++ 124 ∷ []) left) ∙ ap (λ (l : List ℕ). l ++ left) (sym (before_bars_more values v))

-- ---- what goes on with the values so far

-- the row goes on after the values so far with others, whose text and what is after it are y
abbrev After : List Value → List Value → List ℕ → List ℕ → Type 0
After values w following y = (u : List Value) × (w ≡ values ++ u) × IsRow u × (row_end u ++ following ≡ y)

-- a row's first value, its separator, and what is after
abbrev FirstOf : List Value → List ℕ → Type 0
FirstOf w following = (v : Value) × (b : Bool) × (more : List ℕ) × IsPrintable v × (row_end w ++ following ≡ value_text v ++ separator b ∷ more)

-- each row has a first value and its separator
first_of : (w : List Value) (following : List ℕ) → IsRow w → FirstOf w following
first_of [] following is = absurd (is.0 refl)
first_of (v ∷ []) following is = (v, true, following, is.1.0, append_assoc (value_text v) (10 ∷ []) following)
first_of (v ∷ w ∷ values) following is =
    (v, false, row_end (w ∷ values) ++ following, is.1.0, ap (λ (l : List ℕ). l ++ following) (row_cons v w values) ∙ append_assoc (value_text v) (124 ∷ row_end (w ∷ values)) following)

-- values with bars after them, by the first
before_bars_cons : (x : Value) (values : List Value) (y : List ℕ) → before_bars (x ∷ values) ++ y ≡ value_text x ++ 124 ∷ (before_bars values ++ y)
before_bars_cons x values y = append_assoc (value_text x ++ 124 ∷ []) (before_bars values) y ∙ append_assoc (value_text x) (124 ∷ []) (before_bars values ++ y)

-- a row whose text begins with these values and their bars begins with these values
pub rows_after : (values w : List Value) (following y : List ℕ) → ArePrintable values → IsRow w → row_end w ++ following ≡ before_bars values ++ y → After values w following y
rows_after [] w following y are is e = (w, refl, is, e)
rows_after (x ∷ values) [] following y are is e = absurd (is.0 refl)
rows_after (x ∷ values) (v ∷ []) following y are is e =
    let same : value_text v ++ 10 ∷ following ≡ value_text x ++ 124 ∷ (before_bars values ++ y) = sym (append_assoc (value_text v) (10 ∷ []) following) ∙ e ∙ before_bars_cons x values y in
    let both = value_free v x (10 ∷ following) (124 ∷ (before_bars values ++ y)) is.1.0 are.0 (ends_after v true following) (ends_after x false (before_bars values ++ y)) same in
    absurd (let bad : ◌≡◌ {A = ℕ} 10 124 = (let h = both.1 in cc) in omega (arith, bad))
rows_after (x ∷ values) (v ∷ w ∷ ws) following y are is e =
    let same : value_text v ++ 124 ∷ (row_end (w ∷ ws) ++ following) ≡ value_text x ++ 124 ∷ (before_bars values ++ y) =
    sym (append_assoc (value_text v) (124 ∷ row_end (w ∷ ws)) following) ∙ ap (λ (l : List ℕ). l ++ following) (sym (row_cons v w ws)) ∙ e ∙ before_bars_cons x values y in
    let both = value_free v x (124 ∷ (row_end (w ∷ ws) ++ following)) (124 ∷ (before_bars values ++ y)) is.1.0 are.0 (ends_after v false (row_end (w ∷ ws) ++ following)) (ends_after x false (before_bars values ++ y)) same in
    let rest : row_end (w ∷ ws) ++ following ≡ before_bars values ++ y = (let h = both.1 in cc) in
    let more = rows_after values (w ∷ ws) following y are.1 ((λ bad. cc), is.1.1) rest in
    (more.0, (λ i. both.0 i ∷ more.1 i), more.2, more.3)

-- ----s

-- a mismatch in a row
abbrev Mismatched : List ℕ → List ℕ → Type 0
Mismatched bytes rest = IsMismatch Anything IsRow row_end bytes rest

-- a mismatch in a value is a mismatch in the row
pub mismatch_in_value : (values : List Value) (bytes rest stop : List ℕ) → ArePrintable values → bytes ≡ before_bars values ++ rest → IsMismatch EndsValue IsPrintable value_text rest stop → Mismatched bytes stop
mismatch_in_value values bytes rest stop are all s = record {
  before = before_bars values ++ s.before;
  splits = all ∙ ap (λ (l : List ℕ). before_bars values ++ l) s.splits ∙ sym (append_assoc (before_bars values) s.before stop);
  value = values ++ s.value ∷ [];
  more = s.more ++ 10 ∷ [];
  has = row_more values s.value are s.has;
  begins = row_last values s.value ∙ ap (λ (l : List ℕ). before_bars values ++ (l ++ 10 ∷ [])) s.begins
      ∙ ap (λ (l : List ℕ). before_bars values ++ l) (append_assoc s.before s.more (10 ∷ [])) ∙ sym (append_assoc (before_bars values) s.before (s.more ++ 10 ∷ []));
  none = λ w following other is any same e.
      let b = rows_after values w following (s.before ++ other) are is (e ∙ append_assoc (before_bars values) s.before other) in
      let f = first_of b.0 following b.2 in
      s.none f.0 (separator f.1 ∷ f.2) other f.3 (ends_value f.1 f.2) same (sym f.4 ∙ b.3);
}

-- where no separator is, none is in what begins with the same byte
no_separator_there : (rest other : List ℕ) → SameFirst rest other → NoSeparator rest → NoSeparator other
no_separator_there = same_ends NoSeparator (λ b rest other none. none)

-- whether bytes may follow a value is told by the first of them
ends_told : (v : Value) → IsToldByFirst (EndsAfter v)
ends_told Null b rest other ends = tt
ends_told (Int n) b rest other ends = ends
ends_told (Text text) b rest other ends = ends
ends_told (Blob bytes) b rest other ends = tt

-- bytes without a separator in front do not begin with one
separates : (b : Bool) (more other : List ℕ) → NoSeparator other → separator b ∷ more ≡ other → ⊥
separates true more other none e = (subst NoSeparator (sym e) none).0 refl
separates false more other none e = (subst NoSeparator (sym e) none).1 refl

-- a mismatch after a value, where no separator is
pub mismatch_at_separator : (values : List Value) (v : Value) (bytes rest stop : List ℕ) → ArePrintable values → IsPrintable v → bytes ≡ before_bars values ++ rest → rest ≡ value_text v ++ stop
    → EndsAfter v stop → NoSeparator stop → Mismatched bytes stop
mismatch_at_separator values v bytes rest stop are is all there ends none = record {
  before = before_bars values ++ value_text v;
  splits = all ∙ ap (λ (l : List ℕ). before_bars values ++ l) there ∙ sym (append_assoc (before_bars values) (value_text v) stop);
  value = values ++ v ∷ [];
  more = 10 ∷ [];
  has = row_more values v are is;
  begins = row_last values v ∙ sym (append_assoc (before_bars values) (value_text v) (10 ∷ []));
  none = λ w following other fits any same e.
      let b = rows_after values w following (value_text v ++ other) are fits (e ∙ append_assoc (before_bars values) (value_text v) other) in
      let f = first_of b.0 following b.2 in
      let both = value_free f.0 v (separator f.1 ∷ f.2) other f.3 is (ends_after f.0 f.1 f.2) (same_ends (EndsAfter v) (ends_told v) stop other same ends) (sym f.4 ∙ b.3) in
      separates f.1 f.2 other (no_separator_there stop other same none) both.1;
}

-- two rows at the front of the same bytes are the same
pub row_free : IsPrefixFree Anything IsRow row_end
unfolding first_of
row_free [] w r s p q any more e = absurd (p.0 refl)
row_free (x ∷ v) [] r s p q any more e = absurd (q.0 refl)
row_free (x ∷ []) (y ∷ []) r s p q any more e =
    let both = value_free x y (10 ∷ r) (10 ∷ s) p.1.0 q.1.0 (ends_after x true r) (ends_after y true s) (sym (append_assoc (value_text x) (10 ∷ []) r) ∙ e ∙ append_assoc (value_text y) (10 ∷ []) s) in
    (ap (λ (k : Value). k ∷ []) both.0, (let h = both.1 in cc))
row_free (x ∷ []) (y ∷ z ∷ w) r s p q any more e =
    let f = first_of (y ∷ z ∷ w) s q in
    let both = value_free x y (10 ∷ r) (124 ∷ (row_end (z ∷ w) ++ s)) p.1.0 q.1.0 (ends_after x true r) (ends_after y false (row_end (z ∷ w) ++ s)) (sym (append_assoc (value_text x) (10 ∷ []) r) ∙ e ∙ f.4) in
    absurd (let bad : ◌≡◌ {A = ℕ} 10 124 = (let h = both.1 in cc) in omega (arith, bad))
row_free (x ∷ z ∷ v) (y ∷ []) r s p q any more e =
    let f = first_of (x ∷ z ∷ v) r p in
    let both = value_free x y (124 ∷ (row_end (z ∷ v) ++ r)) (10 ∷ s) p.1.0 q.1.0 (ends_after x false (row_end (z ∷ v) ++ r)) (ends_after y true s) (sym f.4 ∙ e ∙ append_assoc (value_text y) (10 ∷ []) s) in
    absurd (let bad : ◌≡◌ {A = ℕ} 124 10 = (let h = both.1 in cc) in omega (arith, bad))
row_free (x ∷ z ∷ v) (y ∷ t ∷ w) r s p q any more e =
    let f = first_of (x ∷ z ∷ v) r p in
    let g = first_of (y ∷ t ∷ w) s q in
    let both = value_free x y (124 ∷ (row_end (z ∷ v) ++ r)) (124 ∷ (row_end (t ∷ w) ++ s)) p.1.0 q.1.0 (ends_after x false (row_end (z ∷ v) ++ r)) (ends_after y false (row_end (t ∷ w) ++ s)) (sym f.4 ∙ e ∙ g.4) in
    let rest : row_end (z ∷ v) ++ r ≡ row_end (t ∷ w) ++ s = (let h = both.1 in cc) in
    let others = row_free (z ∷ v) (t ∷ w) r s ((λ bad. cc), p.1.1) ((λ bad. cc), q.1.1) any more rest in
    ((λ i. both.0 i ∷ others.0 i), others.1)

-- what is left after a value and its separator is shorter
pub shorter : (rest following left : List ℕ) (v : Value) (b : Bool) → rest ≡ value_text v ++ following → following ≡ separator b ∷ left → length left < length rest
shorter rest following left v b there end = omega (arith, ap length there, length-append (value_text v) following, ap length end)
