-- The digits of numbers: what begins with the digits of another, and where the digits end.
use Rattle.std.proofs.Common.{◌≡◌, ◌∙◌, ap, ℕ, zero, suc, ◌+◌, ◌*◌, ◌/◌, ◌%◌, ◌^◌, ◌<◌, ◌≤◌, ◌⊎◌, inl, inr, List, [], ◌∷◌, ◌++◌, length, refl, sym, subst, append_assoc, arith}
use Rattle.std.specs.Prelude.{decimal}
use Rattle.std.proofs.lemmas.List.{append-nil, length-append}
use Rattle.std.proofs.Math.ListN.{get_or}
use Rattle.std.proofs.lemmas.Bool.{cases_lt}
use Rattle.std.specs.Str.Parse.{digits_value_after, digits_value}
use Rattle.std.specs.Char.{digit_value}
use Rattle.std.proofs.lemmas.Fmt.{decimal_step, decimal_step_wide, decimal_digit, decimal_by_steps, decimal_injective, decimal_is_IsNumeral, decimal_is_IsNumeral_wide, decimal_nonempty, first_decimal}
use Rattle.hc_reply.specs.Mismatches.{NoDigit, SameFirst, IsMismatch}
use Rattle.hc_reply.proofs.FirstBytes.{IsPrefixFree, no_digit_there, same_byte}
use Rattle.hc_reply.specs.Numbers.{IsWithin, BeginsWith, SomeBegins, NoneBegins}

-- a byte from 48 to 57
abbrev IsDigit : ℕ → Type 0
IsDigit c = (48 ≤ c) × (c < 58)

-- each byte is a digit
abbrev pub AreDigits : List ℕ → Type 0
AreDigits [] = Unit {0}
AreDigits (c ∷ cs) = IsDigit c × AreDigits cs

-- digits with one more after them are digits
digits_more : (cs : List ℕ) (d : ℕ) → AreDigits cs → d < 10 → AreDigits (cs ++ (48 + d) ∷ [])
digits_more [] d are small = ((omega arith, omega arith), tt)
digits_more (c ∷ cs) d are small = (are.0, digits_more cs d are.1 small)

-- a number is written in digits
pub decimal_digits : (n : ℕ) → n < 2 ^ 64 → AreDigits (decimal n)
decimal_digits = decimal_by_steps (λ m ds. AreDigits ds) (λ m l. ((omega arith, omega arith), tt)) (λ m ds l h. digits_more ds (m % 10) h (omega arith))

-- ---- the end of digits

-- where no digit follows, the first byte is none
no_digit_first : (c : ℕ) (rest : List ℕ) → NoDigit (c ∷ rest) → IsDigit c → ⊥
no_digit_first c rest (inl low) is = omega (arith, is.0)
no_digit_first c rest (inr high) is = omega (arith, is.1)

-- digits that go on to a digit of the other side go on with it
pub covers : (xs following ds : List ℕ) (c : ℕ) (o : List ℕ) → AreDigits ds → IsDigit c → NoDigit following → xs ++ following ≡ ds ++ c ∷ o → (more : List ℕ) × (xs ≡ ds ++ c ∷ more)
covers [] following [] c o are is nd e = absurd (no_digit_first c o (subst NoDigit e nd) is)
covers [] following (d ∷ ds) c o are is nd e = absurd (no_digit_first d (ds ++ c ∷ o) (subst NoDigit e nd) are.0)
covers (x ∷ xs) following [] c o are is nd e = let first : x ≡ c = cc in (xs, ap (λ (k : ℕ). k ∷ xs) first)
covers (x ∷ xs) following (d ∷ ds) c o are is nd e =
    let first : x ≡ d = cc in
    let rest : xs ++ following ≡ ds ++ c ∷ o = cc in
    let more = covers xs following ds c o are.1 is nd rest in
    (more.0, (λ i. first i ∷ more.1 i))

-- digits end where no digit follows
pub same_digits : (xs ys r s : List ℕ) → AreDigits xs → AreDigits ys → NoDigit r → NoDigit s → xs ++ r ≡ ys ++ s → (xs ≡ ys) × (r ≡ s)
same_digits [] [] r s dx dy nr ns e = (refl, e)
same_digits [] (y ∷ ys) r s dx dy nr ns e = absurd (let c = covers [] r [] y (ys ++ s) tt dy.0 nr e in cc)
same_digits (x ∷ xs) [] r s dx dy nr ns e = absurd (let c = covers [] s [] x (xs ++ r) tt dx.0 ns (sym e) in cc)
same_digits (x ∷ xs) (y ∷ ys) r s dx dy nr ns e =
    let first : x ≡ y = cc in
    let rest : xs ++ r ≡ ys ++ s = cc in
    let more = same_digits xs ys r s dx.1 dy.1 nr ns rest in
    ((λ i. first i ∷ more.0 i), more.1)

-- ---- numbers that begin with the digits of another

-- lists that are the same with one element more each are the same
ends_alike : (xs ys : List ℕ) (a b : ℕ) → xs ++ a ∷ [] ≡ ys ++ b ∷ [] → xs ≡ ys
ends_alike [] [] a b e = refl
ends_alike [] (y ∷ ys) a b e = absurd (omega (arith, ap length e, length-append ys (b ∷ [])))
ends_alike (x ∷ xs) [] a b e = absurd (omega (arith, ap length e, length-append xs (a ∷ [])))
ends_alike (x ∷ xs) (y ∷ ys) a b e =
    let first : x ≡ y = cc in
    let rest : xs ++ a ∷ [] ≡ ys ++ b ∷ [] = cc in
    λ i. first i ∷ ends_alike xs ys a b rest i

-- a list is empty or has a last element
last_of : (xs : List ℕ) → (xs ≡ []) ⊎ ((front : List ℕ) × (a : ℕ) × (xs ≡ front ++ a ∷ []))
last_of [] = inl refl
last_of (x ∷ xs) = by (last_of xs)
  where
    by : (xs ≡ []) ⊎ ((front : List ℕ) × (a : ℕ) × (xs ≡ front ++ a ∷ [])) → (x ∷ xs ≡ []) ⊎ ((front : List ℕ) × (a : ℕ) × (x ∷ xs ≡ front ++ a ∷ []))
    by (inl none) = inr ([], x, ap (λ (l : List ℕ). x ∷ l) none)
    by (inr some) = inr (x ∷ some.0, some.1, ap (λ (l : List ℕ). x ∷ l) some.2)

-- the digits of a number above m that begin with those of m do so without their last one
pub shorter_begins : (n m : ℕ) → n < 2 ^ 64 → m < n → 10 ≤ n → BeginsWith n m → BeginsWith (n / 10) m
shorter_begins n m small above ten begins = by (last_of begins.0)
  where
    by : (begins.0 ≡ []) ⊎ ((front : List ℕ) × (a : ℕ) × (begins.0 ≡ front ++ a ∷ [])) → BeginsWith (n / 10) m
    by (inl none) =
        let same : decimal n ≡ decimal m = begins.1 ∙ ap (λ (l : List ℕ). decimal m ++ l) none ∙ append-nil (decimal m) in
        absurd (omega (arith, decimal_injective n m small (omega arith) same))
    by (inr some) = (
      some.0,
      ends_alike (decimal (n / 10)) (decimal m ++ some.0) (48 + n % 10) some.1
          (sym (decimal_step n ten small) ∙ begins.1 ∙ ap (λ (l : List ℕ). decimal m ++ l) some.2 ∙ sym (append_assoc (decimal m) some.0 (some.1 ∷ []))),
    )

-- the value of digits after others, by the value of those
value_after : (a : ℕ) (xs ys : List ℕ) → digits_value_after 10 a (xs ++ ys) ≡ digits_value_after 10 (digits_value_after 10 a xs) ys
value_after a [] ys = refl
value_after a (x ∷ xs) ys = value_after (a * 10 + digit_value x) xs ys

-- digits after a number make it no less
value_grows : (n : ℕ) (ds : List ℕ) → n ≤ digits_value_after 10 n ds
value_grows n [] = omega arith
value_grows n (c ∷ cs) = omega (arith, value_grows (n * 10 + digit_value c) cs)

-- a number that begins with the digits of m is no less than m
pub begins_above : (n m : ℕ) → n < 2 ^ 64 → m < 10 ^ 64 → BeginsWith n m → m ≤ n
begins_above n m small wide begins =
    let whole : n ≡ digits_value_after 10 m begins.0 =
    sym (decimal_is_IsNumeral n small).1 ∙ ap (digits_value 10) begins.1 ∙ value_after 0 (decimal m) begins.0
    ∙ ap (λ (k : ℕ). digits_value_after 10 k begins.0) (decimal_is_IsNumeral_wide m wide).1 in
    omega (arith, value_grows m begins.0)

-- a number begins with its own digits
begins_itself : (m : ℕ) → BeginsWith m m
begins_itself m = ([], sym (append-nil (decimal m)))

-- the first byte of a number is a digit
first_digit : (n c : ℕ) (more : List ℕ) → n < 2 ^ 64 → decimal n ≡ c ∷ more → IsDigit c
first_digit n c more small e = (subst AreDigits e (decimal_digits n small)).0

-- ---- whether some number of a range begins so

-- within the range, the number itself begins so
pub some_itself : (m low high : ℕ) → low ≤ m → m ≤ high → SomeBegins m low high
some_itself m low high above within = (m, (above, within), begins_itself m)

-- no number of the range begins with one above the range
pub none_above : (m low high : ℕ) → high < 2 ^ 64 → m < 10 ^ 64 → high < m → NoneBegins m low high
none_above m low high small wide above n is begins = omega (arith, is.1, begins_above n m (omega (arith, is.1)) wide begins)

-- no number above zero begins with a zero
pub none_with_zero : (low high : ℕ) → high < 2 ^ 64 → 0 < low → NoneBegins 0 low high
none_with_zero low high small above n is begins =
    let first : get_or (decimal n) 0 0 ≡ 48 = ap (λ (l : List ℕ). get_or l 0 0) (begins.1 ∙ ap (λ (l : List ℕ). l ++ begins.0) (decimal_digit 0 (omega arith))) in
    omega (arith, first, first_decimal n (omega (arith, is.0)) (omega (arith, is.1)))

-- where some number of the range without last digits begins so, some number of the range does
pub some_longer : (m low high : ℕ) → high < 2 ^ 64 → low ≤ high → 0 < m → m < 2 ^ 64 → SomeBegins m (low / 10) (high / 10) → SomeBegins m low high
some_longer m low high small le some fits shorter = by (cases_lt (shorter.0 * 10) low)
  where
    least : m ≤ shorter.0
    least = begins_above shorter.0 m (omega (arith, shorter.1.1)) (omega arith) shorter.2

    longer : (n : ℕ) → n / 10 ≡ shorter.0 → n ≤ high → BeginsWith n m
    longer n is within = (
      shorter.2.0 ++ (48 + n % 10) ∷ [],
      decimal_step n (omega (arith, least)) (omega arith)
          ∙ ap (λ (k : ℕ). decimal k ++ (48 + n % 10) ∷ []) is
          ∙ ap (λ (l : List ℕ). l ++ (48 + n % 10) ∷ []) shorter.2.1
          ∙ append_assoc (decimal m) shorter.2.0 ((48 + n % 10) ∷ []),
    )

    by : (shorter.0 * 10 < low) ⊎ (low ≤ shorter.0 * 10) → SomeBegins m low high
    by (inl below) = let is : low / 10 ≡ shorter.0 = omega (arith, shorter.1.0) in (low, (omega arith, le), longer low is le)
    by (inr above) =
        let is : shorter.0 * 10 / 10 ≡ shorter.0 = omega arith in
        let within : shorter.0 * 10 ≤ high = omega (arith, shorter.1.1) in
        (shorter.0 * 10, (above, within), longer (shorter.0 * 10) is within)

-- where no number of the range without last digits begins so, none of the range does, with m below it
pub none_longer : (m low high : ℕ) → high < 2 ^ 64 → m < low → NoneBegins m (low / 10) (high / 10) → NoneBegins m low high
none_longer m low high small below none n is begins = by (cases_lt n 10)
  where
    by : (n < 10) ⊎ (10 ≤ n) → ⊥
    by (inl one) =
        let same : (48 + n) ∷ [] ≡ (48 + m) ∷ begins.0 = sym (decimal_digit n one) ∙ begins.1 ∙ ap (λ (l : List ℕ). l ++ begins.0) (decimal_digit m (omega (arith, is.0))) in
        let first : 48 + n ≡ 48 + m = cc in
        omega (arith, first, is.0)
    by (inr more) =
        none (n / 10) (omega (arith, is.0), omega (arith, is.1)) (shorter_begins n m (omega (arith, is.1)) (omega (arith, is.0)) more begins)

-- ---- a reader of digits, over its bytes

module _ (low high : ℕ) (le : low ≤ high) (small : high < 2 ^ 64) where
  -- a mismatch in a number of the range
  abbrev Mismatched : List ℕ → List ℕ → Type 0
  Mismatched bytes rest = IsMismatch NoDigit (IsWithin low high) decimal bytes rest

  -- a number of the range has 64 bits
  fits : (v : ℕ) → IsWithin low high v → v < 2 ^ 64
  fits v is = omega (arith, is.1)

  -- no number of the range begins another, where no digit follows
  pub number_free : IsPrefixFree NoDigit (IsWithin low high) decimal
  number_free v w r s isv isw nr ns e =
      let both = same_digits (decimal v) (decimal w) r s (decimal_digits v (fits v isv)) (decimal_digits w (fits w isw)) nr ns e in
      (decimal_injective v w (fits v isv) (fits w isw) both.0, both.1)

  -- a mismatch at the first byte
  mismatch_at_start : (bytes : List ℕ) → ((v : ℕ) (following other : List ℕ) → IsWithin low high v → NoDigit following → SameFirst bytes other → decimal v ++ following ≡ other → ⊥) → Mismatched bytes bytes
  mismatch_at_start bytes none = record {
    before = [];
    splits = refl;
    value = low;
    more = decimal low;
    has = (let h : low ≤ low = omega arith in h, le);
    begins = refl;
    none = none;
  }

  -- a mismatch after digits with which some number of the range begins
  mismatch_after : (n : ℕ) (bytes rest : List ℕ) → bytes ≡ decimal n ++ rest → SomeBegins n low high
      → ((v : ℕ) (following other : List ℕ) → IsWithin low high v → NoDigit following → SameFirst rest other → decimal v ++ following ≡ decimal n ++ other → ⊥) → Mismatched bytes rest
  mismatch_after n bytes rest all some none = record {
    before = decimal n;
    splits = all;
    value = some.0;
    more = some.2.0;
    has = some.1;
    begins = some.2.1;
    none = none;
  }

  -- a mismatch where no digit is
  pub mismatch_without_digit : (bytes : List ℕ) → NoDigit bytes → Mismatched bytes bytes
  mismatch_without_digit bytes nd = mismatch_at_start bytes (λ v following other is ends same e. wrong v (decimal v) refl following other is (no_digit_there bytes other same nd) e)
    where
      wrong : (v : ℕ) (ds : List ℕ) → decimal v ≡ ds → (following other : List ℕ) → IsWithin low high v → NoDigit other → decimal v ++ following ≡ other → ⊥
      wrong v [] is following other within none e = omega (arith, decimal_nonempty v (fits v within), ap length is)
      wrong v (c ∷ ds) is following other within none e =
          no_digit_first c (ds ++ following) (subst NoDigit (sym e ∙ ap (λ (l : List ℕ). l ++ following) is) none) (first_digit v c ds (fits v within) is)

  -- a mismatch at a first digit with which no number of the range begins
  pub mismatch_at_first : (d : ℕ) (bytes following : List ℕ) → d < 10 → bytes ≡ (48 + d) ∷ following → NoneBegins d low high → Mismatched bytes bytes
  mismatch_at_first d bytes following one all nd = mismatch_at_start bytes (λ v after other is ends same e.
      let o = same_byte (48 + d) following other (subst (λ (l : List ℕ). SameFirst l other) all same) in
      let c = covers (decimal v) after [] (48 + d) o.0 tt (omega arith, omega arith) ends (e ∙ o.1) in
      nd v is (c.0, c.1 ∙ ap (λ (l : List ℕ). l ++ c.0) (sym (decimal_digit d one))))

  -- no number has a digit after a first zero
  no_more_after_zero : (v : ℕ) (c : ℕ) (more : List ℕ) → v < 2 ^ 64 → decimal v ≡ 48 ∷ c ∷ more → ⊥
  no_more_after_zero zero c more fit e = omega (arith, ap length (sym (decimal_digit 0 (omega arith)) ∙ e))
  no_more_after_zero (suc v) c more fit e = omega (arith, ap (λ (l : List ℕ). get_or l 0 0) e, first_decimal (suc v) (omega arith) fit)

  -- one digit more, after a number above zero
  digit_after : (n d : ℕ) → 0 < n → n < 2 ^ 64 → d < 10 → decimal (n * 10 + d) ≡ decimal n ++ (48 + d) ∷ []
  digit_after n d some fit one =
      let front : (n * 10 + d) / 10 ≡ n = omega arith in
      let end : 48 + (n * 10 + d) % 10 ≡ 48 + d = omega arith in
      decimal_step_wide (n * 10 + d) (omega arith) (omega arith) ∙ (λ i. decimal (front i) ++ (end i ∷ []))

  -- a mismatch at a further digit: after a zero, or where no number of the range begins so
  pub mismatch_at_digit : (n d : ℕ) (bytes rest following : List ℕ) → n < 2 ^ 64 → d < 10 → bytes ≡ decimal n ++ rest → rest ≡ (48 + d) ∷ following → SomeBegins n low high
      → (0 < n → NoneBegins (n * 10 + d) low high) → Mismatched bytes rest
  mismatch_at_digit n d bytes rest following fit one all first some nd = mismatch_after n bytes rest all some (λ v after other is ends same e.
      let o = same_byte (48 + d) following other (subst (λ (l : List ℕ). SameFirst l other) first same) in
      let c = covers (decimal v) after (decimal n) (48 + d) o.0 (decimal_digits n fit) (omega arith, omega arith) ends (e ∙ ap (λ (l : List ℕ). decimal n ++ l) o.1) in
      by n refl v is c.0 c.1)
    where
      by : (k : ℕ) → k ≡ n → (v : ℕ) → IsWithin low high v → (more : List ℕ) → decimal v ≡ decimal n ++ (48 + d) ∷ more → ⊥
      by zero k v is more e = no_more_after_zero v (48 + d) more (fits v is) (e ∙ ap (λ (m : ℕ). decimal m ++ (48 + d) ∷ more) (sym k) ∙ ap (λ (l : List ℕ). l ++ (48 + d) ∷ more) (decimal_digit 0 (omega arith)))
      by (suc j) k v is more e =
          let above : 0 < n = omega arith in
          nd above v is (more, e ∙ sym (append_assoc (decimal n) ((48 + d) ∷ []) more) ∙ ap (λ (l : List ℕ). l ++ more) (sym (digit_after n d above fit one)))

  -- a mismatch where the digits end below the range
  pub mismatch_too_low : (n : ℕ) (bytes rest : List ℕ) → n < 2 ^ 64 → bytes ≡ decimal n ++ rest → NoDigit rest → SomeBegins n low high → n < low → Mismatched bytes rest
  mismatch_too_low n bytes rest fit all nd some below = mismatch_after n bytes rest all some (λ v after other is ends same e.
      let both = same_digits (decimal v) (decimal n) after other (decimal_digits v (fits v is)) (decimal_digits n fit) ends (no_digit_there rest other same nd) e in
      omega (arith, decimal_injective v n (fits v is) fit both.0, is.0))

  -- a number with which one of the range begins is not above the range
  pub within_high : (n : ℕ) → n < 10 ^ 64 → SomeBegins n low high → n ≤ high
  within_high n fit some = omega (arith, some.1.1, begins_above some.0 n (fits some.0 some.1) fit some.2)

  -- with one digit more, the bytes begin with the longer number
  pub one_more : (n d longer : ℕ) (bytes rest following : List ℕ) → 0 < n → n < 2 ^ 64 → d < 10 → longer ≡ n * 10 + d → bytes ≡ decimal n ++ rest → rest ≡ (48 + d) ∷ following → bytes ≡ decimal longer ++ following
  one_more n d longer bytes rest following some fit one is all first =
      all ∙ ap (λ (l : List ℕ). decimal n ++ l) first ∙ sym (append_assoc (decimal n) ((48 + d) ∷ []) following)
      ∙ ap (λ (l : List ℕ). l ++ following) (sym (digit_after n d some fit one) ∙ ap decimal (sym is))

-- bytes that begin with a digit begin with its number
pub one_digit : (d : ℕ) (bytes following : List ℕ) → d < 10 → bytes ≡ (48 + d) ∷ following → bytes ≡ decimal d ++ following
one_digit d bytes following one all = all ∙ ap (λ (l : List ℕ). l ++ following) (sym (decimal_digit d one))
