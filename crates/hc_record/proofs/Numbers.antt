-- A number is read as it was written, and what is read as a number is how it is written.
use Rattle.std.proofs.Common.{◌≡◌, ℕ, zero, suc, ◌+◌, ◌-◌, ◌*◌, ◌/◌, ◌%◌, ◌^◌, ◌<◌, ◌≤◌, true, false, List, [], ◌∷◌, ◌++◌, length, Option, Some, None, Ok, refl, sym, ap, subst, ◌∙◌, append_assoc, arith, inl, inr, nat_lt, ◌⊎◌}
use Rattle.std.specs.Prelude.{◌==◌}
use Rattle.std.proofs.lemmas.Bool.{cases_lt, lt-ltb, le-ltb, ltb-true, ltb-false, eq-eqb}
use Rattle.std.proofs.lemmas.List.{length-append}
use Rattle.std.proofs.lemmas.Nat.{shr-shr, shr_split, shr_below, div_below}
use Rattle.hc_record.specs.Varint.{varint_len, varint, marked, read_varint}
use Rattle.hc_record.specs.Reading.{number_at}
use Rattle.hc_text.proofs.ByteStrings.{IsBytes, IsBytes-rest}
use Rattle.hc_record.proofs.Steps.{either_way, chosen}

-- ---- how many bytes a number takes

-- a length in bytes that suits the number: one to nine, of seven bits each below 2 ^ 56, else nine
abbrev pub IsLength : ℕ → ℕ → Type 0
IsLength n len = (1 ≤ len) × (len ≤ 9) × (n < 2 ^ 56 → (len ≤ 8) × (n < 2 ^ (7 * len))) × (2 ^ 56 ≤ n → len ≡ 9)

-- the length of a varint suits its number
pub varint_len_is : (n : ℕ) → IsLength n (varint_len n)
unfolding varint_len
varint_len_is n =
    let P : ℕ → Type 0 = IsLength n in
    let leaf : (len : ℕ) → 1 ≤ len → len ≤ 8 → n < 2 ^ (7 * len) → n < 2 ^ 56 → P len = λ len one most lt all. (one, most_9 len most, (λ _. (most, lt)), λ le. absurd (omega arith)) in
    either_way P n (2 ^ 7) 1 _ (λ lt. leaf 1 (omega arith) (omega arith) lt (omega arith)) (λ _.
    either_way P n (2 ^ 14) 2 _ (λ lt. leaf 2 (omega arith) (omega arith) lt (omega arith)) (λ _.
    either_way P n (2 ^ 21) 3 _ (λ lt. leaf 3 (omega arith) (omega arith) lt (omega arith)) (λ _.
    either_way P n (2 ^ 28) 4 _ (λ lt. leaf 4 (omega arith) (omega arith) lt (omega arith)) (λ _.
    either_way P n (2 ^ 35) 5 _ (λ lt. leaf 5 (omega arith) (omega arith) lt (omega arith)) (λ _.
    either_way P n (2 ^ 42) 6 _ (λ lt. leaf 6 (omega arith) (omega arith) lt (omega arith)) (λ _.
    either_way P n (2 ^ 49) 7 _ (λ lt. leaf 7 (omega arith) (omega arith) lt (omega arith)) (λ _.
    either_way P n (2 ^ 56) 8 9 (λ lt. leaf 8 (omega arith) (omega arith) lt (omega arith)) (λ le.
    (omega arith, omega arith, (λ lt. absurd (omega arith)), λ _. refl)))))))))
  where
    most_9 : (len : ℕ) → len ≤ 8 → len ≤ 9
    most_9 len most = omega arith

-- ---- what is written is read again

-- a number above k + 1 groups is that above k groups without its lowest group
one_group_more : (n k : ℕ) → n / 2 ^ (7 * suc k) ≡ n / 2 ^ (7 * k) / 2 ^ 7
one_group_more n k = ap (λ (e : ℕ). n / 2 ^ e) (let e : 7 * suc k ≡ 7 * k + 7 = omega arith in e) ∙ sym (shr-shr n (7 * k) 7)

-- a number is put together again from its lowest group and what is above
whole : (n : ℕ) → n / 2 ^ 7 * 2 ^ 7 + n % 2 ^ 7 ≡ n
whole n = shr_split n 7

-- marked groups, read after what is above them
marked_again : (k j f n : ℕ) (rest : List ℕ) → f ≡ k + j → read_varint f (n / 2 ^ (7 * k)) (marked k n ++ rest) ≡ read_varint j n rest
marked_again zero j f n rest e =
    let same : f ≡ j = omega arith in
    let all : n / 1 ≡ n = omega arith in
    rw (same, all) refl
marked_again (suc k) j zero n rest e = absurd (omega arith)
marked_again (suc k) j (suc f) n rest e =
    let group : ℕ = n / 2 ^ (7 * k) % 2 ^ 7 in
    let is_marked : nat_lt (128 + n / 2 ^ (7 * k) % 2 ^ 7) 128 ≡ false = le-ltb _ _ (omega arith) in
    let next : n / 2 ^ (7 * suc k) * 2 ^ 7 + ((128 + n / 2 ^ (7 * k) % 2 ^ 7) - 128) ≡ n / 2 ^ (7 * k) = rw (one_group_more n k) (omega (arith, whole (n / 2 ^ (7 * k)))) in
    rw (is_marked, next) (marked_again k j f n rest (omega arith))

-- above k bits of a number below 2 ^ k there is nothing
nothing_above : (n k : ℕ) → n < 2 ^ k → n / 2 ^ k ≡ 0
nothing_above n k lt = omega (arith, div_below n (2 ^ k) 1 (omega arith) (omega (arith, lt)))

-- a varint is read to its number, and what follows it is left
pub varint_again : (n : ℕ) (rest : List ℕ) → n < 2 ^ 64 → read_varint 8 0 (varint n ++ rest) ≡ Some (n, rest)
unfolding varint
varint_again n rest fits =
    elim (cases_lt n (2 ^ 56)) [
      | inl lt ↦
          let len = varint_len_is n in
          let k : ℕ = varint_len n - 1 in
          let h : ℕ = n / 2 ^ 7 in
          let above : n / 2 ^ 7 / 2 ^ (7 * (varint_len n - 1)) ≡ 0 = nothing_above (n / 2 ^ 7) (7 * (varint_len n - 1)) (shr_below n (7 * (varint_len n - 1)) 7 (subst (λ (e : ℕ). n < 2 ^ e) (omega (arith, len.0)) (len.2 lt).1)) in
          let last : nat_lt (n % 2 ^ 7) 128 ≡ true = lt-ltb _ _ (omega arith) in
          rw (lt-ltb n (2 ^ 56) lt, append_assoc (marked (varint_len n - 1) (n / 2 ^ 7)) (n % 2 ^ 7 ∷ []) rest)
          (subst (λ (a : ℕ). read_varint 8 a (marked (varint_len n - 1) (n / 2 ^ 7) ++ n % 2 ^ 7 ∷ rest) ≡ Some (n, rest)) above
          (marked_again (varint_len n - 1) (suc (8 - varint_len n)) 8 (n / 2 ^ 7) (n % 2 ^ 7 ∷ rest) (omega (arith, len.0, (len.2 lt).0))
          ∙ rw (last, whole n) refl))
      | inr le ↦
          let above : n / 2 ^ 8 / 2 ^ (7 * 8) ≡ 0 = nothing_above (n / 2 ^ 8) 56 (omega arith) in
          rw (le-ltb n (2 ^ 56) le)
          (subst (λ (a : ℕ). read_varint 8 a (marked 8 (n / 2 ^ 8) ++ n % 2 ^ 8 ∷ rest) ≡ Some (n, rest)) above
          (marked_again 8 0 8 (n / 2 ^ 8) (n % 2 ^ 8 ∷ rest) refl ∙ rw (shr_split n 8) refl))
    ]

-- k marked groups are k bytes
pub length-marked : (k n : ℕ) → length (marked k n) ≡ k
length-marked zero n = refl
length-marked (suc k) n = ap suc (length-marked k n)

-- a varint is as long as its length says
pub length-varint : (n : ℕ) → length (varint n) ≡ varint_len n
unfolding varint
length-varint n =
    let len = varint_len_is n in
    either_way (λ (bytes : List ℕ). length bytes ≡ varint_len n) n (2 ^ 56) (marked (varint_len n - 1) (n / 2 ^ 7) ++ n % 2 ^ 7 ∷ []) (marked 8 (n / 2 ^ 8) ++ n % 2 ^ 8 ∷ [])
    (λ lt. omega (arith, length-append (marked (varint_len n - 1) (n / 2 ^ 7)) (n % 2 ^ 7 ∷ []), length-marked (varint_len n - 1) (n / 2 ^ 7), len.0))
    (λ le. omega (arith, length-append (marked 8 (n / 2 ^ 8)) (n % 2 ^ 8 ∷ []), length-marked 8 (n / 2 ^ 8), len.3 le))

-- a number that was written is read again, with no fault
pub number_again : (stop n : ℕ) (rest : List ℕ) → n < 2 ^ 64 → number_at stop (varint n ++ rest) ≡ Ok (n, rest)
unfolding number_at
number_again stop n rest fits =
    let long : (length (varint n ++ rest) == varint_len n + length rest) ≡ true = eq-eqb _ _ (omega (arith, length-append (varint n) rest, length-varint n)) in
    rw (varint_again n rest fits, long) refl

-- ---- what is read is written so

-- the last byte of a number has s bits, and k marked ones are before it
pub record IsFound (f above : ℕ) (bytes : List ℕ) (n : ℕ) (rest : List ℕ) : Type 0 where
  pub k : ℕ
  pub s : ℕ
  pub which : ((s ≡ 7) × (k < f)) ⊎ ((s ≡ 8) × (k ≡ f))
  pub before : above ≡ n / 2 ^ s / 2 ^ (7 * k)
  pub parts : bytes ≡ marked k (n / 2 ^ s) ++ n % 2 ^ s ∷ rest

-- findings that are the same found the same
some_same : (x y : ℕ × List ℕ) → (let one : ℕ × List ℕ → Option (ℕ × List ℕ) = λ a. Some a in one x ≡ one y) → x ≡ y
some_same x y e = cc

-- what is read as a number is there in marked groups and a last byte
pub varint_found : (f above : ℕ) (bytes : List ℕ) (x : ℕ × List ℕ) → IsBytes bytes → read_varint f above bytes ≡ Some x → IsFound f above bytes x.0 x.1
varint_found f above [] x fits e = absurd (none e)
  where
    none : (let no : Option (ℕ × List ℕ) = None in no ≡ Some x) → ⊥
    none q = cc
varint_found zero above (b ∷ rest) x fits e =
    subst (λ (y : ℕ × List ℕ). IsFound 0 above (b ∷ rest) y.0 y.1) (some_same (above * 2 ^ 8 + b, rest) x e)
    record {
      k = 0;
      s = 8;
      which = inr (refl, refl);
      before = omega (arith, fits 0);
      parts = ap (λ (c : ℕ). c ∷ rest) (omega (arith, fits 0));
    }
varint_found (suc f) above (b ∷ rest) x fits e =
    elim (chosen (nat_lt b 128) (Some (above * 2 ^ 7 + b, rest)) (read_varint f (above * 2 ^ 7 + (b - 128)) rest) (Some x) e) [
      | inl now ↦
          let small : b < 128 = ltb-true _ _ now.0 in
          subst (λ (y : ℕ × List ℕ). IsFound (suc f) above (b ∷ rest) y.0 y.1) (some_same (above * 2 ^ 7 + b, rest) x now.1)
          record {
            k = 0;
            s = 7;
            which = inl (refl, omega arith);
            before = omega arith;
            parts = ap (λ (c : ℕ). c ∷ rest) (omega arith);
          }
      | inr later ↦
          let large : 128 ≤ b = ltb-false _ _ later.0 in
          let r = varint_found f (above * 2 ^ 7 + (b - 128)) rest x (IsBytes-rest b rest fits) later.1 in
          let h : ℕ = x.0 / 2 ^ r.s in
          record {
            k = suc r.k;
            s = r.s;
            which = elim r.which [ inl seven ↦ inl (seven.0, omega (arith, seven.1)) | inr eight ↦ inr (eight.0, ap suc eight.1) ];
            before = (let q : above ≡ (above * 2 ^ 7 + (b - 128)) / 2 ^ 7 = omega (arith, fits 0) in q) ∙ ap (λ (a : ℕ). a / 2 ^ 7) r.before ∙ sym (one_group_more (x.0 / 2 ^ r.s) r.k);
            parts = ap (λ (c : ℕ). c ∷ rest) ((let q : b ≡ 128 + (above * 2 ^ 7 + (b - 128)) % 2 ^ 7 = omega (arith, fits 0) in q) ∙ ap (λ (a : ℕ). 128 + a % 2 ^ 7) r.before) ∙ ap (λ (l : List ℕ). (128 + x.0 / 2 ^ r.s / 2 ^ (7 * r.k) % 2 ^ 7) ∷ l) r.parts;
          }
    ]
