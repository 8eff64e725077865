-- A header's length counts itself: the bytes that it is written in and those of the types are as many as
-- it says.
use Rattle.std.proofs.Common.{◌≡◌, ℕ, ◌+◌, ◌-◌, ◌^◌, ◌<◌, ◌≤◌, refl, sym, ap, ◌∙◌, arith, inl, inr, ◌⊎◌}
use Rattle.std.proofs.lemmas.Bool.{cases_lt, lt-ltb, le-ltb}
use Rattle.hc_record.specs.Varint.{varint_len}
use Rattle.hc_record.specs.Record.{header_len}

-- how many bytes a number takes, by its size: one below 2 ^ 7, and one more for each seven bits, up to five
len_1 : (n : ℕ) → n < 2 ^ 7 → varint_len n ≡ 1
unfolding varint_len
len_1 n lt = rw (lt-ltb n (2 ^ 7) lt) refl

len_2 : (n : ℕ) → 2 ^ 7 ≤ n → n < 2 ^ 14 → varint_len n ≡ 2
unfolding varint_len
len_2 n le lt = rw (le-ltb n (2 ^ 7) le, lt-ltb n (2 ^ 14) lt) refl

len_3 : (n : ℕ) → 2 ^ 14 ≤ n → n < 2 ^ 21 → varint_len n ≡ 3
unfolding varint_len
len_3 n le lt = rw (le-ltb n (2 ^ 7) (omega arith), le-ltb n (2 ^ 14) le, lt-ltb n (2 ^ 21) lt) refl

len_4 : (n : ℕ) → 2 ^ 21 ≤ n → n < 2 ^ 28 → varint_len n ≡ 4
unfolding varint_len
len_4 n le lt = rw (le-ltb n (2 ^ 7) (omega arith), le-ltb n (2 ^ 14) (omega arith), le-ltb n (2 ^ 21) le, lt-ltb n (2 ^ 28) lt) refl

len_5 : (n : ℕ) → 2 ^ 28 ≤ n → n < 2 ^ 35 → varint_len n ≡ 5
unfolding varint_len
len_5 n le lt = rw (le-ltb n (2 ^ 7) (omega arith), le-ltb n (2 ^ 14) (omega arith), le-ltb n (2 ^ 21) (omega arith), le-ltb n (2 ^ 28) le, lt-ltb n (2 ^ 35) lt) refl

-- a length that takes a bytes, and with them as many or b bytes
settled : (types a b : ℕ) → varint_len types ≡ a → ((varint_len (types + a) ≡ a) ⊎ ((varint_len (types + a) ≡ b) × (varint_len (types + b) ≡ b)))
    → varint_len (types + varint_len (types + varint_len types)) ≡ varint_len (types + varint_len types)
settled types a b first (inl same) =
    let one : varint_len (types + varint_len types) ≡ a = ap (λ (n : ℕ). varint_len (types + n)) first ∙ same in
    ap (λ (n : ℕ). varint_len (types + n)) one ∙ same ∙ sym one
settled types a b first (inr more) =
    let one : varint_len (types + varint_len types) ≡ b = ap (λ (n : ℕ). varint_len (types + n)) first ∙ more.0 in
    ap (λ (n : ℕ). varint_len (types + n)) one ∙ more.1 ∙ sym one

-- counted with the bytes of its own length, a header's length takes just as many
counts_itself : (types : ℕ) → types < 2 ^ 32 → varint_len (types + varint_len (types + varint_len types)) ≡ varint_len (types + varint_len types)
counts_itself types fits =
    elim (cases_lt types (2 ^ 7)) [
      | inl small ↦ settled types 1 2 (len_1 types small) (elim (cases_lt (types + 1) (2 ^ 7)) [ inl lt ↦ inl (len_1 (types + 1) lt) | inr le ↦ inr (len_2 (types + 1) le (omega arith), len_2 (types + 2) (omega arith) (omega arith)) ])
      | inr over_7 ↦
          elim (cases_lt types (2 ^ 14)) [
            | inl small ↦ settled types 2 3 (len_2 types over_7 small) (elim (cases_lt (types + 2) (2 ^ 14)) [ inl lt ↦ inl (len_2 (types + 2) (omega arith) lt) | inr le ↦ inr (len_3 (types + 2) le (omega arith), len_3 (types + 3) (omega arith) (omega arith)) ])
            | inr over_14 ↦
                elim (cases_lt types (2 ^ 21)) [
                  | inl small ↦ settled types 3 4 (len_3 types over_14 small) (elim (cases_lt (types + 3) (2 ^ 21)) [ inl lt ↦ inl (len_3 (types + 3) (omega arith) lt) | inr le ↦ inr (len_4 (types + 3) le (omega arith), len_4 (types + 4) (omega arith) (omega arith)) ])
                  | inr over_21 ↦
                      elim (cases_lt types (2 ^ 28)) [
                        | inl small ↦ settled types 4 5 (len_4 types over_21 small) (elim (cases_lt (types + 4) (2 ^ 28)) [ inl lt ↦ inl (len_4 (types + 4) (omega arith) lt) | inr le ↦ inr (len_5 (types + 4) le (omega arith), len_5 (types + 5) (omega arith) (omega arith)) ])
                        | inr over_28 ↦ settled types 5 5 (len_5 types over_28 (omega arith)) (inl (len_5 (types + 5) (omega arith) (omega arith)))
                      ]
                ]
          ]
    ]

-- a header's length without its own bytes is the length of the types
pub header_len-types : (types : ℕ) → types < 2 ^ 32 → header_len types - varint_len (header_len types) ≡ types
unfolding header_len
header_len-types types fits = omega (arith, counts_itself types fits)
