-- Lengths that are counted up to the greatest number of 64 bits.
use Rattle.std.proofs.Common.{◌≡◌, ℕ, ◌+◌, ◌-◌, ◌^◌, ◌≤◌, List, length, min, sym, ap, ◌∙◌, inl, inr, arith}
use Rattle.std.proofs.lemmas.Bool.{cases_lt}
use Rattle.hc_value.specs.declared.value.Value.{Value}
use Rattle.hc_record.specs.Varint.{varint_len}
use Rattle.hc_record.specs.Record.{types_of, bodies_of, header_len, encoding}
use Rattle.hc_record.proofs.Numbers.{varint_len_is}
use Rattle.hc_record.proofs.Encodings.{length-encoding}

-- the greatest number of 64 bits, and a number up to it
abbrev pub most : ℕ
most = 2 ^ 64 - 1

abbrev pub clamped : ℕ → ℕ
clamped n = min n most

-- a number past the greatest one takes nine bytes, as the greatest one does
pub varint_len_clamped : (n : ℕ) → varint_len (clamped n) ≡ varint_len n
varint_len_clamped n =
    elim (cases_lt n most) [
      | inl low ↦ let same : clamped n ≡ n = omega (arith, low) in ap varint_len same
      | inr high ↦
          let same : clamped n ≡ most = omega (arith, high) in
          let large : 2 ^ 56 ≤ n = omega (arith, high) in
          ap varint_len same ∙ (varint_len_is most).3 (omega arith) ∙ sym ((varint_len_is n).3 large)
    ]

-- the length of a record from those of its types and bodies
pub whole_len : (types bodies once header all : ℕ) (values : List Value)
    → types ≡ clamped (length (types_of values)) → bodies ≡ clamped (length (bodies_of values))
    → once ≡ clamped (types + varint_len types) → header ≡ clamped (types + varint_len once)
    → all ≡ clamped (clamped (varint_len header + types) + bodies)
    → all ≡ clamped (length (encoding values))
unfolding header_len
whole_len types bodies once header all values types_is bodies_is once_is header_is all_is =
    let n = length (types_of values) in
    let first : varint_len types ≡ varint_len n = ap varint_len types_is ∙ varint_len_clamped n in
    let second : varint_len once ≡ varint_len (n + varint_len n) =
    ap varint_len (once_is ∙ (let e : clamped (types + varint_len types) ≡ clamped (n + varint_len n) = omega (arith, types_is, first) in e)) ∙ varint_len_clamped (n + varint_len n) in
    let third : varint_len header ≡ varint_len (header_len n) =
    ap varint_len (header_is ∙ (let e : clamped (types + varint_len once) ≡ clamped (n + varint_len (n + varint_len n)) = omega (arith, types_is, second) in e)) ∙ varint_len_clamped (n + varint_len (n + varint_len n)) in
    omega (arith, all_is, types_is, bodies_is, third, length-encoding values)
