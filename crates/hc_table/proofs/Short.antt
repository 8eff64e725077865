-- The record of a row is short.
use Rattle.std.proofs.Common.{ℕ, zero, suc, ◌+◌, ◌<◌, ◌^◌, ℤ, pos, negsuc, Bool, true, false, if◌then◌else◌, List, [], ◌∷◌, ◌++◌, length, nat_lt, arith}
use Rattle.std.specs.Int.{bytes_high_first, cast_unsigned, w64}
use Rattle.std.proofs.lemmas.Bool.{cond_both, ltb-true}
use Rattle.hc_value.specs.declared.value.Value.TheVariants.{Null, Int}
use Rattle.hc_record.specs.Record.{body_len, type_of_magnitude, type_of_int, header_len, encoding}
use Rattle.hc_record.specs.Varint.{varint, varint_len}

-- the record of NULL and an integer of this type
abbrev record_of_type : ℕ → ℕ → List ℕ
record_of_type t n = varint (header_len (length (varint 0 ++ (varint t ++ [])))) ++ ((varint 0 ++ (varint t ++ [])) ++ (bytes_high_first (body_len t) n ++ []))

record IsShortType (t : ℕ) : Type 0 where
  short : (n : ℕ) → length (record_of_type t n) < 2 ^ 32

one : IsShortType 1
unfolding varint varint_len header_len body_len
one = record { short = λ n. omega arith }

two : IsShortType 2
unfolding varint varint_len header_len body_len
two = record { short = λ n. omega arith }

three : IsShortType 3
unfolding varint varint_len header_len body_len
three = record { short = λ n. omega arith }

four : IsShortType 4
unfolding varint varint_len header_len body_len
four = record { short = λ n. omega arith }

five : IsShortType 5
unfolding varint varint_len header_len body_len
five = record { short = λ n. omega arith }

six : IsShortType 6
unfolding varint varint_len header_len body_len
six = record { short = λ n. omega arith }

eight : IsShortType 8
unfolding varint varint_len header_len body_len
eight = record { short = λ n. omega arith }

nine : IsShortType 9
unfolding varint varint_len header_len body_len
nine = record { short = λ n. omega arith }

either : (b : Bool) {x y : ℕ} → IsShortType x → IsShortType y → IsShortType (if b then x else y)
either true p q = p
either false p q = q

of_magnitude : (m : ℕ) → IsShortType (type_of_magnitude m)
unfolding type_of_magnitude
of_magnitude m =
    either (nat_lt m (2 ^ 7)) one
    (either (nat_lt m (2 ^ 15)) two
    (either (nat_lt m (2 ^ 23)) three
    (either (nat_lt m (2 ^ 31)) four (either (nat_lt m (2 ^ 47)) five six))))

of_small : (n : ℕ) → n < 2 → IsShortType (8 + n)
of_small zero lt = eight
of_small (suc zero) lt = nine
of_small (suc (suc n)) lt = absurd (omega (arith, lt))

of_integer : (v : ℤ) → IsShortType (type_of_int v)
of_integer (pos n) = cond_both (nat_lt n 2) (8 + n) (type_of_magnitude n) IsShortType (λ lt. of_small n (ltb-true n 2 lt)) (λ _. of_magnitude n)
of_integer (negsuc n) = of_magnitude n

pub row_record_short : (v : ℤ) → length (encoding (Null ∷ Int v ∷ [])) < 2 ^ 32
unfolding encoding
row_record_short v = (of_integer v).short (cast_unsigned w64 v)
