-- A record that is cut off is Short where it ends: in its header's length, in a type, or in a body.
use Rattle.std.proofs.Common.{◌≡◌, ℕ, zero, suc, ◌+◌, ◌-◌, ◌*◌, ◌/◌, ◌%◌, ◌^◌, ◌<◌, ◌≤◌, false, cond, List, [], ◌∷◌, ◌++◌, length, take, drop, None, Ok, Err, refl, sym, ap, subst, ◌∙◌, arith, inl, inr, nat_lt, ◌⊎◌}
use Rattle.std.specs.Prelude.{◌==◌}
use Rattle.std.proofs.lemmas.Bool.{cases_lt, lt-ltb, le-ltb, eq-eqb}
use Rattle.std.proofs.lemmas.List.{take_at, drop_at, length-append}
use Rattle.hc_value.specs.declared.value.Value.{Value}
use Rattle.hc_value.specs.Values.{AreValues}
use Rattle.hc_record.specs.declared.fault.RecordFault.TheVariants.{Bad}
use Rattle.hc_record.specs.declared.fault.RecordKind.TheVariants.{Short, Tail}
use Rattle.hc_record.specs.Varint.{varint, varint_len, marked, read_varint}
use Rattle.hc_record.specs.Record.{body_len, type_of, body_of, types_of, bodies_of, header_len, encoding}
use Rattle.hc_record.specs.Reading.{◌>>=◌, fault, number_among, number_at, type_at, types_at, value_at, values_at, values_of_types, columns_at, record_at, reading}
use Rattle.hc_record.proofs.Steps.{first_step}
use Rattle.hc_record.proofs.Numbers.{varint_len_is, number_again, length-varint}
use Rattle.hc_record.proofs.Types.{Read, types_at-first, then_types, regroup, values_first, then_value, same_step, through}
use Rattle.hc_record.proofs.Headers.{header_len-types}
use Rattle.hc_record.proofs.Encodings.{length-encoding, all_types_fit}
use Rattle.hc_record.proofs.Records.{type_again, type_fits, values_again, value_again, put_first, length-body_of, header_fits}

-- the bytes are cut off after `front`: something is missing
pub record IsCut (bytes front : List ℕ) : Type 0 where
  pub missing : List ℕ
  pub parts : bytes ≡ front ++ missing
  pub some : 0 < length missing

-- what is cut off is longer than its front
cut_longer : (bytes front : List ℕ) → IsCut bytes front → length front < length bytes
cut_longer bytes front cut = omega (arith, cut.some, ap length cut.parts, length-append front cut.missing)

-- of two parts the first is cut off, or it is whole and the second is cut off
cut_where : (a b front : List ℕ) → IsCut (a ++ b) front → IsCut a front ⊎ ((rest : List ℕ) × (front ≡ a ++ rest) × IsCut b rest)
cut_where [] b front cut = inr (front, refl, cut)
cut_where (x ∷ a) b [] cut = inl record { missing = x ∷ a; parts = refl; some = omega arith }
cut_where (x ∷ a) b (y ∷ front) cut =
    let parts : x ∷ (a ++ b) ≡ y ∷ (front ++ cut.missing) = cut.parts in
    let same : x ≡ y = cc in
    let others : a ++ b ≡ front ++ cut.missing = cc in
    elim (cut_where a b front record { missing = cut.missing; parts = others; some = cut.some }) [
      | inl first ↦ inl record { missing = first.missing; parts = ap (λ (z : ℕ). z ∷ a) same ∙ ap (λ (l : List ℕ). y ∷ l) first.parts; some = first.some }
      | inr second ↦ inr (second.0, ap (λ (z : ℕ). z ∷ front) (sym same) ∙ ap (λ (l : List ℕ). x ∷ l) second.1, second.2)
    ]

-- nothing cannot be cut off
none_cut : (front : List ℕ) → IsCut [] front → ⊥
none_cut front cut = omega (arith, cut_longer [] front cut)

-- ---- a number

-- marked groups and a last byte, cut off
marked_cut : (k f above n last : ℕ) (front : List ℕ) → k ≤ f → IsCut (marked k n ++ last ∷ []) front → read_varint f above front ≡ None
marked_cut k zero above n last [] le cut = refl
marked_cut k (suc f) above n last [] le cut = refl
marked_cut zero f above n last (b ∷ front) le cut = absurd (omega (arith, cut_longer (last ∷ []) (b ∷ front) cut))
marked_cut (suc k) zero above n last (b ∷ front) le cut = absurd (omega arith)
marked_cut (suc k) (suc f) above n last (b ∷ front) le cut =
    let parts : (128 + n / 2 ^ (7 * k) % 2 ^ 7) ∷ (marked k n ++ last ∷ []) ≡ b ∷ (front ++ cut.missing) = cut.parts in
    let first : 128 + n / 2 ^ (7 * k) % 2 ^ 7 ≡ b = cc in
    let others : marked k n ++ last ∷ [] ≡ front ++ cut.missing = cc in
    let is_marked : nat_lt b 128 ≡ false = le-ltb b 128 (omega (arith, first)) in
    rw is_marked (marked_cut k f (above * 2 ^ 7 + (b - 128)) n last front (omega arith) record { missing = cut.missing; parts = others; some = cut.some })

-- a number, cut off
varint_cut : (n : ℕ) (front : List ℕ) → IsCut (varint n) front → read_varint 8 0 front ≡ None
unfolding varint
varint_cut n front cut =
    elim (cases_lt n (2 ^ 56)) [
      | inl lt ↦
          let is : varint n ≡ marked (varint_len n - 1) (n / 2 ^ 7) ++ n % 2 ^ 7 ∷ [] = rw (lt-ltb n (2 ^ 56) lt) refl in
          marked_cut (varint_len n - 1) 8 0 (n / 2 ^ 7) (n % 2 ^ 7) front (omega (arith, ((varint_len_is n).2 lt).0)) (subst (λ (l : List ℕ). IsCut l front) is cut)
      | inr le ↦
          let is : varint n ≡ marked 8 (n / 2 ^ 8) ++ n % 2 ^ 8 ∷ [] = rw (le-ltb n (2 ^ 56) le) refl in
          marked_cut 8 8 0 (n / 2 ^ 8) (n % 2 ^ 8) front (omega arith) (subst (λ (l : List ℕ). IsCut l front) is cut)
    ]

number_cut : (stop n : ℕ) (front : List ℕ) → IsCut (varint n) front → number_at stop front ≡ Err (Bad stop Short)
unfolding number_at
number_cut stop n front cut = ap (number_among stop front) (varint_cut n front cut)

-- ---- types

-- what is said of types that end before the header does
abbrev AreShort : ℕ → Read (List (ℕ × ℕ)) → Type 0
AreShort stop read = (let short : Read (List Value × List ℕ) = read >>= λ types. fault stop Short in short) ≡ Err (Bad stop Short)

-- a type, cut off
type_cut : (stop n : ℕ) (front : List ℕ) → IsCut (varint n) front → type_at stop front ≡ Err (Bad stop Short)
unfolding type_at
type_cut stop n front cut = rw (number_cut stop n front cut) refl

-- in front of a type, or in it
types_cut_in : (stop n : ℕ) (front : List ℕ) → IsCut (varint n) front → AreShort stop (types_at stop front)
unfolding types_at
types_cut_in stop n [] cut = refl
types_cut_in stop n (b ∷ front) cut =
    ap (λ (r : Read (List (ℕ × ℕ))). r >>= λ types. fault stop Short)
    (types_at-first stop (b ∷ front) (omega arith) ∙ ap (λ (r : Read (ℕ × List ℕ)). r >>= then_types stop (b ∷ front)) (type_cut stop n (b ∷ front) cut))

-- types, cut off
types_cut : (stop : ℕ) (values : List Value) (front : List ℕ) → length (bodies_of values) < 2 ^ 32 → IsCut (types_of values) front → AreShort stop (types_at stop front)
types_cut stop [] front fits cut = absurd (none_cut front cut)
types_cut stop (v ∷ values) front fits cut =
    let long : length (bodies_of (v ∷ values)) ≡ length (body_of v) + length (bodies_of values) = length-append (body_of v) (bodies_of values) in
    elim (cut_where (varint (type_of v)) (types_of values) front cut) [
      | inl first ↦ types_cut_in stop (type_of v) front first
      | inr later ↦
          let some : 0 < length front = omega (arith, ap length later.1, length-append (varint (type_of v)) later.0, length-varint (type_of v), (varint_len_is (type_of v)).0) in
          let read : type_at stop front ≡ Ok (type_of v, later.0) = ap (type_at stop) later.1 ∙ type_again stop v later.0 (type_fits v (omega (arith, long, fits))) in
          ap (λ (r : Read (List (ℕ × ℕ))). r >>= λ types. fault stop Short)
          (types_at-first stop front some ∙ ap (λ (r : Read (ℕ × List ℕ)). r >>= then_types stop front) read)
          ∙ regroup (types_at stop later.0) (λ types. (stop - length front, type_of v) ∷ types) (λ types. fault stop Short)
          ∙ types_cut stop values later.0 (omega (arith, long, fits)) later.2
    ]

-- ---- bodies

-- a body, cut off
body_cut : (end place : ℕ) (v : Value) (front : List ℕ) → IsCut (body_of v) front → value_at end (place, type_of v) front ≡ Err (Bad end Short)
unfolding value_at
body_cut end place v front cut =
    rw (lt-ltb (length front) (body_len (type_of v)) (omega (arith, cut_longer (body_of v) front cut, length-body_of v))) refl

-- the types of values can be read
types_read : (stop end : ℕ) (values : List Value) → AreValues values → length (bodies_of values) < 2 ^ 32 → (all : List (ℕ × ℕ)) × (types_at stop (types_of values) ≡ Ok all)
unfolding values_of_types
types_read stop end values are fits =
    let step = first_step (types_at stop (types_of values)) (λ all. values_at end all (bodies_of values ++ [])) (values, []) (values_again stop end values [] are fits) in
    (step.0, step.1)

-- what is read of bodies that are cut off, with a value before them
with_first : (stop end : ℕ) (v : Value) (values : List Value) (front : List ℕ) → values_of_types stop end (types_of values) front ≡ Err (Bad end Short)
    → ((types_at stop (types_of values) >>= λ all. values_at end all front) >>= put_first v) ≡ Err (Bad end Short)
unfolding values_of_types
with_first stop end v values front e = ap (λ (r : Read (List Value × List ℕ)). r >>= put_first v) e

-- bodies, cut off
bodies_cut : (stop end : ℕ) (values : List Value) (front : List ℕ) → AreValues values → length (bodies_of values) < 2 ^ 32 → IsCut (bodies_of values) front
    → values_of_types stop end (types_of values) front ≡ Err (Bad end Short)
bodies_cut stop end [] front are fits cut = absurd (none_cut front cut)
bodies_cut stop end (v ∷ values) front are fits cut =
    let long : length (bodies_of (v ∷ values)) ≡ length (body_of v) + length (bodies_of values) = length-append (body_of v) (bodies_of values) in
    let first : type_at stop (types_of (v ∷ values)) ≡ Ok (type_of v, types_of values) = type_again stop v (types_of values) (type_fits v (omega (arith, long, fits))) in
    let some : 0 < length (types_of (v ∷ values)) = omega (arith, length-append (varint (type_of v)) (types_of values), length-varint (type_of v), (varint_len_is (type_of v)).0) in
    values_first stop end (types_of (v ∷ values)) front (type_of v, types_of values) some first
    ∙ elim (cut_where (body_of v) (bodies_of values) front cut) [
      | inl cut ↦
          let all = types_read stop end values are.1 (omega (arith, long, fits)) in
          ap (λ (r : Read (List (ℕ × ℕ))). r >>= λ all. then_value end (stop - length (types_of (v ∷ values)), type_of v) all front) all.1
          ∙ ap (λ (r : Read (Value × List ℕ)). r >>= λ w. values_at end all.0 w.1 >>= λ others. Ok (w.0 ∷ others.0, others.1)) (body_cut end (stop - length (types_of (v ∷ values))) v front cut)
      | inr later ↦
          let read : value_at end (stop - length (types_of (v ∷ values)), type_of v) front ≡ Ok (v, later.0) =
          ap (value_at end (stop - length (types_of (v ∷ values)), type_of v)) later.1 ∙ value_again end (stop - length (types_of (v ∷ values))) v later.0 are.0 in
          same_step (types_at stop (types_of values)) (λ all. then_value end (stop - length (types_of (v ∷ values)), type_of v) all front) (λ all. values_at end all later.0 >>= λ others. Ok (v ∷ others.0, others.1))
          (λ all _. ap (λ (r : Read (Value × List ℕ)). r >>= λ w. values_at end all w.1 >>= λ others. Ok (w.0 ∷ others.0, others.1)) read)
          ∙ sym (through (types_at stop (types_of values)) (λ all. values_at end all later.0) (λ others. (v ∷ others.0, others.1)))
          ∙ with_first stop end v values later.0 (bodies_cut stop end values later.0 are.1 (omega (arith, long, fits)) later.2)
    ]

-- ---- a record

-- types and bodies, cut off
columns_cut : (end : ℕ) (values : List Value) (front : List ℕ) → AreValues values → length (bodies_of values) < 2 ^ 32 → IsCut (types_of values ++ bodies_of values) front
    → columns_at end (length (types_of values)) front ≡ Err (Bad end Short)
unfolding columns_at
columns_cut end values front are fits cut =
    elim (cut_where (types_of values) (bodies_of values) front cut) [
      | inl first ↦ rw (lt-ltb (length front) (length (types_of values)) (cut_longer (types_of values) front first)) (types_cut end values front fits first)
      | inr later ↦
          let enough : nat_lt (length front) (length (types_of values)) ≡ false = le-ltb (length front) (length (types_of values)) (omega (arith, ap length later.1, length-append (types_of values) later.0)) in
          let types : take (length (types_of values)) front ≡ types_of values = ap (take (length (types_of values))) later.1 ∙ take_at (types_of values) later.0 (length (types_of values)) refl in
          let bodies : drop (length (types_of values)) front ≡ later.0 = ap (drop (length (types_of values))) later.1 ∙ drop_at (types_of values) later.0 (length (types_of values)) refl in
          rw (enough, types, bodies) (bodies_cut (end - length later.0) end values later.0 are fits later.2)
    ]

-- a record, cut off
record_cut : (values : List Value) (front : List ℕ) → AreValues values → length (encoding values) < 2 ^ 32 → IsCut (encoding values) front → record_at front ≡ Err (Bad (length front) Short)
unfolding record_at encoding
record_cut values front are fits cut =
    let types = all_types_fit values fits in
    let bodies : length (bodies_of values) < 2 ^ 32 = omega (arith, fits, length-encoding values) in
    elim (cut_where (varint (header_len (length (types_of values)))) (types_of values ++ bodies_of values) front cut) [
      | inl first ↦ rw (number_cut (length front) (header_len (length (types_of values))) front first) refl
      | inr later ↦
          let read : number_at (length front) front ≡ Ok (header_len (length (types_of values)), later.0) =
          ap (number_at (length front)) later.1 ∙ number_again (length front) (header_len (length (types_of values))) later.0 (header_fits (length (types_of values)) types) in
          rw (read, header_len-types (length (types_of values)) types, eq-eqb (header_len (length (types_of values))) (header_len (length (types_of values))) refl)
          (columns_cut (length front) values later.0 are bodies later.2)
    ]

-- and so is what is read of it
pub prefix_is_short : (values : List Value) (front missing : List ℕ) → AreValues values → length (encoding values) < 2 ^ 32 → encoding values ≡ front ++ missing → 0 < length missing
    → reading front ≡ Err (Bad (length front) Short)
unfolding reading
prefix_is_short values front missing are fits parts some =
    ap (λ (r : Read (List Value × List ℕ)). r >>= λ found. cond (length found.1 == 0) (Ok found.0) (fault (length front - length found.1) Tail))
    (record_cut values front are fits record { missing = missing; parts = parts; some = some })
