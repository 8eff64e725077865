-- A record is read as it was written, and what is read as a record is how it is written.
use Rattle.std.proofs.Common.{◌≡◌, ℕ, zero, suc, ◌+◌, ◌-◌, ◌*◌, ◌/◌, ◌%◌, ◌^◌, ◌<◌, ◌≤◌, ℤ, pos, negsuc, true, false, cond, List, [], ◌∷◌, ◌++◌, length, take, drop, if◌then◌else◌, rules, Option, Some, None, Ok, Err, refl, sym, ap, subst, ◌∙◌, append_assoc, arith, inl, inr, nat_lt, ◌⊎◌, w64, Fits, FitsSigned}
use Rattle.std.specs.Prelude.{◌==◌, fold, IfOk}
use Rattle.std.specs.Int.{cast_unsigned, bytes_high_first}
use Rattle.std.specs.Str.{is_utf8}
use Rattle.std.proofs.Math.Facts.{sfits_to_z}
use Rattle.std.proofs.lemmas.Bool.{cases_lt, lt-ltb, le-ltb, ltb-true, ltb-false, eqb-true, eq-eqb, ne_eqb}
use Rattle.std.proofs.lemmas.List.{take_at, drop_at, take-append-drop, length-append, length-take, nil_from_length, append-nil}
use Rattle.std.proofs.lemmas.Str.{IsUtf8-from_is_utf8, is_utf8-from_IsUtf8}
use Rattle.hc_value.specs.declared.value.Value.{Value}
use Rattle.hc_value.specs.declared.value.Value.TheVariants.{Null, Int, Text, Blob}
use Rattle.hc_record.specs.declared.fault.RecordKind.TheVariants.{Short, Spelling, Utf8, Tail}
use Rattle.hc_record.specs.Varint.{varint, varint_len, marked, read_varint}
use Rattle.hc_value.specs.Values.{IsValue, AreValues}
use Rattle.hc_record.specs.Record.{body_len, type_of_magnitude, type_of_int, type_of, body_of, types_of, bodies_of, header_len, encoding}
use Rattle.hc_record.specs.Reading.{◌>>=◌, Gives, fault, number_among, number_at, is_bad, type_at, types_within, types_at, bits_above, integer_of, value_of, value_at, values_at, values_of_types, columns_at, record_at, reading}
use Rattle.hc_text.proofs.ByteStrings.{IsBytes, IsBytes-drop, IsBytes-take}
use Rattle.hc_record.proofs.Steps.{first_step, chosen, ok_same}
use Rattle.hc_record.proofs.Numbers.{varint_len_is, number_again, IsFound, varint_found, length-varint, length-marked}
use Rattle.hc_record.proofs.Integers.{with_byte, integer_found, integer_again, bits_fit, int_body_len, type_of_magnitude_is, length-high_first}
use Rattle.hc_record.proofs.Types.{Read, type_is_number, values_first, then_value, through, same_step, type_shortens}
use Rattle.hc_record.proofs.Headers.{header_len-types}
use Rattle.hc_record.proofs.Encodings.{length-encoding, all_types_fit}

-- a fault is no success
no_fault : {A : Type 0} (at : ℕ) (kind : Rattle.hc_record.specs.declared.fault.RecordKind.RecordKind) (x : A) → (let no : Read A = fault at kind in no ≡ Ok x) → ⊥
no_fault at kind x e = cc

-- ---- what is read is written so

-- what follows the front of some bytes is bytes
IsBytes-after : (a b bytes : List ℕ) → bytes ≡ a ++ b → IsBytes bytes → IsBytes b
IsBytes-after a b bytes parts fits = subst IsBytes (ap (drop (length a)) parts ∙ drop_at a b (length a) refl) (IsBytes-drop (length a) bytes fits)

-- a number that was found in as many bytes as it takes is written so
number_parts : (bytes : List ℕ) (n : ℕ) (rest : List ℕ) → IsFound 8 0 bytes n rest → length bytes ≡ varint_len n + length rest → bytes ≡ varint n ++ rest
unfolding varint
number_parts bytes n rest r long =
    let len = varint_len_is n in
    let all : length bytes ≡ r.k + suc (length rest) = ap length r.parts ∙ length-append (marked r.k (n / 2 ^ r.s)) (n % 2 ^ r.s ∷ rest) ∙ ap (λ (k : ℕ). k + suc (length rest)) (length-marked r.k (n / 2 ^ r.s)) in
    elim r.which [
      | inl seven ↦
          let small : n < 2 ^ 56 = by_len n (omega (arith, all, long, seven.1)) in
          let k : r.k ≡ varint_len n - 1 = omega (arith, all, long) in
          r.parts
          ∙ ap (λ (s : ℕ). marked r.k (n / 2 ^ s) ++ n % 2 ^ s ∷ rest) seven.0
          ∙ ap (λ (j : ℕ). marked j (n / 2 ^ 7) ++ n % 2 ^ 7 ∷ rest) k
          ∙ sym (append_assoc (marked (varint_len n - 1) (n / 2 ^ 7)) (n % 2 ^ 7 ∷ []) rest)
          ∙ rw (lt-ltb n (2 ^ 56) small) refl
      | inr eight ↦
          let large : 2 ^ 56 ≤ n = by_nine n (omega (arith, all, long, eight.1)) in
          r.parts
          ∙ ap (λ (s : ℕ). marked r.k (n / 2 ^ s) ++ n % 2 ^ s ∷ rest) eight.0
          ∙ ap (λ (j : ℕ). marked j (n / 2 ^ 8) ++ n % 2 ^ 8 ∷ rest) eight.1
          ∙ rw (le-ltb n (2 ^ 56) large) refl
    ]
  where
    by_len : (n : ℕ) → varint_len n ≤ 8 → n < 2 ^ 56
    by_len n most = elim (cases_lt n (2 ^ 56)) [ inl lt ↦ lt | inr le ↦ absurd (omega (arith, (varint_len_is n).3 le)) ]

    by_nine : (n : ℕ) → varint_len n ≡ 9 → 2 ^ 56 ≤ n
    by_nine n nine = elim (cases_lt n (2 ^ 56)) [ inl lt ↦ absurd (omega (arith, ((varint_len_is n).2 lt).0)) | inr le ↦ le ]

-- the same, from a reading that told no fault
number_among_found : (stop : ℕ) (bytes : List ℕ) (o : Option (ℕ × List ℕ)) (x : ℕ × List ℕ) → IsBytes bytes → read_varint 8 0 bytes ≡ o → number_among stop bytes o ≡ Ok x → bytes ≡ varint x.0 ++ x.1
number_among_found stop bytes None x fits is e = absurd (no_fault stop Short x e)
number_among_found stop bytes (Some (n, rest)) x fits is e =
    elim (chosen (length bytes == varint_len n + length rest) (Ok (n, rest)) (fault (stop - length bytes) Spelling) (Ok x) e) [
      | inl short ↦ subst (λ (y : ℕ × List ℕ). bytes ≡ varint y.0 ++ y.1) (ok_same (n, rest) x short.1) (number_parts bytes n rest (varint_found 8 0 bytes (n, rest) fits is) (eqb-true _ _ short.0))
      | inr long ↦ absurd (no_fault (stop - length bytes) Spelling x long.1)
    ]

-- a number that was read is written so, and what is left is bytes
pub number_found : (stop : ℕ) (bytes : List ℕ) (x : ℕ × List ℕ) → IsBytes bytes → number_at stop bytes ≡ Ok x → (bytes ≡ varint x.0 ++ x.1) × IsBytes x.1
unfolding number_at
number_found stop bytes x fits e =
    let parts = number_among_found stop bytes (read_varint 8 0 bytes) x fits refl e in
    (parts, IsBytes-after (varint x.0) x.1 bytes parts fits)

-- numbers whose test is false differ
eqb-false' : (m n : ℕ) → (m == n) ≡ false → m ≡ n → ⊥
eqb-false' m n e same = cc_false (sym e ∙ eq-eqb m n same)
  where
    cc_false : false ≡ true → ⊥
    cc_false q = cc

-- an odd type from 12 on is that of a text of its body's length
odd_type : (t len : ℕ) → 12 ≤ t → len ≡ (t - 12) / 2 → (t % 2 ≡ 0 → ⊥) → 13 + 2 * len ≡ t
odd_type t len le is odd =
    elim (cases_lt (t % 2) 1) [ inl lt ↦ absurd (odd (omega (arith, lt))) | inr ge ↦ omega (arith, ge, is, le) ]

-- a value that was read: its body, its type, and that it is a value
abbrev IsRead : List ℕ → ℕ → Value → Type 0
IsRead body t v = (body ≡ body_of v) × (type_of v ≡ t) × IsValue v

-- a body of no length is empty
without_body : (body : List ℕ) (t : ℕ) → body_len t ≡ 0 → length body ≡ body_len t → body ≡ []
without_body body t none long = nil_from_length body (long ∙ none)

-- a type from 7 to 11 that is not bad is 8 or 9
zero_or_one : (t : ℕ) → 7 ≤ t → t < 12 → is_bad t ≡ false → (t ≡ 8) ⊎ (t ≡ 9)
zero_or_one t le lt good = grind arith

-- what is read from at most eight bytes is an i64
integer_fits : (body : List ℕ) → IsBytes body → length body ≤ 8 → FitsSigned w64 (integer_of body)
integer_fits body fits short =
    let fit : Fits w64 (fold with_byte (bits_above body) body) = omega (arith, bits_fit body fits short) in
    sfits_to_z {w = w64} {n = fold with_byte (bits_above body) body} fit

-- 0 and 1 are i64
zero_fits : FitsSigned w64 (pos 0)
zero_fits = search rules

one_fits : FitsSigned w64 (pos 1)
one_fits = search rules

-- what was read with type 0 is NULL; with the type of the body's integer, that integer; with 8 or 9, 0 or 1
null_read : (body : List ℕ) (t : ℕ) → t ≡ 0 → length body ≡ body_len t → IsRead body t Null
unfolding body_len
null_read body t none long = (nil_from_length body (long ∙ ap body_len none), sym none, tt)

integer_read : (body : List ℕ) (t : ℕ) → IsBytes body → length body ≡ body_len t → type_of_int (integer_of body) ≡ t → IsRead body t (Int (integer_of body))
integer_read body t fits long same =
    let len : length body ≡ body_len (type_of_int (integer_of body)) = long ∙ ap body_len (sym same) in
    let short : length body ≤ 8 = omega (arith, len, int_body_len (integer_of body)) in
    (sym (ap (λ (w : ℕ). bytes_high_first w (cast_unsigned w64 (integer_of body))) (sym len) ∙ integer_found body fits short), same, integer_fits body fits short)

small_read : (body : List ℕ) (t : ℕ) → length body ≡ body_len t → (t ≡ 8) ⊎ (t ≡ 9) → IsRead body t (Int (if◌then◌else◌ (t == 9) (pos 1) (pos 0)))
unfolding body_len
small_read body t long (inl eight) =
    subst (λ (n : ℕ). IsRead body n (Int (cond (n == 9) (pos 1) (pos 0)))) (sym eight) (nil_from_length body (subst (λ (n : ℕ). length body ≡ body_len n) eight long), refl, zero_fits)
small_read body t long (inr nine) =
    subst (λ (n : ℕ). IsRead body n (Int (cond (n == 9) (pos 1) (pos 0)))) (sym nine) (nil_from_length body (subst (λ (n : ℕ). length body ≡ body_len n) nine long), refl, one_fits)

-- a type from 12 on has a body of half of what it is above 12
long_body : (t : ℕ) → 12 ≤ t → body_len t ≡ (t - 12) / 2
unfolding body_len
long_body t le = rw (le-ltb t 5 (omega arith), ne_eqb t 5 (λ e. omega arith), ne_eqb t 6 (λ e. omega arith), le-ltb t 12 le) refl

-- a value that was read from a body has that body and that type
value_of_found : (type_place place t : ℕ) (body : List ℕ) (v : Value) → IsBytes body → length body ≡ body_len t → is_bad t ≡ false → value_of type_place place t body ≡ Ok v → IsRead body t v
unfolding value_of
value_of_found type_place place t body v fits long good e =
    elim (chosen (t == 0) (Ok Null) _ (Ok v) e) [
      | inl null ↦ subst (IsRead body t) (ok_same Null v null.1) (null_read body t (eqb-true _ _ null.0) long)
      | inr some ↦
          elim (chosen (nat_lt t 7) _ _ (Ok v) some.1) [
            | inl int ↦
                elim (chosen (type_of_int (integer_of body) == t) (Ok (Int (integer_of body))) (fault type_place Spelling) (Ok v) int.1) [
                  | inl first ↦ subst (IsRead body t) (ok_same (Int (integer_of body)) v first.1) (integer_read body t fits long (eqb-true _ _ first.0))
                  | inr other ↦ absurd (no_fault type_place Spelling v other.1)
                ]
            | inr wide ↦
                elim (chosen (nat_lt t 12) (Ok (Int (cond (t == 9) (pos 1) (pos 0)))) _ (Ok v) wide.1) [
                  | inl small ↦ subst (IsRead body t) (ok_same (Int (cond (t == 9) (pos 1) (pos 0))) v small.1) (small_read body t long (zero_or_one t (ltb-false _ _ wide.0) (ltb-true _ _ small.0) good))
                  | inr large ↦
                      let le : 12 ≤ t = ltb-false _ _ large.0 in
                      let len : length body ≡ (t - 12) / 2 = long ∙ long_body t le in
                      elim (chosen (t % 2 == 0) (Ok (Blob body)) (cond (is_utf8 body) (Ok (Text body)) (fault place Utf8)) (Ok v) large.1) [
                        | inl even ↦ subst (IsRead body t) (ok_same (Blob body) v even.1) (refl, omega (arith, len, le, eqb-true (t % 2) 0 even.0), tt)
                        | inr odd ↦
                            elim (chosen (is_utf8 body) (Ok (Text body)) (fault place Utf8) (Ok v) odd.1) [
                              | inl good ↦ subst (IsRead body t) (ok_same (Text body) v good.1) (refl, odd_type t (length body) le len (eqb-false' (t % 2) 0 odd.0), IsUtf8-from_is_utf8 body good.0)
                              | inr ill ↦ absurd (no_fault place Utf8 v ill.1)
                            ]
                      ]
                ]
          ]
    ]

-- the same of a value at the front of some bytes, and what is left is bytes
value_found : (end place t : ℕ) (bytes : List ℕ) (x : Value × List ℕ) → IsBytes bytes → is_bad t ≡ false → value_at end (place, t) bytes ≡ Ok x → (bytes ≡ body_of x.0 ++ x.1) × (type_of x.0 ≡ t) × IsValue x.0 × IsBytes x.1
unfolding value_at
value_found end place t bytes x fits good e =
    elim (chosen (nat_lt (length bytes) (body_len t)) (fault end Short) (value_of place (end - length bytes) t (take (body_len t) bytes) >>= λ v. Ok (v, drop (body_len t) bytes)) (Ok x) e) [
      | inl short ↦ absurd (no_fault end Short x short.1)
      | inr whole ↦
          let le : body_len t ≤ length bytes = ltb-false _ _ whole.0 in
          let a = first_step (value_of place (end - length bytes) t (take (body_len t) bytes)) (λ v. Ok (v, drop (body_len t) bytes)) x whole.1 in
          let r = value_of_found place (end - length bytes) t (take (body_len t) bytes) a.0 (IsBytes-take (body_len t) bytes fits) (omega (arith, length-take (body_len t) bytes, le)) good a.1 in
          subst (λ (y : Value × List ℕ). (bytes ≡ body_of y.0 ++ y.1) × (type_of y.0 ≡ t) × IsValue y.0 × IsBytes y.1) (ok_same (a.0, drop (body_len t) bytes) x a.2)
          (sym (take-append-drop (body_len t) bytes) ∙ ap (λ (l : List ℕ). l ++ drop (body_len t) bytes) r.0, r.1, r.2, IsBytes-drop (body_len t) bytes fits)
    ]

-- the types up to a place, and the bodies after it
values_found : (most stop end : ℕ) (types bytes : List ℕ) (all : List (ℕ × ℕ)) (x : List Value × List ℕ) → length types ≤ most → IsBytes types → IsBytes bytes → types_within most stop types ≡ Ok all → values_at end all bytes ≡ Ok x
    → (types ≡ types_of x.0) × (bytes ≡ bodies_of x.0 ++ x.1) × AreValues x.0
values_found most stop end [] bytes all x within fits bytes_fit read e =
    none_found bytes all x (ok_same [] all (no_types most stop ∙ read)) e
  where
    no_types : (most stop : ℕ) → (let none : Read (List (ℕ × ℕ)) = Ok [] in none ≡ types_within most stop [])
    no_types zero stop = refl
    no_types (suc most) stop = refl

    none_found : (bytes : List ℕ) (all : List (ℕ × ℕ)) (x : List Value × List ℕ) → [] ≡ all → values_at end all bytes ≡ Ok x → ([] ≡ types_of x.0) × (bytes ≡ bodies_of x.0 ++ x.1) × AreValues x.0
    none_found bytes all x none e =
        subst (λ (y : List Value × List ℕ). ([] ≡ types_of y.0) × (bytes ≡ bodies_of y.0 ++ y.1) × AreValues y.0)
        (ok_same ([], bytes) x (subst (λ (l : List (ℕ × ℕ)). values_at end l bytes ≡ Ok x) (sym none) e)) (refl, refl, tt)
values_found zero stop end (b ∷ types) bytes all x within fits bytes_fit read e = absurd (omega arith)
values_found (suc most) stop end (b ∷ types) bytes all x within fits bytes_fit read e =
    let place : ℕ = stop - length (b ∷ types) in
    let a = first_step (type_at stop (b ∷ types)) (λ t. types_within most stop t.1 >>= λ others. Ok ((stop - length (b ∷ types), t.0) ∷ others)) all read in
    let o = first_step (types_within most stop a.0.1) (λ others. Ok ((stop - length (b ∷ types), a.0.0) ∷ others)) all a.2 in
    let t = type_is_number stop (b ∷ types) a.0 a.1 in
    let n = number_found stop (b ∷ types) a.0 fits t.0 in
    let e' = subst (λ (l : List (ℕ × ℕ)). values_at end l bytes ≡ Ok x) (sym (ok_same ((stop - length (b ∷ types), a.0.0) ∷ o.0) all o.2)) e in
    let v = first_step (value_at end (stop - length (b ∷ types), a.0.0) bytes) (λ v. values_at end o.0 v.1 >>= λ values. Ok (v.0 ∷ values.0, values.1)) x e' in
    let w = first_step (values_at end o.0 v.0.1) (λ values. Ok (v.0.0 ∷ values.0, values.1)) x v.2 in
    let first = value_found end (stop - length (b ∷ types)) a.0.0 bytes v.0 bytes_fit t.1 v.1 in
    let others = values_found most stop end a.0.1 v.0.1 o.0 w.0 (omega (arith, within, type_shortens stop (b ∷ types) a.0 a.1)) n.1 first.3 o.1 w.1 in
    subst (λ (y : List Value × List ℕ). (b ∷ types ≡ types_of y.0) × (bytes ≡ bodies_of y.0 ++ y.1) × AreValues y.0) (ok_same (v.0.0 ∷ w.0.0, w.0.1) x w.2) (
      n.0 ∙ ap (λ (m : ℕ). varint m ++ a.0.1) (sym first.1) ∙ ap (λ (l : List ℕ). varint (type_of v.0.0) ++ l) others.0,
      first.0 ∙ ap (λ (l : List ℕ). body_of v.0.0 ++ l) others.1 ∙ sym (append_assoc (body_of v.0.0) (bodies_of w.0.0) w.0.1),
      (first.2, others.2),
    )

-- values that were read after a header are written so, with their types in as many bytes as the header says
columns_found : (end size : ℕ) (bytes : List ℕ) (x : List Value × List ℕ) → IsBytes bytes → columns_at end size bytes ≡ Ok x → (length (types_of x.0) ≡ size) × (bytes ≡ types_of x.0 ++ (bodies_of x.0 ++ x.1)) × AreValues x.0
unfolding columns_at values_of_types types_at
columns_found end size bytes x fits e =
    elim (chosen (nat_lt (length bytes) size) (types_within (length bytes) end bytes >>= λ types. fault end Short) (types_within (length (take size bytes)) (end - length (drop size bytes)) (take size bytes) >>= λ all. values_at end all (drop size bytes)) (Ok x) e) [
      | inl short ↦ absurd (no_fault end Short x (first_step (types_within (length bytes) end bytes) (λ types. fault end Short) x short.1).2)
      | inr whole ↦
          let le : size ≤ length bytes = ltb-false _ _ whole.0 in
          let a = first_step (types_within (length (take size bytes)) (end - length (drop size bytes)) (take size bytes)) (λ all. values_at end all (drop size bytes)) x whole.1 in
          let r = values_found (length (take size bytes)) (end - length (drop size bytes)) end (take size bytes) (drop size bytes) a.0 x (omega arith) (IsBytes-take size bytes fits) (IsBytes-drop size bytes fits) a.1 a.2 in (
            sym (ap length r.0) ∙ (let e : length (take size bytes) ≡ size = omega (arith, length-take size bytes, le) in e),
            sym (take-append-drop size bytes) ∙ ap (λ (l : List ℕ). l ++ drop size bytes) r.0 ∙ ap (λ (l : List ℕ). types_of x.0 ++ l) r.1,
            r.2,
          )
    ]

-- a record that was read at the front of some bytes is written so
pub record_found : (bytes : List ℕ) (x : List Value × List ℕ) → IsBytes bytes → record_at bytes ≡ Ok x → (bytes ≡ encoding x.0 ++ x.1) × AreValues x.0
unfolding record_at encoding
record_found bytes x fits e =
    let a = first_step (number_at (length bytes) bytes) (λ header. cond (header_len (header.0 - varint_len header.0) == header.0) (columns_at (length bytes) (header.0 - varint_len header.0) header.1) (fault 0 Spelling)) x e in
    elim (chosen (header_len (a.0.0 - varint_len a.0.0) == a.0.0) (columns_at (length bytes) (a.0.0 - varint_len a.0.0) a.0.1) (fault 0 Spelling) (Ok x) a.2) [
      | inl made ↦
          let n = number_found (length bytes) bytes a.0 fits a.1 in
          let r = columns_found (length bytes) (a.0.0 - varint_len a.0.0) a.0.1 x n.1 made.1 in
          let head : header_len (length (types_of x.0)) ≡ a.0.0 = ap header_len r.0 ∙ eqb-true _ _ made.0 in (
            n.0
                ∙ ap (λ (m : ℕ). varint m ++ a.0.1) (sym head)
                ∙ ap (λ (l : List ℕ). varint (header_len (length (types_of x.0))) ++ l) (r.1 ∙ sym (append_assoc (types_of x.0) (bodies_of x.0) x.1))
                ∙ sym (append_assoc (varint (header_len (length (types_of x.0)))) (types_of x.0 ++ bodies_of x.0) x.1),
            r.2,
          )
      | inr never ↦ absurd (no_fault 0 Spelling x never.1)
    ]

-- ---- what is written is read again

-- a body is as long as the value's type says
pub length-body_of : (v : Value) → length (body_of v) ≡ body_len (type_of v)
unfolding body_len
length-body_of Null = refl
length-body_of (Int n) = length-high_first (body_len (type_of_int n)) (cast_unsigned w64 n)
length-body_of (Text text) = rw (le-ltb (13 + 2 * length text) 5 (omega arith), ne_eqb (13 + 2 * length text) 5 (λ e. omega arith), ne_eqb (13 + 2 * length text) 6 (λ e. omega arith), le-ltb (13 + 2 * length text) 12 (omega arith)) (omega arith)
length-body_of (Blob bytes) = rw (le-ltb (12 + 2 * length bytes) 5 (omega arith), ne_eqb (12 + 2 * length bytes) 5 (λ e. omega arith), ne_eqb (12 + 2 * length bytes) 6 (λ e. omega arith), le-ltb (12 + 2 * length bytes) 12 (omega arith)) (omega arith)

-- an integer with a body is read again from its type and its body
integer_value_again : (type_place place : ℕ) (z : ℤ) → FitsSigned w64 z → 1 ≤ type_of_int z → type_of_int z ≤ 6 → value_of type_place place (type_of_int z) (body_of (Int z)) ≡ Ok (Int z)
unfolding value_of
integer_value_again type_place place z fits one most =
    rw (ne_eqb (type_of_int z) 0 (λ e. omega (arith, one)), lt-ltb (type_of_int z) 7 (omega (arith, most)), integer_again z fits most, eq-eqb (type_of_int z) (type_of_int z) refl) refl

-- an integer from 2 on has the type of its size
two_or_more : (n : ℕ) → type_of_int (pos (suc (suc n))) ≡ type_of_magnitude (suc (suc n))
two_or_more n = rw (le-ltb (suc (suc n)) 2 (omega arith)) refl

-- a value is read again from its type and its body
value_of_again : (type_place place : ℕ) (v : Value) → IsValue v → value_of type_place place (type_of v) (body_of v) ≡ Ok v
unfolding value_of body_len
value_of_again type_place place Null is = refl
value_of_again type_place place (Int (pos zero)) is = refl
value_of_again type_place place (Int (pos (suc zero))) is = refl
value_of_again type_place place (Int (pos (suc (suc n)))) is =
    let t = type_of_magnitude_is (suc (suc n)) in
    integer_value_again type_place place (pos (suc (suc n))) is (omega (arith, two_or_more n, t.0)) (omega (arith, two_or_more n, t.1))
value_of_again type_place place (Int (negsuc n)) is = integer_value_again type_place place (negsuc n) is (type_of_magnitude_is n).0 (type_of_magnitude_is n).1
value_of_again type_place place (Text text) is =
    let odd : (13 + 2 * length text) % 2 ≡ 1 = omega arith in
    rw (ne_eqb (13 + 2 * length text) 0 (λ e. omega arith), le-ltb (13 + 2 * length text) 7 (omega arith), le-ltb (13 + 2 * length text) 12 (omega arith), odd, is_utf8-from_IsUtf8 text is) refl
value_of_again type_place place (Blob bytes) is =
    let even : (12 + 2 * length bytes) % 2 ≡ 0 = omega arith in
    rw (ne_eqb (12 + 2 * length bytes) 0 (λ e. omega arith), le-ltb (12 + 2 * length bytes) 7 (omega arith), le-ltb (12 + 2 * length bytes) 12 (omega arith), even) refl

-- the same where more bytes follow
pub value_again : (end place : ℕ) (v : Value) (rest : List ℕ) → IsValue v → value_at end (place, type_of v) (body_of v ++ rest) ≡ Ok (v, rest)
unfolding value_at
value_again end place v rest is =
    let len = length-body_of v in
    rw (le-ltb (length (body_of v ++ rest)) (body_len (type_of v)) (omega (arith, len, length-append (body_of v) rest)), take_at (body_of v) rest (body_len (type_of v)) len, drop_at (body_of v) rest (body_len (type_of v)) len, value_of_again place (end - length (body_of v ++ rest)) v is) refl

-- a type up to 6 is not bad, and neither is one from 12 on
below_7 : (t : ℕ) → t ≤ 6 → is_bad t ≡ false
below_7 t le = rw (ne_eqb t 7 (λ e. omega (arith, le)), ne_eqb t 10 (λ e. omega (arith, le)), ne_eqb t 11 (λ e. omega (arith, le))) refl

above_11 : (t : ℕ) → 12 ≤ t → is_bad t ≡ false
above_11 t le = rw (ne_eqb t 7 (λ e. omega (arith, le)), ne_eqb t 10 (λ e. omega (arith, le)), ne_eqb t 11 (λ e. omega (arith, le))) refl

-- no value has a bad type
no_bad_type : (v : Value) → is_bad (type_of v) ≡ false
no_bad_type Null = refl
no_bad_type (Int (pos zero)) = refl
no_bad_type (Int (pos (suc zero))) = refl
no_bad_type (Int (pos (suc (suc n)))) = below_7 (type_of_int (pos (suc (suc n)))) (omega (arith, two_or_more n, (type_of_magnitude_is (suc (suc n))).1))
no_bad_type (Int (negsuc n)) = below_7 (type_of_magnitude n) (type_of_magnitude_is n).1
no_bad_type (Text text) = above_11 (13 + 2 * length text) (omega arith)
no_bad_type (Blob bytes) = above_11 (12 + 2 * length bytes) (omega arith)

-- a value's type is read again
pub type_again : (stop : ℕ) (v : Value) (rest : List ℕ) → type_of v < 2 ^ 64 → type_at stop (varint (type_of v) ++ rest) ≡ Ok (type_of v, rest)
unfolding type_at
type_again stop v rest fits = rw (number_again stop (type_of v) rest fits, no_bad_type v) refl

-- the type of a value whose body is below 2 ^ 32 bytes is a number of 64 bits
pub type_fits : (v : Value) → length (body_of v) < 2 ^ 32 → type_of v < 2 ^ 64
type_fits Null fits = omega arith
type_fits (Int (pos zero)) fits = omega arith
type_fits (Int (pos (suc zero))) fits = omega arith
type_fits (Int (pos (suc (suc n)))) fits = omega (arith, two_or_more n, (type_of_magnitude_is (suc (suc n))).1)
type_fits (Int (negsuc n)) fits = omega (arith, (type_of_magnitude_is n).1)
type_fits (Text text) fits = omega (arith, fits)
type_fits (Blob bytes) fits = omega (arith, fits)

-- of no types no values are read
none_again : (stop end : ℕ) (rest : List ℕ) → values_of_types stop end [] rest ≡ Ok ([], rest)
unfolding values_of_types types_at
none_again stop end rest = refl

-- a value before others that were read
abbrev pub put_first : Value → List Value × List ℕ → Read (List Value × List ℕ)
put_first v others = Ok (v ∷ others.0, others.1)

-- where the others are read again, so are they with a value before them
with_first : (stop end : ℕ) (v : Value) (values : List Value) (rest : List ℕ) → values_of_types stop end (types_of values) (bodies_of values ++ rest) ≡ Ok (values, rest)
    → ((types_at stop (types_of values) >>= λ all. values_at end all (bodies_of values ++ rest)) >>= put_first v) ≡ Ok (v ∷ values, rest)
unfolding values_of_types
with_first stop end v values rest e = ap (λ (r : Read (List Value × List ℕ)). r >>= put_first v) e

-- values are read again from their types and their bodies
pub values_again : (stop end : ℕ) (values : List Value) (rest : List ℕ) → AreValues values → length (bodies_of values) < 2 ^ 32 → values_of_types stop end (types_of values) (bodies_of values ++ rest) ≡ Ok (values, rest)
values_again stop end [] rest are fits = none_again stop end rest
values_again stop end (v ∷ values) rest are fits =
    let long : length (bodies_of (v ∷ values)) ≡ length (body_of v) + length (bodies_of values) = length-append (body_of v) (bodies_of values) in
    let first = type_again stop v (types_of values) (type_fits v (omega (arith, long, fits))) in
    let some : 0 < length (types_of (v ∷ values)) = omega (arith, length-append (varint (type_of v)) (types_of values), length-varint (type_of v), (varint_len_is (type_of v)).0) in
    let place : ℕ = stop - length (types_of (v ∷ values)) in
    ap (values_of_types stop end (types_of (v ∷ values))) (append_assoc (body_of v) (bodies_of values) rest)
    ∙ values_first stop end (types_of (v ∷ values)) (body_of v ++ (bodies_of values ++ rest)) (type_of v, types_of values) some first
    ∙ same_step (types_at stop (types_of values)) (λ all. then_value end (stop - length (types_of (v ∷ values)), type_of v) all (body_of v ++ (bodies_of values ++ rest))) (λ all. values_at end all (bodies_of values ++ rest) >>= λ others. Ok (v ∷ others.0, others.1))
    (λ all _. ap (λ (r : Read (Value × List ℕ)). r >>= λ w. values_at end all w.1 >>= λ others. Ok (w.0 ∷ others.0, others.1)) (value_again end (stop - length (types_of (v ∷ values))) v (bodies_of values ++ rest) are.0))
    ∙ sym (through (types_at stop (types_of values)) (λ all. values_at end all (bodies_of values ++ rest)) (λ others. (v ∷ others.0, others.1)))
    ∙ with_first stop end v values rest (values_again stop end values rest are.1 (omega (arith, long, fits)))

-- the same from types and bodies one after the other
columns_again : (end : ℕ) (values : List Value) (rest : List ℕ) → AreValues values → length (bodies_of values) < 2 ^ 32 → columns_at end (length (types_of values)) (types_of values ++ (bodies_of values ++ rest)) ≡ Ok (values, rest)
unfolding columns_at
columns_again end values rest are fits =
    rw (le-ltb (length (types_of values ++ (bodies_of values ++ rest))) (length (types_of values)) (omega (arith, length-append (types_of values) (bodies_of values ++ rest))), take_at (types_of values) (bodies_of values ++ rest) (length (types_of values)) refl, drop_at (types_of values) (bodies_of values ++ rest) (length (types_of values)) refl)
    (values_again (end - length (bodies_of values ++ rest)) end values rest are fits)

-- a header's length is a number of 64 bits
pub header_fits : (types : ℕ) → types < 2 ^ 32 → header_len types < 2 ^ 64
unfolding header_len
header_fits types fits = omega (arith, (varint_len_is (types + varint_len types)).1)

-- a record is read again, and what follows it is left
pub record_again : (values : List Value) (rest : List ℕ) → AreValues values → length (encoding values) < 2 ^ 32 → record_at (encoding values ++ rest) ≡ Ok (values, rest)
unfolding record_at encoding
record_again values rest are fits =
    let types = all_types_fit values fits in
    let bodies : length (bodies_of values) < 2 ^ 32 = omega (arith, fits, length-encoding values) in
    let h : ℕ = header_len (length (types_of values)) in
    let size = header_len-types (length (types_of values)) types in
    let parts : encoding values ++ rest ≡ varint (header_len (length (types_of values))) ++ (types_of values ++ (bodies_of values ++ rest)) =
    append_assoc (varint (header_len (length (types_of values)))) (types_of values ++ bodies_of values) rest
    ∙ ap (λ (l : List ℕ). varint (header_len (length (types_of values))) ++ l) (append_assoc (types_of values) (bodies_of values) rest) in
    ap record_at parts
    ∙ rw (number_again (length (varint (header_len (length (types_of values))) ++ (types_of values ++ (bodies_of values ++ rest)))) (header_len (length (types_of values))) (types_of values ++ (bodies_of values ++ rest)) (header_fits (length (types_of values)) types), size, eq-eqb (header_len (length (types_of values))) (header_len (length (types_of values))) refl)
    (columns_again (length (varint (header_len (length (types_of values))) ++ (types_of values ++ (bodies_of values ++ rest)))) values rest are bodies)

-- ---- all of the bytes

-- bytes that are read as a record are its encoding
pub reading_found : (bytes : List ℕ) (values : List Value) → IsBytes bytes → reading bytes ≡ Ok values → AreValues values × (bytes ≡ encoding values)
unfolding reading
reading_found bytes values fits e =
    let a = first_step (record_at bytes) (λ found. cond (length found.1 == 0) (Ok found.0) (fault (length bytes - length found.1) Tail)) values e in
    elim (chosen (length a.0.1 == 0) (Ok a.0.0) (fault (length bytes - length a.0.1) Tail) (Ok values) a.2) [
      | inl all ↦
          let r = record_found bytes a.0 fits a.1 in
          let nothing : a.0.1 ≡ [] = nil_from_length a.0.1 (eqb-true _ _ all.0) in
          subst (λ (l : List Value). AreValues l × (bytes ≡ encoding l)) (ok_same a.0.0 values all.1)
          (r.1, r.0 ∙ ap (λ (l : List ℕ). encoding a.0.0 ++ l) nothing ∙ append-nil (encoding a.0.0))
      | inr tail ↦ absurd (no_fault (length bytes - length a.0.1) Tail values tail.1)
    ]

-- the encoding of values is read as these values
pub reading_again : (values : List Value) → AreValues values → length (encoding values) < 2 ^ 32 → reading (encoding values) ≡ Ok values
unfolding reading
reading_again values are fits =
    let e : record_at (encoding values) ≡ Ok (values, []) = ap record_at (sym (append-nil (encoding values))) ∙ record_again values [] are fits in
    ap (λ (r : Read (List Value × List ℕ)). r >>= λ found. cond (length found.1 == 0) (Ok found.0) (fault (length (encoding values) - length found.1) Tail)) e

-- what was given of a reading that went through is values, and the bytes are their encoding
pub is_found : (bytes : List ℕ) (r : Read (List Value)) → IsBytes bytes → Gives (λ found. found) r (reading bytes) → IfOk r (λ values. AreValues values × (bytes ≡ encoding values))
is_found bytes (Ok values) fits given = reading_found bytes values fits given
is_found bytes (Err e) fits given = tt

-- where the same bytes begin with two records, the lists are one, and so are the rests
pub none_begins_another : (v w : List Value) (rest more : List ℕ) → AreValues v → AreValues w → length (encoding v) < 2 ^ 32 → length (encoding w) < 2 ^ 32 → encoding v ++ rest ≡ encoding w ++ more → (v ≡ w) × (rest ≡ more)
none_begins_another v w rest more v_are w_are v_fits w_fits same =
    let e : (v, rest) ≡ (w, more) = ok_same (v, rest) (w, more) (sym (record_again v rest v_are v_fits) ∙ ap record_at same ∙ record_again w more w_are w_fits) in
    (ap (λ (x : List Value × List ℕ). x.0) e, ap (λ (x : List Value × List ℕ). x.1) e)
