-- Only what follows a record is a Tail: no step within a record tells that fault.
use Rattle.std.proofs.Common.{◌≡◌, ◌≢◌, ℕ, zero, suc, ◌+◌, ◌-◌, ◌^◌, ◌%◌, ◌<◌, pos, Bool, true, false, cond, List, [], ◌∷◌, length, take, drop, Option, Some, None, Ok, Err, refl, sym, ap, ◌∙◌, arith, inl, inr, nat_lt}
use Rattle.std.specs.Prelude.{◌==◌}
use Rattle.std.specs.Str.{is_utf8}
use Rattle.std.proofs.lemmas.List.{length-append, nil_from_length}
use Rattle.hc_value.specs.declared.value.Value.{Value}
use Rattle.hc_value.specs.declared.value.Value.TheVariants.{Null, Int, Text, Blob}
use Rattle.hc_record.specs.declared.fault.RecordKind.TheVariants.{Short, Spelling, Utf8, BadType, Tail}
use Rattle.hc_record.specs.declared.fault.RecordFault.{RecordFault}
use Rattle.hc_record.specs.declared.fault.RecordFault.TheVariants.{Bad}
use Rattle.hc_record.specs.Varint.{varint_len, read_varint}
use Rattle.hc_record.specs.Record.{body_len, type_of_int, header_len, encoding}
use Rattle.hc_record.specs.Reading.{◌>>=◌, fault, number_among, number_at, is_bad, type_at, types_within, types_at, integer_of, value_of, value_at, values_at, values_of_types, columns_at, record_at, reading}
use Rattle.hc_record.specs.Laws.{HasTail}
use Rattle.hc_text.proofs.ByteStrings.{IsBytes}
use Rattle.hc_record.proofs.Steps.{chosen}
use Rattle.hc_record.proofs.Types.{Read}
use Rattle.hc_record.proofs.Records.{record_found, record_again}

-- a step that tells no Tail
abbrev NoTail : {A : Type 0} → Read A → Type 0
NoTail r = (at : ℕ) → r ≡ Err (Bad at Tail) → ⊥

-- a success tells no Tail
ok_no_tail : {A : Type 0} (x : A) → NoTail (let done : Read A = Ok x in done)
ok_no_tail x at e = cc

-- errors that are the same are of one fault
err_same : {B : Type 0} (e f : RecordFault) → (let error : RecordFault → Read B = λ a. Err a in error e ≡ error f) → e ≡ f
err_same e f same = cc

-- two steps that tell no Tail tell none together, and so does either of two by a test
then_no_tail : {A B : Type 0} (r : Read A) (f : A → Read B) → NoTail r → ((x : A) → NoTail (f x)) → NoTail (r >>= f)
then_no_tail (Ok x) f p q at same = q x at same
then_no_tail (Err e) f p q at same = p at (ap (λ (g : RecordFault). Err g) (err_same e (Bad at Tail) same))

either_no_tail : {A : Type 0} (b : Bool) (x y : Read A) → NoTail x → NoTail y → NoTail (cond b x y)
either_no_tail true x y p q = p
either_no_tail false x y p q = q

-- no other kind of fault is a Tail
short_no_tail : {A : Type 0} (stop : ℕ) → NoTail (let no : Read A = fault stop Short in no)
short_no_tail stop at e = cc

spelling_no_tail : {A : Type 0} (stop : ℕ) → NoTail (let no : Read A = fault stop Spelling in no)
spelling_no_tail stop at e = cc

bad_type_no_tail : {A : Type 0} (stop : ℕ) → NoTail (let no : Read A = fault stop BadType in no)
bad_type_no_tail stop at e = cc

utf8_no_tail : {A : Type 0} (stop : ℕ) → NoTail (let no : Read A = fault stop Utf8 in no)
utf8_no_tail stop at e = cc

-- reading a number tells no Tail
among_no_tail : (stop : ℕ) (bytes : List ℕ) (o : Option (ℕ × List ℕ)) → NoTail (number_among stop bytes o)
among_no_tail stop bytes None = short_no_tail stop
among_no_tail stop bytes (Some (n, rest)) = either_no_tail (length bytes == varint_len n + length rest) (Ok (n, rest)) (fault (stop - length bytes) Spelling) (ok_no_tail (n, rest)) (spelling_no_tail (stop - length bytes))

number_no_tail : (stop : ℕ) (bytes : List ℕ) → NoTail (number_at stop bytes)
unfolding number_at
number_no_tail stop bytes = among_no_tail stop bytes (read_varint 8 0 bytes)

-- reading a type tells no Tail, and neither does reading several
type_no_tail : (stop : ℕ) (bytes : List ℕ) → NoTail (type_at stop bytes)
unfolding type_at
type_no_tail stop bytes =
    then_no_tail (number_at stop bytes) (λ t. cond (is_bad t.0) (fault (stop - length bytes) BadType) (Ok t)) (number_no_tail stop bytes)
    (λ t. either_no_tail (is_bad t.0) (fault (stop - length bytes) BadType) (Ok t) (bad_type_no_tail (stop - length bytes)) (ok_no_tail t))

types_no_tail : (most stop : ℕ) (bytes : List ℕ) → NoTail (types_within most stop bytes)
types_no_tail zero stop bytes = ok_no_tail []
types_no_tail (suc most) stop [] = ok_no_tail []
types_no_tail (suc most) stop (b ∷ bytes) =
    then_no_tail (type_at stop (b ∷ bytes)) (λ t. types_within most stop t.1 >>= λ types. Ok ((stop - length (b ∷ bytes), t.0) ∷ types)) (type_no_tail stop (b ∷ bytes))
    (λ t. then_no_tail (types_within most stop t.1) (λ types. Ok ((stop - length (b ∷ bytes), t.0) ∷ types)) (types_no_tail most stop t.1) (λ types. ok_no_tail ((stop - length (b ∷ bytes), t.0) ∷ types)))

-- reading a value tells no Tail, and neither does reading several
value_of_no_tail : (type_place place t : ℕ) (body : List ℕ) → NoTail (value_of type_place place t body)
unfolding value_of
value_of_no_tail type_place place t body =
    either_no_tail (t == 0) (Ok Null) _ (ok_no_tail Null)
    (either_no_tail (nat_lt t 7) _ _ (either_no_tail (type_of_int (integer_of body) == t) (Ok (Int (integer_of body))) (fault type_place Spelling) (ok_no_tail (Int (integer_of body))) (spelling_no_tail type_place))
    (either_no_tail (nat_lt t 12) (Ok (Int (cond (t == 9) (pos 1) (pos 0)))) _ (ok_no_tail (Int (cond (t == 9) (pos 1) (pos 0))))
    (either_no_tail (t % 2 == 0) (Ok (Blob body)) _ (ok_no_tail (Blob body)) (either_no_tail (is_utf8 body) (Ok (Text body)) (fault place Utf8) (ok_no_tail (Text body)) (utf8_no_tail place)))))

value_no_tail : (end : ℕ) (type : ℕ × ℕ) (bytes : List ℕ) → NoTail (value_at end type bytes)
unfolding value_at
value_no_tail end type bytes =
    either_no_tail (nat_lt (length bytes) (body_len type.1)) (fault end Short) (value_of type.0 (end - length bytes) type.1 (take (body_len type.1) bytes) >>= λ v. Ok (v, drop (body_len type.1) bytes)) (short_no_tail end)
    (then_no_tail (value_of type.0 (end - length bytes) type.1 (take (body_len type.1) bytes)) (λ v. Ok (v, drop (body_len type.1) bytes)) (value_of_no_tail type.0 (end - length bytes) type.1 (take (body_len type.1) bytes)) (λ v. ok_no_tail (v, drop (body_len type.1) bytes)))

values_no_tail : (end : ℕ) (types : List (ℕ × ℕ)) (bytes : List ℕ) → NoTail (values_at end types bytes)
values_no_tail end [] bytes = ok_no_tail ([], bytes)
values_no_tail end (type ∷ types) bytes =
    then_no_tail (value_at end type bytes) (λ v. values_at end types v.1 >>= λ values. Ok (v.0 ∷ values.0, values.1)) (value_no_tail end type bytes)
    (λ v. then_no_tail (values_at end types v.1) (λ values. Ok (v.0 ∷ values.0, values.1)) (values_no_tail end types v.1) (λ values. ok_no_tail (v.0 ∷ values.0, values.1)))

-- reading what follows the header tells no Tail
columns_no_tail : (end size : ℕ) (bytes : List ℕ) → NoTail (columns_at end size bytes)
unfolding columns_at values_of_types types_at
columns_no_tail end size bytes =
    either_no_tail (nat_lt (length bytes) size) _ _
    (then_no_tail (types_within (length bytes) end bytes) (λ types. fault end Short) (types_no_tail (length bytes) end bytes) (λ types. short_no_tail end))
    (then_no_tail (types_within (length (take size bytes)) (end - length (drop size bytes)) (take size bytes)) (λ all. values_at end all (drop size bytes)) (types_no_tail (length (take size bytes)) (end - length (drop size bytes)) (take size bytes)) (λ all. values_no_tail end all (drop size bytes)))

-- reading a record tells no Tail
record_no_tail : (bytes : List ℕ) → NoTail (record_at bytes)
unfolding record_at
record_no_tail bytes =
    then_no_tail (number_at (length bytes) bytes) (λ header. cond (header_len (header.0 - varint_len header.0) == header.0) (columns_at (length bytes) (header.0 - varint_len header.0) header.1) (fault 0 Spelling)) (number_no_tail (length bytes) bytes)
    (λ header. either_no_tail (header_len (header.0 - varint_len header.0) == header.0) (columns_at (length bytes) (header.0 - varint_len header.0) header.1) (fault 0 Spelling) (columns_no_tail (length bytes) (header.0 - varint_len header.0) header.1) (spelling_no_tail 0))

-- ---- a Tail

-- Tails that are the same are at one place
bad_same : (m n : ℕ) → Bad m Tail ≡ Bad n Tail → m ≡ n
bad_same m n e = cc

-- bytes whose length tests as some are not empty
not_nil : (rest : List ℕ) → (length rest == 0) ≡ false → rest ≢ []
not_nil rest some none = no (sym some ∙ ap (λ (l : List ℕ). length l == 0) none)
  where
    no : false ≡ true → ⊥
    no q = cc

-- where a Tail is told after the reading of a record, the record has bytes after it
tail_after : (bytes : List ℕ) (at : ℕ) (r : Read (List Value × List ℕ)) → IsBytes bytes → record_at bytes ≡ r → (r >>= λ found. cond (length found.1 == 0) (Ok found.0) (fault (length bytes - length found.1) Tail)) ≡ Err (Bad at Tail) → HasTail bytes at
tail_after bytes at (Err e) fits is same = absurd (record_no_tail bytes at (is ∙ ap (λ (g : RecordFault). Err g) (err_same e (Bad at Tail) same)))
tail_after bytes at (Ok x) fits is same =
    elim (chosen (length x.1 == 0) (Ok x.0) (fault (length bytes - length x.1) Tail) (Err (Bad at Tail)) same) [
      | inl all ↦ absurd (ok_no_tail x.0 at all.1)
      | inr more ↦
          let r = record_found bytes x fits is in
          let place : length bytes - length x.1 ≡ at = bad_same (length bytes - length x.1) at (err_same (Bad (length bytes - length x.1) Tail) (Bad at Tail) more.1) in
          (x.0, x.1, r.1, r.0, not_nil x.1 more.0, omega (arith, place, ap length r.0, length-append (encoding x.0) x.1))
    ]

-- a Tail is told only where a record is at the front and ends at that place
pub tail_found : (bytes : List ℕ) (at : ℕ) → IsBytes bytes → reading bytes ≡ Err (Bad at Tail) → HasTail bytes at
unfolding reading
tail_found bytes at fits e = tail_after bytes at (record_at bytes) fits refl e

-- and the other way round: a record with bytes after it is read to a Tail where it ends
pub tail_told : (bytes : List ℕ) (at : ℕ) → length bytes < 2 ^ 32 → HasTail bytes at → reading bytes ≡ Err (Bad at Tail)
unfolding reading
tail_told bytes at short (v, rest, are, parts, some, place) =
    let long : length bytes ≡ length (encoding v) + length rest = ap length parts ∙ length-append (encoding v) rest in
    let read : record_at bytes ≡ Ok (v, rest) = ap record_at parts ∙ record_again v rest are (omega (arith, short, long)) in
    let more : (length rest == 0) ≡ false = not_empty (length rest) (λ e. some (nil_from_length rest e)) in
    ap (λ (r : Read (List Value × List ℕ)). r >>= λ found. cond (length found.1 == 0) (Ok found.0) (fault (length bytes - length found.1) Tail)) read
    ∙ rw (more, (let e : length bytes - length rest ≡ at = omega (arith, long, place) in e)) refl
  where
    not_empty : (n : ℕ) → (n ≡ 0 → ⊥) → (n == 0) ≡ false
    not_empty n some = grind arith
