-- Types, read one after another: reading goes on with those that are left, whatever bound is put on
-- their number.
use Rattle.std.proofs.Common.{◌≡◌, ℕ, zero, suc, ◌+◌, ◌-◌, ◌<◌, ◌≤◌, false, cond, List, [], ◌∷◌, ◌++◌, length, Option, Some, None, Result, Ok, Err, refl, sym, ap, subst, ◌∙◌, append_assoc, arith, inl, inr}
use Rattle.std.specs.Prelude.{IsOk, ◌==◌}
use Rattle.std.proofs.lemmas.Bool.{eqb-true}
use Rattle.std.proofs.lemmas.List.{append-nil}
use Rattle.hc_value.specs.declared.value.Value.{Value}
use Rattle.hc_record.specs.declared.fault.RecordFault.{RecordFault}
use Rattle.hc_record.specs.declared.fault.RecordFault.TheVariants.{Bad, NoMemory}
use Rattle.hc_record.specs.declared.fault.RecordKind.TheVariants.{Short, Spelling, BadType}
use Rattle.hc_record.specs.Varint.{read_varint, varint_len}
use Rattle.hc_record.specs.Reading.{◌>>=◌, Fails, fault, number_among, number_at, is_bad, type_at, types_within, types_at, value_at, values_at, values_of_types}
use Rattle.hc_record.proofs.Steps.{first_step, chosen, ok_same}
use Rattle.hc_record.proofs.Numbers.{varint_len_is}

-- what a reading gives, or its fault
abbrev pub Read : Type 0 → Type 0
Read A = Result A RecordFault

-- an error is no success
err_is_not_ok : {A : Type 0} (f : RecordFault) (x : A) → (let no : Read A = Err f in no ≡ Ok x) → ⊥
err_is_not_ok f x e = cc

-- reading a number leaves fewer bytes
number_among_shortens : (stop : ℕ) (bytes : List ℕ) (o : Option (ℕ × List ℕ)) (x : ℕ × List ℕ) → number_among stop bytes o ≡ Ok x → length x.1 < length bytes
number_among_shortens stop bytes None x e = absurd (err_is_not_ok (Bad stop Short) x e)
number_among_shortens stop bytes (Some (n, rest)) x e =
    elim (chosen (length bytes == varint_len n + length rest) (Ok (n, rest)) (fault (stop - length bytes) Spelling) (Ok x) e) [
      | inl went ↦ subst (λ (y : ℕ × List ℕ). length y.1 < length bytes) (ok_same (n, rest) x went.1) (omega (arith, eqb-true _ _ went.0, (varint_len_is n).0))
      | inr failed ↦ absurd (err_is_not_ok (Bad (stop - length bytes) Spelling) x failed.1)
    ]

pub number_shortens : (stop : ℕ) (bytes : List ℕ) (x : ℕ × List ℕ) → number_at stop bytes ≡ Ok x → length x.1 < length bytes
unfolding number_at
number_shortens stop bytes x e = number_among_shortens stop bytes (read_varint 8 0 bytes) x e

-- a type is a number that is not bad
pub type_is_number : (stop : ℕ) (bytes : List ℕ) (x : ℕ × List ℕ) → type_at stop bytes ≡ Ok x → (number_at stop bytes ≡ Ok x) × (is_bad x.0 ≡ false)
unfolding type_at
type_is_number stop bytes x e =
    let a = first_step (number_at stop bytes) (λ t. cond (is_bad t.0) (fault (stop - length bytes) BadType) (Ok t)) x e in
    elim (chosen (is_bad a.0.0) (fault (stop - length bytes) BadType) (Ok a.0) (Ok x) a.2) [
      | inl bad ↦ absurd (err_is_not_ok (Bad (stop - length bytes) BadType) x bad.1)
      | inr good ↦ subst (λ (y : ℕ × List ℕ). (number_at stop bytes ≡ Ok y) × (is_bad y.0 ≡ false)) (ok_same a.0 x good.1) (a.1, good.0)
    ]

-- reading a type leaves fewer bytes
pub type_shortens : (stop : ℕ) (bytes : List ℕ) (x : ℕ × List ℕ) → type_at stop bytes ≡ Ok x → length x.1 < length bytes
type_shortens stop bytes x e = number_shortens stop bytes x (type_is_number stop bytes x e).0

-- two steps that do the same with whatever comes before give the same
pub same_step : {A B : Type 0} (r : Read A) (f g : A → Read B) → ((x : A) → r ≡ Ok x → f x ≡ g x) → (r >>= f) ≡ (r >>= g)
same_step (Ok x) f g same = same x refl
same_step (Err e) f g same = refl

-- bounds that are no less than the bytes give the same types
types_within-enough : (m n stop : ℕ) (bytes : List ℕ) → length bytes ≤ m → length bytes ≤ n → types_within m stop bytes ≡ types_within n stop bytes
types_within-enough zero zero stop [] p q = refl
types_within-enough zero (suc n) stop [] p q = refl
types_within-enough (suc m) zero stop [] p q = refl
types_within-enough (suc m) (suc n) stop [] p q = refl
types_within-enough zero n stop (b ∷ bytes) p q = absurd (omega arith)
types_within-enough (suc m) zero stop (b ∷ bytes) p q = absurd (omega arith)
types_within-enough (suc m) (suc n) stop (b ∷ bytes) p q =
    same_step (type_at stop (b ∷ bytes)) (λ t. types_within m stop t.1 >>= λ types. Ok ((stop - length (b ∷ bytes), t.0) ∷ types)) (λ t. types_within n stop t.1 >>= λ types. Ok ((stop - length (b ∷ bytes), t.0) ∷ types))
    (λ t e.
    let shorter = type_shortens stop (b ∷ bytes) t e in
    ap (λ (r : Read (List (ℕ × ℕ))). r >>= λ types. Ok ((stop - length (b ∷ bytes), t.0) ∷ types)) (types_within-enough m n stop t.1 (omega (arith, shorter)) (omega (arith, shorter))))

-- the types after the first, with the first and its place before them
abbrev pub then_types : ℕ → List ℕ → ℕ × List ℕ → Read (List (ℕ × ℕ))
then_types stop bytes t = types_at stop t.1 >>= λ types. Ok ((stop - length bytes, t.0) ∷ types)

-- the first type, and then the others
pub types_at-first : (stop : ℕ) (bytes : List ℕ) → 0 < length bytes → types_at stop bytes ≡ (type_at stop bytes >>= then_types stop bytes)
unfolding types_at
types_at-first stop [] some = absurd (omega arith)
types_at-first stop (b ∷ bytes) some =
    same_step (type_at stop (b ∷ bytes)) (λ t. types_within (length bytes) stop t.1 >>= λ types. Ok ((stop - length (b ∷ bytes), t.0) ∷ types)) (then_types stop (b ∷ bytes))
    (λ t e.
    let shorter = type_shortens stop (b ∷ bytes) t e in
    ap (λ (r : Read (List (ℕ × ℕ))). r >>= λ types. Ok ((stop - length (b ∷ bytes), t.0) ∷ types)) (types_within-enough (length bytes) (length t.1) stop t.1 (omega (arith, shorter)) (omega arith)))

-- no bytes have no types
pub types_at-none : (stop : ℕ) (bytes : List ℕ) → length bytes ≤ 0 → types_at stop bytes ≡ Ok []
unfolding types_at
types_at-none stop [] none = refl
types_at-none stop (b ∷ bytes) none = absurd (omega arith)

-- ---- a test of all types

-- a test of the rest's types comes out as that of all types
abbrev pub SameTest : ℕ → List ℕ → List ℕ → Type 0
SameTest stop rest bytes =
    (IsOk (types_at stop rest) → IsOk (types_at stop bytes)) × ((f : RecordFault) → types_at stop rest ≡ Err f → types_at stop bytes ≡ Err f)

-- what is done with a success leaves it one
ok_then : {A B : Type 0} (r : Read A) (f : A → B) → IsOk r → IsOk (r >>= λ x. Ok (f x))
ok_then (Ok x) f h = h
ok_then (Err e) f h = h

-- after a type that was read, the test of the rest is still that of all
pub test_goes_on : (stop : ℕ) (rest bytes : List ℕ) (t : ℕ × List ℕ) → 0 < length rest → type_at stop rest ≡ Ok t → SameTest stop rest bytes → SameTest stop t.1 bytes
test_goes_on stop rest bytes t some e same =
    let first : types_at stop rest ≡ then_types stop rest t = types_at-first stop rest some ∙ ap (λ (r : Read (ℕ × List ℕ)). r >>= then_types stop rest) e in
    ((λ ok. same.0 (rw first (ok_then (types_at stop t.1) (λ types. (stop - length rest, t.0) ∷ types) ok))), λ f bad. same.1 f (first ∙ ap (λ (r : Read (List (ℕ × ℕ))). r >>= λ types. Ok ((stop - length rest, t.0) ∷ types)) bad))

-- a fault of the next type is that of the test
pub test_ends : (e : RecordFault) (stop : ℕ) (rest bytes : List ℕ) → 0 < length rest → Fails e (type_at stop rest) → SameTest stop rest bytes → Fails e (types_at stop bytes)
test_ends NoMemory stop rest bytes some fails same = tt
test_ends (Bad at kind) stop rest bytes some fails same =
    same.1 (Bad at kind) (types_at-first stop rest some ∙ ap (λ (r : Read (ℕ × List ℕ)). r >>= then_types stop rest) fails)

-- where nothing is left, all types can be read
pub test_is_done : (stop : ℕ) (rest bytes : List ℕ) → length rest ≤ 0 → SameTest stop rest bytes → IsOk (types_at stop bytes)
test_is_done stop rest bytes none same = same.0 (rw (types_at-none stop rest none) refl)

-- ---- the values of all types

-- what was read before, and what is still read
abbrev pub with_front : List Value → Read (List Value × List ℕ) → Read (List Value × List ℕ)
with_front front read = read >>= λ x. Ok (front ++ x.0, x.1)

-- the first value from its body, and then the others
abbrev pub then_value : ℕ → ℕ × ℕ → List (ℕ × ℕ) → List ℕ → Read (List Value × List ℕ)
then_value end type types bytes = value_at end type bytes >>= λ v. values_at end types v.1 >>= λ values. Ok (v.0 ∷ values.0, values.1)

-- a value before what is still read is one more of what was read
one_more : (front : List Value) (v : Value) (read : Read (List Value × List ℕ)) → with_front front (read >>= λ values. Ok (v ∷ values.0, values.1)) ≡ with_front (front ++ v ∷ []) read
one_more front v (Ok x) = ap (λ (l : List Value). Ok (l, x.1)) (sym (append_assoc front (v ∷ []) x.0))
one_more front v (Err e) = refl

-- a step on what was changed is a step on the change; a change after two steps is one after the second
pub regroup : {A B C : Type 0} (r : Read A) (f : A → B) (g : B → Read C) → ((r >>= λ x. Ok (f x)) >>= g) ≡ (r >>= λ x. g (f x))
regroup (Ok x) f g = refl
regroup (Err e) f g = refl

pub through : {A B C : Type 0} (r : Read A) (f : A → Read B) (g : B → C) → ((r >>= f) >>= λ x. Ok (g x)) ≡ (r >>= λ a. f a >>= λ x. Ok (g x))
through (Ok x) f g = refl
through (Err e) f g = refl

-- the first of several types that can all be read or not
pub values_first : (stop end : ℕ) (types bytes : List ℕ) (t : ℕ × List ℕ) → 0 < length types → type_at stop types ≡ Ok t
    → values_of_types stop end types bytes ≡ (types_at stop t.1 >>= λ all. then_value end (stop - length types, t.0) all bytes)
unfolding values_of_types
values_first stop end types bytes t some e =
    ap (λ (r : Read (List (ℕ × ℕ))). r >>= λ all. values_at end all bytes) (types_at-first stop types some ∙ ap (λ (r : Read (ℕ × List ℕ)). r >>= then_types stop types) e)
    ∙ regroup (types_at stop t.1) (λ all. (stop - length types, t.0) ∷ all) (λ all. values_at end all bytes)

-- after a type and its value, the rest is read to the same total
pub values_go_on : (stop end : ℕ) (front : List Value) (types bytes : List ℕ) (t : ℕ × List ℕ) (v : Value × List ℕ) (total : Read (List Value × List ℕ)) → 0 < length types → type_at stop types ≡ Ok t → value_at end (stop - length types, t.0) bytes ≡ Ok v
    → with_front front (values_of_types stop end types bytes) ≡ total → with_front (front ++ v.0 ∷ []) (values_of_types stop end t.1 v.1) ≡ total
unfolding values_of_types
values_go_on stop end front types bytes t v total some e read so_far =
    let one : values_of_types stop end types bytes ≡ (values_of_types stop end t.1 v.1 >>= λ values. Ok (v.0 ∷ values.0, values.1)) =
    values_first stop end types bytes t some e
    ∙ same_step (types_at stop t.1) (λ all. then_value end (stop - length types, t.0) all bytes) (λ all. values_at end all v.1 >>= λ values. Ok (v.0 ∷ values.0, values.1)) (λ all _. ap (λ (r : Read (Value × List ℕ)). r >>= λ w. values_at end all w.1 >>= λ values. Ok (w.0 ∷ values.0, values.1)) read)
    ∙ sym (through (types_at stop t.1) (λ all. values_at end all v.1) (λ values. (v.0 ∷ values.0, values.1))) in
    sym (one_more front v.0 (values_of_types stop end t.1 v.1)) ∙ ap (with_front front) (sym one) ∙ so_far

-- a fault of the next type is that of the whole
pub type_ends_values : (e : RecordFault) (stop end : ℕ) (front : List Value) (types bytes : List ℕ) (total : Read (List Value × List ℕ)) → 0 < length types → Fails e (type_at stop types)
    → with_front front (values_of_types stop end types bytes) ≡ total → Fails e total
unfolding values_of_types
type_ends_values NoMemory stop end front types bytes total some fails so_far = tt
type_ends_values (Bad at kind) stop end front types bytes total some fails so_far =
    sym so_far ∙ ap (with_front front) (ap (λ (r : Read (List (ℕ × ℕ))). r >>= λ all. values_at end all bytes) (types_at-first stop types some ∙ ap (λ (r : Read (ℕ × List ℕ)). r >>= then_types stop types) fails))

-- a type at fault comes before a body at fault
pub test_ends_values : (e : RecordFault) (stop end : ℕ) (front : List Value) (types bytes : List ℕ) (t : ℕ × List ℕ) (total : Read (List Value × List ℕ)) → 0 < length types → type_at stop types ≡ Ok t → Fails e (types_at stop t.1)
    → with_front front (values_of_types stop end types bytes) ≡ total → Fails e total
test_ends_values NoMemory stop end front types bytes t total some read fails so_far = tt
test_ends_values (Bad at kind) stop end front types bytes t total some read fails so_far =
    sym so_far ∙ ap (with_front front) (values_first stop end types bytes t some read ∙ ap (λ (r : Read (List (ℕ × ℕ))). r >>= λ all. then_value end (stop - length types, t.0) all bytes) fails)

-- after a success, a step that always gives y gives y
ok_is_some : {A B : Type 0} (r : Read A) (f : A → Read B) (y : Read B) → IsOk r → ((x : A) → f x ≡ y) → (r >>= f) ≡ y
ok_is_some (Ok x) f y ok same = same x
ok_is_some (Err e) f y ok same = absurd cc

-- a fault of the next body is that of the whole, where all types can be read
pub value_ends_values : (e : RecordFault) (stop end : ℕ) (front : List Value) (types bytes : List ℕ) (t : ℕ × List ℕ) (total : Read (List Value × List ℕ)) → 0 < length types → type_at stop types ≡ Ok t → IsOk (types_at stop t.1) → Fails e (value_at end (stop - length types, t.0) bytes)
    → with_front front (values_of_types stop end types bytes) ≡ total → Fails e total
value_ends_values NoMemory stop end front types bytes t total some read tested fails so_far = tt
value_ends_values (Bad at kind) stop end front types bytes t total some read tested fails so_far =
    sym so_far
    ∙ ap (with_front front) (values_first stop end types bytes t some read
    ∙ ok_is_some (types_at stop t.1) (λ all. then_value end (stop - length types, t.0) all bytes) (Err (Bad at kind)) tested (λ all. ap (λ (r : Read (Value × List ℕ)). r >>= λ w. values_at end all w.1 >>= λ values. Ok (w.0 ∷ values.0, values.1)) fails))

-- where no types are left, the whole is what was read, and the bytes that are left
pub values_are_done : (stop end : ℕ) (front : List Value) (types bytes : List ℕ) (total : Read (List Value × List ℕ)) → length types ≤ 0 → with_front front (values_of_types stop end types bytes) ≡ total → total ≡ Ok (front, bytes)
unfolding values_of_types
values_are_done stop end front types bytes total none so_far =
    sym so_far
    ∙ ap (with_front front) (ap (λ (r : Read (List (ℕ × ℕ))). r >>= λ all. values_at end all bytes) (types_at-none stop types none))
    ∙ ap (λ (l : List Value). Ok (l, bytes)) (append-nil front)
