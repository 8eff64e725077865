-- Types and bodies of values, one after another, and how long they are.
use Rattle.std.proofs.Common.{◌≡◌, ℕ, ◌+◌, ◌^◌, ◌<◌, ◌≤◌, List, [], ◌∷◌, ◌++◌, length, get_or, take, drop, flat_map, sym, ap, subst, ◌∙◌, arith, append_assoc}
use Rattle.std.proofs.lemmas.List.{take_more, take_all, append-nil, length-append, take-append-drop}
use Rattle.std.proofs.lemmas.List.Concat.{flat_map-append}
use Rattle.hc_value.specs.declared.value.Value.{Value}
use Rattle.hc_record.specs.Varint.{varint, varint_len}
use Rattle.hc_value.specs.Values.{IsValue, AreValues}
use Rattle.hc_record.specs.Record.{type_of, body_of, types_of, bodies_of, header_len, encoding}
use Rattle.hc_record.proofs.Numbers.{length-varint}

-- the bytes of a value's type
abbrev pub type_bytes : Value → List ℕ
type_bytes = λ v. varint (type_of v)

-- the parts of the first i + 1 values are those of the first i, and then the next one's
pub one_more : (f : Value → List ℕ) (values : List Value) (i : ℕ) (v : Value) → v ≡ get_or values i v → i < length values → flat_map f (take (i + 1) values) ≡ flat_map f (take i values) ++ f v
one_more f values i v is lt =
    ap (flat_map f) (take_more values i v lt)
    ∙ flat_map-append f (take i values) (get_or values i v ∷ [])
    ∙ ap (λ (w : Value). flat_map f (take i values) ++ (f w ++ [])) (sym is)
    ∙ ap (λ (l : List ℕ). flat_map f (take i values) ++ l) (append-nil (f v))

-- the parts of the first values are no longer than those of all
no_longer : (f : Value → List ℕ) (values : List Value) (n : ℕ) → length (flat_map f (take n values)) ≤ length (flat_map f values)
no_longer f values n =
    let parts : flat_map f values ≡ flat_map f (take n values) ++ flat_map f (drop n values) = ap (flat_map f) (sym (take-append-drop n values)) ∙ flat_map-append f (take n values) (drop n values) in
    omega (arith, ap length parts, length-append (flat_map f (take n values)) (flat_map f (drop n values)))

-- a record is as long as its header's length, its types and its bodies
pub length-encoding : (values : List Value) → length (encoding values) ≡ varint_len (header_len (length (types_of values))) + (length (types_of values) + length (bodies_of values))
unfolding encoding
length-encoding values =
    omega (arith, length-append (varint (header_len (length (types_of values)))) (types_of values ++ bodies_of values), length-append (types_of values) (bodies_of values), length-varint (header_len (length (types_of values))))

-- in a record below 2 ^ 32 bytes each body is below 2 ^ 32 bytes
pub body_fits : (values : List Value) (i : ℕ) (v : Value) → v ≡ get_or values i v → i < length values → length (encoding values) < 2 ^ 32 → length (body_of v) < 2 ^ 32
body_fits values i v is lt fits =
    omega (arith, fits, length-encoding values, no_longer body_of values (i + 1), ap length (one_more body_of values i v is lt), length-append (flat_map body_of (take i values)) (body_of v))

-- the bodies of one value more are longer by its body, and below 2 ^ 32 bytes where the record is
pub bodies_fit : (values : List Value) (i : ℕ) (v : Value) → v ≡ get_or values i v → i < length values
    → (length (bodies_of (take (i + 1) values)) ≡ length (bodies_of (take i values)) + length (body_of v)) × (length (encoding values) < 2 ^ 32 → length (bodies_of (take (i + 1) values)) < 2 ^ 32)
bodies_fit values i v is lt =
    (omega (arith, ap length (one_more body_of values i v is lt), length-append (flat_map body_of (take i values)) (body_of v)), λ fits. omega (arith, fits, length-encoding values, no_longer body_of values (i + 1)))

-- the types of one value more are longer by its type, and below 2 ^ 32 bytes where the record is
pub types_more : (values : List Value) (i : ℕ) (v : Value) → v ≡ get_or values i v → i < length values
    → (length (types_of (take (i + 1) values)) ≡ length (types_of (take i values)) + varint_len (type_of v)) × (length (encoding values) < 2 ^ 32 → length (types_of (take (i + 1) values)) < 2 ^ 32)
types_more values i v is lt =
    (omega (arith, ap length (one_more type_bytes values i v is lt), length-append (types_of (take i values)) (varint (type_of v)), length-varint (type_of v)), λ fits. omega (arith, fits, length-encoding values, no_longer type_bytes values (i + 1)))

-- the same of a record that is below 2 ^ 32 bytes
pub types_fit : (values : List Value) (i : ℕ) (v : Value) → v ≡ get_or values i v → i < length values → length (encoding values) < 2 ^ 32
    → (length (types_of (take (i + 1) values)) ≡ length (types_of (take i values)) + varint_len (type_of v)) × (length (types_of (take (i + 1) values)) < 2 ^ 32)
types_fit values i v is lt fits =
    let more : length (types_of (take (i + 1) values)) ≡ length (types_of (take i values)) + varint_len (type_of v) =
    omega (arith, ap length (one_more type_bytes values i v is lt), length-append (types_of (take i values)) (varint (type_of v)), length-varint (type_of v)) in
    (more, omega (arith, fits, length-encoding values, no_longer type_bytes values (i + 1)))

-- in a record below 2 ^ 32 bytes all types are below 2 ^ 32 bytes
pub all_types_fit : (values : List Value) → length (encoding values) < 2 ^ 32 → length (types_of values) < 2 ^ 32
all_types_fit values fits = omega (arith, fits, length-encoding values)

-- a list that is values, and one value more
values_push : (values : List Value) (v : Value) → AreValues values → IsValue v → AreValues (values ++ v ∷ [])
values_push [] v are is = (is, tt)
values_push (w ∷ values) v are is = (are.0, values_push values v are.1 is)

-- the first i + 1 are values where the first i are and the next one is
pub values_one_more : (values : List Value) (i : ℕ) (v : Value) → v ≡ get_or values i v → i < length values → AreValues (take i values) → IsValue v → AreValues (take (i + 1) values)
values_one_more values i v same lt are is =
    rw (take_more values i v lt) (values_push (take i values) (get_or values i v) are (subst IsValue same is))

-- where the first i are values and there are no more, all are
pub all_values : (values : List Value) (i : ℕ) → length values ≤ i → AreValues (take i values) → AreValues values
all_values values i all are = subst AreValues (take_all i values all) are

-- the parts as they are written one after another
pub assembled : (start head types all : List ℕ) (h n : ℕ) (values : List Value) → start ≡ [] → head ≡ start ++ varint h → h ≡ header_len n → n ≡ length (types_of values) → types ≡ head ++ types_of values → all ≡ types ++ bodies_of values → all ≡ encoding values
unfolding encoding
assembled start head types all h n values empty first h_is n_is second third =
    third
    ∙ ap (λ (l : List ℕ). l ++ bodies_of values) second
    ∙ append_assoc head (types_of values) (bodies_of values)
    ∙ ap (λ (l : List ℕ). l ++ (types_of values ++ bodies_of values)) (first ∙ ap (λ (l : List ℕ). l ++ varint h) empty)
    ∙ ap (λ (m : ℕ). varint m ++ (types_of values ++ bodies_of values)) (h_is ∙ ap header_len n_is)

-- the lengths of the three parts, counted over all values, add up to the record's
pub length_is : (types bodies i h len : ℕ) (values : List Value) → length values ≤ i → types ≡ length (types_of (take i values)) → bodies ≡ length (bodies_of (take i values)) → h ≡ header_len types → len ≡ varint_len h
    → len + types + bodies ≡ length (encoding values)
length_is types bodies i h len values all types_is bodies_is h_is len_is =
    let t : types ≡ length (types_of values) = types_is ∙ ap (λ (l : List Value). length (types_of l)) (take_all i values all) in
    let b : bodies ≡ length (bodies_of values) = bodies_is ∙ ap (λ (l : List Value). length (bodies_of l)) (take_all i values all) in
    let n : len ≡ varint_len (header_len (length (types_of values))) = len_is ∙ ap varint_len (h_is ∙ ap header_len t) in
    omega (arith, t, b, n, length-encoding values)
