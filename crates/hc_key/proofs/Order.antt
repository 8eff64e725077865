-- The order of keys is that of their bytes.
use Rattle.std.proofs.Common.{◌≡◌, ℕ, ◌^◌, ◌<◌, List, [], ◌∷◌, ◌++◌, refl, ap, ◌∙◌, Ordering, Less, Greater, nat_cmp}
use Rattle.std.specs.Ordering.{ordering_then}
use Rattle.hc_value.specs.declared.value.Value.{Value}
use Rattle.hc_value.specs.declared.value.Value.TheVariants.{Null, Int, Text, Blob}
use Rattle.hc_value.specs.Values.{IsValue, AreValues}
use Rattle.hc_value.specs.Order.{value_order}
use Rattle.hc_key.specs.Keys.{turned, value_bytes, list_bytes, key_bytes}
use Rattle.hc_key.specs.Order.{list_order, key_order, byte_order}
use Rattle.hc_key.proofs.Bytes.{bytes_cmp, four_bytes, eight_bytes, turned_fits, turned_compares, ended_compare}

-- two values' bytes, whatever follows them, compare as the values, and then by what follows
pub values_compare : (v w : Value) (r s : List ℕ) → IsValue v → IsValue w → bytes_cmp (value_bytes v ++ r) (value_bytes w ++ s) ≡ ordering_then (value_order v w) (bytes_cmp r s)
unfolding value_bytes
values_compare Null Null r s p q = refl
values_compare Null (Int n) r s p q = refl
values_compare Null (Text t) r s p q = refl
values_compare Null (Blob b) r s p q = refl
values_compare (Int m) Null r s p q = refl
values_compare (Int m) (Int n) r s p q =
    eight_bytes (turned m) (turned n) (turned_fits m p) (turned_fits n q) r s
    ∙ ap (λ (o : Ordering). ordering_then o (bytes_cmp r s)) (turned_compares m n p q)
values_compare (Int m) (Text t) r s p q = refl
values_compare (Int m) (Blob b) r s p q = refl
values_compare (Text t) Null r s p q = refl
values_compare (Text t) (Int n) r s p q = refl
values_compare (Text t) (Text u) r s p q = ended_compare t u r s
values_compare (Text t) (Blob b) r s p q = refl
values_compare (Blob b) Null r s p q = refl
values_compare (Blob b) (Int n) r s p q = refl
values_compare (Blob b) (Text t) r s p q = refl
values_compare (Blob a) (Blob b) r s p q = ended_compare a b r s

-- the empty byte string comes before those of a value
pub nothing_first : (w : Value) (s : List ℕ) → bytes_cmp [] (value_bytes w ++ s) ≡ Less
unfolding value_bytes
nothing_first Null s = refl
nothing_first (Int n) s = refl
nothing_first (Text t) s = refl
nothing_first (Blob b) s = refl

-- and a value's bytes come after it
pub nothing_second : (v : Value) (r : List ℕ) → bytes_cmp (value_bytes v ++ r) [] ≡ Greater
unfolding value_bytes
nothing_second Null s = refl
nothing_second (Int n) s = refl
nothing_second (Text t) s = refl
nothing_second (Blob b) s = refl

-- the bytes of two lists compare as the lists
pub lists_compare : (v w : List Value) → AreValues v → AreValues w → bytes_cmp (list_bytes v) (list_bytes w) ≡ list_order v w
lists_compare [] [] p q = refl
lists_compare [] (w ∷ ws) p q = nothing_first w (list_bytes ws)
lists_compare (v ∷ vs) [] p q = nothing_second v (list_bytes vs)
lists_compare (v ∷ vs) (w ∷ ws) p q =
    values_compare v w (list_bytes vs) (list_bytes ws) p.0 q.0
    ∙ ap (λ (o : Ordering). ordering_then (value_order v w) o) (lists_compare vs ws p.1 q.1)

-- the bytes of two keys compare as the tree numbers, and then as the lists
pub keys_compare : (t u : ℕ) (v w : List Value) → t < 2 ^ 32 → u < 2 ^ 32 → AreValues v → AreValues w → byte_order (key_bytes t v) (key_bytes u w) ≡ key_order t v u w
unfolding key_bytes
keys_compare t u v w tf uf p q =
    four_bytes t u tf uf (list_bytes v) (list_bytes w)
    ∙ ap (λ (o : Ordering). ordering_then (nat_cmp t u) o) (lists_compare v w p q)
