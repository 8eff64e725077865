-- Lengths of keys, counted up to the greatest number of 64 bits.
use Rattle.std.proofs.Common.{◌≡◌, ℕ, zero, suc, ◌+◌, ◌<◌, ◌==◌, List, [], ◌∷◌, ◌++◌, length, get_or, take, false, refl, sym, ap, ◌∙◌, arith}
use Rattle.std.specs.Prelude.{count_by, cond}
use Rattle.std.specs.Int.{bytes_high_first}
use Rattle.std.proofs.lemmas.Bool.{ne_eqb}
use Rattle.std.proofs.lemmas.List.Recursion.{is_count_by}
use Rattle.std.proofs.lemmas.List.{take_more, append-nil, length-append}
use Rattle.std.proofs.lemmas.List.Concat.{flat_map-append}
use Rattle.hc_value.specs.declared.value.Value.{Value}
use Rattle.hc_key.specs.Keys.{escaped, ended, value_bytes, list_bytes, key_bytes}

-- how many bytes are zeros
zeros : List ℕ → ℕ
zeros [] = 0
zeros (zero ∷ bytes) = 1 + zeros bytes
zeros (suc b ∷ bytes) = zeros bytes

zeros_first : (b : ℕ) (bytes : List ℕ) → zeros (b ∷ bytes) ≡ cond (b == 0) (1 + zeros bytes) (zeros bytes)
unfolding zeros
zeros_first zero bytes = refl
zeros_first (suc b) bytes = let test : (suc b == 0) ≡ false = ne_eqb (suc b) 0 (λ same. omega (arith, same)) in rw test refl

zeros_are : (bytes : List ℕ) → zeros bytes ≡ count_by (λ b. b == 0) bytes
unfolding zeros
zeros_are = is_count_by zeros (λ b. b == 0) refl zeros_first

-- FF is added to each zero
escaped_len : (bytes : List ℕ) → length (escaped bytes) ≡ length bytes + zeros bytes
unfolding zeros
escaped_len [] = refl
escaped_len (zero ∷ bytes) = omega (arith, escaped_len bytes)
escaped_len (suc b ∷ bytes) = omega (arith, escaped_len bytes)

pub ended_len : (bytes : List ℕ) → length (ended bytes) ≡ length bytes + count_by (λ b. b == 0) bytes + 2
ended_len bytes = omega (arith, length-append (escaped bytes) (0 ∷ 0 ∷ []), escaped_len bytes, zeros_are bytes)

-- one value more adds its bytes
pub one_more : (values : List Value) (i : ℕ) (v : Value) → v ≡ get_or values i v → i < length values → length (list_bytes (take (i + 1) values)) ≡ length (list_bytes (take i values)) + length (value_bytes v)
one_more values i v is lt =
    ap (λ (l : List Value). length (list_bytes l)) (take_more values i v lt)
    ∙ ap length (flat_map-append value_bytes (take i values) (get_or values i v ∷ []))
    ∙ ap (λ (w : Value). length (list_bytes (take i values) ++ (value_bytes w ++ []))) (sym is)
    ∙ ap (λ (l : List ℕ). length (list_bytes (take i values) ++ l)) (append-nil (value_bytes v))
    ∙ length-append (list_bytes (take i values)) (value_bytes v)

-- a tree's number has four bytes
pub key_len : (tree : ℕ) (values : List Value) → length (key_bytes tree values) ≡ 4 + length (list_bytes values)
unfolding key_bytes
key_len tree values = omega (arith, length-append (bytes_high_first 4 tree) (list_bytes values))
