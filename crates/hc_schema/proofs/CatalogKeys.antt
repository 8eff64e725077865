-- The tree's number at the end of a key of the catalog.
use Rattle.std.proofs.Common.{◌≡◌, ℕ, ◌+◌, ◌-◌, ◌*◌, ◌^◌, ◌<◌, ◌≤◌, List, [], ◌∷◌, ◌++◌, length, take, drop, refl, sym, ap, ◌∙◌, append_assoc, arith}
use Rattle.std.specs.List.{slice_index}
use Rattle.std.specs.Int.{w64, bytes_high_first, from_be_bytes}
use Rattle.std.proofs.lemmas.Nat.{from_be_bytes-to_be_bytes_8}
use Rattle.std.proofs.lemmas.List.Concat.{flat_map-append}
use Rattle.std.proofs.lemmas.List.{append-nil, length-append}
use Rattle.std.proofs.Math.Seq.{drop-append_seam}
use Rattle.hc_value.specs.declared.value.Value.{Value}
use Rattle.hc_key.specs.Keys.{value_bytes, list_bytes, key_bytes}
use Rattle.hc_schema.specs.Cells.{number}

-- all of a key but the last four bytes
front : Value → ℕ → List ℕ
front name n = bytes_high_first 4 0 ++ (value_bytes name ++ 2 ∷ take 4 (bytes_high_first 8 n))

eight_bytes : (n : ℕ) → bytes_high_first 8 n ≡ take 4 (bytes_high_first 8 n) ++ bytes_high_first 4 n
eight_bytes n = refl

-- a key of a name and a number ends with the low bytes of the number
key_parts : (name : Value) (tree : ℕ) → key_bytes 0 (name ∷ number tree ∷ []) ≡ front name (2 ^ 63 + tree) ++ bytes_high_first 4 (2 ^ 63 + tree)
unfolding key_bytes value_bytes front
key_parts name tree =
    let n = 2 ^ 63 + tree in
    let last : 2 ∷ bytes_high_first 8 n ≡ (2 ∷ take 4 (bytes_high_first 8 n)) ++ bytes_high_first 4 n = refl in
    ap (λ l. bytes_high_first 4 0 ++ (value_bytes name ++ l)) (append-nil (2 ∷ bytes_high_first 8 n) ∙ last)
    ∙ ap (λ l. bytes_high_first 4 0 ++ l) (sym (append_assoc (value_bytes name) (2 ∷ take 4 (bytes_high_first 8 n)) (bytes_high_first 4 n)))
    ∙ sym (append_assoc (bytes_high_first 4 0) (value_bytes name ++ 2 ∷ take 4 (bytes_high_first 8 n)) (bytes_high_first 4 n))

pub key_long : (name : Value) (tree : ℕ) (key : List ℕ) → key ≡ key_bytes 0 (name ∷ number tree ∷ []) → 4 ≤ length key
key_long name tree key is =
    omega (arith, ap length (is ∙ key_parts name tree), length-append (front name (2 ^ 63 + tree)) (bytes_high_first 4 (2 ^ 63 + tree)))

-- the last four bytes are the number
pub tree_read : (name : Value) (tree : ℕ) (key last : List ℕ) → tree < 2 ^ 32 → key ≡ key_bytes 0 (name ∷ number tree ∷ []) → last ≡ drop (length key - 4) key
    → slice_index last 0 * 16777216 + slice_index last 1 * 65536 + slice_index last 2 * 256 + slice_index last 3 ≡ tree
tree_read name tree key last fits is end =
    let n = 2 ^ 63 + tree in
    let parts : key ≡ front name n ++ bytes_high_first 4 n = is ∙ key_parts name tree in
    let long : length key - 4 ≡ length (front name n) = omega (arith, ap length parts, length-append (front name n) (bytes_high_first 4 n)) in
    let four : last ≡ bytes_high_first 4 n = end ∙ ap (λ l. drop (length key - 4) l) parts ∙ ap (λ k. drop k (front name n ++ bytes_high_first 4 n)) long ∙ drop-append_seam (front name n) (bytes_high_first 4 n) in
    rw four (omega arith)

-- ---- the last number of any key

key_end : (values : List Value) (n : ℕ) → key_bytes 0 (values ++ number n ∷ []) ≡ (bytes_high_first 4 0 ++ (list_bytes values ++ 2 ∷ [])) ++ bytes_high_first 8 (2 ^ 63 + n)
unfolding key_bytes value_bytes
key_end values n =
    ap (λ l. bytes_high_first 4 0 ++ l) (flat_map-append value_bytes values (number n ∷ []) ∙ ap (λ l. list_bytes values ++ l) (append-nil (2 ∷ bytes_high_first 8 (2 ^ 63 + n))) ∙ sym (append_assoc (list_bytes values) (2 ∷ []) (bytes_high_first 8 (2 ^ 63 + n))))
    ∙ sym (append_assoc (bytes_high_first 4 0) (list_bytes values ++ 2 ∷ []) (bytes_high_first 8 (2 ^ 63 + n)))

pub end_long : (values : List Value) (n : ℕ) (key : List ℕ) → key ≡ key_bytes 0 (values ++ number n ∷ []) → 8 ≤ length key
end_long values n key is =
    omega (arith, ap length (is ∙ key_end values n), length-append (bytes_high_first 4 0 ++ (list_bytes values ++ 2 ∷ [])) (bytes_high_first 8 (2 ^ 63 + n)))

pub end_read : (values : List Value) (n : ℕ) (key last : List ℕ) → n < 2 ^ 63 → key ≡ key_bytes 0 (values ++ number n ∷ []) → last ≡ drop (length key - 8) key → from_be_bytes w64 last ≡ 2 ^ 63 + n
end_read values n key last fits is end =
    let front = bytes_high_first 4 0 ++ (list_bytes values ++ 2 ∷ []) in
    let parts : key ≡ front ++ bytes_high_first 8 (2 ^ 63 + n) = is ∙ key_end values n in
    let long : length key - 8 ≡ length front = omega (arith, ap length parts, length-append front (bytes_high_first 8 (2 ^ 63 + n))) in
    let eight : last ≡ bytes_high_first 8 (2 ^ 63 + n) =
    end ∙ ap (λ l. drop (length key - 8) l) parts ∙ ap (λ k. drop k (front ++ bytes_high_first 8 (2 ^ 63 + n))) long ∙ drop-append_seam front (bytes_high_first 8 (2 ^ 63 + n)) in
    ap (from_be_bytes w64) eight ∙ from_be_bytes-to_be_bytes_8 (2 ^ 63 + n) (omega (arith, fits))
