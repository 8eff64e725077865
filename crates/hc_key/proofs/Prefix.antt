-- Which keys lie in a range of a prefix.
use Rattle.std.proofs.Common.{◌≡◌, ℕ, ◌^◌, ◌<◌, ◌↔◌, true, false, List, [], ◌∷◌, ◌++◌, refl, sym, ap, subst, ◌∙◌, append_assoc, Ordering, Less, Equal, Greater, nat_cmp}
use Rattle.std.specs.Ordering.{ordering_then, is_lt}
use Rattle.std.specs.FinMap.{nat_cmp-IsAntisymmetric, slice_cmp-IsAntisymmetric}
use Rattle.std.proofs.lemmas.Bool.{true≢false, false≢true}
use Rattle.std.proofs.lemmas.Cmp.{nat_cmp_total, nat_list_cmp_total, tied_itself}
use Rattle.hc_range.specs.Order.{is_below}
use Rattle.hc_range.specs.Ranges.{InRange}
use Rattle.hc_value.specs.declared.value.Value.{Value}
use Rattle.hc_value.specs.declared.value.Value.TheVariants.{Null, Int, Text, Blob}
use Rattle.hc_value.specs.Values.{IsValue, AreValues}
use Rattle.hc_value.specs.Order.{value_order}
use Rattle.hc_key.specs.Keys.{value_bytes, list_bytes, key_bytes}
use Rattle.hc_key.specs.Order.{list_order, byte_order, BeginsWith}
use Rattle.hc_key.specs.Laws.{range_of, HoldsPrefixed}
use Rattle.std.specs.Int.{bytes_high_first}
use Rattle.hc_key.proofs.Bytes.{bytes_cmp, four_bytes}
use Rattle.hc_key.proofs.Order.{values_compare, nothing_first, keys_compare}

-- what `hc_value` shows of its order, which the callers hand in
abbrev pub TiesAreSame : Type 0
TiesAreSame = (a b : Value) → (value_order a b ≡ Equal) ↔ (a ≡ b)

-- a value ties with itself
tied_value : TiesAreSame → (v : Value) → value_order v v ≡ Equal
tied_value ties v = (ties v v).1 refl

-- ---- different lists have different keys

-- two comparisons that tie together tie each
pub both_tied : (a b : Ordering) → ordering_then a b ≡ Equal → (a ≡ Equal) × (b ≡ Equal)
both_tied Less b e = absurd cc
both_tied Equal b e = (refl, e)
both_tied Greater b e = absurd cc

-- one key stands for one tree number and one list
pub keys_differ : TiesAreSame → (t u : ℕ) (v w : List Value) → t < 2 ^ 32 → u < 2 ^ 32 → AreValues v → AreValues w → key_bytes t v ≡ key_bytes u w → (t ≡ u) × (v ≡ w)
keys_differ ties t u v w tf uf p q e =
    let tie : byte_order (key_bytes t v) (key_bytes u w) ≡ Equal = subst (λ (k : List ℕ). bytes_cmp (key_bytes t v) k ≡ Equal) e (tied_itself nat_list_cmp_total (key_bytes t v)) in
    let both = both_tied (nat_cmp t u) (list_order v w) (sym (keys_compare t u v w tf uf p q) ∙ tie) in
    (nat_cmp-IsAntisymmetric t u both.0, slice_cmp-IsAntisymmetric (λ (a : Value) (b : Value). (ties a b).0) v w both.1)

-- ---- prefixes

-- the end of a range of a prefix
abbrev pub topped : List ℕ → List ℕ
topped bytes = bytes ++ 255 ∷ []

-- between two that compare with it alike at first
within_first : (o a b : Ordering) → is_lt (ordering_then o a) ≡ false → is_lt (ordering_then o b) ≡ true → (o ≡ Equal) × (is_lt a ≡ false) × (is_lt b ≡ true)
within_first Less a b p q = absurd (true≢false p)
within_first Equal a b p q = (refl, p, q)
within_first Greater a b p q = absurd (false≢true q)

-- a value's bytes come before FF
pub below_top : (w : Value) (s : List ℕ) → bytes_cmp (value_bytes w ++ s) (255 ∷ []) ≡ Less
unfolding value_bytes
below_top Null s = refl
below_top (Int n) s = refl
below_top (Text t) s = refl
below_top (Blob b) s = refl

-- a list and the end of a range compare by their first values, and then by the rests
more_top : (v w : Value) (vs ws : List Value) → IsValue v → IsValue w
    → bytes_cmp (list_bytes (w ∷ ws)) (topped (list_bytes (v ∷ vs))) ≡ ordering_then (value_order w v) (bytes_cmp (list_bytes ws) (topped (list_bytes vs)))
more_top v w vs ws p q =
    ap (λ (k : List ℕ). bytes_cmp (list_bytes (w ∷ ws)) k) (append_assoc (value_bytes v) (list_bytes vs) (255 ∷ []))
    ∙ values_compare w v (list_bytes ws) (topped (list_bytes vs)) q p

-- a list between these values and their end begins with them
pub begins_from : TiesAreSame → (v w : List Value) → AreValues v → AreValues w → is_lt (bytes_cmp (list_bytes w) (list_bytes v)) ≡ false → is_lt (bytes_cmp (list_bytes w) (topped (list_bytes v))) ≡ true → BeginsWith w v
begins_from ties [] w p q low high = (w, refl)
begins_from ties (v ∷ vs) [] p q low high = absurd (true≢false (sym (ap is_lt (nothing_first v (list_bytes vs))) ∙ low))
begins_from ties (v ∷ vs) (w ∷ ws) p q low high =
    let parts = within_first (value_order w v) (bytes_cmp (list_bytes ws) (list_bytes vs)) (bytes_cmp (list_bytes ws) (topped (list_bytes vs)))
    (sym (ap is_lt (values_compare w v (list_bytes ws) (list_bytes vs) q.0 p.0)) ∙ low)
    (sym (ap is_lt (more_top v w vs ws p.0 q.0)) ∙ high) in
    let more : BeginsWith ws vs = begins_from ties vs ws p.1 q.1 parts.1 parts.2 in
    let first : w ≡ v = (ties w v).0 parts.0 in
    (more.0, ap (λ (x : Value). x ∷ ws) first ∙ ap (λ (l : List Value). v ∷ l) more.1)

-- a list that begins with these values is not below them, but below their end
pub begins_low : TiesAreSame → (v rest : List Value) → AreValues v → AreValues (v ++ rest) → is_lt (bytes_cmp (list_bytes (v ++ rest)) (list_bytes v)) ≡ false
begins_low ties [] [] p q = refl
begins_low ties [] (w ∷ ws) p q = not_below (value_bytes w ++ list_bytes ws)
  where
    not_below : (k : List ℕ) → is_lt (bytes_cmp k []) ≡ false
    not_below [] = refl
    not_below (x ∷ xs) = refl
begins_low ties (v ∷ vs) rest p q =
    ap is_lt (values_compare v v (list_bytes (vs ++ rest)) (list_bytes vs) p.0 p.0)
    ∙ ap (λ (o : Ordering). is_lt (ordering_then o (bytes_cmp (list_bytes (vs ++ rest)) (list_bytes vs)))) (tied_value ties v)
    ∙ begins_low ties vs rest p.1 q.1

pub begins_high : TiesAreSame → (v rest : List Value) → AreValues v → AreValues (v ++ rest) → is_lt (bytes_cmp (list_bytes (v ++ rest)) (topped (list_bytes v))) ≡ true
begins_high ties [] [] p q = refl
begins_high ties [] (w ∷ ws) p q = ap is_lt (below_top w (list_bytes ws))
begins_high ties (v ∷ vs) rest p q =
    ap is_lt (more_top v v vs (vs ++ rest) p.0 p.0)
    ∙ ap (λ (o : Ordering). is_lt (ordering_then o (bytes_cmp (list_bytes (vs ++ rest)) (topped (list_bytes vs))))) (tied_value ties v)
    ∙ begins_high ties vs rest p.1 q.1

-- a key and the beginning of a range compare by their trees and then their lists; the same of the end
tree_low : (u t : ℕ) (w v : List Value) → u < 2 ^ 32 → t < 2 ^ 32 → is_below (key_bytes u w) (key_bytes t v) ≡ is_lt (ordering_then (nat_cmp u t) (bytes_cmp (list_bytes w) (list_bytes v)))
unfolding is_below key_bytes
tree_low u t w v uf tf = ap is_lt (four_bytes u t uf tf (list_bytes w) (list_bytes v))

tree_high : (u t : ℕ) (w v : List Value) → u < 2 ^ 32 → t < 2 ^ 32 → is_below (key_bytes u w) (topped (key_bytes t v)) ≡ is_lt (ordering_then (nat_cmp u t) (bytes_cmp (list_bytes w) (topped (list_bytes v))))
unfolding is_below key_bytes
tree_high u t w v uf tf =
    ap (λ (k : List ℕ). is_lt (bytes_cmp (bytes_high_first 4 u ++ list_bytes w) k)) (append_assoc (bytes_high_first 4 t) (list_bytes v) (255 ∷ []))
    ∙ ap is_lt (four_bytes u t uf tf (list_bytes w) (topped (list_bytes v)))

-- the range of a prefix holds exactly the keys of its tree whose lists begin with its values
pub range_holds : TiesAreSame → (t : ℕ) (v : List Value) → t < 2 ^ 32 → AreValues v → HoldsPrefixed (range_of t v) t v
range_holds ties t v tf p u w uf q = (there, back)
  where
    there : InRange (range_of t v) (key_bytes u w) → (u ≡ t) × BeginsWith w v
    there within =
        let parts = within_first (nat_cmp u t) (bytes_cmp (list_bytes w) (list_bytes v)) (bytes_cmp (list_bytes w) (topped (list_bytes v)))
        (sym (tree_low u t w v uf tf) ∙ within.0)
        (sym (tree_high u t w v uf tf) ∙ within.1) in
        (nat_cmp-IsAntisymmetric u t parts.0, begins_from ties v w p q parts.1 parts.2)

    back : (u ≡ t) × BeginsWith w v → InRange (range_of t v) (key_bytes u w)
    back found =
        let tied : nat_cmp u t ≡ Equal = subst (λ (n : ℕ). nat_cmp u n ≡ Equal) found.0 (tied_itself nat_cmp_total u) in
        let are : AreValues (v ++ found.1.0) = subst AreValues found.1.1 q in (
          tree_low u t w v uf tf
              ∙ ap (λ (o : Ordering). is_lt (ordering_then o (bytes_cmp (list_bytes w) (list_bytes v)))) tied
              ∙ ap (λ (l : List Value). is_lt (bytes_cmp (list_bytes l) (list_bytes v))) found.1.1
              ∙ begins_low ties v found.1.0 p are,
          tree_high u t w v uf tf
              ∙ ap (λ (o : Ordering). is_lt (ordering_then o (bytes_cmp (list_bytes w) (topped (list_bytes v))))) tied
              ∙ ap (λ (l : List Value). is_lt (bytes_cmp (list_bytes l) (topped (list_bytes v)))) found.1.1
              ∙ begins_high ties v found.1.0 p are,
        )
