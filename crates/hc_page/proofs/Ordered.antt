-- Keys in ascending order, by their numbers.
use Rattle.std.proofs.Common.{ℕ, zero, suc, ◌+◌, ◌<◌, ◌≤◌, List, [], ◌∷◌, length, take, drop, get_or, sym, subst, arith, length-drop}
use Rattle.std.specs.List.{All}
use Rattle.std.proofs.lemmas.List.Elements.{All-get_or, All-from_get_or}
use Rattle.std.proofs.lemmas.List.{get_or-drop, get_or-take, length-take-le}
use Rattle.hc_range.specs.Order.{IsBelow}
use Rattle.hc_base.specs.Content.{Ascends}

-- an earlier key is below a later one
pub ascends_at : (ks : List (List ℕ)) (i j : ℕ) → Ascends ks → i < j → j < length ks → IsBelow (get_or ks i []) (get_or ks j [])
ascends_at [] i j up before within = absurd (omega arith)
ascends_at (k ∷ ks) i zero up before within = absurd (omega arith)
ascends_at (k ∷ ks) zero (suc j) up before within = All-get_or (λ other. IsBelow k other) ks j [] (omega arith) up.0
ascends_at (k ∷ ks) (suc i) (suc j) up before within = ascends_at ks i j up.1 (omega arith) (omega arith)

-- the keys up to a number, and from a number on
pub all_below : (ks : List (List ℕ)) (n : ℕ) (P : List ℕ → Type 0) → n ≤ length ks → ((i : ℕ) → i < n → P (get_or ks i [])) → All P (take n ks)
all_below ks n P within each =
    All-from_get_or P (take n ks) []
    (λ i small.
    let less : i < n = omega (arith, length-take-le n ks within) in
    subst P (sym (get_or-take n ks i [] less)) (each i less))

pub all_from : (ks : List (List ℕ)) (n : ℕ) (P : List ℕ → Type 0) → ((i : ℕ) → n ≤ i → i < length ks → P (get_or ks i [])) → All P (drop n ks)
all_from ks n P each =
    All-from_get_or P (drop n ks) []
    (λ i small.
    let less : n + i < length ks = omega (arith, length-drop n ks) in
    subst P (sym (get_or-drop n ks i [])) (each (n + i) (omega arith) less))
