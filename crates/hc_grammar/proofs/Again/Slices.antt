-- A piece of a text, by its place.
use Rattle.std.proofs.Common.{◌≡◌, ◌∙◌, ap, refl, ◌+◌, ◌-◌, List, [], ◌∷◌, ◌++◌, length, take, drop, arith}
use Rattle.std.specs.List.{slice_range}

-- a front, and what is after it
taken : {A : Type 0} (xs ys : List A) → take (length xs) (xs ++ ys) ≡ xs
taken [] ys = refl
taken (x ∷ xs) ys = ap (λ l. x ∷ l) (taken xs ys)

-- a list without a front
dropped : {A : Type 0} (xs ys : List A) → drop (length xs) (xs ++ ys) ≡ ys
dropped [] ys = refl
dropped (x ∷ xs) ys = dropped xs ys

-- the piece after a front
pub slice_after : {A : Type 0} (front piece following : List A) → slice_range (front ++ (piece ++ following)) (length front) (length front + length piece) ≡ piece
slice_after front piece following =
    let size : (length front + length piece) - length front ≡ length piece = omega arith in
    ap (λ n. take n (drop (length front) (front ++ (piece ++ following)))) size
    ∙ ap (λ l. take (length piece) l) (dropped front (piece ++ following))
    ∙ taken piece following
