-- The first place of what passes, one element more.
use Rattle.std.proofs.Common.{◌≡◌, ◌∙◌, ℕ, ◌+◌, ◌<◌, List, [], ◌∷◌, ◌++◌, length, get_or, take, map, refl, ap, sym, Bool, true, false, Option, Some, None, arith, length-take}
use Rattle.std.specs.Prelude.{if◌then◌else◌}
use Rattle.std.specs.Option.{option_or}
use Rattle.std.proofs.lemmas.List.{take_more, map-append, length-map}
use Rattle.hc_schema.specs.Binding.Expressions.{place_from, place_of}

place_pushed : {A : Type 0} (p : A → Bool) (n : ℕ) (xs : List A) (x : A) → place_from p n (xs ++ x ∷ []) ≡ option_or (place_from p n xs) (if p x then Some (n + length xs) else None)
place_pushed p n [] x = ap (λ k. if p x then Some k else None) (omega arith)
place_pushed p n (y ∷ xs) x =
    elim (p y) as (λ b. (if b then Some n else place_from p (n + 1) (xs ++ x ∷ [])) ≡ option_or (if b then Some n else place_from p (n + 1) xs) (if p x then Some (n + length (y ∷ xs)) else None)) [
      | true ↦ refl
      | false ↦ place_pushed p (n + 1) xs x ∙ ap (λ k. option_or (place_from p (n + 1) xs) (if p x then Some k else None)) (omega arith)
    ]

-- keys with their first places so far, and one element more
pub known_more : {X A : Type 0} (f : X → A) (p : List ℕ → A → Bool) (xs : List X) (i : ℕ) (x : X) (old now : List ℕ → Option ℕ) → i < length xs → x ≡ get_or xs i x
    → ((q : List ℕ) → old q ≡ place_of (p q) (map f (take i xs))) → ((q : List ℕ) → now q ≡ option_or (old q) (if p q (f x) then Some i else None))
    → (q : List ℕ) → now q ≡ place_of (p q) (map f (take (i + 1) xs))
known_more f p xs i x old now within is so_far one q =
    let n : i ≡ 0 + length (map f (take i xs)) = omega (arith, length-map (take i xs) f, length-take i xs, within) in
    one q
    ∙ ap (λ o. option_or o (if p q (f x) then Some i else None)) (so_far q)
    ∙ ap (λ k. option_or (place_of (p q) (map f (take i xs))) (if p q (f x) then Some k else None)) n
    ∙ sym (place_pushed (p q) 0 (map f (take i xs)) (f x))
    ∙ ap (place_of (p q)) (sym (map-append f (take i xs) (x ∷ [])) ∙ ap (map f) (ap (λ y. take i xs ++ y ∷ []) is ∙ sym (take_more xs i x within)))
