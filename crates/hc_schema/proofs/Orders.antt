-- Elements of lists, and lists that are in order by a relation between each element and each later one.
use Rattle.std.proofs.Common.{◌≡◌, List, [], ◌∷◌, ◌++◌, ◌⊎◌, inl, inr, map, flat_map, refl, sym, ap, subst, ◌∙◌}
use Rattle.std.specs.List.{AllByRecursion}
use Rattle.hc_base.specs.Lookup.{Among}

-- ---- elements

pub among_front : {A : Type 0} (x : A) (xs ys : List A) → Among x xs → Among x (xs ++ ys)
among_front x [] ys among = absurd among
among_front x (y ∷ xs) ys (inl same) = inl same
among_front x (y ∷ xs) ys (inr among) = inr (among_front x xs ys among)

pub among_back : {A : Type 0} (x : A) (xs ys : List A) → Among x ys → Among x (xs ++ ys)
among_back x [] ys among = among
among_back x (y ∷ xs) ys among = inr (among_back x xs ys among)

pub among_either : {A : Type 0} (x : A) (xs ys : List A) → Among x (xs ++ ys) → Among x xs ⊎ Among x ys
among_either x [] ys among = inr among
among_either x (y ∷ xs) ys (inl same) = inl (inl same)
among_either x (y ∷ xs) ys (inr among) = elim (among_either x xs ys among) [ inl front ↦ inl (inr front) | inr back ↦ inr back ]

pub among_map : {A B : Type 0} (f : A → B) (x : A) (xs : List A) → Among x xs → Among (f x) (map f xs)
among_map f x [] among = absurd among
among_map f x (y ∷ xs) (inl same) = inl (ap f same)
among_map f x (y ∷ xs) (inr among) = inr (among_map f x xs among)

-- what an element of a mapped list comes from
pub record From {A B : Type 0} (f : A → B) (y : B) (xs : List A) : Type 0 where
  pub x : A
  pub among : Among x xs
  pub is : y ≡ f x

pub from_map : {A B : Type 0} (f : A → B) (y : B) (xs : List A) → Among y (map f xs) → From f y xs
from_map f y [] among = absurd among
from_map f y (x ∷ xs) (inl same) = record { x = x; among = inl refl; is = same }
from_map f y (x ∷ xs) (inr among) = let rest = from_map f y xs among in record { x = rest.x; among = inr rest.among; is = rest.is }

pub among_flat : {A B : Type 0} (f : A → List B) (y : B) (x : A) (xs : List A) → Among x xs → Among y (f x) → Among y (flat_map f xs)
among_flat f y x [] among here = absurd among
among_flat f y x (z ∷ xs) (inl same) here = among_front y (f z) (flat_map f xs) (subst (λ w. Among y (f w)) same here)
among_flat f y x (z ∷ xs) (inr among) here = among_back y (f z) (flat_map f xs) (among_flat f y x xs among here)

-- which element a part of a flattened list comes from
pub record Within {A B : Type 0} (f : A → List B) (y : B) (xs : List A) : Type 0 where
  pub x : A
  pub among : Among x xs
  pub here : Among y (f x)

pub from_flat : {A B : Type 0} (f : A → List B) (y : B) (xs : List A) → Among y (flat_map f xs) → Within f y xs
from_flat f y [] among = absurd among
from_flat f y (x ∷ xs) among =
    elim (among_either y (f x) (flat_map f xs) among) [
      | inl front ↦ record { x = x; among = inl refl; here = front }
      | inr back ↦ let rest = from_flat f y xs back in record { x = rest.x; among = inr rest.among; here = rest.here }
    ]

pub all_among : {A : Type 0} (P : A → Type 0) (x : A) (xs : List A) → AllByRecursion P xs → Among x xs → P x
all_among P x [] all among = absurd among
all_among P x (y ∷ xs) all (inl same) = subst P (sym same) all.0
all_among P x (y ∷ xs) all (inr among) = all_among P x xs all.1 among

pub all_from : {A : Type 0} (P : A → Type 0) (xs : List A) → ((x : A) → Among x xs → P x) → AllByRecursion P xs
all_from P [] each = tt
all_from P (x ∷ xs) each = (each x (inl refl), all_from P xs (λ y among. each y (inr among)))

-- ---- order

-- R between each element and each later one
abbrev pub Ordered : {A : Type 0} → (A → A → Type 0) → List A → Type 0
Ordered R [] = Unit {0}
Ordered R (x ∷ xs) = AllByRecursion (R x) xs × Ordered R xs

-- two elements are one where neither may come before the other
pub one_element : {A : Type 0} (R : A → A → Type 0) (x y : A) (xs : List A) → Ordered R xs → (R x y → ⊥) → (R y x → ⊥) → Among x xs → Among y xs → x ≡ y
one_element R x y [] order before after a b = absurd a
one_element R x y (z ∷ xs) order before after (inl a) (inl b) = a ∙ sym b
one_element R x y (z ∷ xs) order before after (inl a) (inr b) = absurd (before (subst (λ w. R w y) (sym a) (all_among (R z) y xs order.0 b)))
one_element R x y (z ∷ xs) order before after (inr a) (inl b) = absurd (after (subst (λ w. R w x) (sym b) (all_among (R z) x xs order.0 a)))
one_element R x y (z ∷ xs) order before after (inr a) (inr b) = one_element R x y xs order.1 before after a b

-- lists in order are one list where they have the same elements
pub same_lists : {A : Type 0} (R : A → A → Type 0) (xs ys : List A) → ((x y : A) → R x y → R y x → ⊥) → Ordered R xs → Ordered R ys
    → ((x : A) → Among x xs → Among x ys) → ((y : A) → Among y ys → Among y xs) → xs ≡ ys
same_lists R [] [] never left right into back = refl
same_lists R [] (y ∷ ys) never left right into back = absurd (back y (inl refl))
same_lists R (x ∷ xs) [] never left right into back = absurd (into x (inl refl))
same_lists R (x ∷ xs) (y ∷ ys) never left right into back =
    let first : x ≡ y = elim (into x (inl refl)) [
      | inl same ↦ same
      | inr later ↦ elim (back y (inl refl)) [
        | inl same ↦ sym same
        | inr other ↦ absurd (never x y (all_among (R x) y xs left.0 other) (all_among (R y) x ys right.0 later))
      ]
    ] in
    let rest : xs ≡ ys = same_lists R xs ys never left.1 right.1
    (λ z among. elim (into z (inr among)) [
      | inl same ↦ let r : R x x = subst (R x) (same ∙ sym first) (all_among (R x) z xs left.0 among) in absurd (never x x r r)
      | inr later ↦ later
    ])
    (λ z among. elim (back z (inr among)) [
      | inl same ↦ let r : R y y = subst (R y) (same ∙ first) (all_among (R y) z ys right.0 among) in absurd (never y y r r)
      | inr later ↦ later
    ]) in
    ap (λ z. z ∷ xs) first ∙ ap (λ l. y ∷ l) rest
