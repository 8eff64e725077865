-- Lists: one element that takes the place of those between two numbers.
use Rattle.std.proofs.Common.{◌≡◌, refl, ap, subst, ℕ, zero, suc, ◌+◌, ◌-◌, ◌<◌, ◌≤◌, List, [], ◌∷◌, ◌++◌, length, take, drop, Some, None, arith, length-append, length-drop, length-take-le}
use Rattle.std.specs.List.{All, slice_get}
use Rattle.std.proofs.lemmas.List.Elements.{All-head, All-tail}
use Rattle.hc_base.specs.Content.{Entry}

-- before it
pub at_before : (b slot : ℕ) (es ys : List Entry) → slot < b → b ≤ length es → slice_get (take b es ++ ys) slot ≡ slice_get es slot
at_before zero slot es ys less within = absurd (omega (arith, less))
at_before (suc b) slot [] ys less within = absurd (omega (arith, within))
at_before (suc b) zero (x ∷ es) ys less within = refl
at_before (suc b) (suc slot) (x ∷ es) ys less within = at_before b slot es ys (omega (arith, less)) (omega (arith, within))

-- itself
pub at_new : (b : ℕ) (es ys : List Entry) (e : Entry) → b ≤ length es → slice_get (take b es ++ (e ∷ ys)) b ≡ Some e
at_new zero es ys e within = refl
at_new (suc b) [] ys e within = absurd (omega (arith, within))
at_new (suc b) (x ∷ es) ys e within = at_new b es ys e (omega (arith, within))

-- after it
pub at_after : (b n k : ℕ) (es ys : List Entry) (e : Entry) → b ≤ length es → n ≡ b + 1 + k → slice_get (take b es ++ (e ∷ ys)) n ≡ slice_get ys k
at_after zero zero k es ys e within is = absurd (omega (arith, is))
at_after zero (suc n) k es ys e within is = ap (λ i. slice_get ys i) (let same : n ≡ k = omega (arith, is) in same)
at_after (suc b) n k [] ys e within is = absurd (omega (arith, within))
at_after (suc b) zero k (x ∷ es) ys e within is = absurd (omega (arith, is))
at_after (suc b) (suc n) k (x ∷ es) ys e within is = at_after b n k es ys e (omega (arith, within)) (omega (arith, is))

pub get_drop : (a n k : ℕ) (es : List Entry) → n ≡ a + k → slice_get (drop a es) k ≡ slice_get es n
get_drop zero n k es is = ap (λ i. slice_get es i) (let same : k ≡ n = omega (arith, is) in same)
get_drop (suc a) n k [] is = refl
get_drop (suc a) zero k (x ∷ es) is = absurd (omega (arith, is))
get_drop (suc a) (suc n) k (x ∷ es) is = get_drop a n k es (omega (arith, is))

-- how many elements there are
pub long : (b a : ℕ) (es : List Entry) (e : Entry) → b ≤ length es → length (take b es ++ (e ∷ drop a es)) ≡ b + 1 + (length es - a)
long b a es e within = omega (arith, length-append (take b es) (e ∷ drop a es), length-take-le b es within, length-drop a es)

-- the first ones, up to the new one and past it
pub take_before : (k b : ℕ) (es ys : List Entry) → k ≤ b → b ≤ length es → take k (take b es ++ ys) ≡ take k es
take_before zero b es ys less within = refl
take_before (suc k) zero es ys less within = absurd (omega (arith, less))
take_before (suc k) (suc b) [] ys less within = absurd (omega (arith, within))
take_before (suc k) (suc b) (x ∷ es) ys less within = ap (λ zs. x ∷ zs) (take_before k b es ys (omega (arith, less)) (omega (arith, within)))

pub take_after : (b n k : ℕ) (es ys : List Entry) (e : Entry) → b ≤ length es → n ≡ b + 1 + k → take n (take b es ++ (e ∷ ys)) ≡ take b es ++ (e ∷ take k ys)
take_after zero zero k es ys e within is = absurd (omega (arith, is))
take_after zero (suc n) k es ys e within is = ap (λ i. e ∷ take i ys) (let same : n ≡ k = omega (arith, is) in same)
take_after (suc b) n k [] ys e within is = absurd (omega (arith, within))
take_after (suc b) zero k (x ∷ es) ys e within is = absurd (omega (arith, is))
take_after (suc b) (suc n) k (x ∷ es) ys e within is = ap (λ zs. x ∷ zs) (take_after b n k es ys e (omega (arith, within)) (omega (arith, is)))

-- the first ones of a list are the first ones of it, and those after them
pub take_more : (a k n : ℕ) (es : List Entry) → n ≡ a + k → take n es ≡ take a es ++ take k (drop a es)
take_more zero k n es is = ap (λ i. take i es) (let same : n ≡ k = omega (arith, is) in same)
take_more (suc a) k zero [] is = absurd (omega (arith, is))
take_more (suc a) zero (suc n) [] is = refl
take_more (suc a) (suc k) (suc n) [] is = refl
take_more (suc a) k zero (x ∷ es) is = absurd (omega (arith, is))
take_more (suc a) k (suc n) (x ∷ es) is = ap (λ zs. x ∷ zs) (take_more a k n es (omega (arith, is)))

-- what holds of all holds of one
pub all_get : (P : Entry → Type 0) (es : List Entry) (i : ℕ) (e : Entry) → All P es → slice_get es i ≡ Some e → P e
all_get P [] i e all there = absurd (none_some there)
  where
    none_some : None ≡ Some e → ⊥
    none_some is = cc
all_get P (x ∷ es) zero e all there = subst P (some_one there) (All-head P x es all)
  where
    some_one : Some x ≡ Some e → x ≡ e
    some_one is = cc
all_get P (x ∷ es) (suc i) e all there = all_get P es i e (All-tail P x es all) there

pub same_some : (x y : Entry) → Some x ≡ Some y → x ≡ y
same_some x y is = cc
