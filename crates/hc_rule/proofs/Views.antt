-- What the seats know after one of them learns something.
use Rattle.std.proofs.Common.{◌≡◌, ◌≢◌, ◌∙◌, sym, ap, subst, ℕ, zero, suc, ◌<◌, ◌≤◌, ◌-◌, List, [], ◌∷◌, ◌++◌, map, length, get_or, set, inl, inr, arith, length-append, length-set}
use Rattle.std.proofs.lemmas.Bool.{cases_eq, cases_lt}
use Rattle.std.proofs.lemmas.List.{get_or-set_same, get_or-set_other, map-set, length-map, map-append, get_or_past, get_or_append_left, get_or-append_right}
use mathlib.Core.Option.{some, some-injective, some-ne-none}
use lib.ListN.{get_elem?}
use Rattle.hc_base.specs.Lookup.{but}
use Rattle.hc_base.proofs.Lookups.{but-is, but-same, but-other}
use Rattle.hc_rule.specs.declared.view.View.{View}
use Rattle.hc_rule.specs.Views.{known, nobody}

-- what is there is within the list
pub there_within : {A : Type 0} (xs : List A) (i : ℕ) (x : A) → get_elem? xs i ≡ some x → i < length xs
there_within [] i x at = absurd (some-ne-none x (sym at))
there_within (y ∷ ys) zero x at = omega arith
there_within (y ∷ ys) (suc i) x at = let b = there_within ys i x at in omega (arith, b)

there_map : {A B : Type 0} (f : A → B) (xs : List A) (i : ℕ) (x : A) (d : B) → get_elem? xs i ≡ some x → get_or (map f xs) i d ≡ f x
there_map f [] i x d at = absurd (some-ne-none x (sym at))
there_map f (y ∷ ys) zero x d at = ap f (some-injective y x at)
there_map f (y ∷ ys) (suc i) x d at = there_map f ys i x d at

-- a field of a seat's view
pub known_is : {A : Type 0} (f : View → A) (views : List View) (id : ℕ) (v : View) → get_elem? views id ≡ some v → known f views id ≡ f v
unfolding known
known_is f views id v at = there_map f views id v (f nobody) at

-- after a change of the view
pub known_set : {A : Type 0} (f : View → A) (views : List View) (id : ℕ) (v w : View) → get_elem? views id ≡ some v → known f (set views id w) ≡ but (known f views) id (f w)
unfolding known
known_set {A} f views id v w at = λ t j. but-is (known f views) (known f (set views id w)) id (f w) here others j t
  where
    here : get_or (map f (set views id w)) id (f nobody) ≡ f w
    here = ap (λ (xs : List A). get_or xs id (f nobody)) (map-set f views id w) ∙ get_or-set_same (map f views) id (f w) (f nobody) (let b = there_within views id v at in omega (arith, b, length-map views f))

    others : (j : ℕ) → id ≢ j → get_or (map f (set views id w)) j (f nobody) ≡ get_or (map f views) j (f nobody)
    others j differ = ap (λ (xs : List A). get_or xs j (f nobody)) (map-set f views id w) ∙ get_or-set_other (map f views) id j (f w) (f nobody) (λ same. differ (sym same))

-- a field that the step leaves alone
pub known_kept : {A : Type 0} (f : View → A) (views : List View) (id : ℕ) (v w : View) → get_elem? views id ≡ some v → f w ≡ f v → known f (set views id w) ≡ known f views
known_kept f views id v w at same = known_set f views id v w at ∙ (λ t j. each j t)
  where
    each : (j : ℕ) → but (known f views) id (f w) j ≡ known f views j
    each j =
        elim (cases_eq id j) [
          | inl here ↦ subst (λ k. but (known f views) id (f w) k ≡ known f views k) here (but-same (known f views) id (f w) ∙ (same ∙ sym (known_is f views id v at)))
          | inr differ ↦ but-other (known f views) id j (f w) differ
        ]

-- with one seat more
known_past : {A : Type 0} (f : View → A) (views : List View) (i : ℕ) → length views ≤ i → known f views i ≡ f nobody
unfolding known
known_past f views i past = get_or_past (map f views) i (f nobody) (omega (arith, length-map views f))

pub known_new : {A : Type 0} (f : View → A) (views : List View) (w : View) → known f (views ++ (w ∷ [])) ≡ but (known f views) (length views) (f w)
unfolding known
known_new {A} f views w = λ t j. but-is (known f views) (known f (views ++ (w ∷ []))) (length views) (f w) here others j t
  where
    here : get_or (map f (views ++ (w ∷ []))) (length views) (f nobody) ≡ f w
    here =
        ap (λ (xs : List A). get_or xs (length views) (f nobody)) (map-append f views (w ∷ []))
        ∙ (get_or-append_right (map f views) (f w ∷ []) (length views) (length views) (f nobody) (length-map views f) (omega arith)
        ∙ ap (λ n. get_or (f w ∷ []) n (f nobody)) (let z : length views - length views ≡ 0 = omega arith in z))

    others : (j : ℕ) → length views ≢ j → get_or (map f (views ++ (w ∷ []))) j (f nobody) ≡ get_or (map f views) j (f nobody)
    others j differ =
        ap (λ (xs : List A). get_or xs j (f nobody)) (map-append f views (w ∷ []))
        ∙ (elim (cases_lt j (length views)) [
          | inl before ↦ get_or_append_left (map f views) (f w ∷ []) (f nobody) j (omega (arith, before, length-map views f))
          | inr past ↦
              get_or_past (map f views ++ (f w ∷ [])) j (f nobody) (let d : length views < j = omega (arith, past, differ) in omega (arith, d, length-append (map f views) (f w ∷ []), length-map views f))
              ∙ sym (get_or_past (map f views) j (f nobody) (omega (arith, past, length-map views f)))
        ])

-- the seats with one more know what they knew, and the new one what it is given
pub known_split : {A : Type 0} (f : View → A) (views : List View) (id : ℕ) (v left right : View) → get_elem? views id ≡ some v
    → known f (set views id left ++ (right ∷ [])) ≡ but (but (known f views) id (f left)) (length views) (f right)
known_split f views id v left right at =
    known_new f (set views id left) right
    ∙ (ap (λ n. but (known f (set views id left)) n (f right)) (length-set views id left)
    ∙ ap (λ g. but g (length views) (f right)) (known_set f views id v left at))

pub nobody_past : {A : Type 0} (f : View → A) (views : List View) → known f views (length views) ≡ f nobody
nobody_past f views = known_past f views (length views) (omega arith)

-- with one seat more that knows nothing of a field
pub known_more : {A : Type 0} (f : View → A) (views : List View) (w : View) → f w ≡ f nobody → known f (views ++ (w ∷ [])) ≡ known f views
known_more {A} f views w none = known_new f views w ∙ (λ t j. each j t)
  where
    each : (j : ℕ) → but (known f views) (length views) (f w) j ≡ known f views j
    each j =
        elim (cases_eq (length views) j) [
          | inl here ↦ subst (λ k. but (known f views) (length views) (f w) k ≡ known f views k) here (but-same (known f views) (length views) (f w) ∙ (none ∙ sym (nobody_past f views)))
          | inr differ ↦ but-other (known f views) (length views) j (f w) differ
        ]
