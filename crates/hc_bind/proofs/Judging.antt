-- A part's fault is that of the whole, and a walk goes on from what its parts made so far.
use Rattle.std.proofs.Common.{◌≡◌, ◌∙◌, ℕ, ◌+◌, ◌<◌, List, [], ◌∷◌, ◌++◌, length, get_or, take, drop, map, refl, ap, sym, suc, Ok, Err, Result}
use Rattle.std.specs.List.{flat_map}
use Rattle.std.proofs.lemmas.Grind.{flat_map-append}
use Rattle.std.proofs.lemmas.List.{take_more, take-append-drop, append-nil}
use Rattle.std.proofs.Math.Seq.{drop-cons}
use Rattle.hc_schema.specs.Binding.Faults.{Fault, Judged, after, walk, with_next, each}
use Rattle.hc_bind.specs.declared.fault.BindFault.{BindFault}
use Rattle.hc_bind.specs.Answers.{FaultIs, IsWhy, Tells, TellsTo}

-- the fault of what comes first
pub passes : {A B : Type 0} (e : BindFault) (j : Judged A) (next : A → Judged B) → IsWhy e j → IsWhy e (after j next)
passes e j next h = λ fault is. ap (λ k. after k next) (h fault is)

-- the fault of what follows
pub follows : {A B : Type 0} (e : BindFault) (j : Judged A) (next : A → Judged B) (a : A) → j ≡ Ok a → IsWhy e (next a) → IsWhy e (after j next)
follows e j next a first h = λ fault is. ap (λ k. after k next) first ∙ h fault is

-- a fault that is told
pub told : {A : Type 0} (e : BindFault) (fault : Fault) (j : Judged A) → FaultIs e fault → j ≡ Err fault → IsWhy e j
told e fault j is_it h = λ other is. h ∙ ap (λ f. Err f) (is_it other is)

-- both come to one
pub joined : {A B : Type 0} (j : Judged A) (next : A → Judged B) (a : A) (b : Judged B) → j ≡ Ok a → next a ≡ b → after j next ≡ b
joined j next a b first h = ap (λ k. after k next) first ∙ h

pub walk_append : {A S : Type 0} (step : S → A → Judged S) (s : S) (xs ys : List A) → walk step s (xs ++ ys) ≡ after (walk step s xs) (λ m. walk step m ys)
walk_append step s [] ys = refl
walk_append step s (x ∷ xs) ys =
    elim (step s x) as (λ j. after j (λ m. walk step m (xs ++ ys)) ≡ after (after j (λ m. walk step m xs)) (λ m. walk step m ys)) [
      | Ok m ↦ walk_append step m xs ys
      | Err fault ↦ refl
    ]

-- one part more
pub walk_more : {A S : Type 0} (step : S → A → Judged S) (s : S) (xs : List A) (i : ℕ) (x : A) (m n : S) → i < length xs → x ≡ get_or xs i x
    → walk step s (take i xs) ≡ Ok m → step m x ≡ Ok n → walk step s (take (i + 1) xs) ≡ Ok n
walk_more step s xs i x m n within is so_far now =
    ap (walk step s) (take_more xs i x within)
    ∙ walk_append step s (take i xs) (get_or xs i x ∷ [])
    ∙ ap (λ j. after j (λ k. walk step k (get_or xs i x ∷ []))) so_far
    ∙ ap (λ y. after (step m y) (λ k. Ok k)) (sym is)
    ∙ ap (λ j. after j (λ k. Ok k)) now

-- the first part that has a fault
pub walk_fault : {A S : Type 0} (step : S → A → Judged S) (s : S) (xs : List A) (i : ℕ) (x : A) (m : S) (fault : Fault) → i < length xs → x ≡ get_or xs i x
    → walk step s (take i xs) ≡ Ok m → step m x ≡ Err fault → walk step s xs ≡ Err fault
walk_fault step s xs i x m fault within is so_far now =
    ap (walk step s) (sym (take-append-drop i xs))
    ∙ walk_append step s (take i xs) (drop i xs)
    ∙ ap (λ j. after j (λ k. walk step k (drop i xs))) so_far
    ∙ ap (walk step m) (drop-cons xs i x within)
    ∙ ap (λ y. after (step m y) (λ k. walk step k (drop (suc i) xs))) (sym is)
    ∙ ap (λ j. after j (λ k. walk step k (drop (suc i) xs))) now

pub walk_why : {A S : Type 0} (step : S → A → Judged S) (s : S) (xs : List A) (i : ℕ) (x : A) (m : S) (e : BindFault) → i < length xs → x ≡ get_or xs i x
    → walk step s (take i xs) ≡ Ok m → IsWhy e (step m x) → IsWhy e (walk step s xs)
walk_why step s xs i x m e within is so_far h = λ fault why. walk_fault step s xs i x m fault within is so_far (h fault why)

-- the same of elements that are copied
pub walk_more_at : {A S : Type 0} (step : S → A → Judged S) (s : S) (xs : List A) (i : ℕ) (d : A) (m n : S) → i < length xs
    → walk step s (take i xs) ≡ Ok m → step m (get_or xs i d) ≡ Ok n → walk step s (take (i + 1) xs) ≡ Ok n
walk_more_at step s xs i d m n within so_far now =
    ap (walk step s) (take_more xs i d within)
    ∙ walk_append step s (take i xs) (get_or xs i d ∷ [])
    ∙ ap (λ j. after j (λ k. walk step k (get_or xs i d ∷ []))) so_far
    ∙ ap (λ j. after j (λ k. Ok k)) now

pub walk_why_at : {A S : Type 0} (step : S → A → Judged S) (s : S) (xs : List A) (i : ℕ) (d : A) (m : S) (e : BindFault) → i < length xs
    → walk step s (take i xs) ≡ Ok m → IsWhy e (step m (get_or xs i d)) → IsWhy e (walk step s xs)
walk_why_at step s xs i d m e within so_far h = λ fault why.
    ap (walk step s) (sym (take-append-drop i xs))
    ∙ walk_append step s (take i xs) (drop i xs)
    ∙ ap (λ j. after j (λ k. walk step k (drop i xs))) so_far
    ∙ ap (walk step m) (drop-cons xs i d within)
    ∙ ap (λ j. after j (λ k. walk step k (drop (suc i) xs))) (h fault why)

pub walk_map : {A B S : Type 0} (step : S → B → Judged S) (f : A → B) (s : S) (xs : List A) → walk step s (map f xs) ≡ walk (λ m x. step m (f x)) s xs
walk_map step f s [] = refl
walk_map step f s (x ∷ xs) =
    elim (step s (f x)) as (λ j. after j (λ m. walk step m (map f xs)) ≡ after j (λ m. walk (λ k y. step k (f y)) m xs)) [
      | Ok m ↦ walk_map step f m xs
      | Err fault ↦ refl
    ]

-- the same of parts that are all told
pub each_more : {A B : Type 0} (f : A → Judged B) (xs : List A) (i : ℕ) (x : A) (bs : List B) (b : B) → i < length xs → x ≡ get_or xs i x
    → each (map f (take i xs)) ≡ Ok bs → f x ≡ Ok b → each (map f (take (i + 1) xs)) ≡ Ok (bs ++ b ∷ [])
each_more f xs i x bs b within is so_far now =
    walk_map with_next f [] (take (i + 1) xs)
    ∙ walk_more (λ before y. with_next before (f y)) [] xs i x bs (bs ++ b ∷ []) within is
    (sym (walk_map with_next f [] (take i xs)) ∙ so_far) (ap (λ j. after j (λ a. Ok (bs ++ a ∷ []))) now)

pub each_why : {A B : Type 0} (f : A → Judged B) (xs : List A) (i : ℕ) (x : A) (bs : List B) (e : BindFault) → i < length xs → x ≡ get_or xs i x
    → each (map f (take i xs)) ≡ Ok bs → IsWhy e (f x) → IsWhy e (each (map f xs))
each_why f xs i x bs e within is so_far h = λ fault why.
    walk_map with_next f [] xs
    ∙ walk_fault (λ before y. with_next before (f y)) [] xs i x bs fault within is
    (sym (walk_map with_next f [] (take i xs)) ∙ so_far) (ap (λ j. after j (λ a. Ok (bs ++ a ∷ []))) (h fault why))

-- the answer to a part, where it is judged as another is
pub told_by : {A : Type 0} (e : BindFault) (j k : Judged A) → j ≡ k → IsWhy e k → IsWhy e j
told_by e j k same h = λ fault is. same ∙ h fault is

pub tells_same : {T : Type 0} (j k : Judged T) (answer : Result T BindFault) → j ≡ k → Tells k answer → Tells j answer
tells_same j k (Ok t) same h = same ∙ h
tells_same j k (Err e) same h = λ fault is. same ∙ h fault is

pub to_same : {S : Type 0} (j k : Judged S) (now : S) (answer : Result Unit BindFault) → j ≡ k → TellsTo k now answer → TellsTo j now answer
to_same j k now (Ok done) same h = same ∙ h
to_same j k now (Err e) same h = λ fault is. same ∙ h fault is

-- a walk over the parts of each of some elements, one element more
module _ {A B S : Type 0} (step : S → B → Judged S) (f : A → List B) (s : S) (xs : List A) (i : ℕ) (x : A) (m : S) (within : i < length xs) (is : x ≡ get_or xs i x)
    (so_far : walk step s (flat_map f (take i xs)) ≡ Ok m) where
  pub walk_flat_more : (n : S) → walk step m (f x) ≡ Ok n → walk step s (flat_map f (take (i + 1) xs)) ≡ Ok n
  walk_flat_more n now =
      ap (λ ys. walk step s (flat_map f ys)) (take_more xs i x within ∙ ap (λ y. take i xs ++ y ∷ []) (sym is))
      ∙ ap (walk step s) (flat_map-append f (take i xs) (x ∷ []) ∙ ap (λ ys. flat_map f (take i xs) ++ ys) (append-nil (f x)))
      ∙ walk_append step s (flat_map f (take i xs)) (f x)
      ∙ ap (λ j. after j (λ k. walk step k (f x))) so_far ∙ now

  pub walk_flat_why : (e : BindFault) → IsWhy e (walk step m (f x)) → IsWhy e (walk step s (flat_map f xs))
  walk_flat_why e h = λ fault why.
      ap (λ ys. walk step s (flat_map f ys)) (sym (take-append-drop i xs) ∙ ap (λ ys. take i xs ++ ys) (drop-cons xs i x within ∙ ap (λ y. y ∷ drop (suc i) xs) (sym is)))
      ∙ ap (walk step s) (flat_map-append f (take i xs) (x ∷ drop (suc i) xs))
      ∙ walk_append step s (flat_map f (take i xs)) (f x ++ flat_map f (drop (suc i) xs))
      ∙ ap (λ j. after j (λ k. walk step k (f x ++ flat_map f (drop (suc i) xs)))) so_far
      ∙ walk_append step m (f x) (flat_map f (drop (suc i) xs))
      ∙ ap (λ j. after j (λ k. walk step k (flat_map f (drop (suc i) xs)))) (h fault why)

-- what is judged, and nothing after it
pub after_ok : {A : Type 0} (j : Judged A) → after j (λ a. Ok a) ≡ j
after_ok (Ok a) = refl
after_ok (Err fault) = refl
