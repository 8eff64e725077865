-- DISTINCT: which results are kept.
use Rattle.std.proofs.Common.{◌≡◌, ◌∙◌, refl, sym, ap, List, [], ◌∷◌, ◌++◌, Bool, true, false, if◌then◌else◌, Ordering, Less, Equal, Greater}
use Rattle.std.specs.Prelude.{not, ◌||◌}
use Rattle.std.specs.List.{AllByRecursion, filter, list_any}
use Rattle.std.specs.Ordering.{is_eq}
use Rattle.std.specs.Cmp.{IsTotalOrder}
use Rattle.std.specs.Cmp.Lexicographic.{slice_cmp}
use Rattle.std.specs.FinMap.{IsAntisymmetric, slice_cmp-IsAntisymmetric}
use Rattle.std.proofs.lemmas.Cmp.{lists_total, tied_itself}
use Rattle.std.proofs.lemmas.List.{append-nil}
use Rattle.std.proofs.lemmas.List.Elements.{filter-append}
use Rattle.hc_value.specs.declared.value.Value.{Value}
use Rattle.hc_value.specs.Order.{value_order}
use Rattle.hc_sql.specs.Looks.{same_values}
use Rattle.hc_sql.specs.Sorting.{Result, shows_same, firsts}
use Rattle.hc_sql.specs.ResultLaws.{EachPair, IsLeftOf, nothing, kept, left_out}

abbrev others : Result → List Result → List Result
others r results = filter (λ other. not (shows_same r other)) results

-- ---- the first is kept

abbrev LastKept : List Result → Result → Bool → Type 0
LastKept results r shown = firsts (results ++ r ∷ []) ≡ (if shown then firsts results else firsts results ++ r ∷ [])

pub first_kept : (results : List Result) (r : Result) → LastKept results r (list_any (λ earlier. shows_same earlier r) results)
first_kept [] r = refl
first_kept (x ∷ results) r = by (shows_same x r) refl (list_any (λ earlier. shows_same earlier r) results) (first_kept results r)
  where
    by : (same : Bool) → shows_same x r ≡ same → (shown : Bool) → LastKept results r shown
        → LastKept (x ∷ results) r (same || shown)
    by true is true following = ap (λ rest. x ∷ others x rest) following
    by false is true following = ap (λ rest. x ∷ others x rest) following
    by true is false following =
        ap (λ rest. x ∷ others x rest) following
        ∙ (ap (λ rest. x ∷ rest) (filter-append (λ other. not (shows_same x other)) (firsts results) (r ∷ []))
        ∙ (ap (λ b. x ∷ (others x (firsts results) ++ (if not b then r ∷ [] else []))) is
        ∙ ap (λ rest. x ∷ rest) (append-nil (others x (firsts results)))))
    by false is false following =
        ap (λ rest. x ∷ others x rest) following
        ∙ (ap (λ rest. x ∷ rest) (filter-append (λ other. not (shows_same x other)) (firsts results) (r ∷ []))
        ∙ ap (λ b. x ∷ (others x (firsts results) ++ (if not b then r ∷ [] else []))) is)

-- ---- no two that are kept show the same

module _ {A : Type 0} (passes : A → Bool) where
  all_filtered : (P : A → Type 0) (xs : List A) → AllByRecursion P xs → AllByRecursion P (filter passes xs)
  all_filtered P [] each = tt
  all_filtered P (x ∷ xs) each = by (passes x) (all_filtered P xs each.1)
    where
      by : (b : Bool) → AllByRecursion P (filter passes xs) → AllByRecursion P (if b then x ∷ filter passes xs else filter passes xs)
      by true following = (each.0, following)
      by false following = following

  pairs_filtered : (R : A → A → Type 0) (xs : List A) → EachPair R xs → EachPair R (filter passes xs)
  pairs_filtered R [] pairs = tt
  pairs_filtered R (x ∷ xs) pairs = by (passes x) (pairs_filtered R xs pairs.1)
    where
      by : (b : Bool) → EachPair R (filter passes xs) → EachPair R (if b then x ∷ filter passes xs else filter passes xs)
      by true following = (all_filtered (R x) xs pairs.0, following)
      by false following = following

abbrev Apart : Result → Result → Type 0
Apart earlier later = shows_same earlier later ≡ false

not_same : (r : Result) (results : List Result) → AllByRecursion (Apart r) (others r results)
not_same r [] = tt
not_same r (x ∷ results) = by (shows_same r x) refl (not_same r results)
  where
    by : (b : Bool) → shows_same r x ≡ b → AllByRecursion (Apart r) (others r results)
        → AllByRecursion (Apart r) (if not b then x ∷ others r results else others r results)
    by true is following = following
    by false is following = (is, following)

pub kept_apart : (results : List Result) → EachPair Apart (firsts results)
kept_apart [] = tt
kept_apart (r ∷ results) =
    (not_same r (firsts results), pairs_filtered (λ other. not (shows_same r other)) Apart (firsts results) (kept_apart results))

-- ---- in their order

left_filtered : (passes : Result → Bool) (some all : List Result) → IsLeftOf some all → IsLeftOf (filter passes some) all
left_filtered passes part whole nothing = nothing
left_filtered passes part whole (kept x some all left) = by (passes x) (left_filtered passes some all left)
  where
    by : (b : Bool) → IsLeftOf (filter passes some) all → IsLeftOf (if b then x ∷ filter passes some else filter passes some) (x ∷ all)
    by true following = kept x (filter passes some) all following
    by false following = left_out x (filter passes some) all following
left_filtered passes part whole (left_out x some all left) = left_out x (filter passes some) all (left_filtered passes some all left)

pub kept_in_order : (results : List Result) → IsLeftOf (firsts results) results
kept_in_order [] = nothing
kept_in_order (r ∷ results) =
    kept r (others r (firsts results)) results (left_filtered (λ other. not (shows_same r other)) (firsts results) results (kept_in_order results))

-- ---- each is shown

-- values that are the same are equal
equal_from : (o : Ordering) → is_eq o ≡ true → o ≡ Equal
equal_from Less h = cc
equal_from Equal h = refl
equal_from Greater h = cc

pub are_same : IsAntisymmetric value_order → (a b : List Value) → same_values a b ≡ true → a ≡ b
are_same exact a b same = slice_cmp-IsAntisymmetric exact a b (equal_from (slice_cmp value_order a b) same)

pub same_itself : IsTotalOrder value_order → (a : List Value) → same_values a a ≡ true
same_itself total a = ap is_eq (tied_itself (lists_total total) a)

module _ (total : IsTotalOrder value_order) (exact : IsAntisymmetric value_order) where
  abbrev IsShown : List Result → Result → Type 0
  IsShown list r = list_any (λ one. shows_same one r) list ≡ true

  -- what shows it is left, where it is not shown by the one for whose sake others are left out
  still : (x r : Result) → shows_same x r ≡ false → (list : List Result) → IsShown list r → IsShown (others x list) r
  still x r none [] shown = shown
  still x r none (y ∷ list) shown = by (shows_same x y) refl (shows_same y r) refl shown (still x r none list)
    where
      by : (two : Bool) → shows_same x y ≡ two → (one : Bool) → shows_same y r ≡ one → (one || list_any (λ k. shows_same k r) list) ≡ true
          → (IsShown list r → IsShown (others x list) r) → IsShown (if not two then y ∷ others x list else others x list) r
      by true is true is_one shown following =
          let same : x.shown ≡ r.shown = are_same exact x.shown y.shown is ∙ are_same exact y.shown r.shown is_one in
          let told : true ≡ false = sym (same_itself total r.shown) ∙ (ap (λ s. same_values s r.shown) (sym same) ∙ none) in
          cc
      by true is false is_one shown following = following shown
      by false is true is_one shown following = ap (λ b. b || list_any (λ k. shows_same k r) (others x list)) is_one
      by false is false is_one shown following = ap (λ b. b || list_any (λ k. shows_same k r) (others x list)) is_one ∙ following shown

  shown_still : (x : Result) (list : List Result) (r : Result) → IsShown list r → IsShown (x ∷ others x list) r
  shown_still x list r shown = by (shows_same x r) refl
    where
      by : (b : Bool) → shows_same x r ≡ b → (b || list_any (λ k. shows_same k r) (others x list)) ≡ true
      by true is = refl
      by false is = still x r is list shown

  all_still : (x : Result) (list results : List Result) → AllByRecursion (IsShown list) results → AllByRecursion (IsShown (x ∷ others x list)) results
  all_still x list [] each = tt
  all_still x list (r ∷ results) each = (shown_still x list r each.0, all_still x list results each.1)

  pub each_shown : (results : List Result) → AllByRecursion (IsShown (firsts results)) results
  each_shown [] = tt
  each_shown (x ∷ results) =
      (ap (λ b. b || list_any (λ k. shows_same k x) (others x (firsts results))) (same_itself total x.shown), all_still x (firsts results) results (each_shown results))
