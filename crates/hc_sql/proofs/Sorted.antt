-- Sorting by insertion before the first that is not less: what it does to results under a total order of their keys.
use Rattle.std.proofs.Common.{◌≡◌, ◌∙◌, refl, sym, ap, arith, List, [], ◌∷◌, length, Bool, true, false, if◌then◌else◌, Ordering, Less, Equal, Greater}
use Rattle.std.specs.List.{AllByRecursion, filter}
use Rattle.std.specs.List.Sorted.{IsPermutation}
use Rattle.std.specs.Ordering.{is_eq, is_lt, is_gt, ordering_then, ordering_reverse, on, then_cmp}
use Rattle.std.specs.Cmp.{IsTotalOrder}
use Rattle.std.specs.Cmp.Derive.{point_total}
use Rattle.std.proofs.lemmas.Cmp.{on_total, then_total, back_total, upto}
use Rattle.std.proofs.lemmas.List.Sorted.{IsPermutation-refl, IsPermutation-cons, IsPermutation-middle, IsPermutation-sym, IsPermutation-trans}
use Rattle.hc_value.specs.declared.value.Value.{Value}
use Rattle.hc_value.specs.declared.value.Value.TheVariants.{Null}
use Rattle.hc_value.specs.Order.{value_order}
use Rattle.hc_sql.specs.Sorting.{Result, reversed, directed, keys_order, is_later, with_first, sorted}
use Rattle.hc_sql.specs.ResultLaws.{EachPair, HaveKeys, IsNotLess, ties}

-- ---- nothing is lost or made

put_keeps : (descs : List Bool) (first : Result) (results : List Result) → IsPermutation (first ∷ results) (with_first descs first results)
put_keeps descs first [] = IsPermutation-refl (first ∷ [])
put_keeps descs first (r ∷ results) = by (is_later descs r first) (put_keeps descs first results)
  where
    by : (b : Bool) → IsPermutation (first ∷ results) (with_first descs first results)
        → IsPermutation (first ∷ r ∷ results) (if b then r ∷ with_first descs first results else first ∷ r ∷ results)
    by true following =
        IsPermutation-trans (first ∷ r ∷ results) (r ∷ first ∷ results) (r ∷ with_first descs first results)
        (IsPermutation-sym (r ∷ first ∷ results) (first ∷ r ∷ results) (IsPermutation-middle (r ∷ []) first results))
        (IsPermutation-cons r (first ∷ results) (with_first descs first results) following)
    by false following = IsPermutation-refl (first ∷ r ∷ results)

pub sorted_keeps : (descs : List Bool) (results : List Result) → IsPermutation results (sorted descs results)
sorted_keeps descs [] = IsPermutation-refl []
sorted_keeps descs (r ∷ results) =
    IsPermutation-trans (r ∷ results) (r ∷ sorted descs results) (sorted descs (r ∷ results))
    (IsPermutation-cons r results (sorted descs results) (sorted_keeps descs results))
    (put_keeps descs r (sorted descs results))

-- what each result has, each has after it
module _ (P : Result → Type 0) (descs : List Bool) where
  all_put : (first : Result) (results : List Result) → P first → AllByRecursion P results → AllByRecursion P (with_first descs first results)
  all_put first [] one each = (one, tt)
  all_put first (r ∷ results) one each = by (is_later descs r first) (all_put first results one each.1)
    where
      by : (b : Bool) → AllByRecursion P (with_first descs first results)
          → AllByRecursion P (if b then r ∷ with_first descs first results else first ∷ r ∷ results)
      by true following = (each.0, following)
      by false following = (one, each)

  all_sorted : (results : List Result) → AllByRecursion P results → AllByRecursion P (sorted descs results)
  all_sorted [] each = tt
  all_sorted (r ∷ results) each = all_put r (sorted descs results) each.0 (all_sorted results each.1)

-- ---- the order of keys is total where there is a key for each term

reversed_is : (o p : Ordering) → o ≡ ordering_reverse p → reversed o ≡ p
reversed_is Less Greater h = refl
reversed_is Equal Equal h = refl
reversed_is Greater Less h = refl
reversed_is Less Less h = cc
reversed_is Less Equal h = cc
reversed_is Equal Less h = cc
reversed_is Equal Greater h = cc
reversed_is Greater Equal h = cc
reversed_is Greater Greater h = cc

abbrev head_of : List Value → Value
head_of [] = Null
head_of (v ∷ values) = v

abbrev tail_of : List Value → List Value
tail_of [] = []
tail_of (v ∷ values) = values

-- values in a direction
abbrev one_way : Bool → Value → Value → Ordering
one_way false v w = value_order v w
one_way true v w = value_order w v

-- keys, with NULL where there is none
abbrev full : List Bool → List Value → List Value → Ordering
full [] = λ a b. Equal
full (desc ∷ descs) = then_cmp (on head_of (one_way desc)) (on tail_of (full descs))

module _ (total : IsTotalOrder value_order) where
  way_total : (desc : Bool) → IsTotalOrder (one_way desc)
  way_total false = total
  way_total true = back_total total

  full_total : (descs : List Bool) → IsTotalOrder (full descs)
  full_total [] = point_total
  full_total (desc ∷ descs) = then_total (on_total head_of (way_total desc)) (on_total tail_of (full_total descs))

  way : (desc : Bool) (v w : Value) → directed desc (value_order v w) ≡ one_way desc v w
  way false v w = refl
  way true v w = reversed_is (value_order v w) (value_order w v) (total.antisymm v w)

  order_is : (descs : List Bool) (a b : List Value) → length a ≡ length descs → length b ≡ length descs → keys_order descs a b ≡ full descs a b
  order_is [] a b one other = refl
  order_is (desc ∷ descs) [] b one other = cc
  order_is (desc ∷ descs) (v ∷ a) [] one other = cc
  order_is (desc ∷ descs) (v ∷ a) (w ∷ b) one other =
      ap (λ o. ordering_then o (keys_order descs a b)) (way desc v w)
      ∙ ap (ordering_then (one_way desc v w)) (order_is descs a b (omega (arith, one)) (omega (arith, other)))

  -- ---- the sorted results ascend

  -- less one way is greater the other, so not less
  not_less : (descs : List Bool) (a b : List Value) → is_lt (full descs a b) ≡ true → is_lt (full descs b a) ≡ false
  not_less descs a b less = by (full descs b a) ((full_total descs).antisymm a b)
    where
      by : (o : Ordering) → full descs a b ≡ ordering_reverse o → is_lt o ≡ false
      by Less h = cc
      by Equal h = refl
      by Greater h = refl

  -- not less is not greater the other way
  turned : (descs : List Bool) (a b : List Value) → is_lt (full descs a b) ≡ is_gt (full descs b a)
  turned descs a b = ap is_lt ((full_total descs).antisymm a b) ∙ by (full descs b a)
    where
      by : (o : Ordering) → is_lt (ordering_reverse o) ≡ is_gt o
      by Less = refl
      by Equal = refl
      by Greater = refl

  module _ (descs : List Bool) where
    abbrev Keyed : Result → Type 0
    Keyed r = length r.keys ≡ length descs

    -- by keys that are all there
    abbrev NotLess : Result → Result → Type 0
    NotLess earlier later = is_lt (full descs later.keys earlier.keys) ≡ false

    lesser : (a b c : Result) → NotLess a b → NotLess b c → NotLess a c
    lesser a b c one other =
        turned descs c.keys a.keys
        ∙ upto (full_total descs) a.keys b.keys c.keys (sym (turned descs b.keys a.keys) ∙ one) (sym (turned descs c.keys b.keys) ∙ other)

    all_lesser : (a b : Result) (results : List Result) → NotLess a b → AllByRecursion (NotLess b) results → AllByRecursion (NotLess a) results
    all_lesser a b [] one each = tt
    all_lesser a b (c ∷ results) one each = (lesser a b c one each.0, all_lesser a b results one each.1)

    put_ascends : (first : Result) (results : List Result) → Keyed first → AllByRecursion Keyed results → EachPair NotLess results
        → EachPair NotLess (with_first descs first results)
    put_ascends first [] one each ascend = (tt, tt)
    put_ascends first (r ∷ results) one each ascend =
        by (is_later descs r first) (sym (ap is_lt (order_is descs r.keys first.keys each.0 one))) (put_ascends first results one each.1 ascend.1)
      where
        by : (b : Bool) → is_lt (full descs r.keys first.keys) ≡ b → EachPair NotLess (with_first descs first results)
            → EachPair NotLess (if b then r ∷ with_first descs first results else first ∷ r ∷ results)
        by true is following = (all_put (NotLess r) descs first results (not_less descs r.keys first.keys is) ascend.0, following)
        by false is following = ((is, all_lesser first r results is ascend.0), ascend)

    ascends : (results : List Result) → AllByRecursion Keyed results → EachPair NotLess (sorted descs results)
    ascends [] each = tt
    ascends (r ∷ results) each = put_ascends r (sorted descs results) each.0 (all_sorted Keyed descs results each.1) (ascends results each.1)

    -- the same by the keys of the results
    each_as : (r : Result) (results : List Result) → Keyed r → AllByRecursion Keyed results → AllByRecursion (NotLess r) results → AllByRecursion (IsNotLess descs r) results
    each_as r [] one each rest = tt
    each_as r (s ∷ results) one each rest =
        (ap is_lt (order_is descs s.keys r.keys each.0 one) ∙ rest.0, each_as r results one each.1 rest.1)

    pairs_as : (results : List Result) → AllByRecursion Keyed results → EachPair NotLess results → EachPair (IsNotLess descs) results
    pairs_as [] each pairs = tt
    pairs_as (r ∷ results) each pairs = (each_as r results each.0 each.1 pairs.0, pairs_as results each.1 pairs.1)

    pub results_ascend : (results : List Result) → HaveKeys descs results → EachPair (IsNotLess descs) (sorted descs results)
    results_ascend results each = pairs_as (sorted descs results) (all_sorted Keyed descs results each) (ascends results each)

  -- ---- ties stay

  module _ (descs : List Bool) (keys : List Value) (is_key : length keys ≡ length descs) where
    -- of two that tie with the keys none is less
    apart : (a b : List Value) → full descs keys a ≡ Equal → full descs keys b ≡ Equal → is_lt (full descs b a) ≡ false
    apart a b one other =
        ap is_lt (sym ((full_total descs).congr keys b a other) ∙ one)

    equal_from : (o : Ordering) → is_eq o ≡ true → o ≡ Equal
    equal_from Less h = cc
    equal_from Equal h = refl
    equal_from Greater h = cc

    tied : (r : Result) → length r.keys ≡ length descs → ties descs keys r ≡ true → full descs keys r.keys ≡ Equal
    tied r has ties_it = sym (order_is descs keys r.keys is_key has) ∙ equal_from (keys_order descs keys r.keys) ties_it

    -- one that is less than another does not tie where that one does
    put_stays : (first : Result) (results : List Result) → length first.keys ≡ length descs → HaveKeys descs results
        → filter (ties descs keys) (with_first descs first results) ≡ filter (ties descs keys) (first ∷ results)
    put_stays first [] one each = refl
    put_stays first (r ∷ results) one each = by (is_later descs r first) refl (put_stays first results one each.1)
      where
        swapped : (f g : Bool) → ties descs keys first ≡ f → ties descs keys r ≡ g → is_later descs r first ≡ true → (rest : List Result)
            → (if g then r ∷ (if f then first ∷ rest else rest) else (if f then first ∷ rest else rest))
            ≡ (if f then first ∷ (if g then r ∷ rest else rest) else (if g then r ∷ rest else rest))
        swapped false g ties_first ties_r less rest = refl
        swapped true false ties_first ties_r less rest = refl
        swapped true true ties_first ties_r less rest =
            let none : true ≡ false = sym less ∙ (ap is_lt (order_is descs r.keys first.keys each.0 one)
            ∙ apart first.keys r.keys (tied first one ties_first) (tied r each.0 ties_r)) in
            cc

        by : (b : Bool) → is_later descs r first ≡ b → filter (ties descs keys) (with_first descs first results) ≡ filter (ties descs keys) (first ∷ results)
            → filter (ties descs keys) (if b then r ∷ with_first descs first results else first ∷ r ∷ results) ≡ filter (ties descs keys) (first ∷ r ∷ results)
        by true less following =
            ap (λ rest. if ties descs keys r then r ∷ rest else rest) following
            ∙ swapped (ties descs keys first) (ties descs keys r) refl refl less (filter (ties descs keys) results)
        by false less following = refl

    pub stay : (results : List Result) → HaveKeys descs results → filter (ties descs keys) (sorted descs results) ≡ filter (ties descs keys) results
    stay [] each = refl
    stay (r ∷ results) each =
        put_stays r (sorted descs results) each.0 (all_sorted (λ s. length s.keys ≡ length descs) descs results each.1)
        ∙ ap (λ rest. if ties descs keys r then r ∷ rest else rest) (stay results each.1)
