-- The order of results, DISTINCT and groups, in SQL's words. Each law is the contract of a function that does nothing.
use Rattle.std.specs.Prelude.{◌≡◌, Bool, true, false, List, [], ◌∷◌, ◌++◌, length, map, if◌then◌else◌}
use Rattle.std.specs.List.{AllByRecursion, filter, list_any}
use Rattle.std.specs.List.Sorted.{IsPermutation}
use Rattle.std.specs.Ordering.{is_eq, is_lt}
use Rattle.hc_value.specs.declared.value.Value.{Value}
use Rattle.hc_sql.specs.Looks.{same_values}
use Rattle.hc_sql.specs.Grouping.{Keyed, grouped_after}
use Rattle.hc_sql.specs.Sorting.{Result, keys_order, sorted, shows_same, firsts}

-- between no two of a list, the earlier one first, does R fail
abbrev pub EachPair : {A : Type 0} → (A → A → Type 0) → List A → Type 0
EachPair R [] = Unit {0}
EachPair R (x ∷ xs) = AllByRecursion (R x) xs × EachPair R xs

-- ---- ORDER BY

-- each result has a key for each term
abbrev pub HaveKeys : List Bool → List Result → Type 0
HaveKeys descs results = AllByRecursion (λ r. length r.keys ≡ length descs) results

-- the keys of a later result are not less
abbrev pub IsNotLess : List Bool → Result → Result → Type 0
IsNotLess descs earlier later = is_lt (keys_order descs later.keys earlier.keys) ≡ false

-- no result is listed after one whose keys are greater
abbrev pub SortedResultsAscend : Type 0
SortedResultsAscend = (descs : List Bool) (results : List Result) → HaveKeys descs results → EachPair (IsNotLess descs) (sorted descs results)

-- it ties with these keys
abbrev pub ties : List Bool → List Value → Result → Bool
ties descs keys r = is_eq (keys_order descs keys r.keys)

-- the results that tie with some keys stay in the order in which they came
abbrev pub TiesStay : Type 0
TiesStay = (descs : List Bool) (keys : List Value) (results : List Result) → length keys ≡ length descs → HaveKeys descs results
    → filter (ties descs keys) (sorted descs results) ≡ filter (ties descs keys) results

-- nothing is lost or made: the sorted results are the same, each as often, in another order
abbrev pub NothingIsLostOrMade : Type 0
NothingIsLostOrMade = (descs : List Bool) (results : List Result) → IsPermutation results (sorted descs results)

-- ---- DISTINCT

-- a result at the end is kept exactly where none before it shows the same
abbrev pub TheFirstIsKept : Type 0
TheFirstIsKept = (results : List Result) (r : Result)
    → firsts (results ++ r ∷ []) ≡ (if list_any (λ earlier. shows_same earlier r) results then firsts results else firsts results ++ r ∷ [])

-- no two that are kept show the same
abbrev pub NoTwoKeptShowTheSame : Type 0
NoTwoKeptShowTheSame = (results : List Result) → EachPair (λ earlier later. shows_same earlier later ≡ false) (firsts results)

-- each result is shown by one that is kept
abbrev pub EachResultIsShown : Type 0
EachResultIsShown = (results : List Result) → AllByRecursion (λ r. list_any (λ kept. shows_same kept r) (firsts results) ≡ true) results

-- one list is another with some elements left out
pub data IsLeftOf {A : Type 0} : List A → List A → Type 0 where
  nothing : IsLeftOf [] []
  kept : (x : A) (some all : List A) → IsLeftOf some all → IsLeftOf (x ∷ some) (x ∷ all)
  left_out : (x : A) (some all : List A) → IsLeftOf some all → IsLeftOf some (x ∷ all)

-- the results that are kept are some of all, in their order
abbrev pub KeptResultsAreInOrder : Type 0
KeptResultsAreInOrder = (results : List Result) → IsLeftOf (firsts results) results

-- ---- groups

-- the rows with some values of GROUP BY, in their order
abbrev pub rows_with : List Value → List Keyed → List (List Value)
rows_with values keyed = map (λ k. k.row) (filter (λ k. same_values k.values values) keyed)

-- a group has exactly the rows with its values, in the order in which they came
abbrev pub AGroupHasTheRowsWithItsValues : Type 0
AGroupHasTheRowsWithItsValues = (keyed : List Keyed) → AllByRecursion (λ g. g.rows ≡ rows_with g.values keyed) (grouped_after [] keyed)

-- no two groups have the same values
abbrev pub NoTwoGroupsHaveTheSameValues : Type 0
NoTwoGroupsHaveTheSameValues = (keyed : List Keyed) → EachPair (λ g h. same_values g.values h.values ≡ false) (grouped_after [] keyed)

-- each row is in a group: there is one with its values
abbrev pub EachRowHasAGroup : Type 0
EachRowHasAGroup = (keyed : List Keyed) → AllByRecursion (λ k. list_any (λ g. same_values g.values k.values) (grouped_after [] keyed) ≡ true) keyed

-- what a row shows of which only the values of GROUP BY are shown
abbrev pub showing : Keyed → Result
showing k = record { shown = k.values; keys = [] }

-- The values of the groups are those that DISTINCT leaves of the values of the rows, in that order: groups are in the order of
-- the first of their rows.
abbrev pub GroupsAreInOrderOfTheirFirstRows : Type 0
GroupsAreInOrderOfTheirFirstRows = (keyed : List Keyed) → map (λ g. g.values) (grouped_after [] keyed) ≡ map (λ r. r.shown) (firsts (map showing keyed))
