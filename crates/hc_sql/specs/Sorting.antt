-- The order of results, and what DISTINCT, OFFSET and LIMIT leave of them.
use Rattle.std.specs.Prelude.{ℕ, ℤ, pos, Bool, true, false, List, [], ◌∷◌, take, drop, not, Option, Some, if◌then◌else◌}
use Rattle.std.specs.declared.cmp.Ordering.{Ordering}
use Rattle.std.specs.declared.cmp.Ordering.TheVariants.{Less, Equal, Greater}
use Rattle.std.specs.Ordering.{ordering_then, is_lt}
use Rattle.std.specs.List.{filter}
use Rattle.hc_value.specs.declared.value.Value.{Value}
use Rattle.hc_value.specs.Order.{value_order}
use Rattle.hc_sql.specs.Looks.{same_values}

-- a result: what it shows, and the values of its ORDER BY terms
pub record Result : Type 0 where
  pub shown : List Value
  pub keys : List Value

-- ---- ORDER BY

abbrev pub reversed : Ordering → Ordering
reversed Less = Greater
reversed Equal = Equal
reversed Greater = Less

abbrev pub directed : Bool → Ordering → Ordering
directed false o = o
directed true o = reversed o

-- The order of two lists of keys, each key in its direction: by the first that differ. NULL is lowest.
abbrev pub keys_order : List Bool → List Value → List Value → Ordering
keys_order (desc ∷ rest) (v ∷ values) (w ∷ others) = ordering_then (directed desc (value_order v w)) (keys_order rest values others)
keys_order rest values others = Equal

-- a later result comes before an earlier one only where its keys are less
abbrev pub is_later : List Bool → Result → Result → Bool
is_later descs a b = is_lt (keys_order descs a.keys b.keys)

-- A result that came first, put before the first that is not less. So ties stay in the order in which they came.
abbrev pub with_first : List Bool → Result → List Result → List Result
with_first descs first [] = first ∷ []
with_first descs first (r ∷ results) =
    if is_later descs r first then r ∷ with_first descs first results else first ∷ r ∷ results

abbrev pub sorted : List Bool → List Result → List Result
sorted descs [] = []
sorted descs (r ∷ results) = with_first descs r (sorted descs results)

-- ---- DISTINCT

-- it shows the same, NULL as NULL
abbrev pub shows_same : Result → Result → Bool
shows_same a b = same_values a.shown b.shown

-- each result but those that show the same as one before it
abbrev pub firsts : List Result → List Result
firsts [] = []
firsts (r ∷ results) = r ∷ filter (λ other. not (shows_same r other)) (firsts results)

abbrev pub distinct_of : Bool → List Result → List Result
distinct_of false results = results
distinct_of true results = firsts results

-- ---- OFFSET and LIMIT

-- a negative OFFSET is 0
abbrev pub skipped : Option ℤ → ℕ
skipped (Some (pos n)) = n
skipped n = 0

-- a negative LIMIT is none
abbrev pub limited : {A : Type 0} → Option ℤ → List A → List A
limited (Some (pos n)) list = take n list
limited n list = list

abbrev pub cut : {A : Type 0} → Option ℤ → Option ℤ → List A → List A
cut offset limit list = limited limit (drop (skipped offset) list)
