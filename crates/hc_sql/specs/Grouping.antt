-- Groups of rows and their aggregates.
use Rattle.std.specs.Prelude.{pos, Bool, List, [], ◌∷◌, ◌++◌, length, map, Option, Some, None, if◌then◌else◌}
use Rattle.std.specs.Option.{option_map, option_and_then}
use Rattle.std.specs.Ordering.{is_lt}
use Rattle.hc_value.specs.declared.value.Value.{Value}
use Rattle.hc_value.specs.declared.value.Value.TheVariants.{Null, Int}
use Rattle.hc_value.specs.Order.{value_order}
use Rattle.hc_ast.specs.declared.bound.Bound.{Bound}
use Rattle.hc_expr.specs.Arithmetic.{Outcome, sum}
use Rattle.hc_expr.specs.Values.{value_of, values_of, all_values}
use Rattle.hc_schema.specs.declared.bound_statement.Aggregate.{Aggregate}
use Rattle.hc_schema.specs.declared.bound_statement.AggregateKind.{AggregateKind}
use Rattle.hc_schema.specs.declared.bound_statement.AggregateKind.TheVariants as kind
use Rattle.hc_sql.specs.Looks.{same_values}

-- ---- groups

-- rows with the values of GROUP BY
pub record Group : Type 0 where
  pub values : List Value
  pub rows : List (List Value)

-- a row in the group of its values, which is a new last one where there is none
abbrev pub with_grouped : List Group → List Value → List Value → List Group
with_grouped [] values row = record { values = values; rows = row ∷ [] } ∷ []
with_grouped (g ∷ groups) values row =
    if same_values g.values values then record { values = g.values; rows = g.rows ++ row ∷ [] } ∷ groups
    else g ∷ with_grouped groups values row

-- a row with its values of GROUP BY
pub record Keyed : Type 0 where
  pub values : List Value
  pub row : List Value

-- the groups of rows, each in the order of the first of its rows
abbrev pub grouped_after : List Group → List Keyed → List Group
grouped_after groups [] = groups
grouped_after groups (k ∷ keyed) = grouped_after (with_grouped groups k.values k.row) keyed

-- each row with its values; nothing where one overflows
abbrev pub keyed_rows : List Bound → List (List Value) → Option (List Keyed)
keyed_rows exprs [] = Some []
keyed_rows exprs (row ∷ rows) =
    option_and_then (λ values. option_map (λ rest. record { values = values; row = row } ∷ rest) (keyed_rows exprs rows)) (values_of row exprs)

-- without GROUP BY all rows are one group, also where there is none
abbrev pub groups_of : List Bound → List (List Value) → Option (List Group)
groups_of [] rows = Some (record { values = []; rows = rows } ∷ [])
groups_of (e ∷ exprs) rows = option_map (grouped_after []) (keyed_rows (e ∷ exprs) rows)

-- ---- aggregates

-- values but NULL
abbrev pub known : List Value → List Value
known [] = []
known (Null ∷ values) = known values
known (v ∷ values) = v ∷ known values

-- a sum in the order of rows; nothing where a partial one overflows
abbrev pub sum_from : Value → List Value → Outcome
sum_from total [] = Some total
sum_from total (v ∷ values) = option_and_then (λ t. sum_from t values) (sum total v)

abbrev pub sum_of : List Value → Outcome
sum_of [] = Some Null
sum_of (v ∷ values) = sum_from v values

-- the least of values by an order; the first of those that are equal
abbrev pub least_after : (Value → Value → Bool) → Value → List Value → Value
least_after before v [] = v
least_after before v (w ∷ values) = least_after before (if before w v then w else v) values

abbrev pub least_of : (Value → Value → Bool) → List Value → Value
least_of before [] = Null
least_of before (v ∷ values) = least_after before v values

abbrev pub is_less : Value → Value → Bool
is_less v w = is_lt (value_order v w)

-- an aggregate of known values, in the order of rows
abbrev pub aggregate_of : AggregateKind → List Value → Outcome
aggregate_of kind.Count values = Some (Int (pos (length values)))
aggregate_of kind.Sum values = sum_of values
aggregate_of kind.Min values = Some (least_of is_less values)
aggregate_of kind.Max values = Some (least_of (λ v w. is_less w v) values)

-- the value of an aggregate over a group's rows: `count(*)` counts rows, and all else leaves NULL out
abbrev pub aggregate_over : AggregateKind → Option Bound → List (List Value) → Outcome
aggregate_over k None rows = Some (Int (pos (length rows)))
aggregate_over k (Some e) rows = option_and_then (λ values. aggregate_of k (known values)) (all_values (map (λ row. value_of row e) rows))

abbrev pub aggregates_over : List Aggregate → List (List Value) → Option (List Value)
aggregates_over aggregates rows = all_values (map (λ a. aggregate_over a.kind a.of rows) aggregates)

-- ---- rows of groups

-- a group as a row: its values of GROUP BY, and then its aggregates
abbrev pub group_row : List Aggregate → Group → Option (List Value)
group_row aggregates g = option_map (λ values. g.values ++ values) (aggregates_over aggregates g.rows)

abbrev pub all_some : {A : Type 0} → List (Option A) → Option (List A)
all_some [] = Some []
all_some (x ∷ xs) = option_and_then (λ a. option_map (λ rest. a ∷ rest) (all_some xs)) x

-- the rows of the groups of some rows
abbrev pub group_rows : List Bound → List Aggregate → List (List Value) → Option (List (List Value))
group_rows exprs aggregates rows = option_and_then (λ groups. all_some (map (group_row aggregates) groups)) (groups_of exprs rows)
