-- SELECT, a part of that of https://www.sqlite.org/lang_select.html. First all tables of FROM; then items, ON conditions, WHERE,
-- GROUP BY, HAVING and ORDER BY in the order of text.
use Rattle.std.specs.Prelude.{ℕ, ℤ, pos, negsuc, ◌-◌, Bool, true, false, not, ◌&&◌, ◌||◌, List, [], ◌∷◌, ◌++◌, map, nat_le, Option, Some, None, Ok, Err, if◌then◌else◌, slice_get}
use Rattle.std.specs.List.{list_any, filter, flat_map, fold}
use Rattle.std.specs.Option.{option_map, option_to_list, is_some, is_none}
use Rattle.std.specs.Str.{bytes_eq, str_to_ascii_lowercase}
use Rattle.hc_value.specs.declared.value.Value.TheVariants.{Int}
use Rattle.hc_ast.specs.declared.expression.Expr.{Expr}
use Rattle.hc_ast.specs.declared.expression.Expr.TheOpen.{Expr-F}
use Rattle.hc_ast.specs.declared.expression.Expr.TheFolds.{fold-Expr}
use Rattle.hc_ast.specs.declared.bound.Bound.{Bound}
use Rattle.hc_ast.specs.declared.query.Select.{Select}
use Rattle.hc_ast.specs.declared.query.Item.{Item}
use Rattle.hc_ast.specs.declared.query.Item.TheVariants.{All, AllOf, One}
use Rattle.hc_ast.specs.declared.query.FromTable.{FromTable}
use Rattle.hc_ast.specs.declared.query.Term.{Term}
use Rattle.hc_schema.specs.declared.table.Table.{Table}
use Rattle.hc_schema.specs.declared.bound_statement.Aggregate.{Aggregate}
use Rattle.hc_schema.specs.declared.bound_statement.SortKey.{SortKey}
use Rattle.hc_schema.specs.declared.typed.Typed.{Typed}
use Rattle.hc_schema.specs.Binding.Faults.{Judged, NoTable, Ambiguous, NoItem, NotItem, after, walk, each}
use Rattle.hc_schema.specs.Binding.Scopes.{Scope, Slot, no_scope, with_source, is_source, is_of, column, table_called}
use Rattle.hc_schema.specs.Binding.Writing.{written, aggregate_written}
use Rattle.hc_schema.specs.Binding.Changes.{with_condition}
use Rattle.hc_schema.specs.Binding.Expressions.{Grouping, Reading, values_of, place_of, is_aggregate_of, name_reading, reading_of, on_rows, condition, has_aggregate}

-- a query that is bound
pub record Query : Type 0 where
  pub tables : List Table
  -- the operands of the ANDs of all ON conditions and WHERE
  pub conjuncts : List Bound
  pub grouped : Bool
  pub groups : List Bound
  pub aggregates : List Aggregate
  pub having : Option Bound
  pub distinct : Bool
  pub items : List Bound
  pub order : List SortKey
  pub limit : Option ℤ
  pub offset : Option ℤ

-- ---- FROM

-- the tables of FROM, and what is in scope by them
pub record From : Type 0 where
  pub tables : List Table
  pub scope : Scope

abbrev pub no_tables : From
no_tables = record { tables = []; scope = no_scope }

-- what a table of FROM is called: by its alias, or as it was created
abbrev pub called : Option (List ℕ) → Table → List ℕ
called (Some alias) t = alias
called None t = t.name

-- a table under a name that no table before it has
abbrev pub with_called : From → List ℕ → Table → Judged From
with_called before name t =
    if is_source before.scope name then Err (Ambiguous name)
    else Ok (record { tables = before.tables ++ t ∷ []; scope = with_source before.scope name t })

abbrev pub with_table : List Table → From → FromTable → Judged From
with_table tables before from = after (table_called tables from.name) (λ t. with_called before (called from.alias t) t)

abbrev pub sources : List Table → List FromTable → Judged From
sources tables from = walk (with_table tables) no_tables from

-- ---- groups

-- the expression of an item
abbrev pub item_expressions : Item → List Expr
item_expressions All = []
item_expressions (AllOf name) = []
item_expressions (One value alias) = value ∷ []

-- the expressions that are read on groups where there are any, in the order of text
abbrev pub results : Select → List Expr
results q = flat_map item_expressions q.items ++ (option_to_list q.having ++ map (λ term. term.value) q.order)

abbrev pub is_empty : {A : Type 0} → List A → Bool
is_empty [] = true
is_empty (x ∷ xs) = false

-- A query is grouped where it has GROUP BY, or an aggregate in an item, in HAVING or in ORDER BY.
abbrev pub is_grouped : Select → Bool
is_grouped q = not (is_empty q.groups) || list_any has_aggregate (results q)

-- an aggregate after others, unless it is one of them
abbrev pub with_aggregate : List Aggregate → Aggregate → List Aggregate
with_aggregate before a = if is_some (place_of (is_aggregate_of (aggregate_written a)) before) then before else before ++ a ∷ []

-- the aggregates of some expressions after others
abbrev pub with_aggregates : Scope → List Aggregate → Expr → List Aggregate
with_aggregates scope before e = fold with_aggregate before (reading_of scope e).aggregates

-- the aggregates of a query in the order of text, each once
abbrev pub aggregates_of : Scope → Select → List Aggregate
aggregates_of scope q = fold (with_aggregates scope) [] (results q)

abbrev pub grouping_of : Scope → Select → Grouping
grouping_of scope q = record { groups = map (on_rows scope) q.groups; aggregates = aggregates_of scope q }

-- what the results of a query are read on: rows, or groups
pub record Setting : Type 0 where
  pub scope : Scope
  pub grouping : Option Grouping

abbrev pub setting_of : Scope → Select → Setting
setting_of scope q = record { scope = scope; grouping = if is_grouped q then Some (grouping_of scope q) else None }

-- the reading that counts
abbrev pub read_in : Option Grouping → Reading → Judged Typed
read_in None r = r.on_rows
read_in (Some g) r = r.on_groups g

-- an expression among the results
abbrev pub result_of : Setting → Expr → Judged Typed
result_of setting e = read_in setting.grouping (reading_of setting.scope e)

-- ---- items

-- an item that is bound, with its alias; those of a star have none
pub record Answer : Type 0 where
  pub alias : Option (List ℕ)
  pub value : Bound

abbrev pub answer : Option (List ℕ) → Typed → Answer
answer alias t = record { alias = alias; value = t.value }

-- a column that a star is for is read as its name is
abbrev pub with_star : Option Grouping → List Answer → Slot → Judged (List Answer)
with_star grouping before slot = after (read_in grouping (name_reading (Ok (column slot)))) (λ t. Ok (before ++ answer None t ∷ []))

-- `*` is all columns in scope, `t.*` those of the table t, and an expression is one item
abbrev pub with_item : Setting → List Answer → Item → Judged (List Answer)
with_item setting before All = walk (with_star setting.grouping) before setting.scope.slots
with_item setting before (AllOf name) =
    if is_source setting.scope name
    then walk (with_star setting.grouping) before (filter (is_of (Some name)) setting.scope.slots)
    else Err (NoTable name)
with_item setting before (One value alias) = after (result_of setting value) (λ t. Ok (before ++ answer alias t ∷ []))

abbrev pub items : Setting → List Item → Judged (List Answer)
items setting list = walk (with_item setting) [] list

-- ---- conditions and groups

-- ON conditions in order, which see every table, and then WHERE
abbrev pub conditions : Select → List Expr
conditions q = flat_map (λ from. option_to_list from.on) q.tables ++ option_to_list q.filter

abbrev pub conjuncts : Scope → Select → Judged (List Bound)
conjuncts scope q = walk (with_condition scope) [] (conditions q)

-- HAVING is a condition on groups
abbrev pub having : Setting → Option Expr → Judged (Option Bound)
having setting None = Ok None
having setting (Some e) = after (condition (result_of setting e)) (λ t. Ok (Some t.value))

-- ---- ORDER BY

-- what a term as a whole is: an integer, a name without a table's, or another expression
pub data Shape : Type 0 where
  Number : ℤ → Shape
  Bare : List ℕ → Shape
  Other : Shape

abbrev pub level_shape : Expr-F Shape → Shape
level_shape (Expr-F.Value (Int n)) = Number n
level_shape (Expr-F.Name None name) = Bare name
level_shape e = Other

abbrev pub shape_of : Expr → Shape
shape_of = fold-Expr Shape level_shape

-- the item of a number, counted from 1
abbrev pub item_at : List Answer → ℤ → Option Bound
item_at answers (pos n) = if nat_le 1 n then option_map (λ a. a.value) (slice_get answers (n - 1)) else None
item_at answers (negsuc n) = None

-- an alias is this name in lower case
abbrev pub alias_is : List ℕ → Option (List ℕ) → Bool
alias_is name None = false
alias_is name (Some alias) = bytes_eq name (str_to_ascii_lowercase alias)

abbrev pub has_alias : List ℕ → Answer → Bool
has_alias name a = alias_is name a.alias

-- the first item whose alias is this name
abbrev pub aliased : List Answer → List ℕ → Option ℕ
aliased answers name = place_of (has_alias (str_to_ascii_lowercase name)) answers

-- the item is written so
abbrev pub is_answer : List ℕ → Answer → Bool
is_answer writing a = bytes_eq writing (written a.value)

-- an expression, which must be an item where rows are distinct
abbrev pub if_item : Bool → List Answer → Bound → Judged Bound
if_item distinct answers value =
    if distinct && is_none (place_of (is_answer (written value)) answers) then Err NotItem else Ok value

abbrev pub expression_term : Setting → Bool → List Answer → Expr → Judged Bound
expression_term setting distinct answers e = after (result_of setting e) (λ t. if_item distinct answers t.value)

-- the item of a number
abbrev pub numbered : List Answer → ℤ → Judged Bound
numbered answers n = elim (item_at answers n) [ None ↦ Err (NoItem n) | Some value ↦ Ok value ]

-- the item at a place
abbrev pub item_of : List Answer → ℕ → Judged Bound
item_of answers k = elim (slice_get answers k) [ None ↦ Err NotItem | Some a ↦ Ok a.value ]

-- the item of an alias, or else an expression
abbrev pub named_term : Setting → Bool → List Answer → Expr → Option ℕ → Judged Bound
named_term setting distinct answers e None = expression_term setting distinct answers e
named_term setting distinct answers e (Some k) = item_of answers k

abbrev pub term_of : Setting → Bool → List Answer → Expr → Shape → Judged Bound
term_of setting distinct answers e (Number n) = numbered answers n
term_of setting distinct answers e (Bare name) = named_term setting distinct answers e (aliased answers name)
term_of setting distinct answers e Other = expression_term setting distinct answers e

-- A term is an item by its number; else, as a name alone, by its alias, which wins over a column; else an expression.
abbrev pub sorted_by : Setting → Bool → List Answer → Term → Judged SortKey
sorted_by setting distinct answers term =
    after (term_of setting distinct answers term.value (shape_of term.value)) (λ value. Ok (record { value = value; desc = term.desc }))

abbrev pub order : Setting → Bool → List Answer → List Term → Judged (List SortKey)
order setting distinct answers terms = each (map (sorted_by setting distinct answers) terms)

-- ---- the whole

-- GROUP BY, on rows
abbrev pub groups_of : Scope → Select → Judged (List Typed)
groups_of scope q = each (map (on_rows scope) q.groups)

-- the aggregates of a query with groups
abbrev pub computed_by : Option Grouping → List Aggregate
computed_by None = []
computed_by (Some g) = g.aggregates

abbrev pub query_in : Select → List Table → Setting → Judged Query
query_in q tables setting =
    after (items setting q.items) (λ answers.
    after (conjuncts setting.scope q) (λ kept.
    after (groups_of setting.scope q) (λ groups.
    after (having setting q.having) (λ chosen.
    after (order setting q.distinct answers q.order) (λ keys.
    Ok (record {
      tables = tables;
      conjuncts = kept;
      grouped = is_some setting.grouping;
      groups = values_of groups;
      aggregates = computed_by setting.grouping;
      having = chosen;
      distinct = q.distinct;
      items = map (λ a. a.value) answers;
      order = keys;
      limit = q.limit;
      offset = q.offset;
    }))))))

abbrev pub query : List Table → Select → Judged Query
query tables q = after (sources tables q.tables) (λ from. query_in q from.tables (setting_of from.scope q))
