-- Rows of groups: what they have to have, so that each expression that is read on groups has its class.
use Rattle.std.specs.Prelude.{◌≡◌, ◌⊎◌, ℕ, ◌+◌, List, length, map, slice_index_or, Some, Ok}
use Rattle.hc_value.specs.declared.value.Value.{Value}
use Rattle.hc_value.specs.declared.value.Value.TheVariants.{Null}
use Rattle.hc_ast.specs.declared.expression.Expr.{Expr}
use Rattle.hc_schema.specs.declared.typed.Typed.{Typed}
use Rattle.hc_schema.specs.declared.typed.Computed.{Computed}
use Rattle.hc_schema.specs.Binding.Scopes.{Scope}
use Rattle.hc_schema.specs.Binding.Writing.{written, aggregate_written}
use Rattle.hc_schema.specs.Binding.Expressions.{Grouping, computed, count_all, is_aggregate_of, is_group, on_rows, place_of}
use Rattle.hc_typing.specs.Rows.{IsOfClass}

-- the aggregate is `count(*)`, or a call in this scope that is well made
abbrev pub IsComputed : Scope → Computed → Type 0
IsComputed scope c = (c ≡ count_all) ⊎ ((name : List ℕ) × (args : List Expr) × (computed name (map (on_rows scope) args) ≡ Ok c))

-- in the place of each expression of GROUP BY the row has NULL or a value of the expression's class
abbrev pub FitsTerms : Scope → Grouping → List Value → Type 0
FitsTerms scope g row = (e : Expr) (t : Typed) (k : ℕ) → on_rows scope e ≡ Ok t → place_of (is_group (written t.value)) g.groups ≡ Some k
    → IsOfClass t.class (slice_index_or row k Null)

-- and after those, in the place of each aggregate, NULL or a value of the aggregate's class
abbrev pub FitsAggregates : Scope → Grouping → List Value → Type 0
FitsAggregates scope g row = (c : Computed) (k : ℕ) → IsComputed scope c → place_of (is_aggregate_of (aggregate_written c.aggregate)) g.aggregates ≡ Some k
    → IsOfClass c.class (slice_index_or row (length g.groups + k) Null)

abbrev pub FitsGroups : Scope → Grouping → List Value → Type 0
FitsGroups scope g row = FitsTerms scope g row × FitsAggregates scope g row
