-- What an expression means. On rows each name is a column; in a query with groups an item, HAVING or a term of ORDER BY is
-- read on groups, whose rows have the values of GROUP BY and then the aggregates. Each operand comes before its operator.
-- The operators and functions are those of https://www.sqlite.org/lang_expr.html; that classes are not converted, and that a
-- column outside of aggregates must be grouped by, are rules of our own.
use Rattle.std.specs.Prelude.{ℕ, ◌+◌, Bool, true, false, ◌||◌, List, [], ◌∷◌, ◌++◌, length, map, Option, Some, None, Ok, Err, if◌then◌else◌, nat_eq}
use Rattle.std.specs.List.{flat_map, list_any}
use Rattle.std.specs.Option.{option_map}
use Rattle.std.specs.Str.{bytes_eq}
use Rattle.hc_value.specs.declared.storage.Class.{Class}
use Rattle.hc_value.specs.declared.storage.Class.TheVariants as class
use Rattle.hc_value.specs.Order.{class_of}
use Rattle.hc_ast.specs.declared.operator.BinaryOp.{BinaryOp}
use Rattle.hc_ast.specs.declared.operator.BinaryOp.TheVariants.{And}
use Rattle.hc_ast.specs.declared.expression.Expr.{Expr}
use Rattle.hc_ast.specs.declared.expression.Expr.TheOpen.{Expr-F}
use Rattle.hc_ast.specs.declared.expression.Expr.TheFolds.{fold-Expr}
use Rattle.hc_ast.specs.declared.bound.Bound.{Bound}
use Rattle.hc_ast.specs.declared.bound.Bound.TheVariants as bound
use Rattle.hc_schema.specs.declared.bound_statement.Aggregate.{Aggregate}
use Rattle.hc_schema.specs.declared.bound_statement.AggregateKind.{AggregateKind}
use Rattle.hc_schema.specs.declared.bound_statement.AggregateKind.TheVariants.{Count}
use Rattle.hc_schema.specs.declared.typed.Typed.{Typed}
use Rattle.hc_schema.specs.declared.typed.Function.{Function}
use Rattle.hc_schema.specs.declared.typed.Called.{Called}
use Rattle.hc_schema.specs.declared.typed.Computed.{Computed}
use Rattle.hc_schema.specs.declared.typed.Function.TheVariants.{Length, Abs, Coalesce, Over}
use Rattle.hc_schema.specs.Binding.Faults.{Judged, NoFunction, Mixed, Misplaced, Arity, after, after_both, each}
use Rattle.hc_schema.specs.Binding.Classes.{fits, result_if, of_both, compared, one_class, operator_class}
use Rattle.hc_schema.specs.Binding.Functions.{function_of, is_aggregate, is_count, call_class, wanted}
use Rattle.hc_schema.specs.Binding.Scopes.{Scope, typed, resolved}
use Rattle.hc_schema.specs.Binding.Writing.{written, aggregate_written}

-- ---- meanings

-- The value, of the class that its operands give it; they are mixed where they give none.
abbrev pub made : Option Class → Bound → Judged Typed
made None value = Err Mixed
made (Some class) value = Ok (typed value class)

abbrev pub values_of : List Typed → List Bound
values_of ts = map (λ t. t.value) ts

-- ---- operators: after their operands, these fit together or are mixed

abbrev pub unary : (Bound → Bound) → Judged Typed → Judged Typed
unary make of = after of (λ t. made (result_if (fits t.class class.Int) class.Int) (make t.value))

abbrev pub binary : BinaryOp → Judged Typed → Judged Typed → Judged Typed
binary op left right = after_both left right (λ l r. made (operator_class op l.class r.class) (bound.Binary op l.value r.value))

-- all operands of IN are of one class
abbrev pub one_of : Bool → Judged Typed → List (Judged Typed) → Judged Typed
one_of is_negated left list = after_both left (each list) (λ l ts.
    made (compared (one_class l.class ts)) (bound.OneOf is_negated l.value (values_of ts)))

abbrev pub like : Bool → Judged Typed → Judged Typed → Judged Typed
like is_negated left pattern = after_both left pattern (λ l p.
    made (of_both class.Text l.class p.class class.Int) (bound.Like is_negated l.value p.value))

-- all three operands of BETWEEN are of one class
abbrev pub between : Bool → Judged Typed → Judged Typed → Judged Typed → Judged Typed
between is_negated left low high = after left (λ t. after_both low high (λ l h.
    made (compared (one_class t.class (l ∷ h ∷ []))) (bound.Between is_negated t.value l.value h.value)))

-- ---- calls: after their arguments an unknown name, then classes, then an aggregate where none may be, then the number

-- the value of a function of a row, of arguments that are as many as it wants
abbrev pub applied : Function → List Bound → Bound
applied Coalesce args = bound.Coalesce args
applied Length (of ∷ args) = bound.Length of
applied Abs (of ∷ args) = bound.Abs of
applied function args = bound.Coalesce args

-- whether as many arguments are given as are wanted
abbrev pub counted : Function → List Typed → Judged (List Typed)
counted function args =
    if nat_eq (length args) (wanted function (length args)) then Ok args else Err (Arity (length args) (wanted function (length args)))

-- the function of a name with the class of its call
abbrev pub classed : Function → Option Class → Judged Called
classed function None = Err Mixed
classed function (Some class) = Ok (record { function = function; class = class })

abbrev pub called_among : List ℕ → Option Function → List Typed → Judged Called
called_among name None args = Err (NoFunction name)
called_among name (Some function) args = classed function (call_class function args)

abbrev pub called : List ℕ → List Typed → Judged Called
called name args = called_among name (function_of name) args

-- a function of a row; an aggregate may not be here
abbrev pub row_value : List Typed → Function → Class → Judged Typed
row_value args (Over kind) class = Err Misplaced
row_value args function class = after (counted function args) (λ ts. Ok (typed (applied function (values_of ts)) class))

abbrev pub row_call : List Typed → Called → Judged Typed
row_call args c = row_value args c.function c.class

-- a call of a function of rows
abbrev pub row_function : List ℕ → List (Judged Typed) → Judged Typed
row_function name args = after (each args) (λ ts. after (called name ts) (row_call ts))

-- ---- aggregates

abbrev pub aggregate_of : AggregateKind → Option Bound → Aggregate
aggregate_of kind of = record { kind = kind; of = of }

-- `count(*)`
abbrev pub count_all : Computed
count_all = record { aggregate = aggregate_of Count None; class = class.Int }

-- the argument of an aggregate
abbrev pub argument : List Typed → Option Bound
argument [] = None
argument (t ∷ ts) = Some t.value

abbrev pub aggregate_value : List Typed → Function → Class → Judged Computed
aggregate_value args (Over kind) class =
    after (counted (Over kind) args) (λ ts. Ok (record { aggregate = aggregate_of kind (argument ts); class = class }))
aggregate_value args function class = Err Misplaced

abbrev pub aggregate_call : List Typed → Called → Judged Computed
aggregate_call args c = aggregate_value args c.function c.class

-- a call of an aggregate, whose arguments are read on rows
abbrev pub computed : List ℕ → List (Judged Typed) → Judged Computed
computed name args = after (each args) (λ ts. after (called name ts) (aggregate_call ts))

-- the aggregate, where it is well called
abbrev pub found : Judged Computed → List Aggregate
found (Ok c) = c.aggregate ∷ []
found (Err fault) = []

-- ---- groups

-- What a query with groups computes for each: the expressions of GROUP BY in order, where one with a fault is equal to none,
-- and the aggregates, each once.
pub record Grouping : Type 0 where
  pub groups : List (Judged Typed)
  pub aggregates : List Aggregate

-- the expression of GROUP BY is written so
abbrev pub is_group : List ℕ → Judged Typed → Bool
is_group writing (Ok t) = bytes_eq writing (written t.value)
is_group writing (Err fault) = false

-- the aggregate is written so
abbrev pub is_aggregate_of : List ℕ → Aggregate → Bool
is_aggregate_of writing a = bytes_eq writing (aggregate_written a)

-- the place of the first that passes, counted from n
abbrev pub place_from : {A : Type 0} → (A → Bool) → ℕ → List A → Option ℕ
place_from passes n [] = None
place_from passes n (x ∷ xs) = if passes x then Some n else place_from passes (n + 1) xs

abbrev pub place_of : {A : Type 0} → (A → Bool) → List A → Option ℕ
place_of passes xs = place_from passes 0 xs

-- an expression that is the same as one of GROUP BY is its value in the row of a group
abbrev pub grouped : Grouping → Judged Typed → Option Typed
grouped g (Ok t) = option_map (λ k. typed (bound.Column k) t.class) (place_of (is_group (written t.value)) g.groups)
grouped g (Err fault) = None

-- an aggregate is its value in the row of a group, after those of GROUP BY
abbrev pub at_place : ℕ → Class → Option ℕ → Judged Typed
at_place count class None = Err Misplaced
at_place count class (Some k) = Ok (typed (bound.Column (count + k)) class)

abbrev pub placed : Grouping → Computed → Judged Typed
placed g c = at_place (length g.groups) c.class (place_of (is_aggregate_of (aggregate_written c.aggregate)) g.aggregates)

-- ---- both readings of an expression

-- What an expression means on rows and on groups. The aggregates in it are in the order of text; an aggregate has none in it.
-- As a condition on rows it has the operands of its ANDs.
pub record Reading : Type 0 where
  pub on_rows : Judged Typed
  pub on_groups : Grouping → Judged Typed
  pub aggregates : List Aggregate
  pub conjuncts : Judged (List Bound)

abbrev pub all_on_rows : List Reading → List (Judged Typed)
all_on_rows rs = map (λ r. r.on_rows) rs

abbrev pub all_on_groups : Grouping → List Reading → List (Judged Typed)
all_on_groups g rs = map (λ r. r.on_groups g) rs

abbrev pub all_aggregates : List Reading → List Aggregate
all_aggregates rs = flat_map (λ r. r.aggregates) rs

-- On groups an expression of GROUP BY is one as a whole, before its parts are looked at.
abbrev pub group_or : Option Typed → Judged Typed → Judged Typed
group_or (Some t) parts = Ok t
group_or None parts = parts

-- an expression that is no AND
abbrev pub alone : Judged Typed → Judged (List Bound)
alone rows = after rows (λ t. Ok (t.value ∷ []))

-- an expression, from what its parts make of it on rows and on groups
abbrev pub reading : List Aggregate → Judged Typed → (Grouping → Judged Typed) → Reading
reading aggregates rows groups = record {
  on_rows = rows;
  on_groups = λ g. group_or (grouped g rows) (groups g);
  aggregates = aggregates;
  conjuncts = alone rows;
}

-- a column that is no expression of GROUP BY may not be read on groups
abbrev pub name_reading : Judged Typed → Reading
name_reading column = reading [] column (λ g. after column (λ t. Err Misplaced))

abbrev pub unary_reading : (Bound → Bound) → Reading → Reading
unary_reading make of = reading of.aggregates (unary make of.on_rows) (λ g. unary make (of.on_groups g))

-- the operands of both sides of an AND, of any other operator the whole
abbrev pub binary_conjuncts : BinaryOp → Reading → Reading → Judged (List Bound)
binary_conjuncts And l r = after_both l.conjuncts r.conjuncts (λ xs ys. Ok (xs ++ ys))
binary_conjuncts op l r = alone (binary op l.on_rows r.on_rows)

abbrev pub binary_reading : BinaryOp → Reading → Reading → Reading
binary_reading op l r = record {
  on_rows = binary op l.on_rows r.on_rows;
  on_groups = λ g. group_or (grouped g (binary op l.on_rows r.on_rows)) (binary op (l.on_groups g) (r.on_groups g));
  aggregates = l.aggregates ++ r.aggregates;
  conjuncts = binary_conjuncts op l r;
}

abbrev pub one_of_reading : Bool → Reading → List Reading → Reading
one_of_reading is_negated l list = reading (l.aggregates ++ all_aggregates list)
    (one_of is_negated l.on_rows (all_on_rows list)) (λ g. one_of is_negated (l.on_groups g) (all_on_groups g list))

abbrev pub like_reading : Bool → Reading → Reading → Reading
like_reading is_negated l p = reading (l.aggregates ++ p.aggregates)
    (like is_negated l.on_rows p.on_rows) (λ g. like is_negated (l.on_groups g) (p.on_groups g))

abbrev pub between_reading : Bool → Reading → Reading → Reading → Reading
between_reading is_negated t l h = reading (t.aggregates ++ (l.aggregates ++ h.aggregates))
    (between is_negated t.on_rows l.on_rows h.on_rows) (λ g. between is_negated (t.on_groups g) (l.on_groups g) (h.on_groups g))

-- a call of an aggregate, whose arguments are read on rows also on groups
abbrev pub aggregate_reading : List ℕ → List (Judged Typed) → Reading
aggregate_reading name args = reading (found (computed name args)) (row_function name args) (λ g. after (computed name args) (placed g))

-- a call: of an aggregate, or of another function
abbrev pub call_reading : Bool → List ℕ → List Reading → Reading
call_reading true name args = aggregate_reading name (all_on_rows args)
call_reading false name args =
    reading (all_aggregates args) (row_function name (all_on_rows args)) (λ g. row_function name (all_on_groups g args))

-- `count(*)`; no other function has `*`
abbrev pub call_all_reading : Bool → List ℕ → Reading
call_all_reading true name = reading (count_all.aggregate ∷ []) (Err Misplaced) (λ g. placed g count_all)
call_all_reading false name = reading [] (Err (NoFunction name)) (λ g. Err (NoFunction name))

-- one level, with the readings of each part in its place
abbrev pub level_reading : Scope → Expr-F Reading → Reading
level_reading scope (Expr-F.Value v) = reading [] (Ok (typed (bound.Value v) (class_of v))) (λ g. Ok (typed (bound.Value v) (class_of v)))
level_reading scope (Expr-F.Name source name) = name_reading (resolved scope source name)
level_reading scope (Expr-F.Not of) = unary_reading bound.Not of
level_reading scope (Expr-F.Minus of) = unary_reading bound.Minus of
level_reading scope (Expr-F.Plus of) = unary_reading bound.Plus of
level_reading scope (Expr-F.Binary op l r) = binary_reading op l r
level_reading scope (Expr-F.OneOf is_negated l list) = one_of_reading is_negated l list
level_reading scope (Expr-F.Like is_negated l p) = like_reading is_negated l p
level_reading scope (Expr-F.Between is_negated t l h) = between_reading is_negated t l h
level_reading scope (Expr-F.Call name args) = call_reading (is_aggregate (function_of name)) name args
level_reading scope (Expr-F.CallAll name) = call_all_reading (is_count (function_of name)) name

abbrev pub reading_of : Scope → Expr → Reading
reading_of scope = fold-Expr Reading (level_reading scope)

-- ---- what statements ask of expressions

-- an expression on rows, where no aggregate may be
abbrev pub on_rows : Scope → Expr → Judged Typed
on_rows scope e = (reading_of scope e).on_rows

-- a condition is an integer or NULL
abbrev pub condition : Judged Typed → Judged Typed
condition e = after e (λ t. if fits t.class class.Int then Ok t else Err Mixed)

-- the conjuncts of a condition on rows
abbrev pub conjuncts_of : Scope → Expr → Judged (List Bound)
conjuncts_of scope e = after (condition (on_rows scope e)) (λ t. (reading_of scope e).conjuncts)

-- a call of an aggregate is in it, also one that has a fault
abbrev pub any_of : List Bool → Bool
any_of flags = list_any (λ flag. flag) flags

abbrev pub level_has_aggregate : Expr-F Bool → Bool
level_has_aggregate (Expr-F.Value v) = false
level_has_aggregate (Expr-F.Name source name) = false
level_has_aggregate (Expr-F.Not of) = of
level_has_aggregate (Expr-F.Minus of) = of
level_has_aggregate (Expr-F.Plus of) = of
level_has_aggregate (Expr-F.Binary op l r) = l || r
level_has_aggregate (Expr-F.OneOf is_negated l list) = l || any_of list
level_has_aggregate (Expr-F.Like is_negated l p) = l || p
level_has_aggregate (Expr-F.Between is_negated t l h) = t || (l || h)
level_has_aggregate (Expr-F.Call name args) = is_aggregate (function_of name) || any_of args
level_has_aggregate (Expr-F.CallAll name) = is_count (function_of name)

abbrev pub has_aggregate : Expr → Bool
has_aggregate = fold-Expr Bool level_has_aggregate
