-- SELECT up to the rows that meet the condition: nested loops over the tables of FROM, each by its access path. The condition is
-- the AND of the conjuncts; an overflow in it, or in what a path looks for, ends the reading there.
use Rattle.std.specs.Prelude.{ℕ, ◌+◌, Bool, true, false, ◌&&◌, List, [], ◌∷◌, ◌++◌, length, flat_map, nat_eq, slice_get, Option, Some, None, if◌then◌else◌}
use Rattle.std.specs.Option.{option_map, option_and_then, option_to_list, unwrap_or}
use Rattle.hc_value.specs.declared.value.Value.{Value}
use Rattle.hc_value.specs.declared.value.Value.TheVariants.{Null, Int}
use Rattle.hc_ast.specs.declared.operator.BinaryOp.TheVariants.{Eq}
use Rattle.hc_ast.specs.declared.bound.Bound.{Bound, out-Bound}
use Rattle.hc_ast.specs.declared.bound.Bound.TheOpen.{Bound-F}
use Rattle.hc_transcript.specs.declared.refusal.Refusal.TheVariants.{Overflow}
use Rattle.hc_expr.specs.Logic.{Truth, truth_of}
use Rattle.hc_expr.specs.Arithmetic.{Outcome}
use Rattle.hc_expr.specs.Values.{value_of, values_of}
use Rattle.hc_schema.specs.declared.row.Row.{Row}
use Rattle.hc_schema.specs.declared.table.Table.{Table}
use Rattle.hc_schema.specs.declared.table.Index.{Index}
use Rattle.hc_schema.specs.declared.path.Path.{Path}
use Rattle.hc_schema.specs.declared.path.Path.TheVariants.{Rowid, ByIndex, Whole}
use Rattle.hc_schema.specs.Paths.{facts, path_of}
use Rattle.hc_sql.specs.Work.{Work, give, next, in_turn, need}
use Rattle.hc_sql.specs.Looks.{find_rows, find_row, find_indexed}

-- ---- the condition

abbrev pub is_true : Truth → Bool
is_true (Some true) = true
is_true t = false

-- each of them is true
abbrev pub are_true : List Value → Bool
are_true [] = true
are_true (v ∷ values) = is_true (truth_of v) && are_true values

-- Whether a row meets all conjuncts. All are evaluated: there is no answer where any overflows.
abbrev pub meets : List Bound → List Value → Option Bool
meets conjuncts row = option_map are_true (values_of row conjuncts)

abbrev pub if_met : List Value → Bool → List (List Value)
if_met row met = if met then row ∷ [] else []

-- a complete candidate, if it meets the condition
abbrev pub candidate : List Bound → List Value → Work (List (List Value))
candidate conjuncts row = next (need Overflow (meets conjuncts row)) (λ met. give (if_met row met))

-- ---- access paths

-- it is the column at a place
abbrev pub is_at : ℕ → Option ℕ → Bool
is_at place None = false
is_at place (Some other) = nat_eq other place

-- the side of an `=` that is known before the offset, where the other is the column at a place
abbrev pub other_side : ℕ → ℕ → Bound → Bound → Option Bound
other_side offset place left right =
    if is_at place (facts offset left).column && (facts offset right).before then Some right
    else (if is_at place (facts offset right).column && (facts offset left).before then Some left else None)

abbrev pub sought_in : ℕ → ℕ → Bound-F Bound → Option Bound
sought_in offset place (Bound-F.Binary Eq left right) = other_side offset place left right
sought_in offset place e = None

-- what a conjunct says the column at a place is
abbrev pub sought : ℕ → ℕ → Bound → Option Bound
sought offset place conjunct = sought_in offset place (out-Bound conjunct)

-- its value on the columns of the tables before; NULL, which finds nothing, where nothing is said
abbrev pub sought_value : List Value → Option Bound → Outcome
sought_value row None = Some Null
sought_value row (Some e) = value_of row e

-- the row of a rowid; none of NULL
abbrev pub rows_by_rowid : Table → Value → Work (List Row)
rows_by_rowid t (Int rowid) = next (find_row t rowid) (λ found. give (option_to_list found))
rows_by_rowid t v = give []

-- the rows in an index under a value; none of NULL
abbrev pub rows_by_value : Table → Index → Value → Work (List Row)
rows_by_value t index Null = give []
rows_by_value t index v = find_indexed t index (v ∷ [])

abbrev pub rows_by_index : Table → Option Index → Value → Work (List Row)
rows_by_index t None v = give []
rows_by_index t (Some index) v = rows_by_value t index v

-- the place of the first column of an index
abbrev pub index_place : ℕ → Option Index → ℕ
index_place offset index = offset + unwrap_or (option_and_then (λ i. slice_get i.columns 0) index) 0

-- the value that the n-th conjunct says the column at a place is, on the columns before
abbrev pub value_sought : List Bound → List Value → ℕ → ℕ → ℕ → Work Value
value_sought conjuncts row offset place n = need Overflow (sought_value row (option_and_then (sought offset place) (slice_get conjuncts n)))

-- The rows of a table on its path, whose columns begin at the offset, after a row of the tables before it. What the path looks
-- for is evaluated first.
abbrev pub path_rows : Table → ℕ → List Bound → List Value → Path → Work (List Row)
path_rows t offset conjuncts row (Rowid n) = next (value_sought conjuncts row offset (offset + unwrap_or t.alias 0) n) (rows_by_rowid t)
path_rows t offset conjuncts row (ByIndex i n) =
    next (value_sought conjuncts row offset (index_place offset (slice_get t.indexes i)) n) (rows_by_index t (slice_get t.indexes i))
path_rows t offset conjuncts row Whole = find_rows t

-- ---- nested loops

abbrev pub flat : {A : Type 0} → List (List A) → List A
flat lists = flat_map (λ list. list) lists

-- the candidates that meet the condition, after a row of the tables before, whose columns end at the offset
abbrev pub loops : List Bound → List Table → ℕ → List Value → Work (List (List Value))
loops conjuncts [] offset row = candidate conjuncts row
loops conjuncts (t ∷ tables) offset row =
    next (path_rows t offset conjuncts row (path_of t offset conjuncts)) (λ rows.
    next (in_turn (λ (r : Row). loops conjuncts tables (offset + length t.columns) (row ++ r.values)) rows) (λ found.
    give (flat found)))

-- all candidates that meet the condition; without tables there is one candidate, which is empty
abbrev pub candidates : List Table → List Bound → Work (List (List Value))
candidates tables conjuncts = loops conjuncts tables 0 []
