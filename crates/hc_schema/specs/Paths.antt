-- How the rows of a table are reached: by a rowid, by an index, or all of them. The rule is the engine's own.
--
-- A candidate row has the columns of the tables in FROM's order, so a table's columns begin at an offset. A conjunct
-- `c = e` or `e = c` pins column c of a table, where all columns in e are of tables before it. The first conjunct that
-- pins the rowid is taken; else, for the first index whose first column is pinned by any, the first that pins it;
-- else the table is read whole.
use Rattle.std.specs.Prelude.{ℕ, zero, suc, ◌+◌, ◌<◌, ◌^◌, Bool, true, false, ◌&&◌, ◌||◌, nat_eq, nat_lt, List, [], ◌∷◌, ◌++◌, length, map, take, slice_get, slice_index_or, Option, Some, None, if◌then◌else◌}
use Rattle.std.specs.Option.{option_to_list, option_map, option_and_then, option_or, is_some, unwrap_or}
use Rattle.hc_value.specs.declared.value.Value.TheVariants.{Null}
use Rattle.hc_ast.specs.declared.operator.BinaryOp.TheVariants.{Eq}
use Rattle.hc_ast.specs.declared.bound.Bound.{Bound}
use Rattle.hc_ast.specs.declared.bound.Bound.TheOpen.{Bound-F}
use Rattle.hc_ast.specs.declared.bound.Bound.TheFolds.{fold-Bound}
use Rattle.hc_schema.specs.declared.table.Table.{Table}
use Rattle.hc_schema.specs.declared.table.Index.{Index}
use Rattle.hc_schema.specs.declared.path.Path.{Path}
use Rattle.hc_schema.specs.declared.path.Path.TheVariants.{Rowid, ByIndex, Whole}

-- ---- which conjuncts pin a column

-- a number is in the list
abbrev pub includes : ℕ → List ℕ → Bool
includes n [] = false
includes n (m ∷ ms) = nat_eq m n || includes n ms

-- what is said of an expression for the sake of paths
pub record Facts : Type 0 where
  -- the place of the column that it is, if it is a column and no more
  pub column : Option ℕ
  -- each column in it is before the offset
  pub before : Bool
  -- the places of the columns that it pins as a conjunct
  pub pinned : List ℕ

abbrev pub all_before : List Facts → Bool
all_before [] = true
all_before (e ∷ es) = e.before && all_before es

-- an expression that is no column and pins nothing
abbrev pub plain : Bool → Facts
plain before = record { column = None; before = before; pinned = [] }

-- the column that is one side of an `=`, where the other side is known before
abbrev pub side : Facts → Facts → List ℕ
side column other = if other.before then option_to_list column.column else []

abbrev pub level_facts : ℕ → Bound-F Facts → Facts
level_facts offset (Bound-F.Value v) = plain true
level_facts offset (Bound-F.Column place) = record { column = Some place; before = nat_lt place offset; pinned = [] }
level_facts offset (Bound-F.Not of) = plain of.before
level_facts offset (Bound-F.Minus of) = plain of.before
level_facts offset (Bound-F.Plus of) = plain of.before
level_facts offset (Bound-F.Binary Eq left right) =
    record { column = None; before = left.before && right.before; pinned = side left right ++ side right left }
level_facts offset (Bound-F.Binary op left right) = plain (left.before && right.before)
level_facts offset (Bound-F.OneOf is_negated left list) = plain (left.before && all_before list)
level_facts offset (Bound-F.Like is_negated left pattern) = plain (left.before && pattern.before)
level_facts offset (Bound-F.Between is_negated left low high) = plain (left.before && (low.before && high.before))
level_facts offset (Bound-F.Length of) = plain of.before
level_facts offset (Bound-F.Abs of) = plain of.before
level_facts offset (Bound-F.Coalesce list) = plain (all_before list)

abbrev pub facts : ℕ → Bound → Facts
facts offset = fold-Bound Facts (level_facts offset)

-- whether a conjunct pins the column at a place
abbrev pub pins : ℕ → ℕ → Bound → Bool
pins offset place conjunct = includes place (facts offset conjunct).pinned

-- the place of the first element that passes
abbrev pub first_place : {A : Type 0} → (A → Bool) → List A → Option ℕ
first_place passes [] = None
first_place passes (x ∷ xs) = if passes x then Some 0 else option_map (λ n. n + 1) (first_place passes xs)

-- the first conjunct that pins the column at a place
abbrev pub first_pin : ℕ → ℕ → List Bound → Option ℕ
first_pin offset place conjuncts = first_place (pins offset place) conjuncts

-- ---- paths

abbrev pub rowid_path : Table → ℕ → List Bound → Option Path
rowid_path t offset conjuncts =
    option_and_then (λ k. option_map (λ n. Rowid n) (first_pin offset (offset + k) conjuncts)) t.alias

-- the first conjunct that pins the first column of an index
abbrev pub index_pin : Index → ℕ → List Bound → Option ℕ
index_pin index offset conjuncts = option_and_then (λ column. first_pin offset (offset + column) conjuncts) (slice_get index.columns 0)

-- by the first of these indexes whose first column is pinned, the indexes counted from n
abbrev pub index_path : ℕ → ℕ → List Bound → List Index → Option Path
index_path n offset conjuncts [] = None
index_path n offset conjuncts (index ∷ indexes) =
    option_or (option_map (λ k. ByIndex n k) (index_pin index offset conjuncts)) (index_path (n + 1) offset conjuncts indexes)

-- the path of a table whose columns begin at an offset
abbrev pub path_of : Table → ℕ → List Bound → Path
path_of t offset conjuncts =
    unwrap_or (option_or (rowid_path t offset conjuncts) (index_path 0 offset conjuncts t.indexes)) Whole
