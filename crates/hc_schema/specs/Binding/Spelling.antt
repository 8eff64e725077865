-- Two spellings of a statement: they differ in the case of ASCII letters of names alone.
use Rattle.std.specs.Prelude.{◌≡◌, ℕ, List, map, Ok, Err}
use Rattle.std.specs.Option.{option_map}
use Rattle.std.specs.Str.{str_to_ascii_lowercase}
use Rattle.hc_ast.specs.declared.expression.Expr.{Expr}
use Rattle.hc_ast.specs.declared.expression.Expr.TheVariants as expr
use Rattle.hc_ast.specs.declared.expression.Expr.TheOpen.{Expr-F}
use Rattle.hc_ast.specs.declared.expression.Expr.TheFolds.{fold-Expr}
use Rattle.hc_ast.specs.declared.query.Select.{Select}
use Rattle.hc_ast.specs.declared.query.Item.{Item}
use Rattle.hc_ast.specs.declared.query.Item.TheVariants.{All, AllOf, One}
use Rattle.hc_ast.specs.declared.query.FromTable.{FromTable}
use Rattle.hc_ast.specs.declared.query.Term.{Term}
use Rattle.hc_ast.specs.declared.statement.ExprRow.{ExprRow}
use Rattle.hc_ast.specs.declared.statement.Assign.{Assign}
use Rattle.hc_ast.specs.declared.statement.Stmt.{Stmt}
use Rattle.hc_ast.specs.declared.statement.Stmt.TheVariants as stmt
use Rattle.hc_schema.specs.Binding.Faults.{Fault, NoTable, NoColumn, Ambiguous, TwoColumns, NoFunction, Mixed, Misplaced, Arity, NoItem, NotItem, Judged}
use Rattle.hc_schema.specs.Binding.Statements.{Binding}

-- a name in lower case
abbrev pub lower : List ℕ → List ℕ
lower name = str_to_ascii_lowercase name

abbrev pub level_lowered : Expr-F Expr → Expr
level_lowered (Expr-F.Value v) = expr.Value v
level_lowered (Expr-F.Name source name) = expr.Name (option_map lower source) (lower name)
level_lowered (Expr-F.Not of) = expr.Not of
level_lowered (Expr-F.Minus of) = expr.Minus of
level_lowered (Expr-F.Plus of) = expr.Plus of
level_lowered (Expr-F.Binary op left right) = expr.Binary op left right
level_lowered (Expr-F.OneOf is_negated left list) = expr.OneOf is_negated left list
level_lowered (Expr-F.Like is_negated left pattern) = expr.Like is_negated left pattern
level_lowered (Expr-F.Between is_negated left low high) = expr.Between is_negated left low high
level_lowered (Expr-F.Call name args) = expr.Call (lower name) args
level_lowered (Expr-F.CallAll name) = expr.CallAll (lower name)

-- an expression with all names in lower case
abbrev pub lowered : Expr → Expr
lowered = fold-Expr Expr level_lowered

abbrev pub lowered_item : Item → Item
lowered_item All = All
lowered_item (AllOf name) = AllOf (lower name)
lowered_item (One value alias) = One (lowered value) (option_map lower alias)

abbrev pub lowered_source : FromTable → FromTable
lowered_source from = record { name = lower from.name; alias = option_map lower from.alias; joined = from.joined; on = option_map lowered from.on }

abbrev pub lowered_term : Term → Term
lowered_term term = record { value = lowered term.value; desc = term.desc }

abbrev pub lowered_query : Select → Select
lowered_query q = record {
  distinct = q.distinct;
  items = map lowered_item q.items;
  tables = map lowered_source q.tables;
  filter = option_map lowered q.filter;
  groups = map lowered q.groups;
  having = option_map lowered q.having;
  order = map lowered_term q.order;
  limit = q.limit;
  offset = q.offset;
}

abbrev pub lowered_row : ExprRow → ExprRow
lowered_row row = record { values = map lowered row.values }

abbrev pub lowered_assign : Assign → Assign
lowered_assign set = record { column = lower set.column; value = lowered set.value }

-- Statements that are spelled alike. Of those that are not bound each is spelled as itself alone.
abbrev pub lowered_statement : Stmt → Stmt
lowered_statement (stmt.Select q) = stmt.Select (lowered_query q)
lowered_statement (stmt.Insert table columns rows) = stmt.Insert (lower table) (option_map (map lower) columns) (map lowered_row rows)
lowered_statement (stmt.Update table sets filter) = stmt.Update (lower table) (map lowered_assign sets) (option_map lowered filter)
lowered_statement (stmt.Delete table filter) = stmt.Delete (lower table) (option_map lowered filter)
lowered_statement s = s

abbrev pub AreSpelledAlike : Stmt → Stmt → Type 0
AreSpelledAlike s t = lowered_statement s ≡ lowered_statement t

-- a fault with its name in lower case
abbrev pub lowered_fault : Fault → Fault
lowered_fault (NoTable name) = NoTable (lower name)
lowered_fault (NoColumn name) = NoColumn (lower name)
lowered_fault (Ambiguous name) = Ambiguous (lower name)
lowered_fault (TwoColumns name) = TwoColumns (lower name)
lowered_fault (NoFunction name) = NoFunction (lower name)
lowered_fault Mixed = Mixed
lowered_fault Misplaced = Misplaced
lowered_fault (Arity given wanted) = Arity given wanted
lowered_fault (NoItem n) = NoItem n
lowered_fault NotItem = NotItem

-- one binding, or faults that differ in the case of letters alone
abbrev pub AreAlike : Judged Binding → Judged Binding → Type 0
AreAlike (Ok b) (Ok c) = b ≡ c
AreAlike (Err f) (Err g) = lowered_fault f ≡ lowered_fault g
AreAlike x y = ⊥
