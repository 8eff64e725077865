-- Which statements the table has, and what they answer and do. They are those of SQLite's language pages
-- (lang_insert.html, lang_select.html, lang_update.html), cut down to three forms of one row.
use Rattle.std.specs.Prelude.{ℕ, ℤ, pos, negsuc, neg_ℤ, ◌^◌, nat_lt, Bool, true, false, not, ◌&&◌, List, [], ◌∷◌, Option, None, Some, is_none, if◌then◌else◌, codes}
use Rattle.std.specs.Str.{str_eq_ignore_ascii_case}
use Rattle.hc_value.specs.declared.value.Value.TheVariants.{Int}
use Rattle.hc_ast.specs.declared.operator.BinaryOp.TheVariants.{Eq}
use Rattle.hc_ast.specs.declared.expression.Expr.{Expr, out-Expr}
use Rattle.hc_ast.specs.declared.expression.Expr.TheOpen.{Expr-F}
use Rattle.hc_ast.specs.declared.query.Item.{Item}
use Rattle.hc_ast.specs.declared.query.Item.TheVariants as item
use Rattle.hc_ast.specs.declared.query.FromTable.{FromTable}
use Rattle.hc_ast.specs.declared.query.Select.{Select}
use Rattle.hc_ast.specs.declared.statement.Assign.{Assign}
use Rattle.hc_ast.specs.declared.statement.ExprRow.{ExprRow}
use Rattle.hc_ast.specs.declared.statement.Stmt.{Stmt}
use Rattle.hc_ast.specs.declared.statement.Stmt.TheVariants as stmt
use Rattle.hc_transcript.specs.declared.reply.Line.TheVariants.{Ok, Error}
use Rattle.hc_transcript.specs.declared.refusal.Refusal.TheVariants.{Primary, Syntax}
use Rattle.hc_meaning.specs.declared.answer.Answer.{Answer}
use Rattle.hc_table.specs.declared.action.Action.{Action}
use Rattle.hc_table.specs.declared.action.Action.TheVariants.{Inserts, Selects, Updates}

-- ---- which statements are of these forms

-- an integer, or a minus before one
abbrev pub number_below_minus : Expr-F Expr → Option ℤ
number_below_minus (Expr-F.Value (Int n)) = Some (neg_ℤ n)
number_below_minus other = None

abbrev pub number_in : Expr-F Expr → Option ℤ
number_in (Expr-F.Value (Int n)) = Some n
number_in (Expr-F.Minus operand) = number_below_minus (out-Expr operand)
number_in other = None

abbrev pub number_of : Expr → Option ℤ
number_of e = number_in (out-Expr e)

-- a column without its table's name
abbrev pub is_column : List ℕ → Expr-F Expr → Bool
is_column name (Expr-F.Name None column) = str_eq_ignore_ascii_case name column
is_column name other = false

-- `id = N`
abbrev pub id_in : Expr-F Expr → Option ℤ
id_in (Expr-F.Binary Eq left right) = if is_column (codes "id") (out-Expr left) then number_of right else None
id_in other = None

abbrev pub id_of_filter : Option Expr → Option ℤ
id_of_filter None = None
id_of_filter (Some e) = id_in (out-Expr e)

abbrev pub is_table : List ℕ → Bool
is_table name = str_eq_ignore_ascii_case (codes "t") name

-- `(N, N)`
abbrev pub insertion : Option ℤ → Option ℤ → Option Action
insertion (Some id) (Some v) = Some (Inserts id v)
insertion id v = None

abbrev pub insertion_of : List Expr → Option Action
insertion_of (id ∷ v ∷ []) = insertion (number_of id) (number_of v)
insertion_of values = None

abbrev pub insert_of : Option (List (List ℕ)) → List ExprRow → Option Action
insert_of None (row ∷ []) = insertion_of row.values
insert_of columns rows = None

-- `v`, and no alias
abbrev pub is_v : List Item → Bool
is_v (item.One value None ∷ []) = is_column (codes "v") (out-Expr value)
is_v items = false

-- `t`, and no alias or join
abbrev pub is_from : List FromTable → Bool
is_from (table ∷ []) = is_table table.name && is_none table.alias && not table.joined && is_none table.on
is_from tables = false

abbrev pub is_empty : {A : Type 0} → List A → Bool
is_empty [] = true
is_empty (x ∷ xs) = false

-- no more than the item, the table and the condition is written
abbrev pub is_short : Select → Bool
is_short query = not query.distinct && is_empty query.groups && is_none query.having && is_empty query.order && is_none query.limit && is_none query.offset

abbrev pub selection : Option ℤ → Option Action
selection None = None
selection (Some id) = Some (Selects id)

abbrev pub select_of : Select → Option Action
select_of query = if is_v query.items && is_from query.tables && is_short query then selection (id_of_filter query.filter) else None

-- `v = N`
abbrev pub value_of_sets : List Assign → Option ℤ
value_of_sets (set ∷ []) = if str_eq_ignore_ascii_case (codes "v") set.column then number_of set.value else None
value_of_sets sets = None

abbrev pub update_of : Option ℤ → Option ℤ → Option Action
update_of (Some id) (Some v) = Some (Updates id v)
update_of id v = None

-- the form that a statement has, where it has one
abbrev pub form_of : Stmt → Option Action
form_of (stmt.Insert table columns rows) = if is_table table then insert_of columns rows else None
form_of (stmt.Select query) = select_of query
form_of (stmt.Update table sets filter) = if is_table table then update_of (id_of_filter filter) (value_of_sets sets) else None
form_of other = None

-- an integer of 64 bits
abbrev pub is_integer : ℤ → Bool
is_integer (pos n) = nat_lt n (2 ^ 63)
is_integer (negsuc n) = nat_lt n (2 ^ 63)

abbrev pub has_integers : Action → Bool
has_integers (Inserts id v) = is_integer id && is_integer v
has_integers (Selects id) = is_integer id
has_integers (Updates id v) = is_integer id && is_integer v

-- a form with integers of 64 bits: each that is written has such, since the parser reads no others
abbrev pub if_integers : Option Action → Option Action
if_integers None = None
if_integers (Some action) = if has_integers action then Some action else None

abbrev pub action_of : Stmt → Option Action
action_of statement = if_integers (form_of statement)

-- ---- what they answer and do: they look at the row with one id

abbrev pub id_of : Action → ℤ
id_of (Inserts id v) = id
id_of (Selects id) = id
id_of (Updates id v) = id

-- so many rows were changed
abbrev pub changed : ℕ → Answer
changed count = record { rows = []; last = Ok count }

-- A row with the id is there already: 1555, SQLITE_CONSTRAINT_PRIMARYKEY of SQLite's result codes (rescode.html), with the
-- table and its key column.
abbrev pub repeated : Answer
repeated = record { rows = []; last = Error (Primary (codes "t") (codes "id")) }

-- what is answered, by the value that is there
abbrev pub answer_at : Action → Option ℤ → Answer
answer_at (Inserts id v) None = changed 1
answer_at (Inserts id v) (Some old) = repeated
answer_at (Selects id) None = changed 0
answer_at (Selects id) (Some old) = record { rows = record { values = Int old ∷ [] } ∷ []; last = Ok 1 }
answer_at (Updates id v) None = changed 0
answer_at (Updates id v) (Some old) = changed 1

-- the value that is put there, if one is
abbrev pub put_at : Action → Option ℤ → Option ℤ
put_at (Inserts id v) None = Some v
put_at (Inserts id v) (Some old) = None
put_at (Selects id) old = None
put_at (Updates id v) None = None
put_at (Updates id v) (Some old) = Some v

-- What any other statement answers. The table's language has none that begins so.
abbrev pub no_statement : Answer
no_statement = record { rows = []; last = Error (Syntax 0) }
