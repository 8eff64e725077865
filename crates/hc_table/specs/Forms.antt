-- The trees of the three forms, and that they are taken for what they are.
use Rattle.std.specs.Prelude.{◌≡◌, ℕ, ℤ, neg_ℤ, false, List, [], ◌∷◌, Option, None, Some, codes}
use Rattle.hc_value.specs.declared.value.Value.TheVariants.{Int}
use Rattle.hc_ast.specs.declared.operator.BinaryOp.TheVariants.{Eq}
use Rattle.hc_ast.specs.declared.expression.Expr.{Expr}
use Rattle.hc_ast.specs.declared.expression.Expr.TheVariants as expr
use Rattle.hc_ast.specs.declared.query.Item.TheVariants as item
use Rattle.hc_ast.specs.declared.statement.Stmt.{Stmt}
use Rattle.hc_ast.specs.declared.statement.Stmt.TheVariants as stmt
use Rattle.hc_table.specs.declared.action.Action.TheVariants.{Inserts, Selects, Updates}
use Rattle.hc_table.specs.Statements.{number_of, form_of}

abbrev pub column : List ℕ → Expr
column name = expr.Name None name

-- `WHERE id = e`
abbrev pub where_id : Expr → Option Expr
where_id e = Some (expr.Binary Eq (column (codes "id")) e)

-- `INSERT INTO t VALUES (id, v)`
abbrev pub insert_tree : Expr → Expr → Stmt
insert_tree id v = stmt.Insert (codes "t") None (record { values = id ∷ v ∷ [] } ∷ [])

-- `SELECT v FROM t WHERE id = e`
abbrev pub select_tree : Expr → Stmt
select_tree id = stmt.Select (record {
  distinct = false;
  items = item.One (column (codes "v")) None ∷ [];
  tables = record { name = codes "t"; alias = None; joined = false; on = None } ∷ [];
  filter = where_id id;
  groups = [];
  having = None;
  order = [];
  limit = None;
  offset = None;
})

-- `UPDATE t SET v = v WHERE id = id`, with these expressions
abbrev pub update_tree : Expr → Expr → Stmt
update_tree id v = stmt.Update (codes "t") (record { column = codes "v"; value = v } ∷ []) (where_id id)

-- An integer is its number, and so is one with a minus; a tree of each form with two numbers is that form with them.
pub record EachFormIsTaken : Type 0 where
  pub number : (n : ℤ) → number_of (expr.Value (Int n)) ≡ Some n
  pub minus : (n : ℤ) → number_of (expr.Minus (expr.Value (Int n))) ≡ Some (neg_ℤ n)
  pub insert : (id v : Expr) (m n : ℤ) → number_of id ≡ Some m → number_of v ≡ Some n → form_of (insert_tree id v) ≡ Some (Inserts m n)
  pub select : (id : Expr) (m : ℤ) → number_of id ≡ Some m → form_of (select_tree id) ≡ Some (Selects m)
  pub update : (id v : Expr) (m n : ℤ) → number_of id ≡ Some m → number_of v ≡ Some n → form_of (update_tree id v) ≡ Some (Updates m n)
