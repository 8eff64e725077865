-- The trees of the three forms are taken for what they are.
use Rattle.std.proofs.Common.{◌≡◌, ◌∙◌, ap, ℤ, true, if◌then◌else◌, ◌&&◌, [], ◌∷◌, Some, None}
use Rattle.std.specs.Prelude.{codes}
use Rattle.hc_value.specs.declared.value.Value.TheVariants.{Int}
use Rattle.hc_ast.specs.declared.operator.BinaryOp.TheVariants.{Eq}
use Rattle.hc_ast.specs.declared.expression.Expr.{Expr}
use Rattle.hc_ast.specs.declared.expression.Expr.TheVariants as expr
use Rattle.hc_ast.specs.declared.query.Item.TheVariants as item
use Rattle.hc_table.specs.Statements.{number_in, number_of, number_below_minus, is_column, id_in, id_of_filter, is_v, selection, insertion, update_of}
use Rattle.hc_table.specs.Forms.{EachFormIsTaken, column, where_id}

id_found : (id : Expr) (m : ℤ) → number_of id ≡ Some m → id_of_filter (where_id id) ≡ Some m
id_found id m is =
    ap id_in (expr.outs-Binary Eq (column (codes "id")) id)
    ∙ ap (λ name. if is_column (codes "id") name then number_of id else None) (expr.outs-Name None (codes "id"))
    ∙ is

v_asked : is_v (item.One (column (codes "v")) None ∷ []) ≡ true
v_asked = ap (is_column (codes "v")) (expr.outs-Name None (codes "v"))

pub each_form : EachFormIsTaken
each_form = record {
  number = λ n. ap number_in (expr.outs-Value (Int n));
  minus = λ n. ap number_in (expr.outs-Minus (expr.Value (Int n))) ∙ ap number_below_minus (expr.outs-Value (Int n));
  insert = λ id v m n e f. (λ i. insertion (e i) (f i));
  select = λ id m e.
      ap (λ asked. if asked && true && true then selection (id_of_filter (where_id id)) else None) v_asked ∙ ap selection (id_found id m e);
  update = λ id v m n e f. (λ i. update_of (id_found id m e i) (f i));
}
