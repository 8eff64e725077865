-- The statements do what was worked out by hand.
use Rattle.std.proofs.Common.{ap, pos, negsuc, Option}
use Rattle.hc_ast.specs.declared.expression.Expr.TheVariants as expr
use Rattle.hc_meaning.specs.Runs.Language.{Effect}
use Rattle.hc_table.specs.Rows.{Rows}
use Rattle.hc_table.specs.declared.action.Action.{Action}
use Rattle.hc_table.specs.Statements.{if_integers}
use Rattle.hc_table.specs.Language.{effect}
use Rattle.hc_table.specs.Examples.{StatementsDoSo, written, two_rows}
use Rattle.hc_table.proofs.TakenForms.{each_form}

-- what a form does to the two rows
abbrev done : Option Action → Effect Rows
done form = effect two_rows (if_integers form)

pub they_do : StatementsDoSo
they_do = record {
  put = ap done (each_form.insert (written (pos 2)) (expr.Minus (written (pos 20))) (pos 2) (negsuc 19) (each_form.number (pos 2)) (each_form.minus (pos 20)));
  taken = ap done (each_form.insert (written (pos 3)) (written (pos 31)) (pos 3) (pos 31) (each_form.number (pos 3)) (each_form.number (pos 31)));
  read = ap done (each_form.select (written (pos 3)) (pos 3) (each_form.number (pos 3)));
  absent = ap done (each_form.select (written (pos 2)) (pos 2) (each_form.number (pos 2)));
  changed = ap done (each_form.update (written (pos 3)) (written (pos 31)) (pos 3) (pos 31) (each_form.number (pos 3)) (each_form.number (pos 31)));
  unchanged = ap done (each_form.update (written (pos 2)) (written (pos 21)) (pos 2) (pos 21) (each_form.number (pos 2)) (each_form.number (pos 21)));
}
