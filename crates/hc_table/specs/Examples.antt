-- What the table's statements do to rows that were worked out by hand.
use Rattle.std.specs.Prelude.{◌≡◌, ℤ, pos, negsuc, [], ◌∷◌, codes}
use Rattle.hc_value.specs.declared.value.Value.TheVariants.{Int}
use Rattle.hc_ast.specs.declared.expression.Expr.{Expr}
use Rattle.hc_ast.specs.declared.expression.Expr.TheVariants as expr
use Rattle.hc_transcript.specs.declared.reply.Line.TheVariants.{Ok, Error}
use Rattle.hc_transcript.specs.declared.refusal.Refusal.TheVariants.{Primary}
use Rattle.hc_meaning.specs.declared.answer.Answer.{Answer}
use Rattle.hc_meaning.specs.Runs.Language.{Effect}
use Rattle.hc_table.specs.Rows.{Rows}
use Rattle.hc_table.specs.Forms.{insert_tree, select_tree, update_tree}
use Rattle.hc_table.specs.Language.{table_language}

-- an answer without rows, and the rows that are left
abbrev pub answered : Answer → Rows → Effect Rows
answered answer rows = record { answer = answer; db = rows }

abbrev pub written : ℤ → Expr
written n = expr.Value (Int n)

-- the rows 1, 10 and 3, 30
abbrev pub two_rows : Rows
two_rows = (pos 1, pos 10) ∷ (pos 3, pos 30) ∷ []

pub record StatementsDoSo : Type 0 where
  -- a row is put between two others
  pub put : table_language.run two_rows (insert_tree (written (pos 2)) (expr.Minus (written (pos 20))))
      ≡ answered (record { rows = []; last = Ok 1 }) ((pos 1, pos 10) ∷ (pos 2, negsuc 19) ∷ (pos 3, pos 30) ∷ [])
  -- an id that is there is refused
  pub taken : table_language.run two_rows (insert_tree (written (pos 3)) (written (pos 31)))
      ≡ answered (record { rows = []; last = Error (Primary (codes "t") (codes "id")) }) two_rows
  -- a row is read, and none where there is none
  pub read : table_language.run two_rows (select_tree (written (pos 3)))
      ≡ answered (record { rows = record { values = Int (pos 30) ∷ [] } ∷ []; last = Ok 1 }) two_rows
  pub absent : table_language.run two_rows (select_tree (written (pos 2))) ≡ answered (record { rows = []; last = Ok 0 }) two_rows
  -- a row gets a new value
  pub changed : table_language.run two_rows (update_tree (written (pos 3)) (written (pos 31)))
      ≡ answered (record { rows = []; last = Ok 1 }) ((pos 1, pos 10) ∷ (pos 3, pos 31) ∷ [])
  pub unchanged : table_language.run two_rows (update_tree (written (pos 2)) (written (pos 21))) ≡ answered (record { rows = []; last = Ok 0 }) two_rows
