-- A statement that is found bound.
use Rattle.std.proofs.Common.{◌≡◌, ◌∙◌, List, Option, Some, None, Result, Ok, Err, ap}
use Rattle.hc_ast.specs.declared.query.Select.{Select as Query}
use Rattle.hc_ast.specs.declared.statement.Stmt.{Stmt}
use Rattle.hc_ast.specs.declared.statement.Stmt.TheVariants.{Select}
use Rattle.hc_schema.specs.declared.table.Table.{Table}
use Rattle.hc_schema.specs.declared.bound_statement.BoundStmt.{BoundStmt}
use Rattle.hc_schema.specs.Binding.Faults.{Judged, after}
use Rattle.hc_schema.specs.Binding.Statements.{Select as Bound-Select, Binding, binding}
use Rattle.hc_bind.specs.declared.fault.BindFault.{BindFault}
use Rattle.hc_bind.specs.Answers.{Found, has_groups, AnswersQuery, AnswersUngrouped}

pub found_answers : (tables : List Table) (s : Stmt) (j : Judged Binding) (answer : Result (Option BoundStmt) BindFault) → binding tables s ≡ j → Found j answer → AnswersUngrouped tables s answer
found_answers tables s j (Ok None) same h = absurd h
found_answers tables s j (Ok (Some bound)) same h = same ∙ h
found_answers tables s j (Err e) same h = λ fault is. same ∙ h fault is

pub query_answers : (tables : List Table) (s : Stmt) (q : Query) (answer : Result (Option BoundStmt) BindFault) → s ≡ Select q → AnswersQuery tables q answer → AnswersUngrouped tables s answer
query_answers tables s q (Ok None) is h = ap has_groups is ∙ h
query_answers tables s q (Ok (Some bound)) is h = ap (binding tables) is ∙ h
query_answers tables s q (Err e) is h = λ fault why. ap (binding tables) is ∙ ap (λ j. after j (λ b. Ok (Bound-Select b))) (h fault why)
