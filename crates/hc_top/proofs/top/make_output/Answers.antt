use Rattle.std.proofs.Common.{ap, Err}
use Rattle.std.proofs.lemmas.Result.{err_from_is_err_and}
use Rattle.hc_top.specs.declared.script.ScriptError.{ScriptError}
use Rattle.hc_top.proofs.Right.{right_if_told, cause_of_script}
use Rattle.hc_top.proofs.top.make_output.Goals as goal

pub returns-in_err-statements-clause-cause : goal.returns-in_err-statements-clause-cause
returns-in_err-statements-clause-cause g c =
    let end = err_from_is_err_and c.from_residual-in_err-statements.result c.from_residual-in_err-statements.ensures.1 in
    let none = rw c.deref.ensures.value at c.in_err-statements.ensures.unbuilt in
    rw (end.1, end.2)
    (cause_of_script (g.S.Source.left c.args.source.now) (g.S.Source.left c.read_input.new.source) c.in_ok-input.input.items (g.S.Source.faults c.args.source.now) (g.S.Source.faults c.read_input.new.source) c.in_err-statements.field-0.0 c.in_ok-input.ensures.read (λ is. none (ap (λ (e : ScriptError). Err e) is)))

pub returns-clause-right : goal.returns-clause-right
returns-clause-right g c =
    let script = rw c.deref.ensures.value at c.in_ok-statements.ensures.read in
    let bytes = rw c.deref.ensures.value at c.in_ok-statements.ensures.within_bytes in
    let text = rw c.deref-2.ensures.value at c.in_ok-run_script.ensures in
    right_if_told c.in_ok-input.input.items c.in_ok-run_script.field-0 c.in_ok-statements.statements.items script bytes (g.S.Source.left c.args.source.now) (g.S.Source.left c.read_input.new.source) c.in_ok-input.ensures.read c.in_ok-statements.ensures.within_statements text
