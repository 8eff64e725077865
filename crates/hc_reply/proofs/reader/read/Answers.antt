use Rattle.std.proofs.Common.{◌≡◌, ◌∙◌, sym, subst}
use Rattle.std.proofs.lemmas.Result.{IfOk-weaker}
use Rattle.hc_transcript.specs.Outputs.{IsTextOf}
use Rattle.hc_reply.specs.Lines.{IsExpected, output_line_text}
use Rattle.hc_reply.specs.Faults.{IsReplyFault}
use Rattle.hc_reply.specs.ParserStates.{finish}
use Rattle.hc_reply.specs.Mismatches.{Anything, MismatchIn}
use Rattle.hc_reply.proofs.Outputs.{stop_is_fault, fault_of_none, read_on, read_all, at_turn}
use Rattle.hc_reply.proofs.reader.read.Goals as goal

pub loop-rest-preserved : goal.loop-rest-preserved
loop-rest-preserved c =
    let found = c.in-Ok.ensures.found in
    read_on c.args.bytes.now c.loop-rest.rest.now c.loop-rest.state c.loop-rest.invariant c.in-Ok.line c.in-Ok.left.now c.step.new.state
    (at_turn (λ t n. IsExpected t n c.in-Ok.line) c.allowed_of.ensures c.low_of.ensures found.0) found.1 c.in_ok-step-in-Ok.ensures.after

pub returns-in-Err-clause-only : goal.returns-in-Err-clause-only
returns-in-Err-clause-only c = λ ts is.
    c.fault_of.ensures ∙
    fault_of_none c.args.bytes.now c.loop-rest.rest.now c.loop-rest.state c.loop-rest.invariant (c.is_end.ensures.more c.loop-rest-test.true) c.in-Err.mismatch
    (at_turn (λ t n. MismatchIn Anything (IsExpected t n) output_line_text c.loop-rest.rest.now c.in-Err.mismatch) c.allowed_of.ensures c.low_of.ensures c.in-Err.ensures.stop) ts is.0 is.1

pub returns-in-Err-clause-fault : goal.returns-in-Err-clause-fault
returns-in-Err-clause-fault c =
    subst (IsReplyFault c.args.bytes.now) (sym c.fault_of.ensures)
    (stop_is_fault c.args.bytes.now c.loop-rest.rest.now c.loop-rest.state c.loop-rest.invariant (c.is_end.ensures.more c.loop-rest-test.true) c.in-Err.mismatch
    (at_turn (λ t n. MismatchIn Anything (IsExpected t n) output_line_text c.loop-rest.rest.now c.in-Err.mismatch) c.allowed_of.ensures c.low_of.ensures c.in-Err.ensures.stop))

pub returns-clause-found : goal.returns-clause-found
returns-clause-found c =
    let end = c.is_end.ensures.end c.loop-rest-test.false in
    IfOk-weaker c.finish.result (λ ts. ts ≡ finish c.loop-rest.state) (IsTextOf c.args.bytes.now)
    (λ ts is. read_all c.args.bytes.now c.loop-rest.rest.now c.loop-rest.state c.loop-rest.invariant end.0 end.1 ts is) c.finish.ensures.all
