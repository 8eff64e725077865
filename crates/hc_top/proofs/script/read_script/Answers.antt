use Rattle.hc_meaning.specs.declared.limits.TheConstants.{MAX_STATEMENTS}
use Rattle.std.proofs.Common.{◌<◌, ◌≤◌, ℕ, List, arith, length}
use Rattle.std.proofs.lemmas.Grind.{common_steps}
use Rattle.hc_meaning.specs.declared.statement.Statement.{Statement}
use Rattle.hc_top.proofs.Progress.{all_read, empty_is_none, filled_is_some, more_are_left, no_next_is_none, nothing_read, one_more}
use Rattle.hc_top.proofs.script.read_script.Goals as goal

pub loop-rest-init : goal.loop-rest-init
loop-rest-init c = record {
  so_far = rw c.new-statements.ensures.items (nothing_read c.args.input.now c.skip_blanks-rest.result.now c.skip_blanks-rest.ensures);
  few = grind (arith, common_steps);
}

pub returns-then-len-ge-MAX_STATEMENTS-clause-unbuilt : goal.returns-then-len-ge-MAX_STATEMENTS-clause-unbuilt
returns-then-len-ge-MAX_STATEMENTS-clause-unbuilt c =
    let rest : List ℕ = c.loop-rest.rest.now in
    let read : List Statement = c.loop-rest.statements.items in
    λ _ scripts is_input.
    let more : length read < length is_input.0 = more_are_left c.args.input.now rest read is_input.0 c.loop-rest.invariant.so_far (filled_is_some rest c.loop-rest-test.ensures) is_input.1 in
    let few : length is_input.0 ≤ MAX_STATEMENTS = is_input.3 in
    grind (arith, common_steps)

pub returns-in_default-clause-unbuilt : goal.returns-in_default-clause-unbuilt
returns-in_default-clause-unbuilt c =
    let rest : List ℕ = c.loop-rest.rest.now in
    λ _ scripts is_input.
    no_next_is_none c.args.input.now rest c.loop-rest.statements.items is_input.0 c.loop-rest.invariant.so_far (filled_is_some rest c.loop-rest-test.ensures) c.in_default.ensures.none is_input.1

pub loop-rest-preserved : goal.loop-rest-preserved
loop-rest-preserved c =
    let bytes : List ℕ = c.loop-rest.rest.now in
    let following : List ℕ = c.in-Some.following.now in
    let rest : List ℕ = c.skip_blanks-rest-in-loop-rest.result.now in
    let read : List Statement = c.loop-rest.statements.items in
    record {
      so_far = rw c.in_ok-push.ensures.items
          (one_more c.args.input.now bytes following rest read c.in-Some.statement c.loop-rest.invariant.so_far (filled_is_some bytes c.loop-rest-test.ensures) c.in-Some.ensures.some c.skip_blanks-rest-in-loop-rest.ensures);
      few = grind (arith, common_steps);
    }

pub returns-clause-read : goal.returns-clause-read
returns-clause-read c =
    all_read c.args.input.now c.loop-rest.rest.now c.loop-rest.statements.items c.loop-rest.invariant.so_far (empty_is_none c.loop-rest.rest.now c.loop-rest-test.ensures)
