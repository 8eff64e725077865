-- The statements so far are those of the input up to what is left, of which each turn takes some.
use Rattle.hc_meaning.specs.declared.limits.TheConstants.{MAX_STATEMENTS}
use Rattle.std.proofs.Common.{◌≤◌, length}
use Rattle.hc_top.proofs.Progress.{ReadSoFar}
use Rattle.hc_top.proofs.script.read_script.Given as goal

abbrev pub invariant-loop-rest : goal.invariant-loop-rest
invariant-loop-rest l = record {
  so_far : ReadSoFar l.fn.input l.statements.items l.rest;
  few : length l.statements.items ≤ MAX_STATEMENTS;
}

abbrev pub decreases-loop-rest : goal.decreases-loop-rest
decreases-loop-rest l = length l.rest
