-- The bytes so far are written, and the count has not fallen.
use Rattle.std.proofs.Common.{length, ◌-◌}
use Rattle.hc_top.proofs.StreamSteps.{WrittenSoFar}
use Rattle.hc_top.proofs.writing.write_output.Given as goal

abbrev pub invariant-loop-at : goal.invariant-loop-at
invariant-loop-at g l =
    WrittenSoFar (g.K.Sink.written l.fn.sink) (g.K.Sink.written l.sink) l.output l.at (g.K.Sink.faults l.fn.sink) (g.K.Sink.faults l.sink)

-- each write takes a byte at least
abbrev pub decreases-loop-at : goal.decreases-loop-at
decreases-loop-at g l = length l.output - l.at
