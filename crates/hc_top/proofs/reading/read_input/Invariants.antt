-- The input so far is what was taken from the front of the source, and the count has not fallen.
use Rattle.std.proofs.Common.{◌-◌, vec_len}
use Rattle.hc_top.proofs.StreamSteps.{ReadSoFar}
use Rattle.hc_top.proofs.reading.read_input.Given as goal

abbrev pub invariant-loop-input : goal.invariant-loop-input
invariant-loop-input g l =
    ReadSoFar (g.S.Source.left l.fn.source) (g.S.Source.left l.source) l.input.items (vec_len l.input) (vec_len l.buffer) (g.S.Source.faults l.fn.source) (g.S.Source.faults l.source)

-- each read brings a byte at least, or ends the loop
abbrev pub decreases-loop-input : goal.decreases-loop-input
decreases-loop-input g l = 16777217 - vec_len l.input
