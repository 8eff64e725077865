-- The pairs so far are cut.
use Rattle.hc_judge.proofs.Pairings.{HasCutPairs}
use Rattle.hc_judge.proofs.pairing.cut_all.Given as goal

abbrev pub invariant-loop-pair : goal.invariant-loop-pair
invariant-loop-pair l = HasCutPairs l.pairs l.pair-index l.transactions.items
