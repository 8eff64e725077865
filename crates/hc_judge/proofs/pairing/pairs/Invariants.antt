-- The scripts so far are paired.
use Rattle.hc_judge.proofs.Pairings.{HasPaired}
use Rattle.hc_judge.proofs.pairing.pairs.Given as goal

abbrev pub invariant-loop-script : goal.invariant-loop-script
invariant-loop-script l = HasPaired l.scripts l.transcripts l.script-index l.pairs.items
