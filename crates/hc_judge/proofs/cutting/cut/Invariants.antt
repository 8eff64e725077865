-- The commands so far are cut, and what is left says what the whole is cut into.
use Rattle.hc_judge.proofs.Walks.{HasCome}
use Rattle.hc_judge.proofs.cutting.cut.Given as goal

abbrev pub invariant-loop-at : goal.invariant-loop-at
invariant-loop-at l = HasCome l.script.conn l.commands l.replies l.at l.walk
