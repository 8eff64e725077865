-- The id of the step.
use Rattle.hc_steps.proofs.grip.Grip.load_tid.Given as goal

abbrev pub ghosts-load_tid_as : goal.ghosts-load_tid_as
ghosts-load_tid_as a = record { id = a.t.0 }
