-- The store of the step.
use Rattle.hc_steps.proofs.grip.Grip.store_tid.Given as goal

abbrev pub ghosts-store_tid_as : goal.ghosts-store_tid_as
ghosts-store_tid_as a = record { store = record { conn = a.conn; id = a.t.0; word = a.w } }
