-- The load of the step.
use Rattle.hc_steps.proofs.grip.Grip.load_log.Given as goal

abbrev pub ghosts-load_log_as : goal.ghosts-load_log_as
ghosts-load_log_as g a = record { load = record { kind = g.kind; conn = a.conn; c = a.c.0; last = a.layout.now.transactions } }
