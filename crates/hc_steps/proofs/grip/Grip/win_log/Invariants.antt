-- The exchange of the step.
use Rattle.hc_steps.proofs.grip.Grip.win_log.Given as goal

abbrev pub ghosts-win_log_as : goal.ghosts-win_log_as
ghosts-win_log_as a = record { winning = record { conn = a.conn; c = a.c.0; id = a.t.0; last = a.layout.now.transactions } }
