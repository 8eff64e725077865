-- The page and the word of the step.
use Rattle.hc_steps.proofs.grip.Grip.store_row.Given as goal

abbrev pub ghosts-store_row_as : goal.ghosts-store_row_as
ghosts-store_row_as a = record { page = a.p.0; word = a.word }
