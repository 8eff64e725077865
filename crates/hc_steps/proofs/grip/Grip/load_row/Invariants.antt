-- The page and the word of the step.
use Rattle.hc_steps.proofs.grip.Grip.load_row.Given as goal

abbrev pub ghosts-load_row_as : goal.ghosts-load_row_as
ghosts-load_row_as a = record { page = a.p.0; word = a.word }
