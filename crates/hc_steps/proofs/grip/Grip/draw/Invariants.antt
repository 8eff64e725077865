-- The draw of the step.
use Rattle.hc_steps.proofs.grip.Grip.draw.Given as goal

abbrev pub ghosts-draw_as : goal.ghosts-draw_as
ghosts-draw_as a = record { drawing = record { conn = a.conn; id = a.t.0; ord = a.ord } }
