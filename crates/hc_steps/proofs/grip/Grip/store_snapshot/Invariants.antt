-- The store of the step.
use Rattle.hc_steps.proofs.grip.Grip.store_snapshot.Given as goal

abbrev pub ghosts-store_seat_as : goal.ghosts-store_seat_as
ghosts-store_seat_as a = record { store = record { word = a.w; conn = a.conn } }
