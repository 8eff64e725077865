-- The page of the exchange, and the next one that it names.
use Rattle.hc_steps.proofs.grip.Grip.take_page.Given as goal

abbrev pub ghosts-take_page_as : goal.ghosts-take_page_as
ghosts-take_page_as a = record { page = a.p.0; next = a.next }
