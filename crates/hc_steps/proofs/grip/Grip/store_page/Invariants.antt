-- The page of the store, and what is stored.
use Rattle.hc_steps.proofs.grip.Grip.store_page.Given as goal

abbrev pub ghosts-store_page_as : goal.ghosts-store_page_as
ghosts-store_page_as a = record { page = a.p.0; form = a.w }
