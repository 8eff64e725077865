-- What is found is there, and can go.
use Rattle.hc_page.specs.Puts.{without_entry, CanTake}
use Rattle.hc_page.proofs.Entries.{slice_get_inside}
use Rattle.hc_page.proofs.Open.{found_there, take_open}
use Rattle.hc_engine_tests.proofs.leaves.take_out.Goals as goal

pub returns-in-At : goal.returns-in-At
returns-in-At c =
    let h = c.requires in
    let slot = c.in-At.slot in
    let f = found_there c.args.page.now.words h.0 c.args.key.now slot h.1 (c.in-At.ensures.found h.0 h.1.page) in
    let can : CanTake c.args.page.now.words slot h.0 = record { page = h.1.page; leaf = h.1.leaf; there = slice_get_inside h.0.entries slot f.0 f.1 } in
    (without_entry h.0 slot, take_open c.args.page.now.words c.without.new.out.words slot h.0 h.1 (c.without.ensures.page h.0 can))
