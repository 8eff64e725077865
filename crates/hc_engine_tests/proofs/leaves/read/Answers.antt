-- What is found is there.
use Rattle.hc_page.proofs.Open.{found_there}
use Rattle.hc_engine_tests.proofs.leaves.read.Goals as goal

pub entry-requires : goal.entry-requires
entry-requires c =
    let h = c.requires in
    let f = found_there c.args.page.now.words h.0 c.args.key.now c.in-At.slot h.1 (c.in-At.ensures.found h.0 h.1.page) in
    record { leaf = (h.0, f.0, h.1.page, h.1.leaf, f.1) }
