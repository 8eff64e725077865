use Rattle.hc_test_pages.proofs.SmallPages.{found_entry}
use Rattle.hc_test_pages.proofs.shown.tid_at.Goals as goal

pub entry-requires : goal.entry-requires
entry-requires c =
    let h = c.requires in
    let there = found_entry h.0 c.args.key.now c.in-At.at h.1.page.content (c.in-At.ensures.found h.0 h.1.page) in
    record { leaf = (h.0, there.0, h.1.page, h.1.leaf, there.1) }
