use Rattle.std.proofs.Common.{refl, sym}
use Rattle.hc_page.specs.Drafts.{entry_of}
use Rattle.hc_page.specs.Puts.{with_entry}
use Rattle.hc_test_pages.proofs.SmallPages.{small_put}
use Rattle.hc_test_pages.proofs.small_pages.put.Goals as goal

pub returns : goal.returns
returns c =
    let h = c.requires.leaf in
    let e = entry_of c.args.new.now in
    let page = c.with_put.ensures.page h.0 (record {
      page = h.1.page;
      leaf = h.1.leaf;
      entry = c.requires.small.0;
      within = c.if-not-is_within.ensures h.0 h.1.page refl;
      fits = (c.if-not-fits.ensures.fits h.0 _ _ _ h.1.page (sym c.rec_len.ensures)).0 refl;
    }) in
    (with_entry h.0 e, record { page = page; leaf = h.1.leaf }, small_put e h.0.entries c.requires.small.1 h.2)
