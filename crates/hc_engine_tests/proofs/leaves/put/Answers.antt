-- The key is within no fences.
use Rattle.std.proofs.Common.{refl, sym}
use Rattle.hc_page.specs.Drafts.{entry_of}
use Rattle.hc_page.specs.Puts.{with_entry}
use Rattle.hc_page.proofs.Open.{can_put, put_open}
use Rattle.hc_engine_tests.proofs.leaves.put.Goals as goal

pub with_put-requires : goal.with_put-requires
with_put-requires c =
    let h = c.requires.leaf in
    record { put = (h.0, can_put c.args.page.now.words (entry_of c.args.new.now) h.0 h.1 c.requires.entry ((c.if-not-fits.ensures.fits h.0 _ _ _ h.1.page (sym c.rec_len.ensures)).0 refl)) }

pub returns : goal.returns
returns c =
    let h = c.requires.leaf in
    let e = entry_of c.args.new.now in (
      with_entry h.0 e,
      put_open c.args.page.now.words c.with_put.new.out.words e h.0 h.1
          (c.with_put.ensures.page h.0 (can_put c.args.page.now.words e h.0 h.1 c.requires.entry ((c.if-not-fits.ensures.fits h.0 _ _ _ h.1.page (sym c.rec_len.ensures)).0 refl))),
    )
