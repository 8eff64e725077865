-- The key is within no fences.
use Rattle.std.proofs.Common.{refl, arith, Some, None}
use Rattle.hc_base.specs.Content.{Entry, Version}
use Rattle.hc_page.specs.Puts.{with_entry}
use Rattle.hc_page.proofs.Open.{bytes_are, can_put, put_open}
use Rattle.hc_page_bench.proofs.leaf.put.Goals as goal

pub with_put-requires : goal.with_put-requires
with_put-requires c =
    let h = c.requires.leaf in
    let key = c.args.key.now in
    let e : Entry = record { key = key; held = Version (record { 0 = 1 }) (Some key) None } in
    let bytes = bytes_are key (omega (arith, c.requires.key)) c.type_inv.key in
    record { put = (h.0, can_put c.args.page.now.words e h.0 h.1 ((omega arith, bytes, tt), bytes) ((c.if-not-fits.ensures.fits h.0 (record { 0 = 1 }) (Some key) None h.1.page refl).0 refl)) }

pub returns : goal.returns
returns c =
    let h = c.requires.leaf in
    let key = c.args.key.now in
    let e : Entry = record { key = key; held = Version (record { 0 = 1 }) (Some key) None } in
    let bytes = bytes_are key (omega (arith, c.requires.key)) c.type_inv.key in (
      with_entry h.0 e,
      put_open c.args.page.now.words c.with_put.new.out.words e h.0 h.1
          (c.with_put.ensures.page h.0 (can_put c.args.page.now.words e h.0 h.1 ((omega arith, bytes, tt), bytes) ((c.if-not-fits.ensures.fits h.0 (record { 0 = 1 }) (Some key) None h.1.page refl).0 refl))),
    )
