-- The entry is there, its key is short, and it is within no fences.
use Rattle.std.proofs.Common.{◌≤◌, length, refl, sym, subst}
use Rattle.hc_page.specs.Puts.{with_entry, HasShort, CanPut}
use Rattle.hc_page.proofs.Open.{found_there, can_put, put_open}
use Rattle.hc_engine_tests.proofs.leaves.put_copied.Goals as goal

pub fits_copied-requires-clause-there : goal.fits_copied-requires-clause-there
fits_copied-requires-clause-there c =
    let d = c.requires.from in
    let f = found_there c.args.from.now.words d.0 c.args.key.now c.in-At.slot d.1 (c.in-At.ensures.found d.0 d.1.page) in
    (d.0, f.0, record { page = d.1.page; there = f.1; short = subst (λ k. length k ≤ 463) (sym f.2) c.requires.key })

pub with_copied-requires : goal.with_copied-requires
with_copied-requires c =
    let h = c.requires.leaf in
    let d = c.requires.from in
    let f = found_there c.args.from.now.words d.0 c.args.key.now c.in-At.slot d.1 (c.in-At.ensures.found d.0 d.1.page) in
    let short : HasShort c.args.from.now.words c.in-At.slot d.0 f.0 = record { page = d.1.page; there = f.1; short = subst (λ k. length k ≤ 463) (sym f.2) c.requires.key } in
    record { put = (h.0, d.0, f.0, short, can_put c.args.page.now.words f.0 h.0 h.1 f.3 ((c.if-fits_copied.ensures.fits h.0 d.0 f.0 h.1.page short).0 refl)) }

pub returns-in-At : goal.returns-in-At
returns-in-At c =
    let h = c.requires.leaf in
    let d = c.requires.from in
    let f = found_there c.args.from.now.words d.0 c.args.key.now c.in-At.slot d.1 (c.in-At.ensures.found d.0 d.1.page) in
    let short : HasShort c.args.from.now.words c.in-At.slot d.0 f.0 = record { page = d.1.page; there = f.1; short = subst (λ k. length k ≤ 463) (sym f.2) c.requires.key } in
    let can : CanPut c.args.page.now.words f.0 h.0 = can_put c.args.page.now.words f.0 h.0 h.1 f.3 ((c.if-fits_copied.ensures.fits h.0 d.0 f.0 h.1.page short).0 refl) in
    (with_entry h.0 f.0, put_open c.args.page.now.words c.with_copied.new.out.words f.0 h.0 h.1 (c.with_copied.ensures.page h.0 d.0 f.0 short can))
