-- The entry is on the page, and its first word tells the child.
use Rattle.std.proofs.Common.{◌<◌, arith}
use Rattle.hc_page.proofs.Versions.{child_read}
use Rattle.hc_page.proofs.Entries.{level_is}
use Rattle.hc_page.proofs.entry_at.child.Goals as goal

pub offset_bounds-page-first : goal.offset_bounds-page-first
offset_bounds-page-first c =
    let h = c.requires.inner in
    let r = child_read c.args.page.now.words h.0 c.args.slot h.1 h.2 h.3 h.4 in omega (arith, r.room, c.place-first.ensures)

pub bounds-page-first : goal.bounds-page-first
bounds-page-first c =
    let h = c.requires.inner in
    let r = child_read c.args.page.now.words h.0 c.args.slot h.1 h.2 h.3 h.4 in omega (arith, r.room, c.place-first.ensures)

pub returns : goal.returns
returns c = record {
  child = λ d entry page there.
      let h = c.requires.inner in
      let words = c.args.page.now.words in
      let inner : 0 < d.level = omega (arith, h.3, level_is words h.0 h.2, level_is words d page) in
      let r = child_read words d c.args.slot entry page inner there in
      rw c.place-first.ensures r.tells;
}
