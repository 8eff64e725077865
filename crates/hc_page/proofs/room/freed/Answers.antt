-- None, or the entry's own words.
use Rattle.std.proofs.Common.{length, sym, ap, ◌∙◌, arith, append-nil}
use Rattle.std.proofs.lemmas.Option.{get_or_from_slice_get}
use Rattle.hc_base.specs.Layout.{all_words, entry_words}
use Rattle.hc_page.proofs.Entries.{entry_there}
use Rattle.hc_page.proofs.Freed.{one_between}
use Rattle.hc_page.proofs.Sizes.{words_read, copied_is}
use Rattle.hc_page.proofs.room.freed.Goals as goal

pub offset_bounds-page-first : goal.offset_bounds-page-first
offset_bounds-page-first c =
    let can = c.requires.gap.1 in
    let there = entry_there c.requires.gap.0.entries c.args.gap.before (omega (arith, can.in_list, can.order, c.if-gap.false)) in
    let r = words_read c.args.page.now.words c.requires.gap.0 c.args.gap.before there.0 can.page there.1 in omega (arith, r.some, c.place-first.ensures)

pub bounds-page-first : goal.bounds-page-first
bounds-page-first c =
    let can = c.requires.gap.1 in
    let there = entry_there c.requires.gap.0.entries c.args.gap.before (omega (arith, can.in_list, can.order, c.if-gap.false)) in
    let r = words_read c.args.page.now.words c.requires.gap.0 c.args.gap.before there.0 can.page there.1 in omega (arith, r.some, c.place-first.ensures)

pub returns : goal.returns
returns c =
    let words = c.args.page.now.words in
    let b = c.args.gap.before in
    let a = c.args.gap.after in
    let can = c.requires.gap.1 in
    let there = entry_there c.requires.gap.0.entries b (omega (arith, can.in_list, can.order, c.if-gap.false)) in
    let mine = copied_is words b c.place-first.result c.level.result c.entry_len.result there.0 (words_read words c.requires.gap.0 b there.0 can.page there.1) (omega arith) c.level.ensures c.place-first.ensures c.entry_len.ensures in
    record {
      small = omega (arith, mine.2);
      freed = λ d its.
          let its_there = entry_there d.entries b (omega (arith, its.in_list, its.order, c.if-gap.false)) in
          let read = copied_is words b c.place-first.result c.level.result c.entry_len.result its_there.0 (words_read words d b its_there.0 its.page its_there.1) (omega arith) c.level.ensures c.place-first.ensures c.entry_len.ensures in
          let one = one_between d.entries b a its_there.0 (omega (arith, its.near, its.order, c.if-gap.false)) (omega (arith, its.in_list, its.order, c.if-gap.false)) (get_or_from_slice_get d.entries b its_there.0 its_there.0 its_there.1) in
          read.0 ∙ sym (ap (λ es. length (all_words es)) one ∙ ap (λ ws. length ws) (append-nil (entry_words its_there.0)));
    }
