-- The directory has it, but for the end of all entries.
use Rattle.std.proofs.Common.{◌<◌, length, ◌∙◌, arith}
use Rattle.hc_page.proofs.Entries.{entry_there, place_is}
use Rattle.hc_page.proofs.Sizes.{words_read}
use Rattle.hc_split.proofs.reading.end_of.Goals as goal

pub returns-else-slot-count-clause-small : goal.returns-else-slot-count-clause-small
returns-else-slot-count-clause-small c =
    let h = c.requires.there in
    let within : c.args.slot < length h.0.entries = omega (arith, h.1.in_list, c.count.ensures.count h.0 h.1.page, c.if-slot-count.false) in
    let there = entry_there h.0.entries c.args.slot within in
    let r = words_read c.args.page.now.words h.0 c.args.slot there.0 h.1.page there.1 in omega (arith, r.some, c.place.ensures)

pub returns-else-slot-count-clause-end : goal.returns-else-slot-count-clause-end
returns-else-slot-count-clause-end c = λ d has.
    let within : c.args.slot < length d.entries = omega (arith, has.in_list, c.count.ensures.count d has.page, c.if-slot-count.false) in
    c.place.ensures ∙ place_is c.args.page.now.words d c.args.slot has.page within
