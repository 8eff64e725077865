-- With all entries the draft is the whole page.
use Rattle.std.proofs.Common.{refl}
use Rattle.hc_page.proofs.CopyingOn.{whole_is, same_is}
use Rattle.hc_page.proofs.validity.write_with.Goals as goal

pub finish-requires : goal.finish-requires
finish-requires c = record { whole = whole_is c.args.page.now.words c.args.head.now c.in-Some.draft c.copy_all.new.out.words c.in-Some.ensures.some c.count-total.result c.count-total.ensures (c.is_enough.ensures.0 c.if-not-is_enough.false) }

pub returns-in-Some-clause-same : goal.returns-in-Some-clause-same
returns-in-Some-clause-same c = λ d page.
    (refl, c.finish.ensures.page d (same_is c.args.page.now.words c.args.head.now c.in-Some.draft c.copy_all.new.out.words c.in-Some.ensures.some c.count-total.result c.count-total.ensures (c.is_enough.ensures.0 c.if-not-is_enough.false) d page))
