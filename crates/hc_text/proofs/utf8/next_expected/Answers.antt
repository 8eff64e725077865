use Rattle.std.proofs.Common.{sym, subst}
use Rattle.std.specs.Prelude.{IfNone, IfSome}
use Rattle.hc_text.specs.declared.utf8.Expected.{Expected}
use Rattle.hc_text.specs.Utf8.{IsNext, IsRefused}
use Rattle.hc_text.proofs.Ends.{may_end, may_not_end}
use Rattle.hc_text.proofs.utf8.next_expected.Goals as goal

pub returns-in-Character-clause-refused : goal.returns-in-Character-clause-refused
returns-in-Character-clause-refused c = subst (λ (e : Expected). IfNone c.after_first.result (IsRefused e c.args.byte)) (sym c.in-Character.is) c.after_first.ensures.refused

pub returns-in-Character-clause-goes_on : goal.returns-in-Character-clause-goes_on
returns-in-Character-clause-goes_on c =
    may_not_end c.args.expected c.args.byte c.after_first.result c.requires
    (subst (λ (e : Expected). IfNone c.after_first.result (IsRefused e c.args.byte)) (sym c.in-Character.is) c.after_first.ensures.refused)

pub returns-in-Following-clause-ends : goal.returns-in-Following-clause-ends
returns-in-Following-clause-ends c =
    may_end c.args.expected c.args.byte c.after_later.result c.requires
    (subst (λ (e : Expected). IfSome c.after_later.result (IsNext e c.args.byte)) (sym c.in-Following.is) c.after_later.ensures.next)

pub returns-in-Following-clause-goes_on : goal.returns-in-Following-clause-goes_on
returns-in-Following-clause-goes_on c =
    may_not_end c.args.expected c.args.byte c.after_later.result c.requires
    (subst (λ (e : Expected). IfNone c.after_later.result (IsRefused e c.args.byte)) (sym c.in-Following.is) c.after_later.ensures.refused)
