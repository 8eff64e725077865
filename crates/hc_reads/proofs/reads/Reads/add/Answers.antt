use Rattle.std.proofs.Common.{◌≡◌, refl, sym, subst, List, ◌++◌}
use Rattle.hc_range.specs.declared.range.Range.{Range}
use Rattle.hc_reads.specs.Gathered.{HaveSameKeys}
use Rattle.hc_reads.proofs.SameKeys.{added_to_same, keys_pushed}
use Rattle.hc_reads.proofs.reads.Reads.add.Goals as goal

pub returns-clause-added : goal.returns-clause-added
returns-clause-added c =
    added_to_same c.args.self.now (c.self.inside.log ++ c.self.inside.waiting.items) _ c.in_ok-copy.copy c.args.range.now
    (subst (λ (ranges : List Range). HaveSameKeys c.args.self.now ranges) (sym c.self.view_is) c.settle_many.ensures) c.in_ok-copy.ensures
    (keys_pushed c.self.inside.log c.self.inside.waiting.items c.push.new.self.items c.in_ok-copy.copy _ refl c.in_ok-push.ensures.items)
