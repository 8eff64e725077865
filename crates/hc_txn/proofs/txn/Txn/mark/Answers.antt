use Rattle.std.proofs.Common.{ℕ, List, sym, subst, length, arith}
use Rattle.hc_txn.specs.Marks.{IsNested}
use Rattle.hc_txn.specs.declared.marks.MarkAt.{MarkAt}
use Rattle.hc_txn.proofs.Earlier.{nested_in}
use Rattle.hc_txn.proofs.txn.Txn.mark.Goals as goal

pub invariant_of-self-2 : goal.invariant_of-self-2
invariant_of-self-2 c =
    subst (λ (marks : List MarkAt). IsNested (length c.self.inside.own.own) marks) (sym c.in_ok-push_front.ensures.items)
    (omega (arith, c.len-count.ensures), subst (λ (n : ℕ). IsNested n c.self.inside.marks) (sym c.len-count.ensures) (nested_in c.self.inside.statement (length c.self.inside.own.own) c.self.inside.marks c.self.invariant))
