use Rattle.std.proofs.Common.{ℕ, ◌≤◌, sym, subst, length, arith}
use Rattle.hc_txn.specs.Marks.{IsNested}
use Rattle.hc_txn.proofs.Earlier.{nested_in}
use Rattle.hc_txn.proofs.txn.Txn.start_statement.Goals as goal

pub invariant_of-self : goal.invariant_of-self
invariant_of-self c =
    subst (λ (n : ℕ). (n ≤ length c.self.inside.own.own) × IsNested n c.self.inside.marks) (sym c.len.ensures)
    (omega arith, nested_in c.self.inside.statement (length c.self.inside.own.own) c.self.inside.marks c.self.invariant)
