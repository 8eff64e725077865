use Rattle.std.proofs.Common.{◌∙◌, ◌<◌, ◌≤◌, arith, subst, sym}
use Rattle.hc_core.specs.Account.{txns}
use Rattle.hc_core.specs.Running.{greatest_ord}
use Rattle.hc_txn_tests.proofs.Lanes.{begun_ord, ended_ord, reads_ord}
use Rattle.hc_txn_tests.proofs.example.count_up.Goals as goal

pub commit-requires-clause-ord : goal.commit-requires-clause-ord
commit-requires-clause-ord g c =
    (subst (λ n. n < c.args.ord) (sym (reads_ord _ _ _ c.write.ensures.reads ∙ reads_ord _ _ _ c.get.ensures.reads ∙ begun_ord _ _ _ _ c.begin-txn.ensures.entry)) c.requires.ord.0, c.requires.ord.1)

pub returns-in-Err-clause-ord : goal.returns-in-Err-clause-ord
returns-in-Err-clause-ord g c =
    let low : greatest_ord (txns (g.D.Desk.account c.args.desk.now)) ≤ c.args.ord = omega (arith, c.requires.ord.0) in
    subst (λ n. n ≤ c.args.ord) (sym (ended_ord _ _ _ c.rollback.ensures.entry ∙ reads_ord _ _ _ c.in-Err.ensures.reads ∙ begun_ord _ _ _ _ c.begin-txn.ensures.entry)) low

pub returns-in-Err-write-clause-ord : goal.returns-in-Err-write-clause-ord
returns-in-Err-write-clause-ord g c =
    let low : greatest_ord (txns (g.D.Desk.account c.args.desk.now)) ≤ c.args.ord = omega (arith, c.requires.ord.0) in
    subst (λ n. n ≤ c.args.ord)
    (sym (ended_ord _ _ _ c.rollback-in-Err-write.ensures.entry ∙ reads_ord _ _ _ c.in-Err-write.ensures.reads ∙ reads_ord _ _ _ c.get.ensures.reads ∙ begun_ord _ _ _ _ c.begin-txn.ensures.entry))
    low
