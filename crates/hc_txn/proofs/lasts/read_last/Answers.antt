use Rattle.std.proofs.Common.{◌≡◌, ◌∙◌, refl, subst, List, Option, Result, Ok, Err, IfOk}
use Rattle.hc_range.specs.declared.range.Range.{Range}
use Rattle.hc_reads.specs.Gathered.{HaveSameKeys}
use Rattle.hc_core.specs.declared.cells.Cell.{Cell}
use Rattle.hc_txn.specs.Lasts.{part_from}
use Rattle.hc_txn.specs.Transactions.{LogsRangeToo}
use Rattle.hc_txn.proofs.LastRead.{logged_from, range_from}
use Rattle.hc_txn.proofs.Logging.{kept_logged}
use Rattle.hc_txn.proofs.lasts.read_last.Goals as goal

whole_from : {E : Type 0} (r : Result (Option Cell) E) (range : Range) (log mid more : List Range) → HaveSameKeys log mid → IfOk r (λ found. LogsRangeToo (part_from range found) mid more)
    → IfOk r (λ found. LogsRangeToo (part_from range found) log more)
whole_from (Ok found) range log mid more same h = range_from (part_from range found) log mid more same h
whole_from (Err f) range log mid more same h = h

pub returns-in-Ok-clause-logged : goal.returns-in-Ok-clause-logged
returns-in-Ok-clause-logged g c =
    logged_from _ c.args.range.now _ _ c.args.log.now c.in-Ok.prepared.log _
    (subst (λ (log : List Range). HaveSameKeys log c.in-Ok.prepared.log) c.replace-taken.ensures.value c.in-Ok.ensures.prepared.1) c.last_prepared-after.ensures.logged

pub returns-in-Ok-clause-whole : goal.returns-in-Ok-clause-whole
returns-in-Ok-clause-whole g c =
    whole_from _ c.args.range.now c.args.log.now c.in-Ok.prepared.log _
    (subst (λ (log : List Range). HaveSameKeys log c.in-Ok.prepared.log) c.replace-taken.ensures.value c.in-Ok.ensures.prepared.1) c.last_prepared-after.ensures.whole

pub returns-in-Err-clause-logged : goal.returns-in-Err-clause-logged
returns-in-Err-clause-logged g c =
    kept_logged _ c.args.range.now _ _ c.args.log.now c.in-Err.before refl (subst (λ (log : List Range). HaveSameKeys log c.in-Err.before) c.replace-taken.ensures.value c.in-Err.ensures.no_memory)
