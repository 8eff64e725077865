use Rattle.std.proofs.Common.{◌∙◌, subst, sym, refl, ℕ, List, Result, Ok, Err, OnOk}
use Rattle.hc_range.specs.declared.range.Range.{Range}
use Rattle.hc_reads.specs.Gathered.{HaveSameKeys}
use Rattle.hc_txn.specs.Transactions.{LogsRangeToo}
use Rattle.hc_txn.proofs.LastRead.{logged_from, range_from}
use Rattle.std.proofs.lemmas.Bool.{true≢false}
use Rattle.hc_range.specs.Ranges.{InRange}
use Rattle.hc_txn.proofs.Logging.{empty_range, empty_read, empty_logged, kept_logged}
use Rattle.hc_txn.proofs.logged.read_logged.Goals as goal

pub returns-then-not-contains-clause-read : goal.returns-then-not-contains-clause-read
returns-then-not-contains-clause-read g c =
    empty_read _ c.args.range.now _ _ (empty_range c.args.range.now (λ inside. true≢false (sym (c.contains.ensures.1 (subst (λ (lo : List ℕ). InRange c.args.range.now lo) (sym c.as_slice.ensures) inside)) ∙ c.if-not-contains.true)))

pub returns-then-not-contains-clause-whole : goal.returns-then-not-contains-clause-whole
returns-then-not-contains-clause-whole g c =
    empty_logged c.args.range.now c.args.log.now (empty_range c.args.range.now (λ inside. true≢false (sym (c.contains.ensures.1 (subst (λ (lo : List ℕ). InRange c.args.range.now lo) (sym c.as_slice.ensures) inside)) ∙ c.if-not-contains.true)))

pub returns-in-Err-clause-logged : goal.returns-in-Err-clause-logged
returns-in-Err-clause-logged g c =
    kept_logged _ c.args.range.now _ _ c.args.log.now c.in-Err.before refl (subst (λ (log : List Range). HaveSameKeys log c.in-Err.before) c.replace-taken.ensures.value c.in-Err.ensures.no_memory)

whole_from : {E : Type 0} (r : Result (Unit {0}) E) (range : Range) (log mid more : List Range) → HaveSameKeys log mid → OnOk r (LogsRangeToo range mid more) → OnOk r (LogsRangeToo range log more)
whole_from (Ok done) range log mid more same h = range_from range log mid more same h
whole_from (Err f) range log mid more same h = h

pub returns-in-Ok-clause-logged : goal.returns-in-Ok-clause-logged
returns-in-Ok-clause-logged g c =
    logged_from _ c.args.range.now _ _ c.args.log.now c.in-Ok.prepared.log _
    (subst (λ (log : List Range). HaveSameKeys log c.in-Ok.prepared.log) c.replace-taken.ensures.value c.in-Ok.ensures.prepared.1) c.read_prepared-after.ensures.logged

pub returns-in-Ok-clause-whole : goal.returns-in-Ok-clause-whole
returns-in-Ok-clause-whole g c =
    whole_from _ c.args.range.now c.args.log.now c.in-Ok.prepared.log _
    (subst (λ (log : List Range). HaveSameKeys log c.in-Ok.prepared.log) c.replace-taken.ensures.value c.in-Ok.ensures.prepared.1) c.read_prepared-after.ensures.whole
