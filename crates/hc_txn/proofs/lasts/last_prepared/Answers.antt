use Rattle.std.proofs.Common.{◌≡◌, subst, ℕ, ◌<◌, Some, None, List, get_or, ◌⊎◌, ◌↔◌}
use Rattle.hc_range.specs.declared.range.Range.{Range}
use Rattle.hc_range.specs.Ranges.{InAny, InRange}
use Rattle.hc_txn.specs.Transactions.{LogsRangeToo}
use Rattle.hc_txn.proofs.LastRead.{last_read, logged_last, none_read}
use Rattle.hc_txn.proofs.Logging.{nothing_logged}
use Rattle.hc_txn.proofs.lasts.last_prepared.Goals as goal

-- what was united is the part of the range from the key on
from_key : (log more : List Range) (prepared range : Range) (key lo : List ℕ) → prepared ≡ range → key ≡ lo
    → ((k : List ℕ) → InAny more k ↔ (InAny log k ⊎ InRange (record { lo = key; hi = prepared.hi }) k)) → LogsRangeToo (record { lo = lo; hi = range.hi }) log more
from_key log more prepared range key lo e f h =
    subst (λ (r : Range). LogsRangeToo (record { lo = lo; hi = r.hi }) log more) e (subst (λ (k : List ℕ). LogsRangeToo (record { lo = k; hi = prepared.hi }) log more) f h)

pub returns-in-Some-clause-last : goal.returns-in-Some-clause-last
returns-in-Some-clause-last g c =
    last_read _ c.args.range.now _ _ _ _ c.pop.new.self c.in-Some.cell c.new.ensures (c.in-Ok-true.ensures.some c.in-Ok-true.field-0-test) c.in-Some.ensures
    (subst (λ (bytes : List ℕ). (i : ℕ) → get_or bytes i 0 < 256) c.as_slice.ensures c.are_bytes.ensures)

pub returns-in-Some-clause-whole : goal.returns-in-Some-clause-whole
returns-in-Some-clause-whole g c =
    from_key c.args.prepared.log c.unite_from-log.result c.args.prepared.range c.args.range.now c.as_slice-in-Ok-true.result.now c.in-Some.cell.key c.requires.prepared c.as_slice-in-Ok-true.ensures c.unite_from-log.ensures

pub returns-in-Some-clause-logged : goal.returns-in-Some-clause-logged
returns-in-Some-clause-logged g c =
    logged_last _ c.args.range.now (Some c.in-Some.cell) _ _ c.args.prepared.log c.unite_from-log.result
    (last_read _ c.args.range.now _ _ _ _ c.pop.new.self c.in-Some.cell c.new.ensures (c.in-Ok-true.ensures.some c.in-Ok-true.field-0-test) c.in-Some.ensures
    (subst (λ (bytes : List ℕ). (i : ℕ) → get_or bytes i 0 < 256) c.as_slice.ensures c.are_bytes.ensures))
    (from_key c.args.prepared.log c.unite_from-log.result c.args.prepared.range c.args.range.now c.as_slice-in-Ok-true.result.now c.in-Some.cell.key c.requires.prepared c.as_slice-in-Ok-true.ensures c.unite_from-log.ensures)

pub returns-in-Ok-false-clause-last : goal.returns-in-Ok-false-clause-last
returns-in-Ok-false-clause-last g c = none_read _ c.args.range.now _ _ _ _ (c.in-Ok-false.ensures.none c.in-Ok-false.field-0-test)

pub returns-in-Ok-false-clause-whole : goal.returns-in-Ok-false-clause-whole
returns-in-Ok-false-clause-whole g c = subst (λ (range : Range). LogsRangeToo range c.args.prepared.log c.unite.result) c.requires.prepared c.unite.ensures

pub returns-in-Ok-false-clause-logged : goal.returns-in-Ok-false-clause-logged
returns-in-Ok-false-clause-logged g c =
    logged_last _ c.args.range.now None _ _ c.args.prepared.log c.unite.result (none_read _ c.args.range.now _ _ _ _ (c.in-Ok-false.ensures.none c.in-Ok-false.field-0-test))
    (subst (λ (range : Range). LogsRangeToo range c.args.prepared.log c.unite.result) c.requires.prepared c.unite.ensures)

pub returns-in-Err-clause-logged : goal.returns-in-Err-clause-logged
returns-in-Err-clause-logged g c = nothing_logged _ c.args.range.now _ _ c.args.prepared.log c.cancel.result c.in-Err.ensures.no_memory.0 c.cancel.ensures
