use Rattle.std.proofs.Common.{refl}
use Rattle.hc_core.specs.Account.{after_read}
use Rattle.hc_core.specs.Diary.{entry_of}
use Rattle.hc_core.specs.declared.event.Event.TheVariants.{Read}
use Rattle.hc_core.specs.declared.outcome.Outcome.TheVariants.{Cells}
use Rattle.hc_core.proofs.Conns.{kept_open, open_of}
use Rattle.hc_core.proofs.Matching.{matches_read, open_same}
use Rattle.hc_core.proofs.conn.Conn.read.Goals as goal

-- the log has the part
pub invariant_of-self-2 : goal.invariant_of-self-2
invariant_of-self-2 c = kept_open c.taken-running.result _ _ _ _ (entry_of (Read c.args.conn c.args.range.now.lo c.args.range.now.hi) (Cells (record { cells = c.args.cells.now })))
    (after_read c.args.range.now (Cells (record { cells = c.args.cells.now }))) _
    c.taken-running.ensures c.self.invariant.0 c.self.invariant.1 c.note_read.ensures
    (λ ts. refl) (λ t. refl) (λ t e h. (e, matches_read c.taken-running.result _ c.args.range.now (record { cells = c.args.cells.now }) t c.in_ok-added.ensures.added h))

-- the keys are the same
pub invariant_of-self : goal.invariant_of-self
invariant_of-self c =
    (open_same c.taken-running.result _ _ c.in_err-added.ensures.no_memory (open_of _ c.taken-running.result _ c.taken-running.ensures c.self.invariant.0), c.self.invariant.1)
