use Rattle.std.proofs.Common.{◌≡◌, refl, sym, subst}
use Rattle.hc_core.specs.Account.{after_read}
use Rattle.hc_core.specs.Calls.{AreSnapshotCells}
use Rattle.hc_core.specs.Kept.{machine_of}
use Rattle.hc_core.specs.Machine.{Machine}
use Rattle.hc_core.specs.declared.event.Event.TheVariants.{Read}
use Rattle.hc_core.specs.declared.outcome.Outcome.TheVariants.{Cells}
use Rattle.hc_core.proofs.Asked.{kept_same, read_is}
use Rattle.hc_core.proofs.Steps.{held_open, kept_event, settles_same, there_open, when_map}
use Rattle.hc_core.proofs.machine.Core.enter_read.Goals as goal

pub read-requires : goal.read-requires
read-requires c = record { «open» = there_open _ _ c.args.conn _ _ _ _ c.self.view_is c.index_mut.ensures.value c.requires.reading (λ t h. tt) }

-- nothing was read
pub invariant_of-self : goal.invariant_of-self
invariant_of-self c = (kept_same _ _ _ _ _ _ _ _ c.self.invariant.0 c.in_err-read.ensures.no_memory c.index_mut.ensures.value, c.self.invariant.1)

-- the read is entered
pub invariant_of-self-2 : goal.invariant_of-self-2
invariant_of-self-2 c =
    let m = machine_of c.self.inside.drawn c.self.inside.log.items c.self.inside.conns.items in
    let reading = held_open m _ c.args.conn (λ t. t.id ≡ 0) c.self.view_is c.requires.reading in (
      kept_event _ _ _ _ c.args.conn _ _ _ (Read c.args.conn c.args.range.now.lo c.args.range.now.hi) (Cells (record { cells = c.args.cells.now }))
          (after_read c.args.range.now (Cells (record { cells = c.args.cells.now }))) c.self.invariant.0 c.in_ok-read.ensures.account c.index_mut.ensures.value
          (read_is m c.args.conn c.args.range.now c.args.cells.now reading (subst (λ (n : Machine). AreSnapshotCells n c.args.conn c.args.range.now c.args.cells.now) (sym c.self.view_is) c.requires.cells))
          refl (λ ts. refl) (when_map _ _ _ (λ t h. settles_same t _ refl refl refl refl) reading),
      c.self.invariant.1,
    )
