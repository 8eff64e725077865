use Rattle.std.proofs.Common.{◌≡◌, ◌≤◌, List, sym, subst, length, arith}
use Rattle.std.proofs.lemmas.List.{length-map}
use Rattle.hc_core.specs.Base.{AreCellsFrom, IsBased}
use Rattle.hc_core.specs.Calls.{AreSnapshotCells}
use Rattle.hc_core.specs.Kept.{machine_of}
use Rattle.hc_core.specs.Machine.{Machine, txns_of}
use Rattle.hc_core.specs.Running.{Matches}
use Rattle.hc_core.specs.Versions.{AreCellsAfter}
use Rattle.hc_core.specs.declared.cells.Cell.{Cell}
use Rattle.hc_core.specs.declared.commit.Commit.{Commit}
use Rattle.hc_core.proofs.Asked.{snapshot_within}
use Rattle.hc_core.proofs.BaseCells.{from_base}
use Rattle.hc_core.proofs.ReadCells.{short_read}
use Rattle.hc_core.proofs.Steps.{found_open, log_length, ok_map, when_map}
use Rattle.hc_core.proofs.machine.Core.cells_in.Goals as goal

-- a snapshot is not above the log's end
pub cells_at-requires-clause-snapshot : goal.cells_at-requires-clause-snapshot
cells_at-requires-clause-snapshot c =
    let m = machine_of c.self.inside.drawn c.self.inside.log.items c.self.inside.conns.items in
    let found = found_open m _ c.args.conn c.opened.result.now (Matches c.opened.result.now) c.self.view_is c.opened.ensures (λ t h. h) in
    omega (arith, snapshot_within m c.args.conn c.opened.result.now c.self.invariant.0.sound found, c.as_slice.ensures.len, log_length c.self.inside.log)

pub cells_at-requires-clause-based : goal.cells_at-requires-clause-based
cells_at-requires-clause-based c = subst (IsBased c.self.inside.base) (sym c.as_slice.ensures.value) c.self.invariant.1

-- the cells that are found are those of the snapshot
are : (c : goal.After-cells_at) (cells : List Cell) → AreCellsFrom c.args.range.now c.as_slice.result.now c.opened.result.now.snapshot cells
    → AreCellsAfter (txns_of (machine_of c.self.inside.drawn c.self.inside.log.items c.self.inside.conns.items)) c.opened.result.now.snapshot c.args.range.now cells
are c cells is =
    let m = machine_of c.self.inside.drawn c.self.inside.log.items c.self.inside.conns.items in
    let found = found_open m _ c.args.conn c.opened.result.now (Matches c.opened.result.now) c.self.view_is c.opened.ensures (λ t h. h) in
    let sized = length-map c.self.inside.log.items (λ (commit : Commit). commit.tid) in
    let within : c.opened.result.now.snapshot ≤ length c.self.inside.log.items =
    omega (arith, snapshot_within m c.args.conn c.opened.result.now c.self.invariant.0.sound found, sized) in
    from_base c.self.invariant.0.sound.sound c.self.inside.log.items c.self.invariant.0.logged (sym sized) c.args.range.now c.opened.result.now.snapshot cells within
    (subst (λ (log : List Commit). AreCellsFrom c.args.range.now log c.opened.result.now.snapshot cells) c.as_slice.ensures.value is)

pub returns-clause-snapshot : goal.returns-clause-snapshot
returns-clause-snapshot c =
    let m = machine_of c.self.inside.drawn c.self.inside.log.items c.self.inside.conns.items in
    let found = found_open m _ c.args.conn c.opened.result.now (Matches c.opened.result.now) c.self.view_is c.opened.ensures (λ t h. h) in
    ok_map c.cells_at.result _ _ c.cells_at.ensures (λ cells is. subst (λ (n : Machine). AreSnapshotCells n c.args.conn c.args.range.now cells.items) c.self.view_is
    (when_map (Matches c.opened.result.now) _ _ (λ t h. subst (λ k. AreCellsAfter (txns_of m) k c.args.range.now cells.items) h.snapshot (are c cells.items is)) found))

pub returns-clause-short : goal.returns-clause-short
returns-clause-short c = ok_map c.cells_at.result _ _ c.cells_at.ensures
    (λ cells is. short_read _ _ _ _ c.self.invariant.0 c.opened.result.now.snapshot c.args.range.now cells.items (are c cells.items is))
