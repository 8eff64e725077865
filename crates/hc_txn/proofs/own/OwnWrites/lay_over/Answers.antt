use Rattle.std.proofs.Common.{◌≡◌, List, ◌++◌, Result, Ok, Err, OnOk}
use Rattle.hc_range.specs.declared.range.Range.{Range}
use Rattle.hc_core.specs.Versions.{AreAscending}
use Rattle.hc_core.specs.declared.cells.Cell.{Cell}
use Rattle.hc_core.specs.declared.cells.Write.{Write}
use Rattle.hc_txn.specs.Laid.{laid}
use Rattle.hc_txn.specs.Laying.{AreStandingIn, HasLaid}
use Rattle.hc_txn.proofs.LaidStores.{laid_as}
use Rattle.hc_txn.proofs.own.OwnWrites.lay_over.Goals as goal

laid_when_ok : {T E : Type 0} (r : Result T E) (own writes : List Write) (range : Range) (cells before after : List Cell) → AreStandingIn range own writes → AreAscending cells
    → OnOk r (after ≡ before ++ laid writes cells) → OnOk r (HasLaid own range cells before after)
laid_when_ok (Ok t) own writes range cells before after stand h e = laid_as own writes range cells before after stand h e
laid_when_ok (Err f) own writes range cells before after stand h e = e

pub returns : goal.returns
returns c =
    laid_when_ok c.lay_over.result c.args.self.now.own c.in_ok-writes.writes.items c.args.range.now c.args.part.cells c.args.out.now.cells c.lay_over.new.out.cells c.in_ok-writes.ensures c.requires.ascending c.lay_over.ensures
