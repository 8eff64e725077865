use Rattle.std.proofs.Common.{◌≡◌, refl, sym, subst, ℕ, List, Option, Result, Ok, Err, IfOk, OnOk, reverse}
use Rattle.hc_core.specs.declared.cells.Cell.{Cell}
use Rattle.hc_core.specs.declared.cells.Write.{Write}
use Rattle.hc_range.specs.declared.range.Range.{Range}
use Rattle.hc_txn.specs.Kept.{Known, AreOrdered, now_at}
use Rattle.hc_txn.specs.Laid.{standing_in}
use Rattle.hc_txn.specs.Laying.{IsLastOwn, IsLastPut}
use Rattle.hc_txn.specs.Stores.{latest}
use Rattle.hc_txn.proofs.Histories.{latest_stands}
use Rattle.hc_txn.proofs.LastPut.{last_own}
use Rattle.hc_txn.proofs.StandingWrites.{standing_as}
use Rattle.hc_txn.proofs.own.OwnWrites.last_put.Goals as goal

last_as : {E : Type 0} (r : Result (Option Cell) E) (range : Range) (ks : List Known) (own : List Write) → ((key : List ℕ) → latest own key ≡ now_at ks key)
    → IfOk r (λ cell. IsLastPut (standing_in range ks) cell) → OnOk r (AreOrdered ks) → IfOk r (λ cell. IsLastOwn range own cell)
last_as (Ok cell) range ks own newest e ordered = last_own range own (standing_in range ks) cell (standing_as range ks own (standing_in range ks) newest refl ordered) e
last_as (Err f) range ks own newest e ordered = e

pub returns : goal.returns
returns c =
    rw (← c.self.view_is)
    (last_as c.last_put.result c.args.range.now c.self.inside.keys _ (λ key. latest_stands (now_at c.self.inside.keys) (reverse c.self.inside.history.items) key c.self.invariant.rooted)
    c.last_put.ensures.last c.last_put.ensures.ordered)
