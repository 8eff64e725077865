use Rattle.std.proofs.Common.{◌≡◌, ◌∙◌, sym, subst, ℕ, List, Result, Ok, Err, IfOk, OnOk, reverse}
use Rattle.hc_core.specs.Desk.{AreAscendingWrites}
use Rattle.hc_base.specs.Lookup.{Among}
use Rattle.hc_core.specs.declared.cells.Write.{Write}
use Rattle.hc_range.specs.declared.range.Range.{Range}
use Rattle.hc_txn.specs.Kept.{Known, AreOrdered, now_at}
use Rattle.hc_txn.specs.Laid.{standing_in}
use Rattle.hc_txn.specs.Laying.{AreStandingIn}
use Rattle.hc_txn.specs.Stores.{latest}
use Rattle.hc_txn.proofs.Histories.{latest_stands}
use Rattle.hc_txn.proofs.StandingWrites.{standing_as}
use Rattle.hc_txn.proofs.own.OwnWrites.standing_in.Goals as goal

found_as : {W E : Type 0} (r : Result W E) (items : W → List Write) (range : Range) (ks : List Known) (own : List Write) → ((key : List ℕ) → latest own key ≡ now_at ks key)
    → IfOk r (λ writes. items writes ≡ standing_in range ks) → OnOk r (AreOrdered ks) → IfOk r (λ writes. AreStandingIn range own (items writes))
found_as (Ok writes) items range ks own newest e ordered = standing_as range ks own (items writes) newest e ordered
found_as (Err f) items range ks own newest e ordered = e

pub returns : goal.returns
returns c =
    rw (← c.self.view_is)
    (found_as c.standing_in.result (λ writes. writes.items) c.args.range.now c.self.inside.keys _
    (λ key. latest_stands (now_at c.self.inside.keys) (reverse c.self.inside.history.items) key c.self.invariant.rooted)
    c.standing_in.ensures.standing c.standing_in.ensures.ordered)
