use Rattle.std.proofs.Common.{◌≡◌, sym, subst, ℕ, List, Result, Ok, Err, IfOk, reverse}
use Rattle.hc_core.specs.Desk.{EachFits}
use Rattle.hc_core.specs.declared.cells.Write.{Write}
use Rattle.hc_txn.specs.Kept.{Known, AreOrdered, now_at, records_before}
use Rattle.hc_txn.specs.Net.{IsNetOf, net}
use Rattle.hc_txn.specs.Stores.{latest}
use Rattle.hc_txn.proofs.Histories.{latest_stands}
use Rattle.hc_txn.proofs.NetOf.{net_of}
use Rattle.hc_txn.proofs.own.OwnWrites.into_net.Goals as goal

net_as : {W E : Type 0} (r : Result W E) (items : W → List Write) (ks : List Known) (own : List Write) → ((key : List ℕ) → latest own key ≡ now_at ks key)
    → AreOrdered ks → EachFits own → IfOk r (λ writes. items writes ≡ net ks) → IfOk r (λ writes. IsNetOf own (records_before ks) (items writes))
net_as (Ok writes) items ks own newest ordered fit e = subst (IsNetOf own (records_before ks)) (sym e) (net_of ks own newest ordered fit)
net_as (Err f) items ks own newest ordered fit e = e

pub returns : goal.returns
returns c =
    rw (← c.self.view_is)
    (net_as c.into_net.result (λ writes. writes.items) c.self.inside.keys _
    (λ key. latest_stands (now_at c.self.inside.keys) (reverse c.self.inside.history.items) key c.self.invariant.rooted)
    c.into_net.ensures.ordered c.self.invariant.fit c.into_net.ensures.net)
