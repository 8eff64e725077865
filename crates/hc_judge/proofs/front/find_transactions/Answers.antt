use Rattle.std.proofs.Common.{subst, List}
use Rattle.hc_meaning.specs.Runs.Cut.{Transaction}
use Rattle.hc_judge.specs.Pairs.{ArePaired, AreCutInto, Paired}
use Rattle.hc_judge.proofs.Found.{are_found, none_found}
use Rattle.hc_judge.proofs.front.find_transactions.Goals as goal

pub returns-in_default-2 : goal.returns-in_default-2
returns-in_default-2 c =
    let by_number = c.ascend.ensures.0 c.if-not-ascend.false in
    let paired : ArePaired c.args.scripts.now c.args.transcripts.now c.in-Some.paired.items = rw c.in-Some.is at c.in_ok-paired.ensures in
    let none : (ts : List Transaction) → AreCutInto c.as_slice.result.now ts → ⊥ = rw c.in_default-2.is at c.in_ok-transactions.ensures in
    let none_of : (ts : List Transaction) → AreCutInto c.in-Some.paired.items ts → ⊥ = subst (λ (l : List Paired). (ts : List Transaction) → AreCutInto l ts → ⊥) c.as_slice.ensures.value none in
    (record { by_number = by_number; pairs = c.in-Some.paired.items; paired = paired }, none_found c.args.scripts.now c.args.transcripts.now c.in-Some.paired.items paired none_of)

pub returns : goal.returns
returns c =
    let by_number = c.ascend.ensures.0 c.if-not-ascend.false in
    let paired : ArePaired c.args.scripts.now c.args.transcripts.now c.in-Some.paired.items = rw c.in-Some.is at c.in_ok-paired.ensures in
    let cut : AreCutInto c.as_slice.result.now c.in-Some-2.transactions.items = rw c.in-Some-2.is at c.in_ok-transactions.ensures in
    are_found c.args.scripts.now c.args.transcripts.now c.in-Some.paired.items c.in-Some-2.transactions.items by_number paired
    (subst (λ (l : List Paired). AreCutInto l c.in-Some-2.transactions.items) c.as_slice.ensures.value cut)
