use Rattle.std.proofs.Common.{◌≡◌, ◌<◌, ◌^◌, arith, sym, subst, List, [], replicate, vec_capacity, rules}
use Rattle.hc_core.specs.Kept.{IsKept}
use Rattle.hc_core.specs.declared.account.Entry.{Entry}
use Rattle.hc_core.specs.declared.commit.Commit.{Commit}
use Rattle.hc_core.proofs.BaseCells.{based_none}
use Rattle.hc_core.proofs.Upheld.{kept_start}
use Rattle.hc_core.proofs.machine.Core.new.Goals as goal

pub invariant_of-result : goal.invariant_of-result
invariant_of-result c =
    let few : c.args.conns < 2 ^ 32 = omega arith in
    let empty : c.new.result.items ≡ [] = search rules in
    let accounts : List (List Entry) = replicate c.args.conns [] in
    rw c.in_ok-new_conns.ensures (subst (λ (commits : List Commit). IsKept 0 commits (vec_capacity c.new.result) accounts) (sym empty) (kept_start c.args.conns _ few), based_none c.new-2.result c.new.result.items c.new-2.ensures.0 c.new-2.ensures.1)
