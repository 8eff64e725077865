use Rattle.std.proofs.Common.{◌≡◌, ◌≢◌, ap, List, [], length, arith}
use Rattle.std.proofs.lemmas.Bool.Decides.{nat_tests}
use Rattle.std.proofs.lemmas.List.{nil_from_length}
use Rattle.hc_core.specs.declared.cells.Write.{Write}
use Rattle.hc_commit.proofs.SameLog.{only_read}
use Rattle.hc_commit.proofs.Ready.{failed, net_of, nothing_done, succeeded}
use Rattle.hc_commit.proofs.committing.attempt.Goals as goal

pub returns-then-is_empty-clause-succeeded : goal.returns-then-is_empty-clause-succeeded
returns-then-is_empty-clause-succeeded g c =
    let n = c.in-Ok.ensures in
    let e = c.is_empty.ensures in
    let t = c.if-is_empty.true in
    let ok = c.in-Ok.net.writes.ok in
    let long : length c.in-Ok.net.writes.items ≡ 0 = grind (arith, nat_tests) in
    nothing_done (g.D.Desk.conn c.args.desk.now) c.args.ord (g.D.Desk.most c.args.desk.now) c.args.txn c.in-Ok.net.snapshot.0 c.in-Ok.net.writes.items (g.D.Desk.account c.args.desk.now) n.kept.0
    (net_of (g.D.Desk.account c.args.desk.now) c.args.txn c.in-Ok.net.writes.items c.requires.of n.ascending n.fit n.net)
    (nil_from_length c.in-Ok.net.writes.items long)

pub returns-in-Ok-commit_net-clause-succeeded : goal.returns-in-Ok-commit_net-clause-succeeded
returns-in-Ok-commit_net-clause-succeeded g c =
    let n = c.in-Ok.ensures in
    let e = c.is_empty.ensures in
    let t = c.if-is_empty.false in
    let ok = c.in-Ok.net.writes.ok in
    let some : c.in-Ok.net.writes.items ≢ [] = λ none. let long : length c.in-Ok.net.writes.items ≡ 0 = ap (λ (ws : List Write). length ws) none in absurd (grind (arith, nat_tests)) in
    succeeded (g.D.Desk.conn c.args.desk.now) c.args.ord (g.D.Desk.most c.args.desk.now) c.args.txn c.in-Ok.net.log c.in-Ok.net.writes.items c.in-Ok-commit_net.number
    (g.D.Desk.account c.args.desk.now) (g.D.Desk.account c.commit_net.new.desk) n.kept.1
    (net_of (g.D.Desk.account c.args.desk.now) c.args.txn c.in-Ok.net.writes.items c.requires.of n.ascending n.fit n.net) some c.in-Ok-commit_net.ensures.committed

pub returns-in-Err-clause-failed : goal.returns-in-Err-clause-failed
returns-in-Err-clause-failed g c =
    let n = c.in-Ok.ensures in
    let e = c.is_empty.ensures in
    let t = c.if-is_empty.false in
    let ok = c.in-Ok.net.writes.ok in
    let some : c.in-Ok.net.writes.items ≢ [] = λ none. let long : length c.in-Ok.net.writes.items ≡ 0 = ap (λ (ws : List Write). length ws) none in absurd (grind (arith, nat_tests)) in
    failed (g.D.Desk.conn c.args.desk.now) c.args.ord (g.D.Desk.most c.args.desk.now) c.args.txn c.in-Ok.net.log c.in-Ok.net.writes.items c.in-Err.fault
    (g.D.Desk.account c.args.desk.now) (g.D.Desk.account c.commit_net.new.desk) n.kept.1
    (net_of (g.D.Desk.account c.args.desk.now) c.args.txn c.in-Ok.net.writes.items c.requires.of n.ascending n.fit n.net) some c.in-Err.ensures.given_up

pub commit_net-requires-clause-reading : goal.commit_net-requires-clause-reading
commit_net-requires-clause-reading g c = only_read (g.D.Desk.account c.args.desk.now) c.args.txn c.in-Ok.net.log c.requires.of c.in-Ok.ensures.kept.1
