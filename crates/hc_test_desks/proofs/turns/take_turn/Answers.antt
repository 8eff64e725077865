use Rattle.std.proofs.Common.{arith}
use Rattle.hc_test_desks.proofs.Turning.{on_ok_map, turned}
use Rattle.hc_test_desks.proofs.turns.take_turn.Goals as goal

pub returns : goal.returns
returns c =
    on_ok_map c.call_at.result c.call_at.ensures.guarded
    (turned c.args.core.now c.call_at.new.core c.args.guards.now.items c.args.conn c.call_at.new.guard c.requires
    (omega (arith, c.if-conn-len.false, c.len.ensures, c.args.guards.now.ok.0)) c.call_at.ensures.later c.call_at.ensures.owns)
