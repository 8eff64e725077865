-- What validates a number may win it, or loses it.
use Rattle.std.proofs.Common.{◌≡◌, ◌≢◌, ◌≤◌, ap}
use Rattle.std.proofs.lemmas.Result.{IfOk-weaker, IfErr-weaker}
use Rattle.atomic_table.specs.Table.{Me}
use Rattle.hc_base.specs.declared.numbers.Tid.{Tid}
use Rattle.hc_rule.specs.declared.view.View.{View}
use Rattle.hc_rule.specs.Views.{bare}
use Rattle.hc_rule.specs.Kinds.WinLog.{Winning, won_by, lost_to}
use Rattle.hc_steps.specs.Own.{own_win}
use Rattle.hc_test_txns.specs.Stages.{IsDrawn}
use Rattle.hc_test_txns.proofs.Staged.{may_win, won, was_lost, seen_lost}
use Rattle.hc_test_txns.proofs.lone.Lone.win.Goals as goal

pub win-requires-clause-may : goal.win-requires-clause-may
win-requires-clause-may c = may_win c.args.self.now.grip.conn c.args.self.now.grip.layout.transactions c.args.t.0 c.args.self.now.ord c.args.c.0 c.args.self.now.grip.seat.me.0 c.requires.validates

pub returns-clause-won : goal.returns-clause-won
returns-clause-won c =
    let y = c.args.self.now.grip in
    let w : Winning = own_win y.conn c.args.c.0 y.layout.transactions y.seat.me.0 in
    IfOk-weaker c.win.result (λ _. c.win.new.grip.seat.me ≡ bare (won_by w y.seat.me.0)) (λ _. IsDrawn c.args.t.0 c.args.self.now.ord c.args.c.0 c.args.c.0 c.win.new.grip.seat.me.0)
    (λ _ told. won w c.args.t.0 c.args.self.now.ord y.seat.me.0 c.win.new.grip.seat.me.0 c.requires.validates (ap (λ (m : Me Unit View). m.0) told)) c.win.ensures.won

pub returns-clause-lost : goal.returns-clause-lost
returns-clause-lost c =
    let y = c.args.self.now.grip in
    let w : Winning = own_win y.conn c.args.c.0 y.layout.transactions y.seat.me.0 in
    IfErr-weaker c.win.result (λ (other : Tid). (other.0 ≢ 0) × (other.0 ≤ y.layout.transactions) × (c.win.new.grip.seat.me ≡ bare (lost_to w other.0 y.seat.me.0)))
    (λ _. IsDrawn c.args.t.0 c.args.self.now.ord 0 0 c.win.new.grip.seat.me.0 × (c.args.c.0 ≤ c.win.new.grip.seat.me.0.seen.0))
    (λ other told.
    let is = ap (λ (m : Me Unit View). m.0) told.2 in
    (was_lost w c.args.t.0 c.args.self.now.ord other.0 y.seat.me.0 c.win.new.grip.seat.me.0 c.requires.validates is, seen_lost w other.0 y.seat.me.0 c.win.new.grip.seat.me.0 is)) c.win.ensures.lost
