-- The transaction that has started draws, or has started still.
use Rattle.std.proofs.lemmas.Result.{IfOk-weaker, IfErr-weaker}
use Rattle.hc_base.specs.declared.numbers.Tid.{Tid}
use Rattle.hc_rows.specs.Places.{HasTid}
use Rattle.hc_tidlog.specs.Seeking.{DrewNext, FoundDrawn}
use Rattle.hc_test_txns.specs.Stages.{IsDrawn, HasStarted}
use Rattle.hc_test_txns.proofs.Staged.{can_draw, drawn, still_started}
use Rattle.hc_test_txns.proofs.lone.Lone.draw.Goals as goal

pub draw_id-requires : goal.draw_id-requires
draw_id-requires c = record { may = can_draw c.args.self.now.ord c.args.self.now.grip.seat.me.0 c.requires.ord c.requires.started }

pub returns-clause-drawn : goal.returns-clause-drawn
returns-clause-drawn c =
    let y = c.args.self.now.grip in
    let after = c.draw_id.new.grip.seat.me.0 in
    IfOk-weaker c.draw_id.result (λ (t : Tid). HasTid y.layout t.0 × DrewNext y.layout y.conn c.args.self.now.ord y.seat.me.0 t.0 after) (λ (t : Tid). HasTid y.layout t.0 × IsDrawn t.0 c.args.self.now.ord 0 0 after)
    (λ t told. (told.0, drawn y.layout y.conn c.args.self.now.ord t.0 y.seat.me.0 after c.requires.started told.1)) c.draw_id.ensures.drew

pub returns-clause-still : goal.returns-clause-still
returns-clause-still c =
    let y = c.args.self.now.grip in
    let after = c.draw_id.new.grip.seat.me.0 in
    IfErr-weaker c.draw_id.result (λ _. FoundDrawn y.layout y.layout.transactions y.seat.me.0 after) (λ _. HasStarted c.args.self.now.ord after)
    (λ full told. still_started y.layout c.args.self.now.ord y.layout.transactions y.seat.me.0 after c.requires.started told) c.draw_id.ensures.cause
