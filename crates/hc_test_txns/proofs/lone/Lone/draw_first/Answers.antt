-- One id is tried.
use Rattle.hc_test_txns.proofs.Staged.{may_draw_first, drew_first}
use Rattle.hc_test_txns.proofs.lone.Lone.draw_first.Goals as goal

pub draw-requires-clause-may : goal.draw-requires-clause-may
draw-requires-clause-may c = may_draw_first c.args.self.now.grip.conn c.args.self.now.ord c.args.self.now.grip.seat.me.0 c.requires.ord c.requires.started

pub returns-clause-drawn : goal.returns-clause-drawn
returns-clause-drawn c = drew_first c.args.self.now.grip.layout c.args.self.now.grip.conn c.args.self.now.ord c.args.self.now.grip.seat.me.0 c.draw.result c.draw.new.self.seat.me c.requires.started c.draw.ensures.drew
