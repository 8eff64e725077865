-- The id that was looked at is drawn, or the search is at none.
use Rattle.hc_tidlog.proofs.Seeks.{reached_none, reached_looked, reached_empty}
use Rattle.hc_tidlog.proofs.ids.first_drawn.Goals as goal

pub returns-then-is_drawn-clause-reached : goal.returns-then-is_drawn-clause-reached
returns-then-is_drawn-clause-reached c = reached_looked c.args.grip.now.layout 0 c.seen-seen.result.0 c.args.grip.now.seat.me.0 c.is_drawn.new.grip.seat.me.0 c.if-is_drawn.ensures.looked

pub returns-clause-reached : goal.returns-clause-reached
returns-clause-reached c = reached_empty c.args.grip.now.layout 0 c.seen-seen.result.0 c.args.grip.now.seat.me.0 c.is_drawn.new.grip.seat.me.0 c.if-is_drawn.ensures.looked

pub returns-then-seen-eq0-clause-reached : goal.returns-then-seen-eq0-clause-reached
returns-then-seen-eq0-clause-reached c = reached_none c.args.grip.now.layout 0 c.args.grip.now.seat.me.0
