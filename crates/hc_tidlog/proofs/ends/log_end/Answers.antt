-- What is seen at the end is the answer.
use Rattle.std.proofs.Common.{◌+◌, sym, subst}
use Rattle.hc_base.specs.declared.numbers.Cid.{Cid}
use Rattle.hc_tidlog.specs.Looking.{FindsEmpty}
use Rattle.hc_tidlog.proofs.ends.log_end.Goals as goal

pub returns-clause-end : goal.returns-clause-end
returns-clause-end c = subst (λ (s : Cid). FindsEmpty c.args.grip.now.layout (s.0 + 1) c.args.grip.now.seat.me.0 c.find_end.new.grip.seat.me.0) (sym c.seen.ensures.seen) c.find_end.ensures.end
