use Rattle.std.proofs.Common.{List, ℕ, arith, subst}
use Rattle.hc_core.specs.Commits.{IsMetAt}
use Rattle.hc_core.proofs.log.met_above.Goals as goal

pub returns : goal.returns
returns c = (
  c.in-Some.place,
  c.in-Some.ensures.0,
  omega (arith, c.in-Some.ensures.1),
  subst (λ (k : List ℕ). IsMetAt c.args.log.now c.in-Some.place k c.met_at.result) c.from_slice.ensures c.met_at.ensures,
)
