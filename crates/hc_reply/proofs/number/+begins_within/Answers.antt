use Rattle.std.proofs.Common.{◌≡◌, arith}
use Rattle.hc_reply.proofs.Digits.{some_itself, none_above, none_with_zero, some_longer, none_longer}
use Rattle.hc_reply.specs.Numbers.{NoneBegins}
use Rattle.std.proofs.Common.{ℕ, subst, sym}
use Rattle.hc_reply.proofs.number.+begins_within.Goals as goal

pub returns-then-m-high-clause-none : goal.returns-then-m-high-clause-none
returns-then-m-high-clause-none _ c = λ e. none_above c.args.m c.args.low c.args.high (omega (arith, c.ranges.high)) (omega (arith, c.ranges.m)) (omega (arith, c.if-m-high.true))

pub returns-then-m-low-clause-some : goal.returns-then-m-low-clause-some
returns-then-m-low-clause-some _ c = λ e. some_itself c.args.m c.args.low c.args.high (omega (arith, c.if-m-low.true)) (omega (arith, c.if-m-high.false))

pub returns-then-m-ne0-clause-some : goal.returns-then-m-ne0-clause-some
returns-then-m-ne0-clause-some _ c = λ e. some_longer c.args.m c.args.low c.args.high (omega (arith, c.ranges.high)) c.requires (omega (arith, c.if-m-ne0.true)) (omega (arith, c.ranges.m)) (c.begins_within.ensures.some e)

pub returns-then-m-ne0-clause-none : goal.returns-then-m-ne0-clause-none
returns-then-m-ne0-clause-none _ c = λ e. none_longer c.args.m c.args.low c.args.high (omega (arith, c.ranges.high)) (omega (arith, c.if-m-low.false)) (c.begins_within.ensures.none e)

pub returns-else-m-ne0-clause-none : goal.returns-else-m-ne0-clause-none
returns-else-m-ne0-clause-none _ c = λ e.
    let nothing : c.args.m ≡ 0 = omega (arith, c.if-m-ne0.false) in
    subst (λ (m : ℕ). NoneBegins m c.args.low c.args.high) (sym nothing) (none_with_zero c.args.low c.args.high (omega (arith, c.ranges.high)) (omega (arith, c.if-m-low.false)))
