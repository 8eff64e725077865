-- One look after another, each between what is seen and what is empty.
use Rattle.std.proofs.Common.{◌≡◌, ◌+◌, ◌-◌, ◌/◌, refl, ap, subst, ⊎_elim, false, arith}
use Rattle.hc_base.specs.declared.numbers.Cid.{Cid}
use Rattle.hc_tidlog.specs.Looking.{Looked, LooksAt, Narrows}
use Rattle.hc_tidlog.proofs.Looks.{narrows_first, narrows_taken, narrows_empty, same_after}
use Rattle.hc_tidlog.proofs.ends.halve.Goals as goal

pub halves-init : goal.halves-init
halves-init c = record { narrows = narrows_first c.args.grip.now.layout c.args.upto c.args.grip.now.seat.me.0; above = c.requires.above; high = c.requires.upto; same = ((refl, refl, refl), refl) }

pub halves-preserved-then-not-is_taken : goal.halves-preserved-then-not-is_taken
halves-preserved-then-not-is_taken c =
    let looks = subst (λ y. LooksAt y (c.seen-seen.result.0 + (c.halves.high - c.seen-seen.result.0) / 2) c.halves.grip.seat.me.0 false c.is_taken.new.grip.seat.me.0) c.halves.invariant.same.0.0 c.if-not-is_taken.ensures.looked in record {
      narrows = narrows_empty c.args.grip.now.layout c.args.upto c.halves.high (c.seen-seen.result.0 + (c.halves.high - c.seen-seen.result.0) / 2) c.args.grip.now.seat.me.0 c.halves.grip.seat.me.0 c.is_taken.new.grip.seat.me.0 c.halves.invariant.narrows looks.0;
      above = looks.1;
      high =
          let one = ap (λ (s : Cid). s.0) c.seen.ensures.seen in
          let two = ap (λ (s : Cid). s.0) c.seen-seen.ensures.seen in
          omega (arith, c.halves.invariant.high, c.halves-test.true, one, two);
      same = same_after c.args.grip.now c.halves.grip c.is_taken.new.grip c.halves.invariant.same c.is_taken.ensures.same;
    }

pub halves-preserved : goal.halves-preserved
halves-preserved c =
    let looks = c.if-not-is_taken.ensures.looked in
    let one = ap (λ (s : Cid). s.0) c.seen.ensures.seen in
    let two = ap (λ (s : Cid). s.0) c.seen-seen.ensures.seen in record {
      narrows = narrows_taken c.args.grip.now.layout c.args.upto c.halves.high c.args.grip.now.seat.me.0 c.halves.grip.seat.me.0 c.is_taken.new.grip.seat.me.0 c.halves.invariant.narrows
          (subst (λ y. Looked y c.halves.grip.seat.me.0 c.is_taken.new.grip.seat.me.0) c.halves.invariant.same.0.0 looks.0);
      above =
          ⊎_elim
          (λ (same : c.is_taken.new.grip.seat.me.0.seen.0 ≡ c.halves.grip.seat.me.0.seen.0). omega (arith, same, c.halves.invariant.above))
          (λ at. omega (arith, at, c.halves-test.true, one, two))
          looks.2;
      high = c.halves.invariant.high;
      same = same_after c.args.grip.now c.halves.grip c.is_taken.new.grip c.halves.invariant.same c.is_taken.ensures.same;
    }

pub returns-clause-narrows : goal.returns-clause-narrows
returns-clause-narrows c =
    let one = ap (λ (s : Cid). s.0) c.seen.ensures.seen in
    let last : c.halves.high ≡ c.halves.grip.seat.me.0.seen.0 + 1 = omega (arith, c.halves-test.false, c.halves.invariant.above, one) in
    subst (λ n. Narrows c.args.grip.now.layout c.args.upto n c.args.grip.now.seat.me.0 c.halves.grip.seat.me.0) last c.halves.invariant.narrows
