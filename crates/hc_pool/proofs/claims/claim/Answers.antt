-- Page after page is found taken, up to one that is free.
use Rattle.std.proofs.Common.{◌≡◌, ◌∙◌, refl, sym, subst, ℕ, ◌+◌, ◌<◌, Bool, true, false, arith}
use Rattle.hc_rows.specs.declared.layout.Layout.{Layout}
use Rattle.hc_rows.specs.Places.{HasPage}
use Rattle.hc_rule.specs.declared.view.View.{View}
use Rattle.hc_steps.specs.declared.grip.Grip.{Grip}
use Rattle.hc_steps.specs.Same.{IsSame}
use Rattle.hc_pool.specs.Claiming.{LooksInTurn, TakesInTurn, Tried, in_turn}
use Rattle.hc_pool.proofs.Finds.{looks_none, looks_next, finds_round, takes_claims, looks_registered, takes_registered}
use Rattle.hc_pool.proofs.claims.claim.Goals as goal

-- one grip after another
same_after : (one two three : Grip) → IsSame one two → IsSame two three → IsSame one three
same_after one two three first second =
    ((second.0.0 ∙ first.0.0, second.0.1 ∙ first.0.1, second.0.2 ∙ first.0.2), second.1 ∙ first.1)

pub turns-init : goal.turns-init
turns-init c = record {
  looks = looks_none c.args.grip.now.layout c.hint-hint.result.0 c.args.grip.now.seat.me.0;
  same = ((refl, refl, refl), refl);
}

-- one try more, of the page whose turn it is
tried_next : (y z : Layout) (from n p : ℕ) (v w u : View) (b : Bool) → z ≡ y → p ≡ in_turn y.pages from n → b ≡ false → LooksInTurn y from n v w → Tried z p w b u → LooksInTurn y from (n + 1) v u
tried_next y z from n p v w u b same turn lost looks tried =
    looks_next y from n v w u looks (subst (λ q. Tried y q w false u) turn (subst (λ k. Tried y p w k u) lost (subst (λ x. Tried x p w b u) same tried)))

pub turns-preserved : goal.turns-preserved
turns-preserved c = record {
  looks =
      tried_next c.args.grip.now.layout c.turns.grip.layout c.hint-hint.result.0 c.turns.looked c.page_in_turn.result c.args.grip.now.seat.me.0 c.turns.grip.seat.me.0 c.try_claim.new.grip.seat.me.0 c.try_claim.result
      c.turns.invariant.same.0.0 c.page_in_turn.ensures.turn c.if-try_claim.false c.turns.invariant.looks c.try_claim.ensures.tried;
  same = same_after c.args.grip.now c.turns.grip c.try_claim.new.grip c.turns.invariant.same c.try_claim.ensures.same;
}

-- the page whose turn it is was free
tried_last : (y z : Layout) (from n p : ℕ) (v w u : View) (b : Bool) → z ≡ y → p ≡ in_turn y.pages from n → n < y.pages → b ≡ true → LooksInTurn y from n v w → Tried z p w b u → TakesInTurn y from p v u
tried_last y z from n p v w u b same turn within won looks tried =
    (n, within, turn, w, looks, subst (λ k. Tried y p w k u) won (subst (λ x. Tried x p w b u) same tried))

-- it was taken in its turn
module _ (c : goal.After-begin_at) where
  takes : TakesInTurn c.args.grip.now.layout c.args.grip.now.hint c.page_in_turn.result c.args.grip.now.seat.me.0 c.begin_at.new.self.seat.me.0
  takes =
      subst (λ k. TakesInTurn c.args.grip.now.layout k c.page_in_turn.result c.args.grip.now.seat.me.0 c.begin_at.new.self.seat.me.0) c.hint-hint.ensures.hint
      (subst (λ m. TakesInTurn c.args.grip.now.layout c.hint-hint.result.0 c.page_in_turn.result c.args.grip.now.seat.me.0 m.0) (sym c.begin_at.ensures.seat)
      (tried_last c.args.grip.now.layout c.turns.grip.layout c.hint-hint.result.0 c.turns.looked c.page_in_turn.result c.args.grip.now.seat.me.0 c.turns.grip.seat.me.0 c.try_claim.new.grip.seat.me.0 c.try_claim.result
      c.turns.invariant.same.0.0 c.page_in_turn.ensures.turn c.turns-test.true c.if-try_claim.true c.turns.invariant.looks c.try_claim.ensures.tried))

pub returns-then-try_claim-clause-claimed : goal.returns-then-try_claim-clause-claimed
returns-then-try_claim-clause-claimed c = (c.page_in_turn.ensures.page, takes_claims c.args.grip.now.layout c.args.grip.now.hint c.page_in_turn.result c.args.grip.now.seat.me.0 c.begin_at.new.self.seat.me.0 (takes c))

pub returns-then-try_claim-clause-taken : goal.returns-then-try_claim-clause-taken
returns-then-try_claim-clause-taken c = takes c

-- all pages had their turns
module _ (c : goal.After-turns) where
  looks : LooksInTurn c.args.grip.now.layout c.args.grip.now.hint c.args.grip.now.layout.pages c.args.grip.now.seat.me.0 c.turns.grip.seat.me.0
  looks =
      subst (λ k. LooksInTurn c.args.grip.now.layout k c.args.grip.now.layout.pages c.args.grip.now.seat.me.0 c.turns.grip.seat.me.0) c.hint-hint.ensures.hint
      (subst (λ n. LooksInTurn c.args.grip.now.layout c.hint-hint.result.0 n c.args.grip.now.seat.me.0 c.turns.grip.seat.me.0) (omega (arith, c.turns-test.false, c.turns.auto.looked-end)) c.turns.invariant.looks)

pub returns-clause-cause : goal.returns-clause-cause
returns-clause-cause c =
    finds_round c.args.grip.now.layout c.args.grip.now.hint c.args.grip.now.seat.me.0 c.turns.grip.seat.me.0 (subst (λ k. HasPage c.args.grip.now.layout k) c.hint-hint.ensures.hint c.hint-hint.ensures.page) (looks c)

pub returns-clause-round : goal.returns-clause-round
returns-clause-round c = looks c

-- the seat is registered all the while
pub try_claim-requires-clause-registered : goal.try_claim-requires-clause-registered
try_claim-requires-clause-registered c = looks_registered c.args.grip.now.layout c.hint-hint.result.0 c.turns.looked c.args.grip.now.seat.me.0 c.turns.grip.seat.me.0 c.turns.invariant.looks c.requires.registered

pub returns-then-try_claim-clause-registered : goal.returns-then-try_claim-clause-registered
returns-then-try_claim-clause-registered c = takes_registered c.args.grip.now.layout c.args.grip.now.hint c.page_in_turn.result c.args.grip.now.seat.me.0 c.begin_at.new.self.seat.me.0 (takes c) c.requires.registered

pub returns-clause-registered : goal.returns-clause-registered
returns-clause-registered c = looks_registered c.args.grip.now.layout c.args.grip.now.hint c.args.grip.now.layout.pages c.args.grip.now.seat.me.0 c.turns.grip.seat.me.0 (looks c) c.requires.registered
