-- The page is the seat's, and its row is kept, until it is given back.
use Rattle.std.proofs.Common.{◌∙◌, ◌+◌, sym, ap, subst, eq-eqb, arith}
use Rattle.hc_base.specs.Lookup.{Among}
use Rattle.hc_rule.specs.Kinds.StorePage.{Owns, without}
use Rattle.hc_pool.proofs.Finds.{claims_owns}
use Rattle.hc_engine_tests.proofs.Holding.{is_written, given_back}
use Rattle.hc_engine_tests.proofs.workers.+hold.Goals as goal

pub store_row-requires-clause-owns : goal.store_row-requires-clause-owns
store_row-requires-clause-owns t c = claims_owns c.in-Ok.p.0 c.args.grip.now.seat.me.0 c.claim.new.grip.seat.me.0 c.in-Ok.ensures.claimed.1

pub give_back-requires-clause-owns : goal.give_back-requires-clause-owns
give_back-requires-clause-owns t c =
    let p = c.in-Ok.p.0 in
    let row =
    is_written p 17 (c.from-number.result + 1) c.args.grip.now.seat.me.0 c.claim.new.grip.seat.me.0 c.store_row.new.self.seat.me.0 c.in-Ok.ensures.claimed.1 (ap (λ m. m.0) c.store_row.ensures.stored) (omega arith) in
    subst (λ w. Owns w p) (sym (ap (λ m. m.0) c.load_row-read.ensures.found.1)) (row.0, subst (λ xs. Among row.0 xs) (sym c.hold-others.ensures.kept.pages) row.1, row.2)

pub returns-then-others-clause-read : goal.returns-then-others-clause-read
returns-then-others-clause-read t c =
    let p = c.in-Ok.p.0 in
    let row =
    is_written p 17 (c.from-number.result + 1) c.args.grip.now.seat.me.0 c.claim.new.grip.seat.me.0 c.store_row.new.self.seat.me.0 c.in-Ok.ensures.claimed.1 (ap (λ m. m.0) c.store_row.ensures.stored) (omega arith) in
    eq-eqb c.load_row-read.result (c.from-number.result + 1) ((c.load_row-read.ensures.found.0 row.0 (subst (λ xs. Among row.0 xs) (sym c.hold-others.ensures.kept.pages) row.1) row.2).0 ∙ row.3)

pub returns-then-others-clause-kept : goal.returns-then-others-clause-kept
returns-then-others-clause-kept t c =
    let p = c.in-Ok.p.0 in
    given_back p 17 (c.from-number.result + 1) c.args.grip.now.seat.me.0 c.claim.new.grip.seat.me.0 c.store_row.new.self.seat.me.0 c.in-Ok.ensures.claimed.1 (ap (λ m. m.0) c.store_row.ensures.stored)
    c.hold-others.new.grip.seat.me.0 c.give_back.new.grip.seat.me.0 c.hold-others.ensures.kept (ap (λ m. m.0) c.give_back.ensures.given ∙ ap (λ w. without p w) (ap (λ m. m.0) c.load_row-read.ensures.found.1))
