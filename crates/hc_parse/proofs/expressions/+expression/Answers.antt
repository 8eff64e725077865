use Rattle.std.proofs.Common.{◌≡◌, ◌∙◌, ◌≤◌, ◌+◌, arith, refl, rules, sym, ap, subst, List, length, Err, Ok}
use Rattle.hc_ast.specs.declared.expression.Expr.{Expr}
use Rattle.hc_grammar.specs.Climbing.{climb, is_between, operators_from, tail_at}
use Rattle.hc_grammar.specs.Expressions.{Tail, Binary}
use Rattle.hc_grammar.specs.Grammar.{Within, Whole, Negation, Signed}
use Rattle.hc_grammar.specs.Places.{run_of}
use Rattle.hc_grammar.specs.Runs.{Run, made}
use Rattle.hc_grammar.proofs.Places.Asked.{whole_is, negation_is, signed_is}
use Rattle.hc_parse.specs.Coded.{Gives, within}
use Rattle.hc_parse.specs.Seen.{left, budget_of}
use Rattle.hc_parse.proofs.Climbs.{climb_none, first_halts, first_on, climbs_on, climbs_halt, climbs_end, climbs_all}
use Rattle.hc_parse.proofs.Lists.{listed_on, same_answer}
use Rattle.hc_parse.proofs.Operators.{after_negation, after_operand, made_halts, sign_tail_is, word_tail_is}
use Rattle.hc_parse.specs.Tails.{answer_seen}
use Rattle.hc_parse.proofs.expressions.+expression.Goals as goal
use Rattle.hc_parse.proofs.expressions.+expression.Goals.{read_tails-else-operators-test, read_tails-then-operators-test+then-not-is_between}

pub read_within-returns : goal.read_within-returns
read_within-returns t c =
    subst (λ (r : Run Expr). Gives {A = Expr} c.args.source.now c.read_operators.result c.read_operators.new.cursor r)
    (sym (whole_is c.args.levels (budget_of c.args.cursor.now) (left c.args.source.now c.args.cursor.now))) c.read_operators.ensures

pub read_negation-returns : goal.read_negation-returns
read_negation-returns t c =
    subst (λ (r : Run Expr). Gives {A = Expr} c.args.source.now c.read_boxed.result c.read_boxed.new.cursor r)
    (sym (negation_is c.args.levels (budget_of c.args.cursor.now) (left c.args.source.now c.args.cursor.now))) c.read_boxed.ensures

pub read_operand-returns-in_err-operand : goal.read_operand-returns-in_err-operand
read_operand-returns-in_err-operand t c =
    let s : Gives {A = Expr} c.args.source.now (Err c.in_err-operand.field-0.0) c.read_signed.new.cursor (within c.args.source.now c.args.levels (Within Signed) c.args.cursor.now) =
    subst (λ (r : Run Expr). Gives {A = Expr} c.args.source.now (Err c.in_err-operand.field-0.0) c.read_signed.new.cursor r)
    (sym (signed_is c.args.levels (budget_of c.args.cursor.now) (left c.args.source.now c.args.cursor.now))) c.in_err-operand.ensures in
    search rules

pub read_operand-returns : goal.read_operand-returns
read_operand-returns t c =
    signed_is c.args.levels (budget_of c.args.cursor.now) (left c.args.source.now c.args.cursor.now)
    ∙ same_answer c.args.source.now c.read_signed.new.cursor c.read_signed.new.cursor c.in_ok-operand.ensures c.in_ok-new.ensures refl

pub read_commas-items-preserved : goal.read_commas-items-preserved
read_commas-items-preserved t c =
    listed_on (Within Whole) c.args.levels c.args.source.now c.items.cursor c.accept.new.cursor c.read_within-in-items.new.cursor
    c.items.invariant c.items-test.true c.if-not-accept.ensures c.in_ok-read_within.ensures c.in_ok-push.ensures.items

pub read_boxed-returns-then-begins_negation : goal.read_boxed-returns-then-begins_negation
read_boxed-returns-then-begins_negation t c =
    subst (λ (r : Run Expr). Gives {A = Expr} c.args.source.now c.read_tails.result c.read_tails.new.cursor r)
    (sym (after_negation c.args.levels c.args.least (budget_of c.args.cursor.now) (budget_of c.read_negated.new.cursor) (left c.args.source.now c.args.cursor.now)
    (left c.args.source.now c.read_negated.new.cursor) c.in_ok-first.first (omega arith) (omega arith)
    (sym c.begins_negation.ensures ∙ c.if-begins_negation.true) c.in_ok-first.ensures))
    c.read_tails.ensures

pub read_boxed-returns : goal.read_boxed-returns
read_boxed-returns t c =
    subst (λ (r : Run Expr). Gives {A = Expr} c.args.source.now c.read_tails-2.result c.read_tails-2.new.cursor r)
    (sym (after_operand c.args.levels c.args.least (budget_of c.args.cursor.now) (budget_of c.read_signed.new.cursor) (left c.args.source.now c.args.cursor.now)
    (left c.args.source.now c.read_signed.new.cursor) c.in_ok-first-2.first (omega arith) (omega arith)
    (sym c.begins_negation.ensures ∙ c.if-begins_negation.false) c.in_ok-first-2.ensures
    ∙ ap (λ x. climb c.args.levels c.args.least (length (left c.args.source.now c.read_signed.new.cursor)) 8 x (budget_of c.read_signed.new.cursor)
    (left c.args.source.now c.read_signed.new.cursor)) (sym c.in_ok-first-3.ensures))) c.read_tails-2.ensures

pub read_operators-returns-then-not-is_between : goal.read_operators-returns-then-not-is_between
read_operators-returns-then-not-is_between t c =
    after_operand c.args.levels c.args.least (budget_of c.args.cursor.now) (budget_of c.read_signed.new.cursor) (left c.args.source.now c.args.cursor.now)
    (left c.args.source.now c.read_signed.new.cursor) c.in_ok-first.first (omega arith) (omega arith)
    (sym c.begins_negation.ensures ∙ c.if-begins_negation.false) c.in_ok-first.ensures
    ∙ climb_none c.args.levels c.args.least (length (left c.args.source.now c.read_signed.new.cursor)) 8 c.in_ok-first.first (budget_of c.read_signed.new.cursor)
    (left c.args.source.now c.read_signed.new.cursor)
    (ap (λ q. is_between c.args.least q 8) (sym c.next_precedence-precedence.ensures.is) ∙ sym c.is_between.ensures ∙ c.if-not-is_between.true)

pub read_operators-returns : goal.read_operators-returns
read_operators-returns t c =
    subst (λ (r : Run Expr). Gives {A = Expr} c.args.source.now c.read_sequence.result c.read_sequence.new.cursor r)
    (sym (after_operand c.args.levels c.args.least (budget_of c.args.cursor.now) (budget_of c.read_signed.new.cursor) (left c.args.source.now c.args.cursor.now)
    (left c.args.source.now c.read_signed.new.cursor) c.in_ok-first.first (omega arith) (omega arith)
    (sym c.begins_negation.ensures ∙ c.if-begins_negation.false) c.in_ok-first.ensures
    ∙ ap (λ x. climb c.args.levels c.args.least (length (left c.args.source.now c.read_signed.new.cursor)) 8 x (budget_of c.read_signed.new.cursor)
    (left c.args.source.now c.read_signed.new.cursor)) (sym c.in_ok-first-2.ensures))) c.read_sequence.ensures

pub read_sequence-returns-in_err-tail : goal.read_sequence-returns-in_err-tail
read_sequence-returns-in_err-tail t c =
    let s : Gives {A = Expr} c.args.source.now (Err c.in_err-tail.field-0.0) c.read_tail.new.cursor
    (climb c.args.levels c.args.least (length (left c.args.source.now c.args.cursor.now)) 8 c.args.first (budget_of c.args.cursor.now) (left c.args.source.now c.args.cursor.now)) =
    first_halts c.args.levels c.args.least (omega (arith, c.requires.least)) c.args.precedence c.args.first c.args.source.now c.args.cursor.now c.read_tail.new.cursor c.in_err-tail.field-0.0
    c.requires.next c.requires.between c.in_err-tail.ensures in
    search rules

pub read_sequence-returns-then-not-is_between : goal.read_sequence-returns-then-not-is_between
read_sequence-returns-then-not-is_between t c =
    first_on c.args.levels c.args.least (omega (arith, c.requires.least)) c.args.precedence c.args.first c.joined-value.result _ c.args.source.now c.args.cursor.now c.read_tail.new.cursor
    c.requires.next c.requires.between c.in_ok-tail.ensures c.joined-value.ensures
    ∙ climb_none c.args.levels c.args.least (length (left c.args.source.now c.read_tail.new.cursor)) c.args.precedence c.joined-value.result (budget_of c.read_tail.new.cursor)
    (left c.args.source.now c.read_tail.new.cursor)
    (ap (λ q. is_between c.args.least q c.args.precedence) (sym c.next_precedence.ensures.is) ∙ sym c.is_between.ensures ∙ c.if-not-is_between.true)

pub read_sequence-returns-in_err-value-2 : goal.read_sequence-returns-in_err-value-2
read_sequence-returns-in_err-value-2 t c =
    let s : Gives {A = Expr} c.args.source.now (Err c.in_err-value-2.field-0.0) c.read_tails.new.cursor
    (climb c.args.levels c.args.least (length (left c.args.source.now c.args.cursor.now)) 8 c.args.first (budget_of c.args.cursor.now) (left c.args.source.now c.args.cursor.now)) =
    subst (λ (r : Run Expr). Gives {A = Expr} c.args.source.now (Err c.in_err-value-2.field-0.0) c.read_tails.new.cursor r)
    (sym (first_on c.args.levels c.args.least (omega (arith, c.requires.least)) c.args.precedence c.args.first c.in_ok-value.value _ c.args.source.now c.args.cursor.now c.read_tail.new.cursor
    c.requires.next c.requires.between c.in_ok-tail.ensures (c.in_ok-value.ensures ∙ c.joined-value.ensures))) c.in_err-value-2.ensures in
    search rules

pub read_sequence-returns : goal.read_sequence-returns
read_sequence-returns t c =
    first_on c.args.levels c.args.least (omega (arith, c.requires.least)) c.args.precedence c.args.first c.in_ok-value.value _ c.args.source.now c.args.cursor.now c.read_tail.new.cursor
    c.requires.next c.requires.between c.in_ok-tail.ensures (c.in_ok-value.ensures ∙ c.joined-value.ensures)
    ∙ same_answer c.args.source.now c.read_tails.new.cursor c.read_tails.new.cursor c.in_ok-value-2.ensures c.into_inner.ensures refl

pub read_tails-operators-preserved : goal.read_tails-operators-preserved
read_tails-operators-preserved t c =
    climbs_on c.args.levels c.args.least c.next_precedence-precedence.result c.args.source.now c.operators.cursor c.read_tail.new.cursor
    c.operators.invariant c.operators-test.true c.next_precedence-precedence.ensures.is (sym c.is_between.ensures ∙ c.if-not-is_between.false)
    c.in_ok-tail.ensures c.in_ok-left.ensures

pub read_tails-returns-in_err-tail : goal.read_tails-returns-in_err-tail
read_tails-returns-in_err-tail t c =
    let s : Gives {A = Expr} c.args.source.now (Err c.in_err-tail.field-0.0) c.read_tail.new.cursor
    (climb c.args.levels c.args.least (length (left c.args.source.now c.args.cursor.now)) c.args.most c.args.first (budget_of c.args.cursor.now) (left c.args.source.now c.args.cursor.now)) =
    climbs_halt c.args.levels c.args.least c.next_precedence-precedence.result c.args.source.now c.operators.cursor c.read_tail.new.cursor c.in_err-tail.field-0.0
    c.operators.invariant c.operators-test.true c.next_precedence-precedence.ensures.is (sym c.is_between.ensures ∙ c.if-not-is_between.false) c.in_err-tail.ensures in
    search rules

pub read_tails-returns : goal.read_tails-returns
read_tails-returns t c =
    elim c.operators-test.branch [
      | read_tails-else-operators-test w ↦ climbs_all c.args.levels c.args.least c.operators.invariant w.operators-test.false
      | read_tails-then-operators-test+then-not-is_between w ↦ climbs_end c.args.levels c.args.least c.operators.invariant
          (ap (λ q. is_between c.args.least q c.operators.most) (sym w.next_precedence-precedence.ensures.is) ∙ sym w.is_between.ensures ∙ w.if-not-is_between.true)
    ]

pub read_tail-returns-in_default : goal.read_tail-returns-in_default
read_tail-returns-in_default t c =
    subst (λ (r : Run Tail). Gives {A = Tail} c.args.source.now (answer_seen c.read_word_tail.result) c.read_word_tail.new.cursor r)
    (sym (word_tail_is c.args.levels c.args.precedence c.args.source.now c.args.cursor.now c.charge.new.cursor c.requires.next c.requires.some
    (sym c.next_sign.ensures ∙ c.in_default.is) c.in_ok-charge.ensures))
    c.read_word_tail.ensures

pub read_tail-returns-in_err-right : goal.read_tail-returns-in_err-right
read_tail-returns-in_err-right t c =
    let s : Gives {A = Tail} c.args.source.now (Err c.in_err-right.field-0.0) c.read_boxed.new.cursor (within c.args.source.now c.args.levels (tail_at c.args.precedence) c.args.cursor.now) =
    subst (λ (r : Run Tail). Gives {A = Tail} c.args.source.now (Err c.in_err-right.field-0.0) c.read_boxed.new.cursor r)
    (sym (sign_tail_is c.args.levels c.args.precedence c.in-Some.op c.args.source.now c.args.cursor.now c.charge.new.cursor c.advance.new.cursor c.requires.next
    (sym c.next_sign.ensures ∙ c.in-Some.is) c.in_ok-charge.ensures c.advance.ensures))
    (made_halts (Binary c.in-Some.op) _ c.args.source.now c.read_boxed.new.cursor c.in_err-right.field-0.0 c.in_err-right.ensures) in
    search rules

pub read_tail-returns : goal.read_tail-returns
read_tail-returns t c =
    sign_tail_is c.args.levels c.args.precedence c.in-Some.op c.args.source.now c.args.cursor.now c.charge.new.cursor c.advance.new.cursor c.requires.next
    (sym c.next_sign.ensures ∙ c.in-Some.is) c.in_ok-charge.ensures c.advance.ensures
    ∙ ap (made (Binary c.in-Some.op)) c.in_ok-right.ensures
