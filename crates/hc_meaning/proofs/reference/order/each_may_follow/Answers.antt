use Rattle.std.proofs.Common.{◌≡◌, ◌∙◌, ◌<◌, ◌≤◌, sym, subst, arith, refl}
use Rattle.hc_transcript.specs.declared.reply.Ending.{Ending}
use Rattle.hc_meaning.specs.declared.transaction.Transaction.{Transaction}
use Rattle.hc_transcript.specs.Text.{ending_number}
use Rattle.hc_meaning.specs.RightOutput.{IsCommitted}
use Rattle.hc_meaning.proofs.Loops.Follows.{MayFollow}
use Rattle.hc_meaning.proofs.Loops.OneMore.{one_more, each_of_all}
use Rattle.hc_meaning.proofs.reference.order.each_may_follow.Goals as goal
use Rattle.hc_meaning.proofs.reference.order.each_may_follow.Goals.{else-conn-via-then-conn+then-ordinal+else-not-may_follow, else-conn-via-then-conn+else-ordinal, else-conn-via-else-conn}

-- how the two numbers lie
abbrev Lie : Ending → Ending → Type 0
Lie a b = (ending_number a ≤ ending_number b) × (IsCommitted b → ending_number a < ending_number b)

lie : (a b m n : Ending) → m ≡ a → n ≡ b → Lie m n → Lie a b
lie a b m n first second between = subst (λ (e : Ending). Lie e b) first (subst (λ (e : Ending). Lie m e) second between)

pub loop-later-preserved : goal.loop-later-preserved
loop-later-preserved c =
    let follows : MayFollow c.args.earlier.now c.later-item.result = elim c.else-conn.branch [
      | else-conn-via-then-conn+then-ordinal+else-not-may_follow w ↦ λ same before. lie _ _ _ _ w.ending.ensures w.ending-then-ordinal.ensures (w.may_follow.ensures.0 w.if-not-may_follow.false)
      | else-conn-via-then-conn+else-ordinal w ↦ λ same before. absurd (omega (arith, before, w.if-ordinal.false, w.ordinal.ensures, w.ordinal-then-conn.ensures))
      | else-conn-via-else-conn w ↦ λ same before. absurd (w.if-conn.false (c.conn.ensures ∙ same ∙ sym c.conn-in-loop-later.ensures))
    ] in
    one_more (λ (u : Transaction). MayFollow c.args.earlier.now u) c.args.transactions.now c.loop-later.later-index c.later-item.result c.loop-later-test.true c.later-item.is c.loop-later.invariant follows

pub returns : goal.returns
returns c = (
  λ yes. each_of_all (λ (u : Transaction). MayFollow c.args.earlier.now u) c.args.transactions.now c.loop-later.later-index c.loop-later-test.false c.loop-later.invariant,
  λ all. refl,
)
