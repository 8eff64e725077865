use Rattle.hc_meaning.proofs.reference.judgement.is_right_history.Goals as goal

pub returns : goal.returns
returns c = (
  λ yes. (c.in_ok-is_legal.ensures.0 c.if-not-branch.false, c.in_ok-others_are_read.ensures.0 c.if-not-branch-2.false, c.is_in_order.ensures.0 yes),
  λ right. c.is_in_order.ensures.1 right.2,
)
