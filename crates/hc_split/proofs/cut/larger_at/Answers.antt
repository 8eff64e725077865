-- The larger one of both.
use Rattle.hc_split.specs.Joined.{joined_entries}
use Rattle.hc_split.proofs.Measuring.{larger_left, larger_right}
use Rattle.hc_split.proofs.cut.larger_at.Goals as goal

pub returns-then-left-right : goal.returns-then-left-right
returns-then-left-right c = record {
  larger = λ d fresh can.
      larger_right d fresh (joined_entries c.args.joined.now d) c.args.at c.left_words-left.result c.right_words-right.result (c.left_words-left.ensures.left d fresh can)
      (c.right_words-right.ensures.right d fresh can) c.if-left-right.true;
}

pub returns-else-left-right : goal.returns-else-left-right
returns-else-left-right c = record {
  larger = λ d fresh can.
      larger_left d fresh (joined_entries c.args.joined.now d) c.args.at c.left_words-left.result c.right_words-right.result (c.left_words-left.ensures.left d fresh can)
      (c.right_words-right.ensures.right d fresh can) c.if-left-right.false;
}
