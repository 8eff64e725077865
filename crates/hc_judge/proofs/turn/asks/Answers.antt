use Rattle.std.proofs.Common.{◌∙◌, ap, sym}
use Rattle.hc_meaning.specs.Runs.Walk.{answer_in, commits}
use Rattle.hc_judge.specs.declared.turn.Told.{Told}
use Rattle.hc_judge.specs.Turns.{told_as}
use Rattle.hc_judge.proofs.turn.asks.Goals as goal

pub returns-in-Done : goal.returns-in-Done
returns-in-Done c = λ k reply.
    c.carries_out.ensures c.args.fails k reply
    ∙ ap (λ (t : Told). commits c.args.fails k (answer_in reply) (told_as t) c.args.ending) (sym c.in-Done.is)
