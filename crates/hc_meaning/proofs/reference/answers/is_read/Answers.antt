use Rattle.std.proofs.Common.{◌∙◌, sym, subst, ⊎_elim}
use Rattle.std.specs.Prelude.{◌↔◌, IfOk, IsTrue}
use Rattle.hc_transcript.specs.declared.reply.Ending.{Ending}
use Rattle.hc_meaning.specs.RightOutput.{IsReadUnlessCommitted}
use Rattle.hc_meaning.proofs.reference.answers.is_read.Goals as goal

pub returns-in-Snapshot : goal.returns-in-Snapshot
returns-in-Snapshot c =
    ⊎_elim
    (λ is. subst (λ (e : Ending). IfOk c.is_read_at.result (λ read. IsTrue read ↔ IsReadUnlessCommitted c.args.history.now c.args.transaction.now e)) (sym is ∙ c.ending.ensures) c.is_read_at.ensures)
    (λ is. subst (λ (e : Ending). IfOk c.is_read_at.result (λ read. IsTrue read ↔ IsReadUnlessCommitted c.args.history.now c.args.transaction.now e)) (sym is ∙ c.ending.ensures) c.is_read_at.ensures)
    c.in-Snapshot.is
