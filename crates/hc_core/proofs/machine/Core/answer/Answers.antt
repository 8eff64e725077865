use Rattle.hc_core.proofs.machine.Core.answer.Goals as goal

pub returns-in-Purge-clause-answer : goal.returns-in-Purge-clause-answer
returns-in-Purge-clause-answer c = rw (c.in-Purge.is, ← c.as_slice-in-Purge.ensures) c.purge.ensures
