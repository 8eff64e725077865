use Rattle.hc_meaning.proofs.Table.Differences.{agrees}
use Rattle.hc_meaning.proofs.reference.answers.differ.Goals as goal

pub returns-else-differ_at_ids_of-clause-none : goal.returns-else-differ_at_ids_of-clause-none
returns-else-differ_at_ids_of-clause-none c = λ no.
    agrees c.args.before.now c.args.after.now (c.differ_at_ids_of.ensures.none c.if-differ_at_ids_of.false) (c.differ_at_ids_of-else-differ_at_ids_of.ensures.none no)
