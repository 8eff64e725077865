use Rattle.hc_reads.proofs.SameKeys.{keys_pushed}
use Rattle.hc_reads.proofs.prepared.Prepared.unite.Goals as goal

pub returns : goal.returns
returns c =
    rw (← c.self.view_is)
    (keys_pushed c.self.inside.log c.self.inside.waiting.items c.with_range.result.items c.self.inside.range c.from_parts.result c.from_parts.ensures c.with_range.ensures)
