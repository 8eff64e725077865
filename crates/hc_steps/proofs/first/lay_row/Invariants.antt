-- The first k words of the row are written.
use Rattle.std.proofs.Common.{◌++◌, take, drop}
use Rattle.hc_rows.specs.Regions.{rows}
use Rattle.hc_rule.specs.Start.{IsLaid}
use Rattle.hc_steps.proofs.first.lay_row.Given as goal

abbrev pub invariant-loop-k : goal.invariant-loop-k
invariant-loop-k l = IsLaid l.layout l.initial.words l.words l.p.0 (take l.k l.page.words ++ drop l.k (rows l.layout l.initial.words l.p.0))
