use Rattle.hc_schema.specs.Binding.Queries.{with_table, no_tables}
use Rattle.hc_bind.specs.Settings.{from_of}
use Rattle.hc_bind.proofs.Judging.{walk_more, walk_why}
use Rattle.hc_bind.proofs.query.sources.Goals as goal

pub loop-f-preserved : goal.loop-f-preserved
loop-f-preserved c =
    walk_more (with_table c.args.tables.now) no_tables c.args.list.now c.loop-f.f-index c.f-item.result (from_of c.loop-f.from) (from_of c.add_table.new.from) c.loop-f-test.true c.f-item.is c.loop-f.invariant c.in-Ok.ensures

pub returns-in-Err : goal.returns-in-Err
returns-in-Err c =
    walk_why (with_table c.args.tables.now) no_tables c.args.list.now c.loop-f.f-index c.f-item.result (from_of c.loop-f.from) c.in-Err.fault c.loop-f-test.true c.f-item.is c.loop-f.invariant c.in-Err.ensures
