-- The tables so far are told.
use Rattle.std.proofs.Common.{◌≡◌, take, Ok}
use Rattle.hc_schema.specs.Binding.Faults.{walk}
use Rattle.hc_schema.specs.Binding.Queries.{with_table, no_tables}
use Rattle.hc_bind.specs.Settings.{from_of}
use Rattle.hc_bind.proofs.query.sources.Given as goal

abbrev pub invariant-loop-f : goal.invariant-loop-f
invariant-loop-f l = walk (with_table l.tables) no_tables (take l.f-index l.list) ≡ Ok (from_of l.from)
