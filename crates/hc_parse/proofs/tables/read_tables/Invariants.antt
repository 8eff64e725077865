use Rattle.hc_grammar.specs.First.{first}
use Rattle.hc_grammar.specs.Phrases.{pushed}
use Rattle.hc_grammar.specs.Places.{run_of}
use Rattle.hc_grammar.specs.Queries.{joined, tables}
use Rattle.hc_parse.specs.Coded.{from}
use Rattle.hc_parse.specs.Seen.{left, budget_of}
use Rattle.hc_parse.proofs.Gathers.{Gathers}
use Rattle.hc_parse.proofs.tables.read_tables.Given as goal

abbrev pub invariant-tables : goal.invariant-tables
invariant-tables l =
    Gathers (first joined) (λ value. run_of 100 joined) pushed (from l.fn.source tables l.fn.cursor) l.counter l.end l.tables.items (budget_of l.cursor) (left l.source l.cursor)
