use Rattle.std.proofs.Common.{[]}
use Rattle.hc_grammar.specs.First.{first}
use Rattle.hc_grammar.specs.Grammar.{Chain, Nothing}
use Rattle.hc_grammar.specs.Phrases.{pushed}
use Rattle.hc_grammar.specs.Places.{run_of}
use Rattle.hc_grammar.specs.Statements.{column_rule}
use Rattle.hc_parse.specs.Coded.{from}
use Rattle.hc_parse.specs.Seen.{left, budget_of}
use Rattle.hc_parse.proofs.Gathers.{Gathers}
use Rattle.hc_parse.proofs.columns.read_rules.Given as goal

abbrev pub invariant-rules : goal.invariant-rules
invariant-rules l =
    Gathers (first column_rule) (λ value. run_of 100 column_rule) pushed (from l.fn.source (Chain (Nothing []) column_rule pushed) l.fn.cursor)
    l.counter l.end l.rules.items (budget_of l.cursor) (left l.source l.cursor)
