use Rattle.std.proofs.Common.{[], ◌∷◌}
use Rattle.hc_lex.specs.declared.token.TokenKind.TheVariants as kind
use Rattle.hc_grammar.specs.Grammar.{Word}
use Rattle.hc_grammar.specs.Marks.{Plain}
use Rattle.hc_grammar.specs.Phrases.{listed, pushed}
use Rattle.hc_grammar.specs.Places.{run_of}
use Rattle.hc_parse.specs.Coded.{from}
use Rattle.hc_parse.specs.Seen.{left, budget_of}
use Rattle.hc_parse.proofs.Gathers.{Gathers}
use Rattle.hc_parse.proofs.list.read_list.Given as goal

abbrev pub invariant-items : goal.invariant-items
invariant-items g l =
    Gathers (kind.Comma ∷ []) (λ value. run_of 100 (Word Plain kind.Comma g.P.Part.grammar)) pushed (from l.fn.source (listed g.P.Part.grammar) l.fn.cursor)
    l.counter l.end l.list.items (budget_of l.cursor) (left l.source l.cursor)
