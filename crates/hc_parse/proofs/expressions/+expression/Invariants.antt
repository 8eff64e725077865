use Rattle.std.proofs.Common.{◌+◌, ◌-◌, ◌*◌, [], ◌∷◌, length}
use Rattle.hc_lex.specs.declared.token.TokenKind.TheVariants as kind
use Rattle.hc_grammar.specs.Climbing.{climb}
use Rattle.hc_grammar.specs.Grammar.{Word, Within, Whole}
use Rattle.hc_grammar.specs.Marks.{Plain}
use Rattle.hc_grammar.specs.Phrases.{listed, pushed}
use Rattle.hc_grammar.specs.Places.{run_of}
use Rattle.hc_parse.specs.Coded.{within}
use Rattle.hc_parse.specs.Seen.{left, budget_of}
use Rattle.hc_parse.proofs.Climbs.{Climbs}
use Rattle.hc_parse.proofs.Gathers.{Gathers}
use Rattle.hc_parse.proofs.expressions.+expression.Given as goal

abbrev pub decreases-read_operand : goal.decreases-read_operand
decreases-read_operand l = l.levels * 128 + 113

abbrev pub decreases-read_negation : goal.decreases-read_negation
decreases-read_negation l = l.levels * 128 + 112

abbrev pub decreases-read_values : goal.decreases-read_values
decreases-read_values l = l.levels * 128 + 111

abbrev pub decreases-read_commas : goal.decreases-read_commas
decreases-read_commas l = l.levels * 128 + 110

abbrev pub decreases-read_within : goal.decreases-read_within
decreases-read_within l = l.levels * 128 + 100

abbrev pub decreases-read_operators : goal.decreases-read_operators
decreases-read_operators l = l.levels * 128 + (8 * (10 - l.least) + 7)

abbrev pub decreases-read_sequence : goal.decreases-read_sequence
decreases-read_sequence l = l.levels * 128 + (8 * (10 - l.least) + 6)

abbrev pub decreases-read_boxed : goal.decreases-read_boxed
decreases-read_boxed l = l.levels * 128 + (8 * (10 - l.least) + 6)

abbrev pub decreases-read_tails : goal.decreases-read_tails
decreases-read_tails l = l.levels * 128 + (8 * (10 - l.least) + 5)

abbrev pub decreases-read_tail : goal.decreases-read_tail
decreases-read_tail l = l.levels * 128 + (8 * (10 - l.precedence) + 4)

abbrev pub decreases-read_word_tail : goal.decreases-read_word_tail
decreases-read_word_tail l = l.levels * 128 + 49

abbrev pub decreases-read_test : goal.decreases-read_test
decreases-read_test l = l.levels * 128 + 48

abbrev pub decreases-read_negated : goal.decreases-read_negated
decreases-read_negated l = l.levels * 128 + 5

abbrev pub decreases-read_signed : goal.decreases-read_signed
decreases-read_signed l = l.levels * 128 + 4

abbrev pub decreases-read_minus : goal.decreases-read_minus
decreases-read_minus l = l.levels * 128 + 3

abbrev pub decreases-read_plus : goal.decreases-read_plus
decreases-read_plus l = l.levels * 128 + 3

abbrev pub decreases-read_primary : goal.decreases-read_primary
decreases-read_primary l = l.levels * 128 + 3

abbrev pub decreases-read_parentheses : goal.decreases-read_parentheses
decreases-read_parentheses l = l.levels * 128 + 2

abbrev pub decreases-read_named : goal.decreases-read_named
decreases-read_named l = l.levels * 128 + 2

abbrev pub decreases-read_arguments : goal.decreases-read_arguments
decreases-read_arguments l = l.levels * 128 + 1

abbrev pub invariant-read_tails-operators : goal.invariant-read_tails-operators
invariant-read_tails-operators l =
    Climbs l.levels l.least (climb l.levels l.least (length (left l.fn.source l.fn.cursor)) l.fn.most l.fn.first (budget_of l.fn.cursor) (left l.fn.source l.fn.cursor))
    l.counter l.end l.most l.left (budget_of l.cursor) (left l.source l.cursor)

abbrev pub invariant-read_commas-items : goal.invariant-read_commas-items
invariant-read_commas-items l =
    Gathers (kind.Comma ∷ []) (λ value. run_of l.levels (Word Plain kind.Comma (Within Whole))) pushed (within l.fn.source l.levels (listed (Within Whole)) l.fn.cursor)
    l.counter l.end l.list.items (budget_of l.cursor) (left l.source l.cursor)
