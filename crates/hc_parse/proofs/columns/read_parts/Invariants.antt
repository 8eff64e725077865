use Rattle.std.proofs.Common.{[], ◌∷◌}
use Rattle.hc_lex.specs.declared.token.TokenKind.TheVariants as kind
use Rattle.hc_grammar.specs.Statements.{parts, with_part}
use Rattle.hc_parse.specs.Coded.{from}
use Rattle.hc_parse.specs.Seen.{left, budget_of}
use Rattle.hc_parse.proofs.TableParts.{phased}
use Rattle.hc_parse.proofs.Gathers.{Gathers}
use Rattle.hc_parse.proofs.columns.read_parts.Given as goal

abbrev pub invariant-parts : goal.invariant-parts
invariant-parts l =
    Gathers (kind.Comma ∷ kind.Comma ∷ []) phased with_part (from l.fn.source parts l.fn.cursor) l.counter l.end l.parts (budget_of l.cursor) (left l.source l.cursor)
