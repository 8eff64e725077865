-- What the parser answers.
use Rattle.std.specs.Prelude.{◌≡◌, ℕ, List, Result, Ok, Err, ⊤}
use Rattle.hc_lex.specs.declared.token.Token.{Token}
use Rattle.hc_ast.specs.declared.statement.Stmt.{Stmt}
use Rattle.hc_grammar.specs.Faults.{IsStatementOf}
use Rattle.hc_grammar.specs.Faults.{HasFault as HasStop}
use Rattle.hc_grammar.specs.Runs.{Unexpected}
use Rattle.hc_grammar.specs.Runs.{TooDeep as Deep}
use Rattle.hc_parse.specs.declared.fault.ParseFault.{ParseFault}
use Rattle.hc_parse.specs.declared.fault.ParseFault.TheVariants.{Syntax, TooDeep, NoMemory}

-- the tokens of the text have this fault
abbrev pub HasFault : List ℕ → List Token → ParseFault → Type 0
HasFault text tokens (Syntax at) = HasStop text tokens Unexpected at
HasFault text tokens (TooDeep at) = HasStop text tokens Deep at
HasFault text tokens NoMemory = ⊥

-- the cause of a fault that is answered
abbrev pub IsCauseOf : List ℕ → List Token → ParseFault → Type 0
IsCauseOf text tokens (Syntax at) = HasStop text tokens Unexpected at
IsCauseOf text tokens (TooDeep at) = HasStop text tokens Deep at
IsCauseOf text tokens NoMemory = ⊤

-- the answer is this one, unless memory ran out
abbrev pub IsUnlessNoMemory : Result Stmt ParseFault → Result Stmt ParseFault → Type 0
IsUnlessNoMemory (Err NoMemory) answer = ⊤
IsUnlessNoMemory found answer = found ≡ answer

-- what is answered is the statement, or has a cause
abbrev pub IsAnswer : List ℕ → List Token → Result Stmt ParseFault → Type 0
IsAnswer text tokens (Ok statement) = IsStatementOf text tokens statement
IsAnswer text tokens (Err fault) = IsCauseOf text tokens fault
