-- The command that a statement's text is: what it does to a transaction, or its fault.
use Rattle.std.specs.Prelude.{◌≡◌, ℕ, List}
use Rattle.hc_ast.specs.declared.statement.Stmt.{Stmt}
use Rattle.hc_ast.specs.declared.statement.Stmt.TheVariants as stmt
use Rattle.hc_transcript.specs.declared.refusal.Refusal.TheVariants as refusal
use Rattle.hc_grammar.specs.Laws.{Text, AStatement, ALexicalFault, ASyntaxFault, ATooDeep, Is}
use Rattle.hc_meaning.specs.declared.command.Command.{Command}
use Rattle.hc_meaning.specs.declared.command.Command.TheVariants as command

-- one of the six that speak of transactions, or a statement that touches the database
abbrev pub command_of_statement : Stmt → Command
command_of_statement stmt.Begin = command.Begin
command_of_statement stmt.Commit = command.Commit
command_of_statement stmt.Rollback = command.Rollback
command_of_statement (stmt.RollbackTo name) = command.RollbackTo name
command_of_statement (stmt.Savepoint name) = command.Savepoint name
command_of_statement (stmt.Release name) = command.Release name
command_of_statement s = command.Run s

-- the same of what a text is
abbrev pub command_of_text : Text → Command
command_of_text (AStatement s) = command_of_statement s
command_of_text (ALexicalFault kind at) = command.Fault (refusal.Lex kind at)
command_of_text (ASyntaxFault at) = command.Fault (refusal.Syntax at)
command_of_text (ATooDeep at) = command.Fault (refusal.TooDeep at)

-- a text is this command
abbrev pub IsCommandOf : List ℕ → Command → Type 0
IsCommandOf text c = (this : Text) × Is text this × (c ≡ command_of_text this)
