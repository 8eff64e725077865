-- Laws of the grammar, each shown by a function of `laws`.
use Rattle.std.specs.Prelude.{◌≡◌, ◌⊎◌, ℕ, List}
use Rattle.hc_lex.specs.declared.fault.LexKind.{LexKind}
use Rattle.hc_lex.specs.declared.token.Token.{Token}
use Rattle.hc_lex.specs.Reading.{HasTokens}
use Rattle.hc_lex.specs.Reading.{HasFault as HasLexicalFault}
use Rattle.hc_ast.specs.declared.statement.Stmt.{Stmt}
use Rattle.hc_ast.specs.Kinds.{HasItsParts}
use Rattle.hc_ast.specs.Canonical.{canonical}
use Rattle.hc_grammar.specs.Lexemes.{lexemes_of}
use Rattle.hc_grammar.specs.Marks.{Mark, limits, lexemes}
use Rattle.hc_grammar.specs.Runs.{Stop, Unexpected, TooDeep}
use Rattle.hc_grammar.specs.Places.{Statement}
use Rattle.hc_grammar.specs.Faults.{IsStatementWithin, IsStatementOf, HasFault}

-- what a text may be: a statement, or at which place it has a fault of which kind
pub data Text : Type 0 where
  AStatement : Stmt → Text
  ALexicalFault : LexKind → ℕ → Text
  ASyntaxFault : ℕ → Text
  ATooDeep : ℕ → Text

-- what a text is
abbrev pub Is : List ℕ → Text → Type 0
Is text (AStatement s) = (tokens : List Token) × HasTokens text tokens × IsStatementOf text tokens s
Is text (ALexicalFault kind at) = HasLexicalFault text at kind
Is text (ASyntaxFault at) = (tokens : List Token) × HasTokens text tokens × HasFault text tokens Unexpected at
Is text (ATooDeep at) = (tokens : List Token) × HasTokens text tokens × HasFault text tokens TooDeep at

-- each text is exactly one of these
abbrev pub IsOneThing : Type 0
IsOneThing = (text : List ℕ) → (this : Text) × Is text this × ((other : Text) → Is text other → other ≡ this)

-- the same of tokens: they are a statement or have a fault, and one alone
abbrev pub TokensAreOneThing : Type 0
TokensAreOneThing = (text : List ℕ) (tokens : List Token)
    → ((s : Stmt) × IsStatementOf text tokens s × ((other : Stmt) → IsStatementOf text tokens other → other ≡ s) × ((stop : Stop) (at : ℕ) → HasFault text tokens stop at → ⊥))
    ⊎ ((stop : Stop) × (at : ℕ) × HasFault text tokens stop at × ((other : Stop) (place : ℕ) → HasFault text tokens other place → (other ≡ stop) × (place ≡ at))
    × ((s : Stmt) → IsStatementOf text tokens s → ⊥))

-- whatever the limits are, lexemes are one statement at most, with one list of marks
abbrev pub HasOneStatement : Type 0
HasOneStatement = (one other : Stmt) (marks more : List Mark) → Statement one marks → Statement other more → lexemes marks ≡ lexemes more → (one ≡ other) × (marks ≡ more)

-- what tokens are asks for something where it is a query, and has a column where it makes a table
abbrev pub StatementsHaveTheirParts : Type 0
StatementsHaveTheirParts = (text : List ℕ) (tokens : List Token) (s : Stmt) → IsStatementOf text tokens s → HasItsParts s

-- The canonical text of a statement that some tokens are has tokens. With levels enough they are that statement; and
-- they are it, or have a fault TooDeep, since canonical text has more parentheses.
abbrev pub IsReadAgain : Type 0
IsReadAgain = (text : List ℕ) (tokens : List Token) (s : Stmt) → HasTokens text tokens → IsStatementOf text tokens s
    → (again : List Token) × HasTokens (canonical s) again
    × ((levels : ℕ) × IsStatementWithin (record limits { levels = levels }) s (lexemes_of (canonical s) again))
    × (IsStatementOf (canonical s) again s ⊎ ((at : ℕ) × HasFault (canonical s) again TooDeep at))
