-- Why lexemes are no statement: the first lexeme with which no statement goes on, whatever the limits, or for which there
-- is no room within them.
use Rattle.std.specs.Prelude.{◌≡◌, ◌⊎◌, ℕ, false, List, [], ◌∷◌, ◌++◌, length, Result, Ok, Err}
use Rattle.hc_lex.specs.declared.token.Token.{Token}
use Rattle.hc_ast.specs.declared.statement.Stmt.{Stmt}
use Rattle.hc_grammar.specs.Lexemes.{Lexeme, lexemes_of}
use Rattle.hc_grammar.specs.Marks.{Mark, At, Operator, Table, Opens, Limits, limits, lexemes, fits, Fits}
use Rattle.hc_grammar.specs.Runs.{Budget, Run, Stop, Unexpected, TooDeep}
use Rattle.hc_grammar.specs.Statements.{statement}
use Rattle.hc_grammar.specs.Places.{Statement, run_of}

-- the lexemes are this statement, within such limits
abbrev pub IsStatementWithin : Limits → Stmt → List Lexeme → Type 0
IsStatementWithin within s front = (marks : List Mark) × (lexemes marks ≡ front) × Statement s marks × Fits within marks

-- the same within those of the parser
abbrev pub IsStatement : Stmt → List Lexeme → Type 0
IsStatement s front = IsStatementWithin limits s front

-- a statement begins with these marks
abbrev pub GoesOn : List Mark → Type 0
GoesOn marks = (s : Stmt) × (more : List Mark) × Statement s (marks ++ more)

-- with these lexemes no statement begins, whatever the limits; or, where none is left, they are none
abbrev pub IsUnexpected : List Lexeme → List Lexeme → Type 0
IsUnexpected front [] = (s : Stmt) (marks : List Mark) → lexemes marks ≡ front → Statement s marks → ⊥
IsUnexpected front (t ∷ rest) = (marks : List Mark) → lexemes marks ≡ front ++ t ∷ [] → GoesOn marks → ⊥

-- the lexeme after the front, marked so, is one for which there is no room
abbrev pub IsOver : (Lexeme → Mark) → List Lexeme → List Lexeme → Type 0
IsOver mark front rest =
    (marks : List Mark) × (t : Lexeme) × (others : List Lexeme) × (rest ≡ t ∷ others) × (lexemes marks ≡ front) × GoesOn (marks ++ mark t ∷ []) × Fits limits marks
    × (fits limits limits (marks ++ mark t ∷ []) ≡ false)

-- no fault shows in the front, and what follows it is one; one table too many is unexpected
abbrev pub IsFault : Stop → List Lexeme → List Lexeme → Type 0
IsFault Unexpected front rest =
    ((marks : List Mark) × (lexemes marks ≡ front) × GoesOn marks × Fits limits marks × IsUnexpected front rest) ⊎ IsOver (At Table) front rest
IsFault TooDeep front rest = IsOver Opens front rest ⊎ IsOver (At Operator) front rest

-- the place of the first of some tokens, or the text's length at the end
abbrev pub place_of : List ℕ → List Token → ℕ
place_of text [] = length text
place_of text (token ∷ tokens) = token.from

-- the tokens of the text are this statement
abbrev pub IsStatementOf : List ℕ → List Token → Stmt → Type 0
IsStatementOf text tokens s = IsStatement s (lexemes_of text tokens)

-- the tokens of the text have this fault at this place
abbrev pub HasFault : List ℕ → List Token → Stop → ℕ → Type 0
HasFault text tokens stop at =
    (front rest : List Token) × (tokens ≡ front ++ rest) × (at ≡ place_of text rest) × IsFault stop (lexemes_of text front) (lexemes_of text rest)

-- what may come in a statement
abbrev pub whole_budget : Budget
whole_budget = record { operators = limits.operators; tables = limits.tables }

-- nothing may follow a statement
abbrev pub ended : Run Stmt → Result Stmt (Stop × List Lexeme)
ended (Err stop) = Err stop
ended (Ok x) = elim x.2 [ [] ↦ Ok x.0 | t ∷ rest ↦ Err (Unexpected, t ∷ rest) ]

-- what is read of lexemes: a statement, or why and before what the reader stops
abbrev pub read_whole : List Lexeme → Result Stmt (Stop × List Lexeme)
read_whole front = ended (run_of limits.levels statement whole_budget front)
