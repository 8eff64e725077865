-- What the places have, and what is read there. The number is how deep levels lie within one another.
use Rattle.std.specs.Prelude.{◌⊎◌, ℕ, zero, suc, ◌&&◌, Bool, false, if◌then◌else◌, List, [], ◌∷◌, Err}
use Rattle.hc_lex.specs.declared.token.TokenKind.TheVariants as kind
use Rattle.hc_ast.specs.declared.statement.Stmt.{Stmt}
use Rattle.hc_grammar.specs.Lexemes.{Lexeme}
use Rattle.hc_grammar.specs.Kinds.{is, among}
use Rattle.hc_grammar.specs.Marks.{Mark, limits}
use Rattle.hc_grammar.specs.Grammar.{Grammar, Place, Whole, Negation, Signed, Asked}
use Rattle.hc_grammar.specs.Has.{Phrase, has}
use Rattle.hc_grammar.specs.Reads.{Reader, read}
use Rattle.hc_grammar.specs.Runs.{Runner, Unexpected, run}
use Rattle.hc_grammar.specs.Expressions.{grouped, loose, negated, unary}
use Rattle.hc_grammar.specs.Queries.{all_of, item}
use Rattle.hc_grammar.specs.Statements.{statement}

-- what is at a place; what a query asks for may be an expression besides
abbrev pub body : {A : Type 0} → Place A → Grammar A
body Whole = grouped loose negated
body Negation = negated
body Signed = unary
body Asked = all_of

-- what the places of an expression have
unfoldable pub Nested : ℕ → (A : Type 0) → Place A → A → Phrase
Nested zero A place x marks = ⊥
Nested (suc n) A place x marks = has (Nested n) (body place) x marks

-- what the places of a statement have
abbrev pub Placed : ℕ → (A : Type 0) → Place A → A → Phrase
Placed n A Whole x marks = Nested n A Whole x marks
Placed n A Negation x marks = Nested n A Negation x marks
Placed n A Signed x marks = Nested n A Signed x marks
Placed n A Asked x marks = has (Nested n) all_of x marks ⊎ has (Nested n) item x marks

-- a statement, with its marks
abbrev pub Statement : Stmt → List Mark → Type 0
Statement s marks = (n : ℕ) × has (Placed (suc n)) statement s marks

-- `name.*` is there
abbrev pub begins_all_of : List Lexeme → Bool
begins_all_of [] = false
begins_all_of (a ∷ []) = false
begins_all_of (a ∷ b ∷ []) = false
begins_all_of (a ∷ b ∷ c ∷ rest) = among (kind.Name ∷ kind.QuotedName ∷ []) a && (is kind.Dot b && is kind.Star c)

-- what is read at the places of an expression
unfoldable pub reading : ℕ → (A : Type 0) → Place A → Reader A
reading zero A place tokens = Err ([], tokens)
reading (suc n) A place tokens = read (reading n) (body place) tokens

-- what is read at the places of a statement
abbrev pub placed : ℕ → (A : Type 0) → Place A → Reader A
placed n A Whole tokens = reading n A Whole tokens
placed n A Negation tokens = reading n A Negation tokens
placed n A Signed tokens = reading n A Signed tokens
placed n A Asked tokens = if begins_all_of tokens then read (reading n) all_of tokens else read (reading n) item tokens

-- The same within limits: the first number is how many operators an expression may have, the last one how many levels may
-- be opened.
unfoldable pub running : ℕ → ℕ → ℕ → (A : Type 0) → Place A → Runner A
running all zero levels A place budget tokens = Err (Unexpected, tokens)
running all (suc n) levels A place budget tokens = run all (running all n) levels (body place) budget tokens

-- each level within is one less
abbrev pub runner : ℕ → ℕ → (A : Type 0) → Place A → Runner A
runner all levels A place budget tokens = running all (suc levels) levels A place budget tokens

abbrev pub places : ℕ → ℕ → (A : Type 0) → Place A → Runner A
places all levels A Whole budget tokens = runner all levels A Whole budget tokens
places all levels A Negation budget tokens = runner all levels A Negation budget tokens
places all levels A Signed budget tokens = runner all levels A Signed budget tokens
places all levels A Asked budget tokens =
    if begins_all_of tokens then run all (runner all) levels all_of budget tokens else run all (runner all) levels item budget tokens

-- what is read of a grammar, where so many levels may be opened
abbrev pub run_of : ℕ → {A : Type 0} → Grammar A → Runner A
run_of levels g budget tokens = run limits.operators (places limits.operators) levels g budget tokens
