-- A reader within limits, as the code computes it.
use Rattle.std.specs.Prelude.{ℕ, zero, suc, ◌-◌, if◌then◌else◌, List, [], ◌∷◌, ◌++◌, length, drop, Option, Some, None, Result, Ok, Err}
use Rattle.hc_lex.specs.declared.token.TokenKind.{TokenKind}
use Rattle.hc_grammar.specs.Lexemes.{Lexeme}
use Rattle.hc_grammar.specs.Kinds.{is, among, head_is}
use Rattle.hc_grammar.specs.Marks.{Label, Plain, Operator, Table}
use Rattle.hc_grammar.specs.Terminals.{value_of}
use Rattle.hc_grammar.specs.Grammar.{Grammar, Nothing, One, Word, Level, Both, Depending, Made, Choice, Chain, Phased, Within, Begin, Place}
use Rattle.hc_grammar.specs.First.{first}

-- how many operators and tables may still come
pub record Budget : Type 0 where
  pub operators : ℕ
  pub tables : ℕ

-- why a reader stops
pub data Stop : Type 0 where
  Unexpected : Stop
  TooDeep : Stop

-- a value, what may still come, and what is left; or why and before what the reader stops
abbrev pub Run : Type 0 → Type 0
Run A = Result (A × Budget × List Lexeme) (Stop × List Lexeme)

abbrev pub Runner : Type 0 → Type 0
Runner A = Budget → List Lexeme → Run A

abbrev pub and_then : {A B : Type 0} → Run A → (A → Runner B) → Run B
and_then (Err stop) next = Err stop
and_then (Ok x) next = next x.0 x.1 x.2

-- the value that is read made into another
abbrev pub made : {A B : Type 0} → (A → B) → Run A → Run B
made f (Err stop) = Err stop
made f (Ok x) = Ok (f x.0, x.1, x.2)

-- takes one of what may still come
abbrev pub taken : {A : Type 0} → ℕ → Run A → Run A → Run A
taken zero none some = none
taken (suc n) none some = some

-- A lexeme of this label is passed. Where there is no room for it, it is the fault.
abbrev pub passed : {A : Type 0} → Label → (Budget → Run A) → Runner A
passed Plain next budget tokens = next budget
passed Operator next budget tokens = taken budget.operators (Err (TooDeep, tokens)) (next (record budget { operators = budget.operators - 1 }))
passed Table next budget tokens = taken budget.tables (Err (Unexpected, tokens)) (next (record budget { tables = budget.tables - 1 }))

-- the value of a lexeme that has one
abbrev pub got : {A : Type 0} → Label → Option A → Budget → List Lexeme → Run A
got label None budget tokens = Err (Unexpected, tokens)
got label (Some x) budget tokens = passed label (λ left. Ok (x, left, drop 1 tokens)) budget tokens

-- the value of the first lexeme
abbrev pub one : {A : Type 0} → Label → (Lexeme → Option A) → Runner A
one label get budget [] = Err (Unexpected, [])
one label get budget (lexeme ∷ rest) = got label (get lexeme) budget (lexeme ∷ rest)

-- a lexeme of this kind, and then what `next` reads
abbrev pub word : {A : Type 0} → Label → TokenKind → Runner A → Runner A
word label kind next budget tokens =
    if head_is (is kind) tokens then passed label (λ left. next left (drop 1 tokens)) budget tokens else Err (Unexpected, tokens)

-- a lexeme that opens a level, and then what `next` reads in it
abbrev pub opened : {A : Type 0} → ℕ → TokenKind → (ℕ → Runner A) → Runner A
opened levels kind next budget tokens =
    if head_is (is kind) tokens then taken levels (Err (TooDeep, tokens)) (next (levels - 1) budget (drop 1 tokens)) else Err (Unexpected, tokens)

-- parts that are joined to the value before them
abbrev pub gather : {A B : Type 0} → List TokenKind → (B → Runner A) → (B → A → B) → ℕ → B → Runner B
gather kinds part join zero value budget tokens = Ok (value, budget, tokens)
gather kinds part join (suc n) value budget tokens =
    if head_is (among kinds) tokens
    then and_then (part value budget tokens) (λ x. gather kinds part join n (join value x))
    else Ok (value, budget, tokens)

-- a first value, and all parts after it
abbrev pub chain : {A B : Type 0} → Run B → List TokenKind → (B → Runner A) → (B → A → B) → Run B
chain start kinds part join = and_then start (λ value budget rest. gather kinds part join (length rest) value budget rest)

-- `R` reads what the places have, where so many levels may be opened; `all` is how many operators an expression may have.
abbrev pub run : ℕ → (ℕ → (A : Type 0) → Place A → Runner A) → ℕ → {A : Type 0} → Grammar A → Runner A
run all R levels (Nothing x) budget tokens = Ok (x, budget, tokens)
run all R levels (One label terminal) budget tokens = one label (value_of terminal) budget tokens
run all R levels (Word label kind g) budget tokens = word label kind (run all R levels g) budget tokens
run all R levels (Level kind g) budget tokens = opened levels kind (λ left. run all R left g) budget tokens
run all R levels (Both f g h) budget tokens = and_then (run all R levels g budget tokens) (λ x left rest. made (f x) (run all R levels h left rest))
run all R levels (Depending f g test h k) budget tokens =
    and_then (run all R levels g budget tokens) (λ x left rest. made (f x) (if test x then run all R levels h left rest else run all R levels k left rest))
run all R levels (Made f g) budget tokens = made f (run all R levels g budget tokens)
run all R levels (Choice g h) budget tokens = if head_is (among (first g)) tokens then run all R levels g budget tokens else run all R levels h budget tokens
run all R levels (Chain g h join) budget tokens = chain (run all R levels g budget tokens) (first h) (λ value. run all R levels h) join
run all R levels (Phased g test h k join) budget tokens =
    chain (run all R levels g budget tokens) (first h ++ first k)
    (λ value left rest. if test value then run all R levels h left rest else run all R levels k left rest) join
run all R levels (Within {A} place) budget tokens = R levels A place budget tokens
run all R levels (Begin g) budget tokens = run all R levels g (record budget { operators = all }) tokens
