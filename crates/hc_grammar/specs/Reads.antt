-- A reader without limits: what it reads with its marks and what is left, or the marks up to where it stops.
use Rattle.std.specs.Prelude.{ℕ, zero, suc, if◌then◌else◌, List, [], ◌∷◌, ◌++◌, length, Option, Some, None, Result, Ok, Err}
use Rattle.hc_lex.specs.declared.token.TokenKind.{TokenKind}
use Rattle.hc_grammar.specs.Lexemes.{Lexeme}
use Rattle.hc_grammar.specs.Kinds.{is, among, head_is}
use Rattle.hc_grammar.specs.Marks.{Label, Opens, Mark, At, Closes, Begins}
use Rattle.hc_grammar.specs.Terminals.{value_of}
use Rattle.hc_grammar.specs.Grammar.{Grammar, Nothing, One, Word, Level, Both, Depending, Made, Choice, Chain, Phased, Within, Begin, Place}
use Rattle.hc_grammar.specs.First.{first}

abbrev pub Read : Type 0 → Type 0
Read A = Result (A × List Mark × List Lexeme) (List Mark × List Lexeme)

abbrev pub Reader : Type 0 → Type 0
Reader A = List Lexeme → Read A

-- these marks before what is read
abbrev pub put : {A : Type 0} → List Mark → Read A → Read A
put marks (Ok x) = Ok (x.0, marks ++ x.1, x.2)
put marks (Err stop) = Err (marks ++ stop.0, stop.1)

abbrev pub and_then : {A B : Type 0} → Read A → (A → Reader B) → Read B
and_then (Err stop) next = Err stop
and_then (Ok x) next = put x.1 (next x.0 x.2)

-- the value that is read made into another
abbrev pub made : {A B : Type 0} → (A → B) → Read A → Read B
made f (Ok x) = Ok (f x.0, x.1, x.2)
made f (Err stop) = Err stop

-- what ends with what is read
abbrev pub closed : {A : Type 0} → Read A → Read A
closed (Ok x) = Ok (x.0, x.1 ++ Closes ∷ [], x.2)
closed (Err stop) = Err stop

-- the value of a lexeme that has one
abbrev pub got : {A : Type 0} → Label → Lexeme → List Lexeme → Option A → Read A
got label lexeme rest None = Err ([], lexeme ∷ rest)
got label lexeme rest (Some x) = Ok (x, At label lexeme ∷ [], rest)

-- the value of the first lexeme
abbrev pub one : {A : Type 0} → Label → (Lexeme → Option A) → Reader A
one label get [] = Err ([], [])
one label get (lexeme ∷ rest) = got label lexeme rest (get lexeme)

-- a lexeme of this kind, and then what `next` reads
abbrev pub word : {A : Type 0} → (Lexeme → Mark) → TokenKind → Reader A → Reader A
word mark kind next [] = Err ([], [])
word mark kind next (lexeme ∷ rest) = if is kind lexeme then put (mark lexeme ∷ []) (next rest) else Err ([], lexeme ∷ rest)

-- Parts that are joined, one after the other, to the value before them, while one of these kinds is next. The
-- number bounds how many there are.
abbrev pub gather : {A B : Type 0} → List TokenKind → (B → Reader A) → (B → A → B) → ℕ → B → Reader B
gather kinds part join zero value tokens = Ok (value, [], tokens)
gather kinds part join (suc n) value tokens =
    if head_is (among kinds) tokens then and_then (part value tokens) (λ x. gather kinds part join n (join value x)) else Ok (value, [], tokens)

-- a first value, and all parts after it
abbrev pub chain : {A B : Type 0} → Read B → List TokenKind → (B → Reader A) → (B → A → B) → Read B
chain start kinds part join = and_then start (λ value rest. gather kinds part join (length rest) value rest)

-- `R` reads what the places have.
unfoldable pub read : ((A : Type 0) → Place A → Reader A) → {A : Type 0} → Grammar A → Reader A
read R (Nothing x) tokens = Ok (x, [], tokens)
read R (One label terminal) tokens = one label (value_of terminal) tokens
read R (Word label kind g) tokens = word (At label) kind (read R g) tokens
read R (Level kind g) tokens = word Opens kind (λ rest. closed (read R g rest)) tokens
read R (Both f g h) tokens = and_then (read R g tokens) (λ x rest. made (f x) (read R h rest))
read R (Depending f g test h k) tokens = and_then (read R g tokens) (λ x rest. made (f x) (if test x then read R h rest else read R k rest))
read R (Made f g) tokens = made f (read R g tokens)
read R (Choice g h) tokens = if head_is (among (first g)) tokens then read R g tokens else read R h tokens
read R (Chain g h join) tokens = chain (read R g tokens) (first h) (λ value. read R h) join
read R (Phased g test h k join) tokens =
    chain (read R g tokens) (first h ++ first k) (λ value rest. if test value then read R h rest else read R k rest) join
read R (Within {A} place) tokens = R A place tokens
read R (Begin g) tokens = put (Begins ∷ []) (read R g tokens)
