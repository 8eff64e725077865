-- One phrase after the other.
use Rattle.std.proofs.Common.{◌≡◌, refl, sym, ap, subst, ◌∙◌, ℕ, suc, zero, ◌-◌, arith, true, false, List, [], ◌∷◌, drop, Option, Some, None, Ok, Err}
use Rattle.hc_lex.specs.declared.token.TokenKind.{TokenKind}
use Rattle.hc_grammar.specs.Grammar.{Grammar, Word}
use Rattle.hc_grammar.specs.Lexemes.{Lexeme}
use Rattle.hc_grammar.specs.Marks.{Plain, Table}
use Rattle.hc_grammar.specs.Phrases.{◌⊛◌}
use Rattle.hc_grammar.specs.Places.{run_of}
use Rattle.hc_grammar.specs.Runs.{Budget, Run, Unexpected, and_then, made, got, one, passed, taken}
use Rattle.hc_parse.specs.declared.cursor.Cursor.{Cursor}
use Rattle.hc_parse.specs.declared.source.Source.{Source}
use Rattle.hc_parse.specs.declared.stop.Stop.{Stop as Halt}
use Rattle.hc_parse.specs.declared.stop.Stop.TheVariants as halt
use Rattle.hc_parse.specs.Coded.{Accepts, Gives}
use Rattle.hc_parse.specs.Seen.{left, budget_of, head_of}
use Rattle.hc_parse.proofs.Lists.{word_read}

-- after a word
pub word_is : {A : Type 0} (kind : TokenKind) (g : Grammar A) (levels : ℕ) (source : Source) (before after : Cursor) → Accepts source kind before after true
    → run_of levels (Word Plain kind g) (budget_of before) (left source before) ≡ run_of levels g (budget_of after) (left source after)
word_is kind g levels source before after a =
    word_read kind (run_of levels g) (budget_of before) (budget_of after) (left source before) (left source after) (run_of levels g (budget_of after) (left source after)) (sym a.0.0) a.1.0 a.1.1 refl

pub seq_all : {A B : Type 0} (g : Grammar (A → B)) (h : Grammar A) (levels : ℕ) (b c d : Budget) (t u v : List Lexeme) (f : A → B) (x : A)
    → run_of levels g b t ≡ Ok (f, c, u) → run_of levels h c u ≡ Ok (x, d, v) → run_of levels (g ⊛ h) b t ≡ Ok (f x, d, v)
seq_all g h levels b c d t u v f x e i =
    ap (λ r. and_then r (λ make left rest. made (λ y. make y) (run_of levels h left rest))) e ∙ ap (λ r. made (λ y. f y) r) i

pub seq_halt : {A B : Type 0} (g : Grammar (A → B)) (h : Grammar A) (levels : ℕ) (b c : Budget) (t u : List Lexeme) (f : A → B) (source : Source) (last : Cursor) (stop : Halt)
    → run_of levels g b t ≡ Ok (f, c, u) → Gives {A = A} source (Err stop) last (run_of levels h c u) → Gives {A = B} source (Err stop) last (run_of levels (g ⊛ h) b t)
seq_halt g h levels b c t u f source last halt.Unexpected e i = ap (λ r. and_then r (λ make left rest. made (λ y. make y) (run_of levels h left rest))) e ∙ ap (λ r. made (λ y. f y) r) i
seq_halt g h levels b c t u f source last halt.TooDeep e i = ap (λ r. and_then r (λ make left rest. made (λ y. make y) (run_of levels h left rest))) e ∙ ap (λ r. made (λ y. f y) r) i
seq_halt g h levels b c t u f source last halt.NoMemory e i = tt

pub seq_skip : {A B : Type 0} (g : Grammar (A → B)) (h : Grammar A) (levels : ℕ) (b : Budget) (t : List Lexeme) (source : Source) (last : Cursor) (stop : Halt)
    → Gives {A = A → B} source (Err stop) last (run_of levels g b t) → Gives {A = B} source (Err stop) last (run_of levels (g ⊛ h) b t)
seq_skip g h levels b t source last halt.Unexpected e = ap (λ r. and_then r (λ make left rest. made (λ y. make y) (run_of levels h left rest))) e
seq_skip g h levels b t source last halt.TooDeep e = ap (λ r. and_then r (λ make left rest. made (λ y. make y) (run_of levels h left rest))) e
seq_skip g h levels b t source last halt.NoMemory e = tt

-- what is equal stops so too
pub same_halt : {A : Type 0} {r s : Run A} (source : Source) (last : Cursor) (stop : Halt) → r ≡ s → Gives {A = A} source (Err stop) last s → Gives {A = A} source (Err stop) last r
same_halt source last halt.Unexpected e i = e ∙ i
same_halt source last halt.TooDeep e i = e ∙ i
same_halt source last halt.NoMemory e i = tt

less : (b c : Budget) → b.tables ≡ suc c.tables → c.operators ≡ b.operators → ◌≡◌ {A = Budget} (record b { tables = b.tables - 1 }) c
less b c e o =
    let n : b.tables - 1 ≡ c.tables = omega arith in
    ap (λ (k : ℕ). record { operators = b.operators; tables = k }) n ∙ ap (λ (k : ℕ). record { operators = k; tables = c.tables }) (sym o)

some_is : {A : Type 0} {x y : A} → Some x ≡ Some y → x ≡ y
some_is e = cc

-- a table's name is taken
pub table_taken : {A : Type 0} (get : Lexeme → Option A) (t : List Lexeme) (lexeme : Lexeme) (x : A) (b c : Budget) → Some lexeme ≡ head_of t → Some x ≡ get lexeme
    → b.tables ≡ suc c.tables → c.operators ≡ b.operators → one Table get b t ≡ Ok (x, c, drop 1 t)
table_taken get [] lexeme x b c h g e o = absurd cc
table_taken get (l ∷ rest) lexeme x b c h g e o =
    ap (λ m. got Table m b (l ∷ rest)) (ap get (sym (some_is h)) ∙ sym g)
    ∙ ap (λ n. taken n (Err (Unexpected, l ∷ rest)) (Ok (x, record b { tables = b.tables - 1 }, rest))) e
    ∙ ap (λ d. Ok (x, d, rest)) (less b c e o)

got_none : {A : Type 0} (m : Option A) (b : Budget) (t : List Lexeme) → b.tables ≡ 0 → got Table m b t ≡ Err (Unexpected, t)
got_none None b t e = refl
got_none (Some x) b t e = ap (λ n. taken n (Err (Unexpected, t)) (Ok (x, record b { tables = b.tables - 1 }, drop 1 t))) e

-- no table may come
pub table_none : {A : Type 0} (get : Lexeme → Option A) (t : List Lexeme) (b : Budget) → b.tables ≡ 0 → one Table get b t ≡ Err (Unexpected, t)
table_none get [] b e = refl
table_none get (l ∷ rest) b e = got_none (get l) b (l ∷ rest) e
