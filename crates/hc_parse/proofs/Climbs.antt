-- Operators after a left operand, as a loop reads them.
use Rattle.std.proofs.Common.{◌≡◌, refl, sym, ap, subst, ◌∙◌, ℕ, zero, suc, ◌+◌, ◌-◌, ◌<◌, ◌≤◌, arith, ◌&&◌, Bool, true, false, if◌then◌else◌, List, [], ◌∷◌, length, Ok, Err}
use Rattle.std.specs.Prelude.{nat_le}
use Rattle.std.proofs.lemmas.Bool.Decides.{nat_tests}
use Rattle.hc_ast.specs.declared.expression.Expr.{Expr}
use Rattle.hc_grammar.specs.Climbing.{climb, is_between, next_precedence, tail_at}
use Rattle.hc_grammar.specs.Expressions.{Tail, applied}
use Rattle.hc_grammar.specs.Lexemes.{Lexeme}
use Rattle.hc_grammar.specs.Places.{run_of}
use Rattle.hc_grammar.specs.Runs.{Budget, Run, Stop, Unexpected, TooDeep, and_then}
use Rattle.hc_grammar.proofs.Expressions.Climbing.{climb_on, climb_stops}
use Rattle.hc_parse.specs.declared.cursor.Cursor.{Cursor}
use Rattle.hc_parse.specs.declared.source.Source.{Source}
use Rattle.hc_parse.specs.declared.stop.Stop.{Stop as Halt}
use Rattle.hc_parse.specs.declared.stop.Stop.TheVariants as halt
use Rattle.hc_parse.specs.Coded.{Gives}
use Rattle.hc_parse.specs.Seen.{left, budget_of}

-- The whole run is what is still to be climbed: so many operators at most, after the left operand.
pub record Climbs (levels least : ℕ) (whole : Run Expr) (counter end most : ℕ) (value : Expr) (budget : Budget) (tokens : List Lexeme) : Type 0 where
  pub is : whole ≡ climb levels least (end - counter) most value budget tokens

-- an operator of precedence `q` where it is in between
abbrev step : ℕ → ℕ → ℕ → ℕ → ℕ → Expr → Budget → List Lexeme → Run Expr
step levels least n most q value budget tokens =
    if is_between least q most
    then and_then (run_of levels (tail_at q) budget tokens) (λ tail. climb levels least n q (applied value tail))
    else Ok (value, budget, tokens)

unrolled : (levels least n most : ℕ) (value : Expr) (budget : Budget) (tokens : List Lexeme)
    → climb levels least (suc n) most value budget tokens ≡ step levels least n most (next_precedence tokens) value budget tokens
unrolled levels least n most value budget tokens = refl

step_on : (levels least n most q : ℕ) (value : Expr) (budget after : Budget) (tokens rest : List Lexeme) (tail : Tail)
    → is_between least q most ≡ true → run_of levels (tail_at q) budget tokens ≡ Ok (tail, after, rest)
    → step levels least n most q value budget tokens ≡ climb levels least n q (applied value tail) after rest
step_on levels least n most q value budget after tokens rest tail is e =
    ap (λ (b : Bool). if b then and_then (run_of levels (tail_at q) budget tokens) (λ tail. climb levels least n q (applied value tail)) else Ok (value, budget, tokens)) is
    ∙ ap (λ r. and_then r (λ tail. climb levels least n q (applied value tail))) e

step_stop : (levels least n most q : ℕ) (value : Expr) (budget : Budget) (tokens : List Lexeme) (stop : Stop × List Lexeme)
    → is_between least q most ≡ true → run_of levels (tail_at q) budget tokens ≡ Err stop → step levels least n most q value budget tokens ≡ Err stop
step_stop levels least n most q value budget tokens stop is e =
    ap (λ (b : Bool). if b then and_then (run_of levels (tail_at q) budget tokens) (λ tail. climb levels least n q (applied value tail)) else Ok (value, budget, tokens)) is
    ∙ ap (λ r. and_then r (λ tail. climb levels least n q (applied value tail))) e

pub climbs_on : (levels least : ℕ) {whole : Run Expr} {counter end most : ℕ} {value made : Expr} {tail : Tail} (p : ℕ) (source : Source) (before last : Cursor)
    → Climbs levels least whole counter end most value (budget_of before) (left source before) → counter < end
    → p ≡ next_precedence (left source before) → is_between least p most ≡ true
    → run_of levels (tail_at p) (budget_of before) (left source before) ≡ Ok (tail, budget_of last, left source last)
    → made ≡ applied value tail
    → Climbs levels least whole (counter + 1) end p made (budget_of last) (left source last)
climbs_on levels least {whole} {counter} {end} {most} {value} {made} {tail} p source before last climbs lt next is e same =
    let n : end - counter ≡ suc (end - (counter + 1)) = omega arith in
    record {
      is =
          climbs.is ∙ ap (λ m. climb levels least m most value (budget_of before) (left source before)) n
          ∙ unrolled levels least (end - (counter + 1)) most value (budget_of before) (left source before)
          ∙ ap (λ q. step levels least (end - (counter + 1)) most q value (budget_of before) (left source before)) (sym next)
          ∙ step_on levels least (end - (counter + 1)) most p value (budget_of before) (budget_of last) (left source before) (left source last) tail is e
          ∙ ap (λ x. climb levels least (end - (counter + 1)) p x (budget_of last) (left source last)) (sym same);
    }

climbs_stop : (levels least : ℕ) {whole : Run Expr} {counter end most : ℕ} {value : Expr} (p : ℕ) (source : Source) (before : Cursor) (stop : Stop × List Lexeme)
    → Climbs levels least whole counter end most value (budget_of before) (left source before) → counter < end
    → p ≡ next_precedence (left source before) → is_between least p most ≡ true
    → run_of levels (tail_at p) (budget_of before) (left source before) ≡ Err stop → whole ≡ Err stop
climbs_stop levels least {whole} {counter} {end} {most} {value} p source before stop climbs lt next is e =
    let n : end - counter ≡ suc (end - (counter + 1)) = omega arith in
    climbs.is ∙ ap (λ m. climb levels least m most value (budget_of before) (left source before)) n
    ∙ unrolled levels least (end - (counter + 1)) most value (budget_of before) (left source before)
    ∙ ap (λ q. step levels least (end - (counter + 1)) most q value (budget_of before) (left source before)) (sym next)
    ∙ step_stop levels least (end - (counter + 1)) most p value (budget_of before) (left source before) stop is e

pub climbs_halt : (levels least : ℕ) {whole : Run Expr} {counter end most : ℕ} {value : Expr} (p : ℕ) (source : Source) (before last : Cursor) (stop : Halt)
    → Climbs levels least whole counter end most value (budget_of before) (left source before) → counter < end
    → p ≡ next_precedence (left source before) → is_between least p most ≡ true
    → Gives {A = Tail} source (Err stop) last (run_of levels (tail_at p) (budget_of before) (left source before))
    → Gives {A = Expr} source (Err stop) last whole
climbs_halt levels least p source before last halt.Unexpected climbs lt next is e = climbs_stop levels least p source before (Unexpected, left source last) climbs lt next is e
climbs_halt levels least p source before last halt.TooDeep climbs lt next is e = climbs_stop levels least p source before (TooDeep, left source last) climbs lt next is e
climbs_halt levels least p source before last halt.NoMemory climbs lt next is e = tt

-- no operator follows
pub climb_none : (levels least n most : ℕ) (value : Expr) (budget : Budget) (tokens : List Lexeme) → is_between least (next_precedence tokens) most ≡ false
    → climb levels least n most value budget tokens ≡ Ok (value, budget, tokens)
climb_none levels least zero most value budget tokens is = refl
climb_none levels least (suc n) most value budget tokens is = rw is refl

pub climbs_end : (levels least : ℕ) {whole : Run Expr} {counter end most : ℕ} {value : Expr} {budget : Budget} {tokens : List Lexeme}
    → Climbs levels least whole counter end most value budget tokens → is_between least (next_precedence tokens) most ≡ false → whole ≡ Ok (value, budget, tokens)
climbs_end levels least {whole} {counter} {end} {most} {value} {budget} {tokens} climbs is = climbs.is ∙ climb_none levels least (end - counter) most value budget tokens is

pub climbs_all : (levels least : ℕ) {whole : Run Expr} {counter end most : ℕ} {value : Expr} {budget : Budget} {tokens : List Lexeme}
    → Climbs levels least whole counter end most value budget tokens → end ≤ counter → whole ≡ Ok (value, budget, tokens)
climbs_all levels least {whole} {counter} {end} {most} {value} {budget} {tokens} climbs le =
    let n : end - counter ≡ 0 = omega arith in
    climbs.is ∙ ap (λ m. climb levels least m most value budget tokens) n

-- a precedence in between is neither looser nor tighter
pub between : (least p most : ℕ) → is_between least p most ≡ true → (least ≤ p) × (p ≤ most)
between least p most e = (grind (arith, nat_tests), grind (arith, nat_tests))

-- the first operator is at fault
pub first_halts : (levels least : ℕ) → 1 ≤ least → (p : ℕ) (value : Expr) (source : Source) (before last : Cursor) (stop : Halt) → p ≡ next_precedence (left source before) → is_between least p 8 ≡ true
    → Gives {A = Tail} source (Err stop) last (run_of levels (tail_at p) (budget_of before) (left source before))
    → Gives {A = Expr} source (Err stop) last (climb levels least (length (left source before)) 8 value (budget_of before) (left source before))
first_halts levels least low p value source before last halt.Unexpected next is e =
    climb_stops levels least low p 8 value (budget_of before) (left source before) (Unexpected, left source last) (sym next) is e
first_halts levels least low p value source before last halt.TooDeep next is e =
    climb_stops levels least low p 8 value (budget_of before) (left source before) (TooDeep, left source last) (sym next) is e
first_halts levels least low p value source before last halt.NoMemory next is e = tt

-- the first operator makes a value, and those that follow are no tighter
pub first_on : (levels least : ℕ) → 1 ≤ least → (p : ℕ) (value made : Expr) (tail : Tail) (source : Source) (before last : Cursor) → p ≡ next_precedence (left source before) → is_between least p 8 ≡ true
    → run_of levels (tail_at p) (budget_of before) (left source before) ≡ Ok (tail, budget_of last, left source last) → made ≡ applied value tail
    → climb levels least (length (left source before)) 8 value (budget_of before) (left source before) ≡ climb levels least (length (left source last)) p made (budget_of last) (left source last)
first_on levels least low p value made tail source before last next is e same =
    climb_on levels least low p 8 value tail (budget_of before) (budget_of last) (left source before) (left source last) (sym next) is e
    ∙ ap (λ x. climb levels least (length (left source last)) p x (budget_of last) (left source last)) (sym same)
