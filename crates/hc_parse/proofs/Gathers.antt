-- Loops that gather parts.
use Rattle.std.proofs.Common.{◌≡◌, refl, sym, ap, subst, ◌∙◌, ℕ, zero, suc, ◌+◌, ◌-◌, ◌<◌, ◌≤◌, arith, Bool, true, false, if◌then◌else◌, List, [], ◌∷◌, ◌++◌, length, Ok, Err}
use Rattle.hc_lex.specs.declared.token.TokenKind.{TokenKind}
use Rattle.hc_grammar.specs.Kinds.{among, head_is}
use Rattle.hc_grammar.specs.Lexemes.{Lexeme}
use Rattle.hc_grammar.specs.Runs.{Budget, Run, Runner, Stop, gather}

-- The whole run is what is still to be gathered: so many parts at most, joined to the value.
pub record Gathers {A B : Type 0} (kinds : List TokenKind) (part : B → Runner A) (join : B → A → B) (whole : Run B) (counter end : ℕ) (value : B) (budget : Budget) (tokens : List Lexeme) : Type 0 where
  pub is : whole ≡ gather kinds part join (end - counter) value budget tokens

-- one part more
on : {A B : Type 0} (kinds : List TokenKind) (part : B → Runner A) (join : B → A → B) (n : ℕ) (value : B) (budget left : Budget) (tokens rest : List Lexeme) (x : A)
    → head_is (among kinds) tokens ≡ true → part value budget tokens ≡ Ok (x, left, rest)
    → gather kinds part join (suc n) value budget tokens ≡ gather kinds part join n (join value x) left rest
on kinds part join n value budget left tokens rest x is e = rw (is, e) refl

pub gathers_on : {A B : Type 0} {kinds : List TokenKind} {part : B → Runner A} {join : B → A → B} {whole : Run B} {counter end : ℕ} {value : B} {budget left : Budget} {tokens rest : List Lexeme} {x : A}
    → Gathers kinds part join whole counter end value budget tokens → counter < end → head_is (among kinds) tokens ≡ true → part value budget tokens ≡ Ok (x, left, rest)
    → Gathers kinds part join whole (counter + 1) end (join value x) left rest
gathers_on {A} {B} {kinds} {part} {join} {whole} {counter} {end} {value} {budget} {left} {tokens} {rest} {x} g lt is e =
    let n : end - counter ≡ suc (end - (counter + 1)) = omega arith in
    record { is = g.is ∙ ap (λ m. gather kinds part join m value budget tokens) n ∙ on kinds part join (end - (counter + 1)) value budget left tokens rest x is e }

pub gathers_stop : {A B : Type 0} {kinds : List TokenKind} {part : B → Runner A} {join : B → A → B} {whole : Run B} {counter end : ℕ} {value : B} {budget : Budget} {tokens : List Lexeme} {stop : Stop × List Lexeme}
    → Gathers kinds part join whole counter end value budget tokens → counter < end → head_is (among kinds) tokens ≡ true → part value budget tokens ≡ Err stop
    → whole ≡ Err stop
gathers_stop {A} {B} {kinds} {part} {join} {whole} {counter} {end} {value} {budget} {tokens} {stop} g lt is e =
    let n : end - counter ≡ suc (end - (counter + 1)) = omega arith in
    g.is ∙ ap (λ m. gather kinds part join m value budget tokens) n ∙ stopped
  where
    stopped : gather kinds part join (suc (end - (counter + 1))) value budget tokens ≡ Err stop
    stopped = rw (is, e) refl

-- no part more is there
none : {A B : Type 0} (kinds : List TokenKind) (part : B → Runner A) (join : B → A → B) (n : ℕ) (value : B) (budget : Budget) (tokens : List Lexeme)
    → head_is (among kinds) tokens ≡ false → gather kinds part join n value budget tokens ≡ Ok (value, budget, tokens)
none kinds part join zero value budget tokens is = refl
none kinds part join (suc n) value budget tokens is = rw is refl

pub gathers_end : {A B : Type 0} {kinds : List TokenKind} {part : B → Runner A} {join : B → A → B} {whole : Run B} {counter end : ℕ} {value : B} {budget : Budget} {tokens : List Lexeme}
    → Gathers kinds part join whole counter end value budget tokens → head_is (among kinds) tokens ≡ false → whole ≡ Ok (value, budget, tokens)
gathers_end {A} {B} {kinds} {part} {join} {whole} {counter} {end} {value} {budget} {tokens} g is = g.is ∙ none kinds part join (end - counter) value budget tokens is

-- so many were gathered
pub gathers_all : {A B : Type 0} {kinds : List TokenKind} {part : B → Runner A} {join : B → A → B} {whole : Run B} {counter end : ℕ} {value : B} {budget : Budget} {tokens : List Lexeme}
    → Gathers kinds part join whole counter end value budget tokens → end ≤ counter → whole ≡ Ok (value, budget, tokens)
gathers_all {A} {B} {kinds} {part} {join} {whole} {counter} {end} {value} {budget} {tokens} g le =
    let n : end - counter ≡ 0 = omega arith in
    g.is ∙ ap (λ m. gather kinds part join m value budget tokens) n
