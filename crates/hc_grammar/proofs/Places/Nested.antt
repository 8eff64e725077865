-- The places of an expression: what they have is read there, and what is read there they have.
use Rattle.std.proofs.Common.{◌≡◌, inl, inr, ℕ, zero, suc, ◌<◌, ◌≤◌, true, List, [], ◌∷◌, Some, None, refl, sym, arith, append-nil}
use Rattle.std.proofs.lemmas.Bool.{not-true}
use Rattle.hc_lex.specs.declared.token.TokenKind.TheVariants as kind
use Rattle.hc_ast.specs.declared.expression.Expr.{Expr}
use Rattle.hc_ast.specs.declared.expression.Expr.TheVariants as expr
use Rattle.hc_ast.specs.declared.query.Item.TheVariants as choice
use Rattle.hc_grammar.specs.Lexemes.{Lexeme, IsName}
use Rattle.hc_grammar.specs.Kinds.{Starts}
use Rattle.hc_grammar.specs.Marks.{Plain, Mark, At, Begins, Limits, lexemes}
use Rattle.hc_grammar.specs.Grammar.{Grammar, Place, Whole, Negation, Signed, Asked}
use Rattle.hc_grammar.specs.First.{first, ends, nullable, place_first, place_ends}
use Rattle.hc_grammar.specs.Has.{Phrase, has}
use Rattle.hc_grammar.specs.Runs.{Budget}
use Rattle.hc_grammar.specs.Expressions.{Precedence, grouped, tight, loose, negated, unary}
use Rattle.hc_grammar.specs.Places.{body, Nested, reading, running}
use Rattle.hc_grammar.proofs.Meanings.Clear.{body_clear, body_filled, body_first, body_ends, body_guarded}
use Rattle.hc_grammar.proofs.Terminals.Lists.{starts_fewer, ends_fewer}
use Rattle.hc_grammar.proofs.Meanings.Begins.{begins, begun}
use Rattle.hc_grammar.proofs.Meanings.Some.{HasSome}
use Rattle.hc_grammar.proofs.Meanings.Sound.{IsSound, sound}
use Rattle.hc_grammar.proofs.Meanings.Reaches.{Reaches, reaches}
use Rattle.hc_grammar.proofs.Meanings.Follows.{Follows, follows}
use Rattle.hc_grammar.proofs.Meanings.Spending.{IsBalanced, balanced}
use Rattle.hc_grammar.proofs.Meanings.Limited.{room, cut, limited}

-- an operand alone is of each precedence
pub alone : (W : (A : Type 0) → Place A → A → Phrase) (precedences : List Precedence) (g : Grammar Expr) (x : Expr) (marks : List Mark) → has W g x marks → has W (grouped precedences g) x marks
unfolding has
alone W [] g x marks h = h
alone W (p ∷ ps) g x marks h = (x, [], refl, (marks, [], sym (append-nil marks), alone W ps g x marks h, refl))

-- a column with its table's name
pub qualified : (W : (A : Type 0) → Place A → A → Phrase) (table column : List ℕ) (t d c : Lexeme) → IsName t table → d.kind ≡ kind.Dot → IsName c column
    → has W unary (expr.Name (Some table) column) (At Plain t ∷ At Plain d ∷ At Plain c ∷ [])
unfolding has
qualified W table column t d c one dot other =
    inr (inr (inr (inl (
      table,
      (λ called. expr.Name (Some called) column),
      refl,
      (
        At Plain t ∷ [],
        At Plain d ∷ At Plain c ∷ [],
        refl,
        (t, refl, one),
        inl (d, At Plain c ∷ [], refl, dot, (column, refl, (c, refl, other))),
      ),
    ))))

-- a name of no letters, and a dot
abbrev pub a_name : Lexeme
a_name = record { kind = kind.Name; text = [] }

pub some_name : (W : (A : Type 0) → Place A → A → Phrase) → has W unary (expr.Name None []) (At Plain a_name ∷ [])
unfolding has
some_name W = inr (inr (inr (inl ([], (λ column. expr.Name None column), refl, (At Plain a_name ∷ [], [], refl, (a_name, refl, inl (refl, refl)), inr (inr (refl, refl)))))))

-- each place has something
pub some_body : (W : (A : Type 0) → Place A → A → Phrase) (A : Type 0) (place : Place A) → HasSome (has W (body place))
unfolding has
some_body W A Whole = record { value = expr.Name None []; marks = At Plain a_name ∷ []; is = alone W loose negated _ _ (inr (alone W tight unary _ _ (some_name W))) }
some_body W A Negation = record { value = expr.Name None []; marks = At Plain a_name ∷ []; is = inr (alone W tight unary _ _ (some_name W)) }
some_body W A Signed = record { value = expr.Name None []; marks = At Plain a_name ∷ []; is = some_name W }
some_body W A Asked =
    let dot : Lexeme = record { kind = kind.Dot; text = [] } in
    let star : Lexeme = record { kind = kind.Star; text = [] } in
    record {
      value = choice.AllOf [];
      marks = Begins ∷ At Plain a_name ∷ At Plain dot ∷ At Plain star ∷ [];
      is = (
        At Plain a_name ∷ At Plain dot ∷ At Plain star ∷ [],
        refl,
        (
          [],
          refl,
          (
            [],
            true,
            refl,
            (
              At Plain a_name ∷ [],
              At Plain dot ∷ At Plain star ∷ [],
              refl,
              (a_name, refl, inl (refl, refl)),
              (dot, At Plain star ∷ [], refl, refl, (star, [], refl, refl, (refl, refl))),
            ),
          ),
        ),
      );
    }

-- a grammar begins with one of its first kinds, where it may not be empty
pub nested_begins : (n : ℕ) (A : Type 0) (place : Place A) (x : A) (marks : List Mark) → Nested n A place x marks → Starts (place_first place) (lexemes marks)
unfolding Nested
nested_begins zero A place x marks h = absurd h
nested_begins (suc n) A place x marks h =
    starts_fewer (first (body place)) (place_first place) (lexemes marks) (body_first place)
    (begun (first (body place)) (nullable (body place)) marks (not-true (nullable (body place)) (body_filled place))
    (begins (Nested n) (nested_begins n) (body place) x marks (body_clear place) h))

pub nested_some : (n : ℕ) (A : Type 0) (place : Place A) → HasSome (Nested (suc n) A place)
unfolding Nested
nested_some n A place = let s = some_body (Nested n) A place in record { value = s.value; marks = s.marks; is = s.is }

pub nested_sound : (n : ℕ) (A : Type 0) (place : Place A) (tokens : List Lexeme) → IsSound (Nested (suc n) A place) tokens (reading n A place tokens)
unfolding Nested reading
nested_sound zero A place tokens = let s = some_body (Nested 0) A place in (refl, (s.marks, s.value, s.is))
nested_sound (suc n) A place tokens = sound (Nested (suc n)) (reading n) (nested_some n) (nested_sound n) (body place) (body_clear place) tokens

pub nested_reaches : (n m : ℕ) → n ≤ m → (A : Type 0) (place : Place A) → Reaches (Nested n A place) (place_ends place) (reading m A place)
unfolding Nested reading
nested_reaches zero m fits A place x marks rest h e = absurd h
nested_reaches (suc n) zero fits A place x marks rest h e = absurd (omega (arith, fits))
nested_reaches (suc n) (suc m) fits A place x marks rest h e =
    reaches (Nested n) (reading m) (nested_begins n) (nested_reaches n m (omega (arith, fits))) (body place) (body_clear place) x marks rest h
    (ends_fewer (ends (body place)) (place_ends place) rest (body_ends place) e)

pub nested_follows : (n m : ℕ) → n ≤ m → (A : Type 0) (place : Place A) → Follows (Nested n A place) (reading m A place)
unfolding Nested reading
nested_follows zero m fits A place x marks front q rest h is ended = absurd h
nested_follows (suc n) zero fits A place x marks front q rest h is ended = absurd (omega (arith, fits))
nested_follows (suc n) (suc m) fits A place x marks front q rest h is ended =
    let less : n ≤ m = omega (arith, fits) in
    follows (Nested n) (reading m) (nested_begins n) (nested_reaches n m less) (nested_follows n m less) (body place) (body_clear place) x marks front q rest h is ended

pub nested_balanced : (all : Limits) (n : ℕ) (A : Type 0) (place : Place A) (x : A) (marks : List Mark) → Nested n A place x marks → IsBalanced all marks
unfolding Nested
nested_balanced all zero A place x marks h = absurd h
nested_balanced all (suc n) A place x marks h = balanced all (Nested n) (nested_balanced all n) (body place) x marks h

-- within limits the same is read, where so many levels may lie within one another
pub nested_runs : (all : Limits) (f n levels : ℕ) → levels < f → levels < n → (A : Type 0) (place : Place A) (budget : Budget) (tokens : List Lexeme)
    → running all.operators f levels A place budget tokens ≡ cut all (room levels budget) (reading n A place tokens)
unfolding running reading
nested_runs all zero n levels small less A place budget tokens = absurd (omega (arith, small))
nested_runs all (suc f) zero levels small less A place budget tokens = absurd (omega (arith, less))
nested_runs all (suc f) (suc n) levels small less A place budget tokens =
    limited all (Nested (suc n)) (reading n) (nested_some n) (nested_sound n) (nested_balanced all (suc n)) (running all.operators f) levels
    (λ k under. nested_runs all f n k (omega (arith, small, under)) (omega (arith, less, under)))
    (body place) (body_clear place) levels (inr (body_guarded place, omega arith)) budget tokens
