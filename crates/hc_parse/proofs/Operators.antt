-- Operators, as the code reads them.
use Rattle.std.proofs.Common.{◌≡◌, refl, sym, ap, ◌∙◌, ℕ, zero, suc, ◌+◌, ◌-◌, ◌<◌, ◌≤◌, arith, Bool, true, false, if◌then◌else◌, List, [], ◌∷◌, drop, length, Option, Some, None, Ok, Err}
use Rattle.std.specs.Prelude.{◌^◌}
use Rattle.hc_lex.specs.declared.token.TokenKind.{TokenKind}
use Rattle.hc_lex.specs.declared.token.TokenKind.TheVariants as kind
use Rattle.hc_lex.specs.declared.keyword.Keyword.{Keyword}
use Rattle.hc_lex.specs.declared.keyword.Keyword.TheVariants as word
use Rattle.hc_ast.specs.declared.expression.Expr.{Expr}
use Rattle.hc_ast.specs.declared.operator.BinaryOp.{BinaryOp}
use Rattle.hc_ast.specs.declared.operator.BinaryOp.TheVariants as op
use Rattle.hc_grammar.specs.Climbing.{begins_negation, climb, climbed, negation, next_precedence, operators_from, tail_at}
use Rattle.hc_grammar.specs.Expressions.{Tail, Binary, In, Like, Between, arguments, test_tail, unary}
use Rattle.hc_grammar.specs.Grammar.{Grammar, Both, Made}
use Rattle.hc_grammar.specs.Lexemes.{Lexeme, lexemes_of}
use Rattle.hc_grammar.specs.Marks.{Operator, Plain}
use Rattle.hc_grammar.specs.Phrases.{before as and_before, flag}
use Rattle.hc_grammar.specs.Places.{run_of}
use Rattle.hc_grammar.specs.Runs.{Budget, Run, Runner, TooDeep, and_then, made, passed, taken}
use Rattle.hc_grammar.proofs.Expressions.Climbing.{climbed_is}
use Rattle.hc_parse.specs.declared.cursor.Cursor.{Cursor}
use Rattle.hc_parse.specs.declared.source.Source.{Source}
use Rattle.hc_parse.specs.declared.stop.Stop.{Stop as Halt}
use Rattle.hc_parse.specs.declared.stop.Stop.TheVariants as halt
use Rattle.hc_parse.specs.Coded.{Advances, Charges, Gives}
use Rattle.hc_parse.specs.Seen.{left, budget_of}
use Rattle.hc_parse.specs.Tails.{precedence_of, sign_of, next_sign, word_tail_after}
use Rattle.hc_parse.proofs.Precedences.{lexeme_is}

chosen : {A : Type 0} {b c : Bool} (r s : Run A) → b ≡ c → (if b then r else s) ≡ (if c then r else s)
chosen r s e = ap (λ (d : Bool). if d then r else s) e

-- what follows NOT and its operand
pub after_negation : (levels least : ℕ) (b c : Budget) (t u : List Lexeme) (first : Expr) → 1 ≤ least → least ≤ 9
    → begins_negation least t ≡ true → run_of levels negation b t ≡ Ok (first, c, u) → run_of levels (operators_from least) b t ≡ climb levels least (length u) 2 first c u
after_negation levels least b c t u first low high is e =
    climbed_is levels least low high b t
    ∙ chosen (and_then (run_of levels negation b t) (λ left more rest. climb levels least (length rest) 2 left more rest))
    (and_then (run_of levels unary b t) (λ left more rest. climb levels least (length rest) 8 left more rest)) is
    ∙ ap (λ r. and_then r (λ left more rest. climb levels least (length rest) 2 left more rest)) e

-- what follows another operand
pub after_operand : (levels least : ℕ) (b c : Budget) (t u : List Lexeme) (first : Expr) → 1 ≤ least → least ≤ 9
    → begins_negation least t ≡ false → run_of levels unary b t ≡ Ok (first, c, u) → run_of levels (operators_from least) b t ≡ climb levels least (length u) 8 first c u
after_operand levels least b c t u first low high is e =
    climbed_is levels least low high b t
    ∙ chosen (and_then (run_of levels negation b t) (λ left more rest. climb levels least (length rest) 2 left more rest))
    (and_then (run_of levels unary b t) (λ left more rest. climb levels least (length rest) 8 left more rest)) is
    ∙ ap (λ r. and_then r (λ left more rest. climb levels least (length rest) 8 left more rest)) e

-- one operator less
less : (b c : Budget) → b.operators ≡ suc c.operators → c.tables ≡ b.tables → ◌≡◌ {A = Budget} (record b { operators = b.operators - 1 }) c
less b c o t =
    let n : b.operators - 1 ≡ c.operators = omega arith in
    ap (λ (k : ℕ). record { operators = k; tables = b.tables }) n ∙ ap (λ (k : ℕ). record { operators = c.operators; tables = k }) (sym t)

-- an operator for which there is room is passed
passes : {A : Type 0} (next : Budget → Run A) (b c : Budget) (t : List Lexeme) → b.operators ≡ suc c.operators → c.tables ≡ b.tables → passed Operator next b t ≡ next c
passes next b c t o e =
    ap (λ n. taken n (Err (TooDeep, t)) (next (record b { operators = b.operators - 1 }))) o ∙ ap next (less b c o e)

some_is : {A : Type 0} {x y : A} → Some x ≡ Some y → x ≡ y
some_is e = cc

sign_step : (g : Grammar Expr) (levels : ℕ) (o op : BinaryOp) (b c : Budget) (t : List Lexeme) → Some o ≡ Some op → b.operators ≡ suc c.operators → c.tables ≡ b.tables
    → and_then (passed Operator (λ left. Ok (o, left, drop 1 t)) b t) (λ x left more. made (Binary x) (run_of levels g left more)) ≡ made (Binary op) (run_of levels g c (drop 1 t))
sign_step g levels o op b c t e n k =
    ap (λ r. and_then r (λ x left more. made (Binary x) (run_of levels g left more))) (passes (λ left. Ok (o, left, drop 1 t)) b c t n k)
    ∙ ap (λ z. made (Binary z) (run_of levels g c (drop 1 t))) (some_is e)

sign_word : (k : Keyword) (text : List ℕ) (rest : List Lexeme) (levels : ℕ) (o : BinaryOp) (b c : Budget) → sign_of (kind.Keyword k) ≡ Some o
    → b.operators ≡ suc c.operators → c.tables ≡ b.tables
    → run_of levels (tail_at (precedence_of (kind.Keyword k))) b (record { kind = kind.Keyword k; text = text } ∷ rest) ≡ made (Binary o) (run_of levels (operators_from (precedence_of (kind.Keyword k) + 1)) c rest)
sign_word word.Or text rest levels o b c e n k = sign_step (operators_from 2) levels op.Or o b c (record { kind = kind.Keyword word.Or; text = text } ∷ rest) e n k
sign_word word.And text rest levels o b c e n k = sign_step (operators_from 3) levels op.And o b c (record { kind = kind.Keyword word.And; text = text } ∷ rest) e n k
sign_word other text rest levels o b c e n k = absurd cc

sign_kind : (k : TokenKind) (text : List ℕ) (rest : List Lexeme) (levels : ℕ) (o : BinaryOp) (b c : Budget) → sign_of k ≡ Some o
    → b.operators ≡ suc c.operators → c.tables ≡ b.tables
    → run_of levels (tail_at (precedence_of k)) b (record { kind = k; text = text } ∷ rest) ≡ made (Binary o) (run_of levels (operators_from (precedence_of k + 1)) c rest)
sign_kind (kind.Keyword w) text rest levels o b c e n k = sign_word w text rest levels o b c e n k
sign_kind kind.Equal text rest levels o b c e n k = sign_step (operators_from 5) levels op.Eq o b c (record { kind = kind.Equal; text = text } ∷ rest) e n k
sign_kind kind.DoubleEqual text rest levels o b c e n k = sign_step (operators_from 5) levels op.Eq o b c (record { kind = kind.DoubleEqual; text = text } ∷ rest) e n k
sign_kind kind.LessGreater text rest levels o b c e n k = sign_step (operators_from 5) levels op.Ne o b c (record { kind = kind.LessGreater; text = text } ∷ rest) e n k
sign_kind kind.NotEqual text rest levels o b c e n k = sign_step (operators_from 5) levels op.Ne o b c (record { kind = kind.NotEqual; text = text } ∷ rest) e n k
sign_kind kind.Less text rest levels o b c e n k = sign_step (operators_from 6) levels op.Lt o b c (record { kind = kind.Less; text = text } ∷ rest) e n k
sign_kind kind.LessEqual text rest levels o b c e n k = sign_step (operators_from 6) levels op.Le o b c (record { kind = kind.LessEqual; text = text } ∷ rest) e n k
sign_kind kind.Greater text rest levels o b c e n k = sign_step (operators_from 6) levels op.Gt o b c (record { kind = kind.Greater; text = text } ∷ rest) e n k
sign_kind kind.GreaterEqual text rest levels o b c e n k = sign_step (operators_from 6) levels op.Ge o b c (record { kind = kind.GreaterEqual; text = text } ∷ rest) e n k
sign_kind kind.Plus text rest levels o b c e n k = sign_step (operators_from 7) levels op.Add o b c (record { kind = kind.Plus; text = text } ∷ rest) e n k
sign_kind kind.Minus text rest levels o b c e n k = sign_step (operators_from 7) levels op.Sub o b c (record { kind = kind.Minus; text = text } ∷ rest) e n k
sign_kind kind.Star text rest levels o b c e n k = sign_step (operators_from 8) levels op.Mul o b c (record { kind = kind.Star; text = text } ∷ rest) e n k
sign_kind kind.Slash text rest levels o b c e n k = sign_step (operators_from 8) levels op.Div o b c (record { kind = kind.Slash; text = text } ∷ rest) e n k
sign_kind kind.Percent text rest levels o b c e n k = sign_step (operators_from 8) levels op.Rem o b c (record { kind = kind.Percent; text = text } ∷ rest) e n k
sign_kind kind.DoubleBar text rest levels o b c e n k = sign_step (operators_from 9) levels op.Concat o b c (record { kind = kind.DoubleBar; text = text } ∷ rest) e n k
sign_kind other text rest levels o b c e n k = absurd cc

sign_read : (t : List Lexeme) (levels p : ℕ) (o : BinaryOp) (b c : Budget) → p ≡ next_precedence t → next_sign t ≡ Some o → b.operators ≡ suc c.operators → c.tables ≡ b.tables
    → run_of levels (tail_at p) b t ≡ made (Binary o) (run_of levels (operators_from (p + 1)) c (drop 1 t))
sign_read [] levels p o b c next e n k = absurd cc
sign_read (lexeme ∷ rest) levels p o b c next e n k =
    let same : p ≡ precedence_of lexeme.kind = next ∙ lexeme_is lexeme rest in
    ap (λ q. run_of levels (tail_at q) b (lexeme ∷ rest)) same
    ∙ sign_kind lexeme.kind lexeme.text rest levels o b c e n k
    ∙ ap (λ q. made (Binary o) (run_of levels (operators_from (q + 1)) c rest)) (sym same)

word_word : (k : Keyword) (text : List ℕ) (rest : List Lexeme) (levels : ℕ) (b c : Budget) → sign_of (kind.Keyword k) ≡ None → 0 < precedence_of (kind.Keyword k)
    → b.operators ≡ suc c.operators → c.tables ≡ b.tables
    → run_of levels (tail_at (precedence_of (kind.Keyword k))) b (record { kind = kind.Keyword k; text = text } ∷ rest)
    ≡ run_of levels (word_tail_after (operators_from 5)) c (record { kind = kind.Keyword k; text = text } ∷ rest)
word_word word.Is text rest levels b c e p n k =
    passes (λ left. run_of levels (Both (λ is_negated. Binary (if is_negated then op.IsNot else op.Is)) (flag (word.Not ∷ [])) (operators_from 5)) left rest) b c (record { kind = kind.Keyword word.Is; text = text } ∷ rest) n k
word_word word.Not text rest levels b c e p n k =
    passes (λ left. run_of levels (test_tail Plain true (operators_from 5)) left rest) b c (record { kind = kind.Keyword word.Not; text = text } ∷ rest) n k
word_word word.In text rest levels b c e p n k =
    passes (λ left. run_of levels (Made (In false) arguments) left rest) b c (record { kind = kind.Keyword word.In; text = text } ∷ rest) n k
word_word word.Like text rest levels b c e p n k =
    passes (λ left. run_of levels (Made (Like false) (operators_from 5)) left rest) b c (record { kind = kind.Keyword word.Like; text = text } ∷ rest) n k
word_word word.Between text rest levels b c e p n k =
    passes (λ left. run_of levels (Both (Between false) (and_before (operators_from 5) (kind.Keyword word.And)) (operators_from 5)) left rest) b c (record { kind = kind.Keyword word.Between; text = text } ∷ rest) n k
word_word word.Or text rest levels b c e p n k = absurd cc
word_word word.And text rest levels b c e p n k = absurd cc
word_word other text rest levels b c e p n k = absurd (omega arith)

word_kind : (k : TokenKind) (text : List ℕ) (rest : List Lexeme) (levels : ℕ) (b c : Budget) → sign_of k ≡ None → 0 < precedence_of k
    → b.operators ≡ suc c.operators → c.tables ≡ b.tables
    → run_of levels (tail_at (precedence_of k)) b (record { kind = k; text = text } ∷ rest) ≡ run_of levels (word_tail_after (operators_from 5)) c (record { kind = k; text = text } ∷ rest)
word_kind (kind.Keyword w) text rest levels b c e p n k = word_word w text rest levels b c e p n k
word_kind kind.Equal text rest levels b c e p n k = absurd cc
word_kind kind.DoubleEqual text rest levels b c e p n k = absurd cc
word_kind kind.LessGreater text rest levels b c e p n k = absurd cc
word_kind kind.NotEqual text rest levels b c e p n k = absurd cc
word_kind kind.Less text rest levels b c e p n k = absurd cc
word_kind kind.LessEqual text rest levels b c e p n k = absurd cc
word_kind kind.Greater text rest levels b c e p n k = absurd cc
word_kind kind.GreaterEqual text rest levels b c e p n k = absurd cc
word_kind kind.Plus text rest levels b c e p n k = absurd cc
word_kind kind.Minus text rest levels b c e p n k = absurd cc
word_kind kind.Star text rest levels b c e p n k = absurd cc
word_kind kind.Slash text rest levels b c e p n k = absurd cc
word_kind kind.Percent text rest levels b c e p n k = absurd cc
word_kind kind.DoubleBar text rest levels b c e p n k = absurd cc
word_kind other text rest levels b c e p n k = absurd (omega arith)

word_read : (t : List Lexeme) (levels p : ℕ) (b c : Budget) → p ≡ next_precedence t → 0 < p → next_sign t ≡ None → b.operators ≡ suc c.operators → c.tables ≡ b.tables
    → run_of levels (tail_at p) b t ≡ run_of levels (word_tail_after (operators_from 5)) c t
word_read [] levels p b c next some e n k = absurd (omega arith)
word_read (lexeme ∷ rest) levels p b c next some e n k =
    let same : p ≡ precedence_of lexeme.kind = next ∙ lexeme_is lexeme rest in
    ap (λ q. run_of levels (tail_at q) b (lexeme ∷ rest)) same
    ∙ word_kind lexeme.kind lexeme.text rest levels b c e (omega arith) n k

-- the same from cursor to cursor
kept : (source : Source) (before charged : Cursor) → charged.at ≡ before.at → left source charged ≡ left source before
kept source before charged e = ap (λ n. lexemes_of source.text.now (drop n source.tokens.now)) e

pub sign_tail_is : (levels p : ℕ) (o : BinaryOp) (source : Source) (before charged after : Cursor) → p ≡ next_precedence (left source before)
    → next_sign (left source charged) ≡ Some o → Charges before charged (Ok tt) → Advances source charged after
    → run_of levels (tail_at p) (budget_of before) (left source before) ≡ made (Binary o) (run_of levels (operators_from (p + 1)) (budget_of after) (left source after))
sign_tail_is levels p o source before charged after next e charges on =
    let same = kept source before charged charges.2 in
    sign_read (left source before) levels p o (budget_of before) (budget_of charged) next (ap next_sign (sym same) ∙ e) charges.0 charges.1
    ∙ ap (λ t. made (Binary o) (run_of levels (operators_from (p + 1)) (budget_of charged) t)) (ap (drop 1) (sym same) ∙ sym on.1)
    ∙ ap (λ c. made (Binary o) (run_of levels (operators_from (p + 1)) c (left source after))) (sym on.0)

pub word_tail_is : (levels p : ℕ) (source : Source) (before charged : Cursor) → p ≡ next_precedence (left source before) → 0 < p
    → next_sign (left source charged) ≡ None → Charges before charged (Ok tt)
    → run_of levels (tail_at p) (budget_of before) (left source before) ≡ run_of levels (word_tail_after (operators_from 5)) (budget_of charged) (left source charged)
word_tail_is levels p source before charged next some e charges =
    let same = kept source before charged charges.2 in
    word_read (left source before) levels p (budget_of before) (budget_of charged) next some (ap next_sign (sym same) ∙ e) charges.0 charges.1
    ∙ ap (λ t. run_of levels (word_tail_after (operators_from 5)) (budget_of charged) t) (sym same)

-- what is made of a stop is the stop
pub made_halts : {A B : Type 0} (f : A → B) (r : Run A) (source : Source) (last : Cursor) (stop : Halt) → Gives {A = A} source (Err stop) last r → Gives {A = B} source (Err stop) last (made f r)
made_halts f r source last halt.Unexpected e = ap (made f) e
made_halts f r source last halt.TooDeep e = ap (made f) e
made_halts f r source last halt.NoMemory e = tt
