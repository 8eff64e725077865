-- What is read of lexemes is the statement that they are, or the fault that they have.
use Rattle.std.proofs.Common.{◌≡◌, ap, ◌∙◌, ℕ, suc, ◌+◌, ◌≤◌, Bool, true, false, List, [], ◌∷◌, ◌++◌, Result, Ok, Err, refl, sym, subst, arith, append_assoc, append-nil}
use Rattle.std.specs.Prelude.{if◌then◌else◌}
use Rattle.std.proofs.lemmas.List.{append_cancel_left}
use Rattle.hc_ast.specs.declared.statement.Stmt.{Stmt}
use Rattle.hc_grammar.specs.Lexemes.{Lexeme}
use Rattle.hc_grammar.specs.Marks.{Operator, Table, Mark, At, Opens, Limits, limits, lexemes, is_over, after, fits, Fits}
use Rattle.hc_grammar.specs.Has.{has}
use Rattle.hc_grammar.specs.Reads.{Read, read}
use Rattle.hc_grammar.specs.Runs.{Budget, Run, Stop, Unexpected, TooDeep}
use Rattle.hc_grammar.specs.Statements.{statement}
use Rattle.hc_grammar.specs.Places.{Placed, placed, run_of}
use Rattle.hc_grammar.specs.Faults.{IsStatement, IsOver, whole_budget, ended, read_whole}
use Rattle.hc_grammar.proofs.Meanings.Clear.{statement_clear}
use Rattle.hc_grammar.proofs.Terminals.Lists.{differ}
use Rattle.hc_grammar.proofs.Meanings.Marks.{lexemes-before, is_lexeme, is_ended}
use Rattle.hc_grammar.proofs.Meanings.Sound.{IsSound}
use Rattle.hc_grammar.proofs.Meanings.Follows.{taken, Extends}
use Rattle.hc_grammar.proofs.Meanings.Spending.{spend, spend_on, spend-append, fits_spend, spend_fits}
use Rattle.hc_grammar.proofs.Meanings.Limited.{room, budget_of, why, cut, cut_at}
use Rattle.hc_grammar.proofs.Places.Asked.{runs}
use Rattle.hc_grammar.proofs.Faults.Fronts.{left_of, read_goes, sound_read, statement_read, read_along}

-- what is read without limits, and within them
abbrev pub read_at : ℕ → List Lexeme → Read Stmt
read_at m tokens = read (placed (suc m)) statement tokens

pub run_is : (budget : Budget) (m : ℕ) → limits.levels ≤ m → (tokens : List Lexeme) → run_of limits.levels statement budget tokens ≡ cut limits (room limits.levels budget) (read_at m tokens)
run_is budget m more tokens = runs limits (suc m) statement statement_clear limits.levels (omega (arith, more)) budget tokens

pub whole_is : (m : ℕ) → limits.levels ≤ m → (tokens : List Lexeme) → read_whole tokens ≡ ended (cut limits limits (read_at m tokens))
whole_is m more tokens = ap ended (run_is whole_budget m more tokens)

-- each statement is read
pub statement_answer : (s : Stmt) (tokens : List Lexeme) → IsStatement s tokens → read_whole tokens ≡ Ok s
statement_answer s tokens h =
    let m : ℕ = limits.levels + h.2.0 in
    let l = fits_spend limits limits h.0 h.3 in
    whole_is m (omega arith) tokens
    ∙ ap (λ t. ended (cut limits limits (read_at m t))) (sym h.1)
    ∙ ap (λ r. ended (cut limits limits r)) (statement_read s h.0 h.2 m (omega arith))
    ∙ ap (λ r. ended (cut_at r [] (λ l. Ok (s, budget_of l, [])))) l.1

ended_some : (x s : Stmt) (b : Budget) (rest : List Lexeme) → (let r : Run Stmt = Ok (x, b, rest) in ended r ≡ Ok s) → (rest ≡ []) × (x ≡ s)
ended_some x s b [] e = (refl, cc)
ended_some x s b (t ∷ rest) e = absurd (cc)

cut_some : (x s : Stmt) (rest : List Lexeme) (marks : List Mark) (r : Result Limits (List Mark)) → spend limits limits marks ≡ r → ended (cut_at r rest (λ l. Ok (x, budget_of l, rest))) ≡ Ok s
    → (rest ≡ []) × (x ≡ s) × Fits limits marks
cut_some x s rest marks (Ok l) h e = let p = ended_some x s (budget_of l) rest e in (p.0, p.1, spend_fits limits limits l marks h)
cut_some x s rest marks (Err over) h e = absurd (cc)

cut_none : (s : Stmt) (rest : List Lexeme) (r : Result Limits (List Mark)) → (let q : Run Stmt = cut_at r rest (λ l. Err (Unexpected, rest)) in ended q ≡ Ok s) → ⊥
cut_none s rest (Ok l) e = cc
cut_none s rest (Err over) e = cc

-- what is read as a statement is one
pub answer_statement : (s : Stmt) (tokens : List Lexeme) → read_whole tokens ≡ Ok s → IsStatement s tokens
answer_statement s tokens e = by (read_at limits.levels tokens) (sound_read (suc limits.levels) tokens) (sym (whole_is limits.levels (omega arith) tokens) ∙ e)
  where
    by : (r : Read Stmt) → IsSound (has (Placed (suc (suc limits.levels))) statement) tokens r → ended (cut limits limits r) ≡ Ok s → IsStatement s tokens
    by (Ok x) h e =
        let p = cut_some x.0 s x.2 x.1 (spend limits limits x.1) refl e in
        (x.1, sym (h.0 ∙ ap (λ (l : List Lexeme). lexemes x.1 ++ l) p.0 ∙ append-nil (lexemes x.1)), (suc limits.levels, subst (λ t. has (Placed (suc (suc limits.levels))) statement t x.1) p.1 h.1), p.2)
    by (Err stop) h e = absurd (cut_none s stop.1 (spend limits limits stop.0) e)

-- where there is no room for a mark, that is answered
pub over_answer : (r : Read Stmt) (left : Limits) (before : List Mark) (next : Mark) (more : List Mark) (room : Limits) → taken r ≡ before ++ next ∷ more → spend limits left before ≡ Ok room
    → is_over room next ≡ true → cut limits left r ≡ Err (why (next ∷ more), lexemes (next ∷ more) ++ left_of r)
over_answer r left before next more room is spent full = by r is
  where
    cut_here : spend limits left (before ++ next ∷ more) ≡ Err (next ∷ more)
    cut_here =
        spend-append limits left before (next ∷ more) ∙ ap (λ s. spend_on limits s (next ∷ more)) spent
        ∙ ap (λ b. if b then Err (next ∷ more) else spend limits (after limits room next) more) full

    by : (r : Read Stmt) → taken r ≡ before ++ next ∷ more → cut limits left r ≡ Err (why (next ∷ more), lexemes (next ∷ more) ++ left_of r)
    by (Ok x) is = ap (λ s. cut_at s x.2 (λ l. Ok (x.0, budget_of l, x.2))) (ap (spend limits left) is ∙ cut_here)
    by (Err stop) is = ap (λ s. cut_at s stop.1 (λ l. Err (Unexpected, stop.1))) (ap (spend limits left) is ∙ cut_here)

last_ended : (marks : List Mark) (m : Mark) → is_lexeme m ≡ true → is_ended (marks ++ m ∷ []) ≡ true
last_ended [] m h = h
last_ended (n ∷ []) m h = h
last_ended (n ∷ k ∷ marks) m h = last_ended (k ∷ marks) m h

-- one more lexeme than fits is over
full_last : (marks : List Mark) (m : Mark) (room : Limits) → spend limits limits marks ≡ Ok room → fits limits limits (marks ++ m ∷ []) ≡ false → is_over room m ≡ true
full_last marks m room spent none = by (is_over room m) refl
  where
    by : (test : Bool) → is_over room m ≡ test → test ≡ true
    by true e = refl
    by false e =
        differ (fits limits limits (marks ++ m ∷ []))
        (spend_fits limits limits (after limits room m) (marks ++ m ∷ [])
        (spend-append limits limits marks (m ∷ []) ∙ ap (λ s. spend_on limits s (m ∷ [])) spent ∙ ap (λ b. if b then Err (m ∷ []) else Ok (after limits room m)) e)) none

-- a mark of one lexeme
pub record IsMark (mark : Lexeme → Mark) (stop : Stop) : Type 0 where
  pub lexeme : (t : Lexeme) → is_lexeme (mark t) ≡ true
  pub lists : (t : Lexeme) (marks : List Mark) → lexemes (mark t ∷ marks) ≡ t ∷ lexemes marks
  pub stops : (t : Lexeme) (marks : List Mark) → why (mark t ∷ marks) ≡ stop

pub table_mark : IsMark (At Table) Unexpected
table_mark = record { lexeme = λ t. refl; lists = λ t marks. refl; stops = λ t marks. refl }

pub operator_mark : IsMark (At Operator) TooDeep
operator_mark = record { lexeme = λ t. refl; lists = λ t marks. refl; stops = λ t marks. refl }

pub level_mark : IsMark Opens TooDeep
level_mark = record { lexeme = λ t. refl; lists = λ t marks. refl; stops = λ t marks. refl }

-- what there is no room for is the fault that is read
pub over_read : (mark : Lexeme → Mark) (stop : Stop) (k : IsMark mark stop) (front rest : List Lexeme) → IsOver mark front rest → read_whole (front ++ rest) ≡ Err (stop, rest)
over_read mark stop k front rest h =
    whole_is m (omega arith) (front ++ rest) ∙ ap ended (over_answer r limits marks (mark t) along.0 room.0 (along.1 ∙ append_assoc marks (mark t ∷ []) along.0) room.1 (full_last marks (mark t) room.0 room.1 h.7))
    ∙ ap (λ s. Err (s, lexemes (mark t ∷ along.0) ++ left_of r)) (k.stops t along.0) ∙ ap (λ (l : List Lexeme). Err (stop, l)) tail_is
  where
    marks : List Mark
    marks = h.0

    t : Lexeme
    t = h.1

    m : ℕ
    m = limits.levels + h.5.2.0

    r : Read Stmt
    r = read_at m (front ++ rest)

    tokens_are : lexemes (marks ++ mark t ∷ []) ++ h.2 ≡ front ++ rest
    tokens_are =
        lexemes-before marks (mark t ∷ []) h.2 ∙ ap (λ (l : List Lexeme). l ++ (lexemes (mark t ∷ []) ++ h.2)) h.4 ∙ ap (λ (l : List Lexeme). front ++ (l ++ h.2)) (k.lists t [])
        ∙ ap (λ (l : List Lexeme). front ++ l) (sym h.3)

    along : Extends (marks ++ mark t ∷ []) r
    along = subst (λ (l : List Lexeme). Extends (marks ++ mark t ∷ []) (read_at m l)) tokens_are (read_along (marks ++ mark t ∷ []) h.5 (last_ended marks (mark t) (k.lexeme t)) h.2 m (omega arith))

    room : (after : Limits) × (spend limits limits marks ≡ Ok after)
    room = fits_spend limits limits marks h.6

    tail_is : lexemes (mark t ∷ along.0) ++ left_of r ≡ rest
    tail_is =
        append_cancel_left front (lexemes (mark t ∷ along.0) ++ left_of r) rest
        (ap (λ (l : List Lexeme). l ++ (lexemes (mark t ∷ along.0) ++ left_of r)) (sym h.4)
        ∙ sym (lexemes-before marks (mark t ∷ along.0) (left_of r))
        ∙ ap (λ (l : List Mark). lexemes l ++ left_of r) (sym (along.1 ∙ append_assoc marks (mark t ∷ []) along.0))
        ∙ sym (read_goes (suc m) (front ++ rest) r (sound_read (suc m) (front ++ rest))).0)
