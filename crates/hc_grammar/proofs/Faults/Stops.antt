-- Where the reader of a whole statement stops, there is a fault.
use Rattle.std.proofs.Common.{◌≡◌, inl, inr, ap, ◌∙◌, ℕ, zero, suc, ◌+◌, ◌-◌, ◌≤◌, Bool, true, false, List, [], ◌∷◌, ◌++◌, length, Result, Ok, Err, refl, sym, subst, arith, append_assoc, append-nil, length-append}
use Rattle.std.specs.Prelude.{if◌then◌else◌}
use Rattle.hc_ast.specs.declared.statement.Stmt.{Stmt}
use Rattle.hc_grammar.specs.Lexemes.{Lexeme}
use Rattle.hc_grammar.specs.Marks.{Plain, Operator, Table, Mark, At, Opens, Closes, Begins, Limits, limits, lexemes, is_none, is_over, after, fits}
use Rattle.hc_grammar.specs.Reads.{Read}
use Rattle.hc_grammar.specs.Runs.{Budget, Run, Stop, Unexpected}
use Rattle.hc_grammar.specs.Places.{Statement}
use Rattle.hc_grammar.specs.Faults.{GoesOn, IsUnexpected, IsFault, ended, read_whole}
use Rattle.hc_grammar.proofs.Terminals.Lists.{false_unless}
use Rattle.hc_grammar.proofs.Meanings.Marks.{lexemes-append, lexemes-before}
use Rattle.hc_grammar.proofs.Meanings.Follows.{taken, Extends}
use Rattle.hc_grammar.proofs.Meanings.Spending.{spend, spend_on, spend-append, fits_spend, spend_fits}
use Rattle.hc_grammar.proofs.Meanings.Limited.{room, budget_of, why, cut, cut_at}
use Rattle.hc_grammar.proofs.Faults.Fronts.{IsTrailed, trailed, trailed_lexemes, cut_of, front_goes, left_of, read_goes, sound_read, statement_read, read_along}
use Rattle.hc_grammar.proofs.Faults.Answers.{read_at, run_is, whole_is, over_answer}

-- what is left of a run
abbrev run_left : {A : Type 0} → Run A → List Lexeme
run_left (Ok x) = x.2
run_left (Err stop) = stop.1

-- with one more table
abbrev with_table : Limits → Limits
with_table left = record left { tables = suc left.tables }

after_table : (all left : Limits) (m : Mark) → is_over left m ≡ false → (is_over (with_table left) m ≡ false) × (after all (with_table left) m ≡ with_table (after all left m))
after_table all left (At Plain t) h = (refl, refl)
after_table all left (At Operator t) h = (h, refl)
after_table all left (At Table t) h = (refl, by left.tables refl h)
  where
    by : (n : ℕ) → left.tables ≡ n → is_none n ≡ false → record left { tables = suc left.tables - 1 } ≡ record left { tables = suc (left.tables - 1) }
    by zero e h = absurd (cc)
    by (suc n) e h = let same : suc left.tables - 1 ≡ suc (left.tables - 1) = omega (arith, e) in ap (λ k. record left { tables = k }) same
after_table all left (Opens t) h = (h, refl)
after_table all left Closes h = (refl, refl)
after_table all left Begins h = (refl, refl)

-- what leaves something leaves so much and one table more
spend_table : (all left l : Limits) (marks : List Mark) → spend all left marks ≡ Ok l → spend all (with_table left) marks ≡ Ok (with_table l)
spend_table all left l [] e = ap (λ (r : Result Limits (List Mark)). elim r [ Ok x ↦ Ok (with_table x) | Err o ↦ Err o ]) e
spend_table all left l (m ∷ marks) e = by (is_over left m) refl (spend_table all (after all left m) l marks) e
  where
    by : (test : Bool) → is_over left m ≡ test → (spend all (after all left m) marks ≡ Ok l → spend all (with_table (after all left m)) marks ≡ Ok (with_table l))
        → (if test then Err (m ∷ marks) else spend all (after all left m) marks) ≡ Ok l → spend all (with_table left) (m ∷ marks) ≡ Ok (with_table l)
    by true h ih e = absurd (cc)
    by false h ih e =
        let a = after_table all left m h in
        ap (λ b. if b then Err (m ∷ marks) else spend all (after all (with_table left) m) marks) a.0 ∙ ap (λ x. spend all x marks) a.1 ∙ ih e

-- what is left where there is room for all, and where there is room for some
left_all : {A : Type 0} (all left l : Limits) (r : Read A) → spend all left (taken r) ≡ Ok l → run_left (cut all left r) ≡ left_of r
left_all all left l (Ok x) e = ap (λ s. run_left (cut_at s x.2 (λ l. Ok (x.0, budget_of l, x.2)))) e
left_all {A} all left l (Err stop) e = ap (λ s. run_left {A = A} (cut_at s stop.1 (λ l. Err (Unexpected, stop.1)))) e

left_over : {A : Type 0} (all left : Limits) (over : List Mark) (r : Read A) → spend all left (taken r) ≡ Err over → run_left (cut all left r) ≡ lexemes over ++ left_of r
left_over all left over (Ok x) e = ap (λ s. run_left (cut_at s x.2 (λ l. Ok (x.0, budget_of l, x.2)))) e
left_over {A} all left over (Err stop) e = ap (λ s. run_left {A = A} (cut_at s stop.1 (λ l. Err (Unexpected, stop.1)))) e

left_short : {A : Type 0} (all left l : Limits) (r : Read A) (xs ys : List Mark) → taken r ≡ xs ++ ys → spend all left xs ≡ Ok l → length (run_left (cut all left r)) ≤ length (lexemes ys ++ left_of r)
left_short all left l r xs ys is e = by (spend all l ys) refl
  where
    spent : spend all left (taken r) ≡ spend all l ys
    spent = ap (spend all left) is ∙ spend-append all left xs ys ∙ ap (λ s. spend_on all s ys) e

    by : (s : Result Limits (List Mark)) → spend all l ys ≡ s → length (run_left (cut all left r)) ≤ length (lexemes ys ++ left_of r)
    by (Ok k) h = omega (arith, ap length (left_all all left k r (spent ∙ h)), length-append (lexemes ys) (left_of r))
    by (Err over) h =
        let c = cut_of all l ys over h in
        let left_is = left_over all left over r (spent ∙ h) in
        let ys_are : lexemes ys ≡ lexemes c.before ++ lexemes over = ap lexemes c.is ∙ lexemes-append c.before (c.mark ∷ c.following) ∙ ap (λ (o : List Mark). lexemes c.before ++ lexemes o) (sym c.rest) in
        omega (arith, ap length left_is, ap length ys_are, length-append (lexemes c.before) (lexemes over), length-append (lexemes over) (left_of r), length-append (lexemes ys) (left_of r))

-- what an answer says
ended_left : (r : Run Stmt) (stop : Stop) (rest : List Lexeme) → ended r ≡ Err (stop, rest) → run_left r ≡ rest
ended_left (Ok (x, b, [])) stop rest e = absurd (cc)
ended_left (Ok (x, b, t ∷ others)) stop rest e = by e
  where
    by : (let q : Result Stmt (Stop × List Lexeme) = Err (Unexpected, t ∷ others) in q ≡ Err (stop, rest)) → t ∷ others ≡ rest
    by e = ap (λ (q : Result Stmt (Stop × List Lexeme)). elim q [ Ok s ↦ [] | Err x ↦ x.1 ]) e
ended_left (Err x) stop rest e = ap (λ (q : Result Stmt (Stop × List Lexeme)). elim q [ Ok s ↦ [] | Err x ↦ x.1 ]) e

abbrev stop_in : Result Stmt (Stop × List Lexeme) → Stop
stop_in (Ok s) = Unexpected
stop_in (Err x) = x.0

-- one mark more than there is room for does not fit
last_over : (before : List Mark) (m : Mark) (room : Limits) → spend limits limits before ≡ Ok room → is_over room m ≡ true → fits limits limits (before ++ m ∷ []) ≡ false
last_over before m room spent full = false_unless (fits limits limits (before ++ m ∷ [])) (λ h. let s = fits_spend limits limits (before ++ m ∷ []) h in bad s.0 s.1)
  where
    bad : (l : Limits) → spend limits limits (before ++ m ∷ []) ≡ Ok l → ⊥
    bad l e =
        let o : spend limits limits (before ++ m ∷ []) ≡ Err (m ∷ []) =
        spend-append limits limits before (m ∷ []) ∙ ap (λ s. spend_on limits s (m ∷ [])) spent ∙ ap (λ b. if b then Err (m ∷ []) else Ok (after limits room m)) full in
        let q = sym e ∙ o in cc

-- where there is no room for a mark, it is a fault
over_fault : (before following : List Mark) (m : Mark) (room : Limits) (left : List Lexeme) → GoesOn (before ++ m ∷ following) → spend limits limits before ≡ Ok room → is_over room m ≡ true
    → IsFault (why (m ∷ following)) (lexemes before) (lexemes (m ∷ following) ++ left)
over_fault before following m room left goes spent full =
    by m (front_goes (before ++ m ∷ []) following (subst GoesOn (sym (append_assoc before (m ∷ []) following)) goes)) full (last_over before m room spent full)
  where
    by : (m : Mark) → GoesOn (before ++ m ∷ []) → is_over room m ≡ true → fits limits limits (before ++ m ∷ []) ≡ false → IsFault (why (m ∷ following)) (lexemes before) (lexemes (m ∷ following) ++ left)
    by (At Plain t) g full last = absurd (cc)
    by (At Operator t) g full last = inr (before, t, lexemes following ++ left, refl, refl, g, spend_fits limits limits room before spent, last)
    by (At Table t) g full last = inr (before, t, lexemes following ++ left, refl, refl, g, spend_fits limits limits room before spent, last)
    by (Opens t) g full last = inl (before, t, lexemes following ++ left, refl, refl, g, spend_fits limits limits room before spent, last)
    by Closes g full last = absurd (cc)
    by Begins g full last = absurd (cc)

-- a mark for which there is no room is a lexeme
over_lexeme : (m : Mark) (room : Limits) → is_over room m ≡ true → (t : Lexeme) × (lexemes (m ∷ []) ≡ t ∷ [])
over_lexeme (At label t) room full = (t, refl)
over_lexeme (Opens t) room full = (t, refl)
over_lexeme Closes room full = absurd (cc)
over_lexeme Begins room full = absurd (cc)

over_length : (m : Mark) (following : List Mark) (room : Limits) → is_over room m ≡ true → length (lexemes (m ∷ following)) ≡ suc (length (lexemes following))
over_length m following room full =
    let o = over_lexeme m room full in
    ap length (lexemes-append (m ∷ []) following ∙ ap (λ (l : List Lexeme). l ++ lexemes following) o.1)

-- one table more makes room for a table
table_room : (m : Mark) (following : List Mark) (room : Limits) → is_over room m ≡ true → why (m ∷ following) ≡ Unexpected → is_over (with_table room) m ≡ false
table_room (At Plain t) following room full e = refl
table_room (At Operator t) following room full e = absurd (cc)
table_room (At Table t) following room full e = refl
table_room (Opens t) following room full e = absurd (cc)
table_room Closes following room full e = refl
table_room Begins following room full e = refl

-- what a run within more tables leaves
module _ (tokens : List Lexeme) where
  -- where all fits, and what follows is left, a reader deeper down leaves it too, unless there is no room
  module _ (rest : List Lexeme) (answer : read_whole tokens ≡ Err (Unexpected, rest)) (r : Read Stmt) (is : r ≡ read_at limits.levels tokens) (l : Limits) (spent : spend limits limits (taken r) ≡ Ok l)
      (left : left_of r ≡ rest) (m : ℕ) (enough : limits.levels ≤ m) (deep : Read Stmt) (deep_is : deep ≡ read_at m tokens) where
    abbrev more : Limits
    more = with_table limits

    same_run : cut limits more r ≡ cut limits more deep
    same_run =
        ap (cut limits more) is ∙ sym (run_is (record { operators = limits.operators; tables = suc limits.tables }) limits.levels (omega arith) tokens)
        ∙ run_is (record { operators = limits.operators; tables = suc limits.tables }) m enough tokens ∙ ap (cut limits more) (sym deep_is)

    deep_answer : ended (cut limits limits deep) ≡ Err (Unexpected, rest)
    deep_answer = ap (λ d. ended (cut limits limits d)) deep_is ∙ sym (whole_is m enough tokens) ∙ answer

    pub left_deep : left_of deep ≡ rest
    left_deep = by (spend limits limits (taken deep)) refl
      where
        by : (s : Result Limits (List Mark)) → spend limits limits (taken deep) ≡ s → left_of deep ≡ rest
        by (Ok k) e = sym (left_all limits limits k deep e) ∙ ended_left (cut limits limits deep) Unexpected rest deep_answer
        by (Err over) e =
            let c = cut_of limits limits (taken deep) over e in
            let cut_is = over_answer deep limits c.before c.mark c.following c.room c.is c.spent c.full in
            let stop : why (c.mark ∷ c.following) ≡ Unexpected = ap stop_in (sym (ap ended cut_is) ∙ deep_answer) in
            let rest_is : lexemes (c.mark ∷ c.following) ++ left_of deep ≡ rest = ended_left (Err (why (c.mark ∷ c.following), lexemes (c.mark ∷ c.following) ++ left_of deep)) Unexpected rest (sym (ap ended cut_is) ∙ deep_answer) in
            let roomy : spend limits more (c.before ++ c.mark ∷ []) ≡ Ok (after limits (with_table c.room) c.mark) =
            spend-append limits more c.before (c.mark ∷ []) ∙ ap (λ s. spend_on limits s (c.mark ∷ [])) (spend_table limits limits c.room c.before c.spent)
            ∙ ap (λ b. if b then Err (c.mark ∷ []) else Ok (after limits (with_table c.room) c.mark)) (table_room c.mark c.following c.room c.full stop) in
            let short = left_short limits more (after limits (with_table c.room) c.mark) deep (c.before ++ c.mark ∷ []) c.following (c.is ∙ sym (append_assoc c.before (c.mark ∷ []) c.following)) roomy in
            let here : run_left (cut limits more r) ≡ rest = left_all limits more (with_table l) r (spend_table limits limits l (taken r) spent) ∙ left in
            absurd (omega (arith, short, ap (λ q. length (run_left q)) same_run, ap length here, ap length rest_is, length-append (lexemes (c.mark ∷ c.following)) (left_of deep), over_length c.mark c.following c.room c.full, length-append (lexemes c.following) (left_of deep)))

-- the statement that is read within no limits is read within them, if what follows is unexpected
no_statement : (tokens : List Lexeme) → read_whole tokens ≡ Err (Unexpected, []) → (s : Stmt) (marks : List Mark) → lexemes marks ≡ tokens → Statement s marks → ⊥
no_statement tokens answer s marks is h = by (spend limits limits marks) refl
  where
    m : ℕ
    m = limits.levels + h.0

    deep : read_at m tokens ≡ Ok (s, marks, [])
    deep = ap (read_at m) (sym is) ∙ statement_read s marks h m (omega arith)

    answered : ended (cut_at (spend limits limits marks) [] (λ l. Ok (s, budget_of l, []))) ≡ Err (Unexpected, [])
    answered = sym (whole_is m (omega arith) tokens ∙ ap (λ r. ended (cut limits limits r)) deep) ∙ answer

    by : (r : Result Limits (List Mark)) → spend limits limits marks ≡ r → ⊥
    by (Ok l) e = let bad = sym (ap (λ r. ended (cut_at r [] (λ l. Ok (s, budget_of l, [])))) e) ∙ answered in cc
    by (Err over) e =
        let c = cut_of limits limits marks over e in
        let left : lexemes over ++ [] ≡ [] = ended_left (Err (why over, lexemes over ++ [])) Unexpected [] (sym (ap (λ r. ended (cut_at r [] (λ l. Ok (s, budget_of l, [])))) e) ∙ answered) in
        omega (arith, ap length left, ap (λ (o : List Mark). length (lexemes o)) c.rest, over_length c.mark c.following c.room c.full, length-append (lexemes over) [])

-- no statement goes on with what follows
no_more : (tokens front others : List Lexeme) (t : Lexeme) → tokens ≡ front ++ t ∷ others → read_whole tokens ≡ Err (Unexpected, t ∷ others)
    → (l : Limits) → spend limits limits (taken (read_at limits.levels tokens)) ≡ Ok l → left_of (read_at limits.levels tokens) ≡ t ∷ others
    → (marks : List Mark) → lexemes marks ≡ front ++ t ∷ [] → GoesOn marks → ⊥
no_more tokens front others t are answer l spent left marks is goes =
    omega (
      arith,
      ap length are,
      ap length kept.0,
      ap length deep_left,
      ap (λ (q : List Mark). length (lexemes q)) along.1,
      ap length front_is,
      length-append (lexemes (taken deep)) (left_of deep),
      ap length (lexemes-append p.front along.0),
      length-append (lexemes p.front) (lexemes along.0),
      length-append front (t ∷ others),
      length-append front (t ∷ []),
    )
  where
    p : IsTrailed marks
    p = trailed marks

    goes_front : GoesOn p.front
    goes_front = front_goes p.front p.trail (subst GoesOn p.is goes)

    m : ℕ
    m = limits.levels + goes_front.2.0

    deep : Read Stmt
    deep = read_at m tokens

    front_is : lexemes p.front ≡ front ++ t ∷ []
    front_is = sym (trailed_lexemes marks p) ∙ is

    tokens_are : lexemes p.front ++ others ≡ tokens
    tokens_are = ap (λ (l : List Lexeme). l ++ others) front_is ∙ append_assoc front (t ∷ []) others ∙ sym are

    along : Extends p.front deep
    along = subst (λ (l : List Lexeme). Extends p.front (read_at m l)) tokens_are (read_along p.front goes_front p.ended others m (omega arith))

    kept : (tokens ≡ lexemes (taken deep) ++ left_of deep) × GoesOn (taken deep)
    kept = read_goes (suc m) tokens deep (sound_read (suc m) tokens)

    deep_left : left_of deep ≡ t ∷ others
    deep_left = left_deep tokens (t ∷ others) answer (read_at limits.levels tokens) refl l spent left m (omega arith) deep refl

-- where the reader stops, there is a fault
pub answer_fault : (stop : Stop) (tokens rest : List Lexeme) → read_whole tokens ≡ Err (stop, rest) → (front : List Lexeme) × (tokens ≡ front ++ rest) × IsFault stop front rest
answer_fault stop tokens rest answer = by (spend limits limits (taken r)) refl
  where
    r : Read Stmt
    r = read_at limits.levels tokens

    kept : (tokens ≡ lexemes (taken r) ++ left_of r) × GoesOn (taken r)
    kept = read_goes (suc limits.levels) tokens r (sound_read (suc limits.levels) tokens)

    answer_is : ended (cut limits limits r) ≡ Err (stop, rest)
    answer_is = sym (whole_is limits.levels (omega arith) tokens) ∙ answer

    unexpected : (l : Limits) → spend limits limits (taken r) ≡ Ok l → stop ≡ Unexpected → left_of r ≡ rest → IsUnexpected (lexemes (taken r)) rest
    unexpected l spent same left = each rest refl
      where
        answer_here : read_whole tokens ≡ Err (Unexpected, rest)
        answer_here = answer ∙ ap (λ s. Err (s, rest)) same

        each : (others : List Lexeme) → rest ≡ others → IsUnexpected (lexemes (taken r)) others
        each [] e = λ s marks is h.
            no_statement tokens (answer_here ∙ ap (λ (l : List Lexeme). Err (Unexpected, l)) e) s marks
            (is ∙ sym (kept.0 ∙ ap (λ (l : List Lexeme). lexemes (taken r) ++ l) (left ∙ e) ∙ append-nil (lexemes (taken r)))) h
        each (t ∷ others) e = λ marks is g.
            no_more tokens (lexemes (taken r)) others t (kept.0 ∙ ap (λ (l : List Lexeme). lexemes (taken r) ++ l) (left ∙ e)) (answer_here ∙ ap (λ (l : List Lexeme). Err (Unexpected, l)) e)
            l spent (left ∙ e) marks is g

    stop_is : (l : Limits) (q : Read Stmt) → spend limits limits (taken q) ≡ Ok l → ended (cut limits limits q) ≡ Err (stop, rest) → (stop ≡ Unexpected) × (left_of q ≡ rest)
    stop_is l q spent e = (sym (which l q spent e), sym (left_all limits limits l q spent) ∙ ended_left (cut limits limits q) stop rest e)
      where
        ended_stop : (x : Stmt) (b : Budget) (t : List Lexeme) → (let r : Run Stmt = Ok (x, b, t) in ended r ≡ Err (stop, rest)) → Unexpected ≡ stop
        ended_stop x b [] e = absurd (cc)
        ended_stop x b (t ∷ others) e = ap stop_in e

        which : (l : Limits) (q : Read Stmt) → spend limits limits (taken q) ≡ Ok l → ended (cut limits limits q) ≡ Err (stop, rest) → Unexpected ≡ stop
        which l (Ok x) spent e = ended_stop x.0 (budget_of l) x.2 (sym (ap (λ s. ended (cut_at s x.2 (λ l. Ok (x.0, budget_of l, x.2)))) spent) ∙ e)
        which l (Err x) spent e = ap stop_in (sym (ap (λ s. ended (cut_at s x.1 (λ l. Err (Unexpected, x.1)))) spent) ∙ e)

    by : (s : Result Limits (List Mark)) → spend limits limits (taken r) ≡ s → (front : List Lexeme) × (tokens ≡ front ++ rest) × IsFault stop front rest
    by (Ok l) e =
        let p = stop_is l r e answer_is in (
          lexemes (taken r),
          kept.0 ∙ ap (λ (l : List Lexeme). lexemes (taken r) ++ l) p.1,
          subst (λ s. IsFault s (lexemes (taken r)) rest) (sym p.0) (inl (taken r, refl, kept.1, spend_fits limits limits l (taken r) e, unexpected l e p.0 p.1)),
        )
    by (Err over) e =
        let c = cut_of limits limits (taken r) over e in
        let cut_is = ap ended (over_answer r limits c.before c.mark c.following c.room c.is c.spent c.full) in
        let stop_is : why (c.mark ∷ c.following) ≡ stop = ap stop_in (sym cut_is ∙ answer_is) in
        let rest_is : lexemes (c.mark ∷ c.following) ++ left_of r ≡ rest = ended_left (Err (why (c.mark ∷ c.following), lexemes (c.mark ∷ c.following) ++ left_of r)) stop rest (sym cut_is ∙ answer_is) in (
          lexemes c.before,
          kept.0 ∙ ap (λ (m : List Mark). lexemes m ++ left_of r) c.is ∙ lexemes-before c.before (c.mark ∷ c.following) (left_of r) ∙ ap (λ (l : List Lexeme). lexemes c.before ++ l) rest_is,
          subst (λ s. IsFault s (lexemes c.before) rest) stop_is
              (subst (λ (l : List Lexeme). IsFault (why (c.mark ∷ c.following)) (lexemes c.before) l) rest_is
              (over_fault c.before c.following c.mark c.room (left_of r) (subst GoesOn c.is kept.1) c.spent c.full)),
        )
