-- A lexeme with which no statement goes on.
use Rattle.std.proofs.Common.{◌≡◌, ap, ◌∙◌, ℕ, suc, ◌+◌, List, [], ◌∷◌, ◌++◌, Result, Ok, Err, refl, sym, subst, arith, append_assoc, append-nil}
use Rattle.std.proofs.lemmas.List.{append_cancel_left}
use Rattle.hc_ast.specs.declared.statement.Stmt.{Stmt}
use Rattle.hc_grammar.specs.Lexemes.{Lexeme}
use Rattle.hc_grammar.specs.Marks.{Mark, Limits, limits, lexemes, Fits}
use Rattle.hc_grammar.specs.Has.{has}
use Rattle.hc_grammar.specs.Reads.{Read}
use Rattle.hc_grammar.specs.Runs.{Unexpected}
use Rattle.hc_grammar.specs.Statements.{statement}
use Rattle.hc_grammar.specs.Places.{Placed}
use Rattle.hc_grammar.specs.Faults.{GoesOn, IsUnexpected, ended, read_whole}
use Rattle.hc_grammar.proofs.Meanings.Marks.{lexemes-append, lexemes-before}
use Rattle.hc_grammar.proofs.Meanings.Sound.{IsSound}
use Rattle.hc_grammar.proofs.Meanings.Follows.{taken, Extends}
use Rattle.hc_grammar.proofs.Meanings.Spending.{spend, spend_on, spend-append, fits_spend}
use Rattle.hc_grammar.proofs.Meanings.Limited.{budget_of, cut, cut_at}
use Rattle.hc_grammar.proofs.Faults.Fronts.{IsTrailed, trailed, trailed_lexemes, spend_trail, first_of, front_goes, left_of, read_goes, sound_read, read_along}
use Rattle.hc_grammar.proofs.Faults.Answers.{read_at, whole_is}

-- a reader that stopped, or left something
abbrev IsNoEnd : Read Stmt → Type 0
IsNoEnd (Ok x) = (t : Lexeme) × (others : List Lexeme) × (x.2 ≡ t ∷ others)
IsNoEnd (Err stop) = Unit {0}

-- where there is room for all that is read, and this is not the whole, what follows is unexpected
stop_answer : (r : Read Stmt) (l : Limits) (rest : List Lexeme) → spend limits limits (taken r) ≡ Ok l → left_of r ≡ rest → IsNoEnd r → ended (cut limits limits r) ≡ Err (Unexpected, rest)
stop_answer (Ok x) l rest spent left more =
    ap (λ s. ended (cut_at s x.2 (λ l. Ok (x.0, budget_of l, x.2)))) spent
    ∙ ap (λ (t : List Lexeme). ended (Ok (x.0, budget_of l, t))) more.2
    ∙ ap (λ (t : List Lexeme). Err (Unexpected, t)) (sym more.2 ∙ left)
stop_answer (Err stop) l rest spent left more =
    ap (λ s. ended (cut_at s stop.1 (λ l. Err (Unexpected, stop.1)))) spent ∙ ap (λ (t : List Lexeme). Err (Unexpected, t)) left

empty_left : (xs ys : List Lexeme) → [] ≡ xs ++ ys → (xs ≡ []) × (ys ≡ [])
empty_left [] ys e = (refl, sym e)
empty_left (x ∷ xs) ys e = absurd (cc)

-- what is unexpected is the fault that is read
module _ (front rest : List Lexeme) (marks : List Mark) (is : lexemes marks ≡ front) (goes : GoesOn marks) (room_for : Fits limits marks) (none : IsUnexpected front rest) where
  abbrev part : IsTrailed marks
  part = trailed marks

  abbrev m : ℕ
  m = limits.levels + (front_goes part.front part.trail (subst GoesOn part.is goes)).2.0

  abbrev r : Read Stmt
  r = read_at m (front ++ rest)

  front_is : lexemes part.front ≡ front
  front_is = sym (trailed_lexemes marks part) ∙ is

  along : Extends part.front r
  along =
      subst (λ (l : List Lexeme). Extends part.front (read_at m (l ++ rest))) front_is
      (read_along part.front (front_goes part.front part.trail (subst GoesOn part.is goes)) part.ended rest m (omega arith))

  kept : (front ++ rest ≡ lexemes (taken r) ++ left_of r) × GoesOn (taken r)
  kept = read_goes (suc m) (front ++ rest) r (sound_read (suc m) (front ++ rest))

  tail_is : rest ≡ lexemes along.0 ++ left_of r
  tail_is =
      append_cancel_left front rest (lexemes along.0 ++ left_of r)
      (kept.0 ∙ ap (λ (l : List Mark). lexemes l ++ left_of r) along.1 ∙ lexemes-before part.front along.0 (left_of r) ∙ ap (λ (l : List Lexeme). l ++ (lexemes along.0 ++ left_of r)) front_is)

  -- nothing more is taken
  taken_none : lexemes along.0 ≡ []
  taken_none = by rest none tail_is (lexemes along.0) refl
    where
      by : (rest : List Lexeme) → IsUnexpected front rest → rest ≡ lexemes along.0 ++ left_of r → (more : List Lexeme) → lexemes along.0 ≡ more → lexemes along.0 ≡ []
      by rest none tail [] e = e
      by [] none tail (u ∷ more) e = (empty_left (lexemes along.0) (left_of r) tail).0
      by (t ∷ others) none tail (u ∷ more) e =
          let same : u ≡ t = let q = tail ∙ ap (λ (l : List Lexeme). l ++ left_of r) e in cc in
          let f = first_of along.0 t more (e ∙ ap (λ (x : Lexeme). x ∷ more) same) in
          let longer : List Mark = part.front ++ (f.before ++ f.mark ∷ []) in
          absurd (none longer
          (lexemes-append part.front (f.before ++ f.mark ∷ []) ∙ ap (λ (l : List Lexeme). l ++ lexemes (f.before ++ f.mark ∷ [])) front_is
          ∙ ap (λ (l : List Lexeme). front ++ l) (lexemes-append f.before (f.mark ∷ []) ∙ ap (λ (l : List Lexeme). l ++ lexemes (f.mark ∷ [])) f.none ∙ f.one))
          (front_goes longer f.following
          (subst GoesOn (along.1 ∙ ap (λ (l : List Mark). part.front ++ l) (f.is ∙ sym (append_assoc f.before (f.mark ∷ []) f.following)) ∙ sym (append_assoc part.front (f.before ++ f.mark ∷ []) f.following)) kept.1)))

  -- there is room for it
  spent : (l : Limits) × (spend limits limits (taken r) ≡ Ok l)
  spent =
      let first_part = fits_spend limits limits marks room_for in
      by (spend limits limits part.front) refl (sym (spend-append limits limits part.front part.trail) ∙ ap (spend limits limits) (sym part.is) ∙ first_part.1)
    where
      by : (s : Result Limits (List Mark)) → spend limits limits part.front ≡ s → spend_on limits s part.trail ≡ Ok (fits_spend limits limits marks room_for).0 → (l : Limits) × (spend limits limits (taken r) ≡ Ok l)
      by (Ok between) e h =
          let t = spend_trail limits between along.0 taken_none in
          (t.0, ap (spend limits limits) along.1 ∙ spend-append limits limits part.front along.0 ∙ ap (λ s. spend_on limits s along.0) e ∙ t.1)
      by (Err over) e h = absurd (cc)

  left_is : left_of r ≡ rest
  left_is = sym (tail_is ∙ ap (λ (l : List Lexeme). l ++ left_of r) taken_none)

  no_end : IsNoEnd r
  no_end = by r (sound_read (suc m) (front ++ rest)) left_is rest none refl (ap lexemes along.1 ∙ lexemes-append part.front along.0 ∙ ap (λ (l : List Lexeme). lexemes part.front ++ l) taken_none ∙ append-nil (lexemes part.front) ∙ front_is)
    where
      by : (r : Read Stmt) → IsSound (has (Placed (suc (suc m))) statement) (front ++ rest) r → left_of r ≡ rest → (others : List Lexeme) → IsUnexpected front others → rest ≡ others → lexemes (taken r) ≡ front
          → IsNoEnd r
      by (Err stop) s left others none same all = tt {0}
      by (Ok x) s left (t ∷ others) none same all = (t, others, left ∙ same)
      by (Ok x) s left [] none same all = absurd (none x.0 x.1 all (suc m, s.1))

  pub unexpected_read : read_whole (front ++ rest) ≡ Err (Unexpected, rest)
  unexpected_read = whole_is m (omega arith) (front ++ rest) ∙ stop_answer r spent.0 rest spent.1 left_is no_end
