-- Fronts of statements: what is read goes along with each, and begins a statement itself.
use Rattle.std.proofs.Common.{◌≡◌, ap, ◌∙◌, ℕ, suc, ◌≤◌, Bool, true, false, List, [], ◌∷◌, ◌++◌, Result, Ok, Err, refl, sym, subst, arith, append_assoc, append-nil}
use Rattle.std.specs.Prelude.{if◌then◌else◌}
use Rattle.hc_ast.specs.declared.statement.Stmt.{Stmt}
use Rattle.hc_grammar.specs.Lexemes.{Lexeme}
use Rattle.hc_grammar.specs.Marks.{Mark, At, Opens, Closes, Begins, Limits, lexemes, is_over, after}
use Rattle.hc_grammar.specs.Has.{has}
use Rattle.hc_grammar.specs.Reads.{Read, read}
use Rattle.hc_grammar.specs.Statements.{statement}
use Rattle.hc_grammar.specs.Places.{Placed, Statement, placed}
use Rattle.hc_grammar.specs.Faults.{GoesOn}
use Rattle.hc_grammar.proofs.Meanings.Clear.{statement_clear}
use Rattle.hc_grammar.proofs.Meanings.Marks.{lexemes-append, is_ended}
use Rattle.hc_grammar.proofs.Meanings.Sound.{IsSound, sound}
use Rattle.hc_grammar.proofs.Meanings.Reaches.{reaches}
use Rattle.hc_grammar.proofs.Meanings.Follows.{taken, Extends, follows}
use Rattle.hc_grammar.proofs.Meanings.Spending.{spend}
use Rattle.hc_grammar.proofs.Places.Asked.{placed_begins, placed_some, placed_sound, placed_reaches, placed_follows}

-- marks up to the last lexeme, and what is after it
pub record IsTrailed (marks : List Mark) : Type 0 where
  pub front : List Mark
  pub trail : List Mark
  pub is : marks ≡ front ++ trail
  pub ended : is_ended front ≡ true
  pub none : lexemes trail ≡ []

with_mark : (m : Mark) (marks front trail : List Mark) → marks ≡ front ++ trail → is_ended front ≡ true → lexemes trail ≡ [] → IsTrailed (m ∷ marks)
with_mark m marks (n ∷ front) trail is ended none = record { front = m ∷ n ∷ front; trail = trail; is = ap (λ (l : List Mark). m ∷ l) is; ended = ended; none = none }
with_mark (At label t) marks [] trail is ended none = record { front = At label t ∷ []; trail = trail; is = ap (λ (l : List Mark). At label t ∷ l) is; ended = refl; none = none }
with_mark (Opens t) marks [] trail is ended none = record { front = Opens t ∷ []; trail = trail; is = ap (λ (l : List Mark). Opens t ∷ l) is; ended = refl; none = none }
with_mark Closes marks [] trail is ended none = record { front = []; trail = Closes ∷ trail; is = ap (λ (l : List Mark). Closes ∷ l) is; ended = refl; none = none }
with_mark Begins marks [] trail is ended none = record { front = []; trail = Begins ∷ trail; is = ap (λ (l : List Mark). Begins ∷ l) is; ended = refl; none = none }

pub trailed : (marks : List Mark) → IsTrailed marks
trailed [] = record { front = []; trail = []; is = refl; ended = refl; none = refl }
trailed (m ∷ marks) = let t = trailed marks in with_mark m marks t.front t.trail t.is t.ended t.none

-- the lexemes up to there are all
pub trailed_lexemes : (marks : List Mark) (t : IsTrailed marks) → lexemes marks ≡ lexemes t.front
trailed_lexemes marks t = ap lexemes t.is ∙ lexemes-append t.front t.trail ∙ ap (λ (l : List Lexeme). lexemes t.front ++ l) t.none ∙ append-nil (lexemes t.front)

-- marks without a lexeme take nothing
pub spend_trail : (all left : Limits) (trail : List Mark) → lexemes trail ≡ [] → (l : Limits) × (spend all left trail ≡ Ok l)
spend_trail all left [] h = (left, refl)
spend_trail all left (At label t ∷ trail) h = absurd (cc)
spend_trail all left (Opens t ∷ trail) h = absurd (cc)
spend_trail all left (Closes ∷ trail) h = spend_trail all (after all left Closes) trail h
spend_trail all left (Begins ∷ trail) h = spend_trail all (after all left Begins) trail h

-- the first lexeme of some marks
pub record IsFirst (marks : List Mark) (t : Lexeme) : Type 0 where
  pub before : List Mark
  pub mark : Mark
  pub following : List Mark
  pub is : marks ≡ before ++ mark ∷ following
  pub none : lexemes before ≡ []
  pub one : lexemes (mark ∷ []) ≡ t ∷ []

first_lexeme : (x t : Lexeme) (xs ts : List Lexeme) → x ∷ xs ≡ t ∷ ts → x ≡ t
first_lexeme x t xs ts e = cc

further : (m : Mark) (marks : List Mark) (t : Lexeme) → lexemes (m ∷ []) ≡ [] → IsFirst marks t → IsFirst (m ∷ marks) t
further m marks t e f =
    record {
      before = m ∷ f.before;
      mark = f.mark;
      following = f.following;
      is = ap (λ (l : List Mark). m ∷ l) f.is;
      none = lexemes-append (m ∷ []) f.before ∙ ap (λ (l : List Lexeme). l ++ lexemes f.before) e ∙ f.none;
      one = f.one;
    }

pub first_of : (marks : List Mark) (t : Lexeme) (rest : List Lexeme) → lexemes marks ≡ t ∷ rest → IsFirst marks t
first_of [] t rest h = absurd (cc)
first_of (At label u ∷ marks) t rest h =
    record { before = []; mark = At label u; following = marks; is = refl; none = refl; one = ap (λ (x : Lexeme). x ∷ []) (first_lexeme u t (lexemes marks) rest h) }
first_of (Opens u ∷ marks) t rest h =
    record { before = []; mark = Opens u; following = marks; is = refl; none = refl; one = ap (λ (x : Lexeme). x ∷ []) (first_lexeme u t (lexemes marks) rest h) }
first_of (Closes ∷ marks) t rest h = further Closes marks t refl (first_of marks t rest h)
first_of (Begins ∷ marks) t rest h = further Begins marks t refl (first_of marks t rest h)

-- the first mark for which there is no room
pub record IsCut (all left : Limits) (marks over : List Mark) : Type 0 where
  pub before : List Mark
  pub mark : Mark
  pub following : List Mark
  pub is : marks ≡ before ++ mark ∷ following
  pub rest : over ≡ mark ∷ following
  pub room : Limits
  pub spent : spend all left before ≡ Ok room
  pub full : is_over room mark ≡ true

pub cut_of : (all left : Limits) (marks over : List Mark) → spend all left marks ≡ Err over → IsCut all left marks over
cut_of all left [] over e = absurd (cc)
cut_of all left (m ∷ marks) over e = by (is_over left m) refl (cut_of all (after all left m) marks over) e
  where
    same : (x y : List Mark) → (let r : Result Limits (List Mark) = Err x in r ≡ Err y) → x ≡ y
    same x y e = cc

    by : (test : Bool) → is_over left m ≡ test → (spend all (after all left m) marks ≡ Err over → IsCut all (after all left m) marks over)
        → (if test then Err (m ∷ marks) else spend all (after all left m) marks) ≡ Err over → IsCut all left (m ∷ marks) over
    by true h ih e = record { before = []; mark = m; following = marks; is = refl; rest = sym (same (m ∷ marks) over e); room = left; spent = refl; full = h }
    by false h ih e =
        let c = ih e in
        record {
          before = m ∷ c.before;
          mark = c.mark;
          following = c.following;
          is = ap (λ (l : List Mark). m ∷ l) c.is;
          rest = c.rest;
          room = c.room;
          spent = ap (λ b. if b then Err (m ∷ c.before) else spend all (after all left m) c.before) h ∙ c.spent;
          full = c.full;
        }

-- a front of what begins a statement begins one
pub front_goes : (xs ys : List Mark) → GoesOn (xs ++ ys) → GoesOn xs
front_goes xs ys g = (g.0, ys ++ g.1, (g.2.0, subst (has (Placed (suc g.2.0)) statement g.0) (append_assoc xs ys g.1) g.2.1))

-- what a reader leaves
abbrev pub left_of : {A : Type 0} → Read A → List Lexeme
left_of (Ok x) = x.2
left_of (Err stop) = stop.1

-- what is read begins a statement
pub read_goes : (n : ℕ) (tokens : List Lexeme) (r : Read Stmt) → IsSound (has (Placed (suc n)) statement) tokens r → (tokens ≡ lexemes (taken r) ++ left_of r) × GoesOn (taken r)
read_goes n tokens (Ok x) h = (h.0, (x.0, [], (n, subst (has (Placed (suc n)) statement x.0) (sym (append-nil x.1)) h.1)))
read_goes n tokens (Err stop) h = (h.0, (h.1.1, h.1.0, (n, h.1.2)))

pub sound_read : (n : ℕ) (tokens : List Lexeme) → IsSound (has (Placed (suc n)) statement) tokens (read (placed n) statement tokens)
sound_read n tokens = sound (Placed (suc n)) (placed n) (placed_some n) (placed_sound n) statement statement_clear tokens

-- a statement is read, where enough levels may lie within one another
pub statement_read : (s : Stmt) (marks : List Mark) (h : Statement s marks) (m : ℕ) → h.0 ≤ m → read (placed (suc m)) statement (lexemes marks) ≡ Ok (s, marks, [])
statement_read s marks h m more =
    let fits : suc h.0 ≤ suc m = omega (arith, more) in
    ap (read (placed (suc m)) statement) (sym (append-nil (lexemes marks)))
    ∙ reaches (Placed (suc h.0)) (placed (suc m)) (placed_begins (suc h.0)) (placed_reaches (suc h.0) (suc m) fits) statement statement_clear s marks [] h.1 refl

-- what is read goes along with what begins a statement
pub read_along : (front : List Mark) (g : GoesOn front) → is_ended front ≡ true → (rest : List Lexeme) (m : ℕ) → g.2.0 ≤ m → Extends front (read (placed (suc m)) statement (lexemes front ++ rest))
read_along front g ended rest m more =
    let fits : suc g.2.0 ≤ suc m = omega (arith, more) in
    follows (Placed (suc g.2.0)) (placed (suc m)) (placed_begins (suc g.2.0)) (placed_reaches (suc g.2.0) (suc m) fits) (placed_follows (suc g.2.0) m fits) statement statement_clear g.0
    (front ++ g.1) front g.1 rest g.2.1 refl ended
