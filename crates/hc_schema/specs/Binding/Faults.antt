-- Why a statement cannot be bound, and what is judged of a part of it: a meaning, or its first fault in the order of text.
use Rattle.std.specs.Prelude.{ℕ, ℤ, List, [], ◌∷◌, ◌++◌, Result, Ok, Err}

pub data Fault : Type 0 where
  -- no table has this name, as it is written
  NoTable : List ℕ → Fault
  -- no column has this name, as it is written and without its table's
  NoColumn : List ℕ → Fault
  -- several columns have this name, as it is written; or two tables of FROM are called so
  Ambiguous : List ℕ → Fault
  -- this column, as it was created, is named twice
  TwoColumns : List ℕ → Fault
  -- no function has this name, as it is written
  NoFunction : List ℕ → Fault
  -- values of two classes, or a value of another class than is wanted
  Mixed : Fault
  -- an aggregate where none may be, or a column outside of aggregates where a row is a group
  Misplaced : Fault
  -- so many arguments or values are given, and so many are wanted
  Arity : ℕ → ℕ → Fault
  -- ORDER BY has the number of no item
  NoItem : ℤ → Fault
  -- with DISTINCT, a term of ORDER BY is no item
  NotItem : Fault

-- a meaning, or the first fault
abbrev pub Judged : Type 0 → Type 0
Judged A = Result A Fault

-- First x, and then what follows from its meaning: a fault in x comes before all that follows.
abbrev pub after : {A B : Type 0} → Judged A → (A → Judged B) → Judged B
after (Ok a) next = next a
after (Err fault) next = Err fault

-- two parts in the order of text, and then what they make together
abbrev pub after_both : {A B C : Type 0} → Judged A → Judged B → (A → B → Judged C) → Judged C
after_both x y next = after x (λ a. after y (next a))

-- A walk in the order of text: each part makes more of what those before it made, and the first fault ends it.
abbrev pub walk : {A S : Type 0} → (S → A → Judged S) → S → List A → Judged S
walk step made [] = Ok made
walk step made (x ∷ xs) = after (step made x) (λ next. walk step next xs)

-- a part's meaning after those before it
abbrev pub with_next : {A : Type 0} → List A → Judged A → Judged (List A)
with_next before x = after x (λ a. Ok (before ++ a ∷ []))

-- parts in the order of text: all of their meanings, or the fault of the first that has one
abbrev pub each : {A : Type 0} → List (Judged A) → Judged (List A)
each xs = walk with_next [] xs
