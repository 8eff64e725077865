-- Savepoints by name, and the statement that is open.
use Rattle.std.specs.Prelude.{◌≡◌, ℕ, ◌≤◌, Bool, cond, Option, Some, None, Result, Ok, Err, List, [], ◌∷◌, string_bytes}
use Rattle.std.specs.Str.{bytes_eq, str_to_ascii_lowercase}
use Rattle.hc_core.specs.declared.cells.Write.{Write}
use Rattle.hc_txn.specs.Transactions.{Mark, Transaction, earlier}
use Rattle.hc_txn.specs.declared.marks.MarkAt.{MarkAt}

-- whether two names are the same but for the case of ASCII letters
abbrev pub has_same_name : List ℕ → List ℕ → Bool
has_same_name a b = bytes_eq (str_to_ascii_lowercase a) (str_to_ascii_lowercase b)

-- the innermost mark of a name, with those outside it after it; none where there is none of the name
abbrev pub marks_from : List ℕ → List Mark → List Mark
marks_from name [] = []
marks_from name (mark ∷ marks) = cond (has_same_name mark.name name) (mark ∷ marks) (marks_from name marks)

-- as they are kept
abbrev pub kept_from : List ℕ → List MarkAt → List MarkAt
kept_from name [] = []
kept_from name (mark ∷ marks) = cond (has_same_name (string_bytes mark.name) name) (mark ∷ marks) (kept_from name marks)

-- marks that are kept by how many writes stood
abbrev pub marks_over : List Write → List MarkAt → List Mark
marks_over own [] = []
marks_over own (mark ∷ marks) = record { name = string_bytes mark.name; own = earlier mark.count own } ∷ marks_over own marks

-- each mark was set when at most as many writes stood as at those inside it
abbrev pub IsNested : ℕ → List MarkAt → Type 0
IsNested bound [] = Unit {0}
IsNested bound (mark ∷ marks) = (mark.count ≤ bound) × IsNested mark.count marks

-- and the open statement began after all of them
abbrev pub IsNestedIn : Option ℕ → ℕ → List MarkAt → Type 0
IsNestedIn None count marks = IsNested count marks
IsNestedIn (Some start) count marks = (start ≤ count) × IsNested start marks

-- the own writes that stood as the open statement began
abbrev pub statement_over : List Write → Option ℕ → Option (List Write)
statement_over own None = None
statement_over own (Some start) = Some (earlier start own)

-- the writes were undone to a mark, which stays, and those inside it are gone; or there is no mark of the name
abbrev pub HasUndone : {T E : Type 0} → Result T E → List Mark → Transaction → Transaction → Type 0
HasUndone (Ok done) (mark ∷ outer) before after = after ≡ record before { own = mark.own; marks = mark ∷ outer; statement = None }
HasUndone (Err none) [] before after = after ≡ before
HasUndone _ _ before after = ⊥

-- a mark was taken off, with those inside it; or there is no mark of the name
abbrev pub HasReleased : {T E : Type 0} → Result T E → List Mark → Transaction → Transaction → Type 0
HasReleased (Ok done) (mark ∷ outer) before after = after ≡ record before { marks = outer; statement = None }
HasReleased (Err none) [] before after = after ≡ before
HasReleased _ _ before after = ⊥

-- the own writes as the open statement began, or as they are
abbrev pub started : List Write → Option (List Write) → List Write
started own None = own
started own (Some start) = start
