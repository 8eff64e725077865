-- When an answer is what binding says. That memory ran out may be answered in place of any.
use Rattle.std.specs.Prelude.{◌≡◌, ◌++◌, Bool, true, false, List, Option, Some, None, Result, Ok, Err}
use Rattle.hc_ast.specs.declared.statement.Stmt.{Stmt}
use Rattle.hc_ast.specs.declared.statement.Stmt.TheVariants.{Select}
use Rattle.hc_schema.specs.declared.table.Table.{Table}
use Rattle.hc_schema.specs.declared.bound_statement.BoundStmt.{BoundStmt}
use Rattle.hc_schema.specs.Binding.Faults.{Fault, Judged, after}
use Rattle.hc_schema.specs.Binding.Faults as why
use Rattle.hc_ast.specs.declared.query.Select.{Select as Query}
use Rattle.hc_schema.specs.Binding.Queries.{is_grouped, query}
use Rattle.hc_schema.specs.Binding.Statements.{Select as Bound-Select, Binding, binding, binding_of}
use Rattle.hc_bind.specs.declared.fault.BindFault.{BindFault}
use Rattle.hc_bind.specs.declared.fault.BindFault.TheVariants.{NoTable, NoColumn, Ambiguous, TwoColumns, NoFunction, Mixed, Aggregate, Arity, NoItem, NotItem, NoMemory}

-- the fault that is told; none where memory ran out
abbrev pub fault_of : BindFault → Option Fault
fault_of (NoTable name) = Some (why.NoTable name)
fault_of (NoColumn name) = Some (why.NoColumn name)
fault_of (Ambiguous name) = Some (why.Ambiguous name)
fault_of (TwoColumns name) = Some (why.TwoColumns name)
fault_of (NoFunction name) = Some (why.NoFunction name)
fault_of Mixed = Some why.Mixed
fault_of Aggregate = Some why.Misplaced
fault_of (Arity given wanted) = Some (why.Arity given wanted)
fault_of (NoItem n) = Some (why.NoItem n)
fault_of NotItem = Some why.NotItem
fault_of NoMemory = None

-- it is this fault, or memory ran out
abbrev pub FaultIs : BindFault → Fault → Type 0
FaultIs e fault = (other : Fault) → fault_of e ≡ Some other → fault ≡ other

-- what is judged has this fault, unless memory ran out
abbrev pub IsWhy : {A : Type 0} → BindFault → Judged A → Type 0
IsWhy e judged = (fault : Fault) → fault_of e ≡ Some fault → judged ≡ Err fault

-- the answer means what is judged
abbrev pub TellsBy : {A T : Type 0} → (T → A) → Judged A → Result T BindFault → Type 0
TellsBy meaning judged (Ok t) = judged ≡ Ok (meaning t)
TellsBy meaning judged (Err e) = IsWhy e judged

-- the answer is what is judged
abbrev pub Tells : {T : Type 0} → Judged T → Result T BindFault → Type 0
Tells judged (Ok t) = judged ≡ Ok t
Tells judged (Err e) = IsWhy e judged

-- a list grows by what is judged
abbrev pub TellsMore : {A : Type 0} → Judged (List A) → List A → List A → Result Unit BindFault → Type 0
TellsMore judged before now (Ok done) = after judged (λ more. Ok (before ++ more)) ≡ Ok now
TellsMore judged before now (Err e) = IsWhy e judged

-- a statement that is found bound
abbrev pub Found : Judged Binding → Result (Option BoundStmt) BindFault → Type 0
Found judged (Ok None) = ⊥
Found judged (Ok (Some bound)) = judged ≡ Ok (binding_of bound)
Found judged (Err e) = IsWhy e judged

-- whether a statement is a query with groups
abbrev pub has_groups : Stmt → Bool
has_groups (Select q) = is_grouped q
has_groups s = false

-- None is answered of queries with groups alone, and otherwise what is judged
abbrev pub AnswersUngrouped : List Table → Stmt → Result (Option BoundStmt) BindFault → Type 0
AnswersUngrouped tables s (Ok None) = has_groups s ≡ true
AnswersUngrouped tables s (Ok (Some bound)) = binding tables s ≡ Ok (binding_of bound)
AnswersUngrouped tables s (Err e) = IsWhy e (binding tables s)

-- what is kept goes on to what is judged
abbrev pub TellsTo : {S : Type 0} → Judged S → S → Result Unit BindFault → Type 0
TellsTo judged now (Ok done) = judged ≡ Ok now
TellsTo judged now (Err e) = IsWhy e judged

-- the same of a query
abbrev pub AnswersQuery : List Table → Query → Result (Option BoundStmt) BindFault → Type 0
AnswersQuery tables q (Ok None) = is_grouped q ≡ true
AnswersQuery tables q (Ok (Some bound)) = after (query tables q) (λ b. Ok (Bound-Select b)) ≡ Ok (binding_of bound)
AnswersQuery tables q (Err e) = IsWhy e (query tables q)
