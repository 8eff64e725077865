-- What holds of binding.
use Rattle.std.specs.Prelude.{◌≡◌, ◌⊎◌, List}
use Rattle.hc_ast.specs.declared.bound.Bound.{Bound}
use Rattle.hc_ast.specs.declared.statement.Stmt.{Stmt}
use Rattle.hc_schema.specs.declared.table.Table.{Table}
use Rattle.hc_schema.specs.Binding.Faults.{Fault}
use Rattle.hc_schema.specs.Binding.Writing.{written}
use Rattle.hc_schema.specs.Binding.Spelling.{AreSpelledAlike, AreAlike}
use Rattle.hc_schema.specs.Binding.Statements.{Binding, binding, IsBound, IsRefused}

-- each statement is bound or refused
abbrev pub EachIsBoundOrRefused : Type 0
EachIsBoundOrRefused = (tables : List Table) (s : Stmt) → ((b : Binding) × IsBound tables s b) ⊎ ((fault : Fault) × IsRefused tables s fault)

-- none is both
abbrev pub NoneIsBoundAndRefused : Type 0
NoneIsBoundAndRefused = (tables : List Table) (s : Stmt) (b : Binding) (fault : Fault) → IsBound tables s b → IsRefused tables s fault → ⊥

-- it is bound in one way
abbrev pub EachIsBoundInOneWay : Type 0
EachIsBoundInOneWay = (tables : List Table) (s : Stmt) (b c : Binding) → IsBound tables s b → IsBound tables s c → b ≡ c

-- it has one fault
abbrev pub EachHasOneFault : Type 0
EachHasOneFault = (tables : List Table) (s : Stmt) (f g : Fault) → IsRefused tables s f → IsRefused tables s g → f ≡ g

-- statements that differ in the case of letters of names are bound alike
abbrev pub SpellingsBindAlike : Type 0
SpellingsBindAlike = (tables : List Table) (s t : Stmt) → AreSpelledAlike s t → AreAlike (binding tables s) (binding tables t)

-- only the same expression is written so
abbrev pub WritingsDiffer : Type 0
WritingsDiffer = (a b : Bound) → written a ≡ written b → a ≡ b
