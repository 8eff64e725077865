-- The values of a script, and so those of each table that its statements lead to, are integers of 64 bits.
use Rattle.std.proofs.Common.{ℕ, ℤ, List, [], ◌∷◌, map, w64, FitsSigned}
use Rattle.std.specs.Prelude.{filter, int_lt}
use Rattle.std.specs.List.{AllByRecursion}
use Rattle.hc_value.specs.declared.value.Value.TheVariants.{Int}
use Rattle.hc_transcript.specs.Outputs.{IsRow}
use Rattle.hc_meaning.specs.declared.statement.Statement.{Statement}
use Rattle.hc_meaning.specs.declared.statement.Statement.TheVariants.{Insert, Select}
use Rattle.hc_meaning.specs.Database.{Db, with_row}
use Rattle.hc_meaning.specs.Input.{IsScript}
use Rattle.hc_meaning.proofs.EachElement.{all_filtered, all_joined}
use Rattle.hc_meaning.proofs.Language.Numbers.{number_fits}

-- what a statement puts is an integer of 64 bits
abbrev pub HasInteger : Statement → Type 0
HasInteger (Insert id v) = FitsSigned w64 v
HasInteger (Select id) = Unit {0}

-- and so it is in each statement of a script
pub script_has : (text : List ℕ) (statements : List Statement) → IsScript text statements → AllByRecursion HasInteger statements
script_has text [] is = tt
script_has text (Insert id v ∷ statements) (blank, written, rest, is_blank, (a, b, is_a, is_b, e), whole, script) = (number_fits b v is_b, script_has rest statements script)
script_has text (Select id ∷ statements) (blank, written, rest, is_blank, is, whole, script) = (tt, script_has rest statements script)

-- each row has an integer of 64 bits
abbrev pub HasIntegers : Db → Type 0
HasIntegers db = AllByRecursion (λ row. FitsSigned w64 row.1) db

-- an INSERT of such an integer leaves such rows
pub with_row_has : (db : Db) (id v : ℤ) → HasIntegers db → FitsSigned w64 v → HasIntegers (with_row db id v)
with_row_has db id v has fits =
    all_joined (λ row. FitsSigned w64 row.1) (filter (λ row. int_lt row.0 id) db) ((id, v) ∷ filter (λ row. int_lt id row.0) db)
    (all_filtered (λ row. FitsSigned w64 row.1) (λ row. int_lt row.0 id) db has)
    (fits, all_filtered (λ row. FitsSigned w64 row.1) (λ row. int_lt id row.0) db has)

-- a row that a query found is one that an output can have
pub rows_are : (rows : Db) → HasIntegers rows → AllByRecursion IsRow (map (λ row. record { values = Int row.1 ∷ [] }) rows)
rows_are [] has = tt
rows_are (row ∷ rows) has = (((λ e. cc), ((has.0, tt), tt)), rows_are rows has.1)
