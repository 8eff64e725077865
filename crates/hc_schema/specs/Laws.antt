-- What holds of tables, databases and their cells.
use Rattle.std.specs.Prelude.{◌≡◌, ◌↔◌}
use Rattle.hc_base.specs.Lookup.{Among}
use Rattle.hc_core.specs.declared.cells.Cell.{Cell}
use Rattle.hc_schema.specs.declared.table.Table.{Table}
use Rattle.hc_schema.specs.Cells.{IsTable}
use Rattle.hc_schema.specs.Databases.{Database, Filled, IsDatabase, cells_of, HasCell}

-- different databases have different cells
abbrev pub DatabasesDifferInCells : Type 0
DatabasesDifferInCells = (db other : Database) → IsDatabase db → IsDatabase other → cells_of db ≡ cells_of other → db ≡ other

-- a key has one record: the cells are a map
abbrev pub KeysHaveOneRecord : Type 0
KeysHaveOneRecord = (db : Database) → IsDatabase db → (cell other : Cell) → HasCell db cell → HasCell db other → cell.key ≡ other.key → cell ≡ other

-- exactly the tables that are called so are those of databases
abbrev pub TablesAreOfDatabases : Type 0
TablesAreOfDatabases = (t : Table) → IsTable t ↔ ((db : Database) × (filled : Filled) × IsDatabase db × Among filled db × (filled.table ≡ t))
