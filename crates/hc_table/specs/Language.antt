-- The one table as a language: what its statements do to the rows, and which keys they read.
use Rattle.std.specs.Prelude.{ℤ, List, [], ◌∷◌, Option, None, Some}
use Rattle.hc_range.specs.declared.range.Range.{Range}
use Rattle.hc_meaning.specs.Runs.Language.{Effect, Language}
use Rattle.hc_table.specs.Rows.{Rows, AreRows, value_of, with_value, cells_of_rows, row_range}
use Rattle.hc_table.specs.declared.action.Action.{Action}
use Rattle.hc_table.specs.Statements.{action_of, id_of, answer_at, put_at, no_statement}

abbrev pub rows_with : ℤ → Option ℤ → Rows → Rows
rows_with id None rows = rows
rows_with id (Some v) rows = with_value id v rows

-- a statement of one of the three forms looks at the row with its id, and any other changes nothing
abbrev pub effect : Rows → Option Action → Effect Rows
effect rows None = record { answer = no_statement; db = rows }
effect rows (Some action) = record {
  answer = answer_at action (value_of rows (id_of action));
  db = rows_with (id_of action) (put_at action (value_of rows (id_of action))) rows;
}

-- it reads the one row's key, and any other reads nothing
abbrev pub ranges_of : Option Action → List Range
ranges_of None = []
ranges_of (Some action) = row_range (id_of action) ∷ []

abbrev pub table_language : Language
table_language = record {
  Db = Rows;
  IsDb = AreRows;
  start = [];
  cells = cells_of_rows;
  run = λ rows statement. effect rows (action_of statement);
  reads = λ rows statement. ranges_of (action_of statement);
}
