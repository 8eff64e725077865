-- The database: the rows of the one table t(id, v), which is there from the start and empty.
use Rattle.std.specs.Prelude.{ℤ, List, [], ◌∷◌, ◌++◌, Option, None, Some, if◌then◌else◌, filter, int_lt, map}
use Rattle.std.specs.Ordering.{int_eq, int_cmp}
use Rattle.std.specs.List.Sorted.{IsStrictlySortedBy}

-- the rows (id, v)
abbrev pub Db : Type 0
Db = List (ℤ × ℤ)

abbrev pub empty_db : Db
empty_db = []

-- Ids ascend, so each is there once. It holds of every db that a run leads to.
abbrev pub IsDb : Db → Type 0
IsDb db = IsStrictlySortedBy int_cmp (map (λ row. row.0) db)

-- what the db has at an id
abbrev pub value_at : Db → ℤ → Option ℤ
value_at [] id = None
value_at (row ∷ rows) id = if int_eq row.0 id then Some row.1 else value_at rows id

-- the rows with this id: one, or none
abbrev pub rows_at : Db → ℤ → Db
rows_at db id = filter (λ row. int_eq row.0 id) db

-- the rows below a new one, the new one, and the rows above it
abbrev pub with_row : Db → ℤ → ℤ → Db
with_row db id v = filter (λ row. int_lt row.0 id) db ++ (id, v) ∷ filter (λ row. int_lt id row.0) db
