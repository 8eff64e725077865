-- Work on a database, step by step: it reads ranges of keys, sets and clears cells, and gives a value or is refused. What a
-- statement answers, what it changes and what it reads are said by one such work.
use Rattle.std.specs.Prelude.{List, [], ◌∷◌, ◌++◌, Bool, Option, Some, None, Result, Ok, Err, if◌then◌else◌}
use Rattle.hc_range.specs.declared.range.Range.{Range}
use Rattle.hc_transcript.specs.declared.refusal.Refusal.{Refusal}
use Rattle.hc_schema.specs.Databases.{Database}

-- what work came to, the database after it, and what it read, set and cleared, in the order of work
pub record Done (A : Type 0) : Type 0 where
  pub result : Result A Refusal
  pub db : Database
  pub reads : List Range

abbrev pub Work : Type 0 → Type 0
Work A = Database → Done A

-- work that comes to nothing but that it is done
abbrev pub Task : Type 0
Task = Work (Unit {0})

-- no work: a value
abbrev pub give : {A : Type 0} → A → Work A
give a db = record { result = Ok a; db = db; reads = [] }

abbrev pub refuse : {A : Type 0} → Refusal → Work A
refuse refusal db = record { result = Err refusal; db = db; reads = [] }

-- what is read later follows what was read before
abbrev pub with_reads : {A : Type 0} → List Range → Done A → Done A
with_reads before done = record { result = done.result; db = done.db; reads = before ++ done.reads }

abbrev pub go_on : {A B : Type 0} → Result A Refusal → Database → List Range → (A → Work B) → Done B
go_on (Ok a) db reads more = with_reads reads (more a db)
go_on (Err refusal) db reads more = record { result = Err refusal; db = db; reads = reads }

-- one work, and then what follows from its value; a refusal ends both
abbrev pub next : {A B : Type 0} → Work A → (A → Work B) → Work B
next work more db = go_on (work db).result (work db).db (work db).reads more

-- the same work for each of a list, one after another, and all values
abbrev pub in_turn : {X A : Type 0} → (X → Work A) → List X → Work (List A)
in_turn work [] = give []
in_turn work (x ∷ xs) = next (work x) (λ a. next (in_turn work xs) (λ rest. give (a ∷ rest)))

-- the same task for each of a list, one after another
abbrev pub for_each : {X : Type 0} → (X → Task) → List X → Task
for_each task [] = give tt
for_each task (x ∷ xs) = next (task x) (λ done. for_each task xs)

-- a value that is there, or a refusal
abbrev pub need : {A : Type 0} → Refusal → Option A → Work A
need refusal None = refuse refusal
need refusal (Some a) = give a

-- a test: refused where it fails
abbrev pub refuse_if : Bool → Refusal → Task
refuse_if fails refusal = if fails then refuse refusal else give tt

-- what is seen of a database in a range
abbrev pub look : {A : Type 0} → Range → (Database → A) → Work A
look range what db = record { result = Ok (what db); db = db; reads = range ∷ [] }

-- a change of a database, with the cells that it sets and clears
abbrev pub change : List Range → (Database → Database) → Task
change keys into db = record { result = Ok tt; db = into db; reads = keys }
