-- A store is a function from keys to records. What a transaction has read of its snapshot is told by the stores that agree
-- with it, and what it sees is such a store with its own writes over it.
use Rattle.std.specs.Prelude.{◌≡◌, ℕ, cond, Option, Some, None, List, [], ◌∷◌, ◌↔◌}
use Rattle.std.specs.Option.{unwrap_or}
use Rattle.std.specs.Str.{bytes_eq}
use Rattle.hc_range.specs.declared.range.Range.{Range}
use Rattle.hc_range.specs.Ranges.{InRange}
use Rattle.hc_core.specs.Account.{PartRead}
use Rattle.hc_base.specs.Lookup.{Among}
use Rattle.hc_core.specs.Versions.{AreAscending}
use Rattle.hc_core.specs.declared.cells.Cell.{Cell}
use Rattle.hc_core.specs.declared.cells.Write.{Write}

-- each key's record, if it has one
abbrev pub Store : Type 0
Store = List ℕ → Option (List ℕ)

-- cells are exactly what a store has in a part of the keys
abbrev pub HasExactly : Store → Range → List Cell → Type 0
HasExactly store part cells = (key rec : List ℕ) → Among (record { key = key; rec = rec }) cells ↔ (InRange part key × (store key ≡ Some rec))

-- a store has, in each part that was read, exactly the cells that were found there
abbrev pub Agrees : List PartRead → Store → Type 0
Agrees [] store = Unit {0}
Agrees (read ∷ reads) store = HasExactly store read.part read.cells × Agrees reads store

-- what the newest of some writes puts at a key, if one does; the newest is first
abbrev pub latest : List Write → List ℕ → Option (Option (List ℕ))
latest [] key = None
latest (write ∷ writes) key = cond (bytes_eq write.key key) (Some write.rec) (latest writes key)

-- a store with own writes over it
abbrev pub over : List Write → Store → Store
over own store key = unwrap_or (latest own key) (store key)

-- cells are those of a store in a range, in ascending order of keys
abbrev pub AreCellsOf : Store → Range → List Cell → Type 0
AreCellsOf store range cells = AreAscending cells × HasExactly store range cells
