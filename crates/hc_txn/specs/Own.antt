-- Own writes as a history that can be undone.
use Rattle.std.specs.Prelude.{◌≡◌, ℕ, cond, Option, Some, None, List, [], ◌∷◌, IsSome}
use Rattle.std.specs.Str.{bytes_eq}
use Rattle.hc_core.specs.Desk.{EachFits}
use Rattle.hc_core.specs.declared.cells.Write.{Write}
use Rattle.hc_txn.specs.Kept.{Known, now_at, records_before}
use Rattle.hc_txn.specs.declared.own.Past.{Past}

-- what own writes put at each key
abbrev pub Standing : Type 0
Standing = List ℕ → Option (Option (List ℕ))

-- with another own write at a key, or with none
abbrev pub changed : Standing → List ℕ → Option (Option (List ℕ)) → Standing
changed now key older q = cond (bytes_eq key q) older (now q)

-- what a write puts
abbrev pub put_of : Option (Option (List ℕ)) → Option (List ℕ)
put_of None = None
put_of (Some rec) = rec

-- the writes of a history, the newest first, from what they leave and what each replaced
abbrev pub writes_of : Standing → List Past → List Write
writes_of now [] = []
writes_of now (past ∷ pasts) = record { key = past.key; rec = put_of (now past.key) } ∷ writes_of (changed now past.key past.older) pasts

-- each write of a history stands until it is undone, and before the first one nothing stands
abbrev pub IsRooted : Standing → List Past → Type 0
IsRooted now [] = (key : List ℕ) → now key ≡ None
IsRooted now (past ∷ pasts) = IsSome (now past.key) × IsRooted (changed now past.key past.older) pasts

-- own writes, the newest first, and the snapshot's records of the keys that were written
pub record Writes : Type 0 where
  pub own : List Write
  pub kept : List Write

abbrev pub writes_in : List Known → List Past → Writes
writes_in known pasts = record { own = writes_of (now_at known) pasts; kept = records_before known }

-- a history agrees with what is known, and each write is within the limit of an entry
pub record IsHistory (known : List Known) (pasts : List Past) : Type 0 where
  pub rooted : IsRooted (now_at known) pasts
  pub fit : EachFits (writes_of (now_at known) pasts)
