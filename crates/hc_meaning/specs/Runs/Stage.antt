-- Where a played run is between two turns: the commits so far, and each connection.
use Rattle.std.specs.Prelude.{ℕ, ◌-◌, Bool, false, not, List, [], ◌∷◌, ◌&&◌, ◌||◌, Option, Some, None, length, take, drop, filter, flat_map, find, map}
use Rattle.hc_range.specs.Order.{is_below, lower}
use Rattle.hc_range.specs.Ranges.{is_under}
use Rattle.hc_range.specs.declared.range.Range.{Range}
use Rattle.hc_core.specs.Running.{holds_key}
use Rattle.hc_core.specs.declared.cells.Write.{Write}
use Rattle.hc_meaning.specs.Runs.Language.{Language}
use Rattle.hc_meaning.specs.Runs.Walk.{Item}

-- a committed transaction: its name, what it wrote, and the database after it
pub record Committed (L : Language) : Type 0 where
  pub conn : ℕ
  pub ordinal : ℕ
  pub writes : List Write
  pub db : L.Db

-- an open transaction: its items so far, and its snapshot, if a statement of it has touched the database
pub record Opened : Type 0 where
  pub items : List Item
  pub snapshot : Option ℕ

-- a connection: how many transactions it has had, the open one too, and that one
pub record Standing : Type 0 where
  pub count : ℕ
  pub opened : Option Opened

pub record Stage (L : Language) : Type 0 where
  -- the newest first
  pub commits : List (Committed L)
  pub standing : ℕ → Standing

abbrev pub first_stage : (L : Language) → Stage L
first_stage L = record { commits = []; standing = λ conn. record { count = 0; opened = None } }

-- the newest database
abbrev pub newest_db : (L : Language) → List (Committed L) → L.Db
newest_db L [] = L.start
newest_db L (c ∷ commits) = c.db

-- the commits above a snapshot, the newest first, and the database of the snapshot
abbrev pub commits_above : {L : Language} → ℕ → List (Committed L) → List (Committed L)
commits_above snapshot commits = take (length commits - snapshot) commits

abbrev pub db_at : (L : Language) → ℕ → List (Committed L) → L.Db
db_at L snapshot commits = newest_db L (drop (length commits - snapshot) commits)

-- whether a key lies in one of the ranges
abbrev pub is_in_any : List Range → List ℕ → Bool
is_in_any [] key = false
is_in_any (range ∷ ranges) key = (not (is_below key range.lo) && is_under key range.hi) || is_in_any ranges key

-- the least of some keys
abbrev pub least_with : List ℕ → Option (List ℕ) → Option (List ℕ)
least_with key None = Some key
least_with key (Some other) = Some (lower key other)

abbrev pub least : List (List ℕ) → Option (List ℕ)
least [] = None
least (key ∷ keys) = least_with key (least keys)

-- the keys that commits wrote
abbrev pub keys_written : {L : Language} → List (Committed L) → List (List ℕ)
keys_written commits = flat_map (λ c. map (λ w. w.key) c.writes) commits

-- the least key that passes and that a commit wrote
abbrev pub least_written : {L : Language} → (List ℕ → Bool) → List (Committed L) → Option (List ℕ)
least_written passes commits = least (filter passes (keys_written commits))

-- The key over which a commit is refused: the least of its writes that a commit above its snapshot wrote, or else the
-- least of its reads.
abbrev pub in_writes_or_reads : Option (List ℕ) → Option (List ℕ) → Option (List ℕ)
in_writes_or_reads (Some key) other = Some key
in_writes_or_reads None other = other

abbrev pub conflict_key : {L : Language} → List Write → List Range → List (Committed L) → Option (List ℕ)
conflict_key ws ranges above =
    in_writes_or_reads (least_written (λ key. holds_key key ws) above) (least_written (λ key. is_in_any ranges key) above)

-- the newest commit that wrote it
abbrev pub writer_of : {L : Language} → List ℕ → List (Committed L) → Option (Committed L)
writer_of key above = find (λ c. holds_key key c.writes) above
