-- What the machine keeps of the log at run time: the committed transactions with what they put, in the order of
-- their commit numbers.
use Rattle.std.specs.Prelude.{◌≡◌, ℕ, ◌+◌, ◌-◌, ◌<◌, ◌≤◌, ◌⊎◌, Bool, true, false, Option, Some, None, List, [], ◌∷◌, ◌++◌, cond, drop, get_or, length, map, not, take, ◌&&◌}
use Rattle.hc_core.specs.Keys.{IsShortKey}
use Rattle.std.specs.Str.{bytes_eq}
use Rattle.std.specs.List.{list_any}
use Rattle.hc_range.specs.declared.range.Range.{Range}
use Rattle.hc_range.specs.Order.{is_below}
use Rattle.hc_range.specs.Ranges.{is_under}
use Rattle.hc_base.specs.Lookup.{Among}
use Rattle.hc_core.specs.Account.{Txn}
use Rattle.hc_core.specs.Running.{HaveSameWrites, holds_key}
use Rattle.hc_core.specs.declared.cells.Cell.{Cell}
use Rattle.hc_core.specs.declared.cells.Write.{Write}
use Rattle.hc_core.specs.declared.commit.Commit.{Commit}
use Rattle.hc_core.specs.declared.outcome.Met.{Met as MetRecord}

-- an entry is that of the transaction with commit number c
abbrev pub IsCommitOf : (ℕ → List Txn) → ℕ → Commit → Type 0
IsCommitOf of c commit = (t : Txn) × Among t (of commit.conn) × (t.place ≡ c) × (t.id ≡ commit.tid) × (t.ord ≡ commit.ord)
    × HaveSameWrites commit.writes.items t.write_set

-- the entries are those of the transactions with commit numbers from c on
abbrev pub AreCommits : (ℕ → List Txn) → ℕ → List Commit → Type 0
AreCommits of c [] = Unit {0}
AreCommits of c (commit ∷ commits) = IsCommitOf of c commit × AreCommits of (c + 1) commits

-- what the entry at a place puts, counted from 0; nothing past the end
abbrev pub writes_at : List Commit → ℕ → List Write
writes_at commits place = get_or (map (λ commit. commit.writes.items) commits) place []

-- the last entry that puts the key
abbrev pub IsLastWith : List ℕ → List Commit → ℕ → Type 0
IsLastWith key commits place = (place < length commits) × (holds_key key (writes_at commits place) ≡ true)
    × ((other : ℕ) → place < other → other < length commits → holds_key key (writes_at commits other) ≡ false)

-- no entry puts the key
abbrev pub NoneIsWith : List ℕ → List Commit → Type 0
NoneIsWith key commits = (place : ℕ) → place < length commits → holds_key key (writes_at commits place) ≡ false

-- whether a key lies in a range
abbrev pub is_in : Range → List ℕ → Bool
is_in range key = not (is_below key range.lo) && is_under key range.hi

-- the lesser of the best key so far and a key
abbrev pub lesser : Option (List ℕ) → List ℕ → Option (List ℕ)
lesser None key = Some key
lesser (Some best) key = cond (is_below key best) (Some key) (Some best)

-- the least key of the range among writes, and the best so far
abbrev pub least_with : Range → Option (List ℕ) → List Write → Option (List ℕ)
least_with range best [] = best
least_with range best (w ∷ ws) = least_with range (cond (is_in range w.key) (lesser best w.key) best) ws

-- the least key of the range that the entries put, and the best so far
abbrev pub least_of : Range → Option (List ℕ) → List Commit → Option (List ℕ)
least_of range best [] = best
least_of range best (commit ∷ commits) = least_of range (least_with range best commit.writes.items) commits

-- cells in ascending order of keys, with a record put at a key, or with the key taken out
abbrev pub set_here : List ℕ → Option (List ℕ) → List Cell → List Cell
set_here key None cells = cells
set_here key (Some rec) cells = record { key = key; rec = rec } ∷ cells

abbrev pub set_cell : List ℕ → Option (List ℕ) → List Cell → List Cell
set_cell key rec [] = set_here key rec []
set_cell key rec (cell ∷ cells) = cond (is_below cell.key key) (cell ∷ set_cell key rec cells)
    (set_here key rec (cond (bytes_eq cell.key key) cells (cell ∷ cells)))

-- cells with those writes set that lie in the range, the first one first
abbrev pub cells_with : Range → List Cell → List Write → List Cell
cells_with range cells [] = cells
cells_with range cells (w ∷ ws) = cells_with range (cond (is_in range w.key) (set_cell w.key w.rec cells) cells) ws

-- the cells of a range after the entries, the first one first
abbrev pub cells_of : Range → List Cell → List Commit → List Cell
cells_of range cells [] = cells
cells_of range cells (commit ∷ commits) = cells_of range (cells_with range cells commit.writes.items) commits

-- no key has more bytes than a stored key may have
abbrev pub AreShortWrites : List Write → Type 0
AreShortWrites [] = Unit {0}
AreShortWrites (w ∷ ws) = (IsShortKey w.key) × AreShortWrites ws

abbrev pub AreShort : List Commit → Type 0
AreShort [] = Unit {0}
AreShort (commit ∷ commits) = AreShortWrites commit.writes.items × AreShort commits

-- whether what is put is a tombstone, which takes a key's record away
abbrev pub is_none : Option (List ℕ) → Bool
is_none None = true
is_none (Some rec) = false

-- whether a write puts a tombstone at a key
abbrev pub is_tombstone : List ℕ → Write → Bool
is_tombstone key w = is_none w.rec && bytes_eq w.key key

-- whether a tombstone of the key is among writes
abbrev pub holds_tombstone : List ℕ → List Write → Bool
holds_tombstone key writes = list_any (λ w. is_tombstone key w) writes

-- how many cells at the front have keys below a key
abbrev pub count_below : List ℕ → List Cell → ℕ
count_below key [] = 0
count_below key (cell ∷ cells) = cond (is_below cell.key key) (count_below key cells + 1) 0

-- cells with the one at a place taken out, if it has the key
abbrev pub unless_same : List ℕ → List Cell → List Cell
unless_same key [] = []
unless_same key (cell ∷ cells) = cond (bytes_eq cell.key key) cells (cell ∷ cells)

abbrev pub take_out_at : ℕ → List ℕ → List Cell → List Cell
take_out_at place key cells = take place cells ++ unless_same key (drop place cells)

-- cells with one put in at a place, if there is a record
abbrev pub put_in_at : ℕ → List ℕ → Option (List ℕ) → List Cell → List Cell
put_in_at place key rec cells = take place cells ++ set_here key rec (drop place cells)

-- the least key of the range that the commits above a snapshot and below a commit number put
abbrev pub least_between : ℕ → ℕ → Range → List Commit → Option (List ℕ)
least_between snapshot number range commits = least_of range None (drop snapshot (take (number - 1) commits))

-- a refusal names the entry at a place, and a key
abbrev pub IsMetAt : List Commit → ℕ → List ℕ → MetRecord → Type 0
IsMetAt commits place key met = (commit : Commit) × (commit ≡ get_or commits place commit)
    × (met.tid.0 ≡ commit.tid) × (met.conn ≡ commit.conn) × (met.ord ≡ commit.ord) × (met.key ≡ key)

-- a refusal names the least key of the range that the commits between put, and the last one of them that put it
abbrev pub IsMetBetween : ℕ → ℕ → Range → List Commit → MetRecord → Type 0
IsMetBetween snapshot number range commits met = (place : ℕ) × (least_between snapshot number range commits ≡ Some met.key)
    × IsLastWith met.key (take (number - 1) commits) place × IsMetAt commits place met.key met

-- no commit above a snapshot put the key
abbrev pub IsNoneAbove : ℕ → List ℕ → List Commit → Type 0
IsNoneAbove snapshot key commits = (place : ℕ) → snapshot ≤ place → place < length commits → holds_key key (writes_at commits place) ≡ false

-- a refusal names the key and the last commit that put it, which is above a snapshot
abbrev pub IsMetAbove : ℕ → List ℕ → List Commit → MetRecord → Type 0
IsMetAbove snapshot key commits met = (place : ℕ) × IsLastWith key commits place × (snapshot < place + 1) × IsMetAt commits place key met

-- the last commit that put the key put a tombstone
abbrev pub IsLastTombstone : List ℕ → List Commit → ℕ → Type 0
IsLastTombstone key commits place = IsLastWith key commits place × (holds_tombstone key (writes_at commits place) ≡ true)

-- the last commit that put the key put a record, or none put it
abbrev pub HasNoTombstone : List ℕ → List Commit → Type 0
HasNoTombstone key commits = NoneIsWith key commits ⊎ ((place : ℕ) × IsLastWith key commits place × (holds_tombstone key (writes_at commits place) ≡ false))
