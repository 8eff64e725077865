-- What the calls of a desk ask and tell, in terms of accounts alone.
use Rattle.std.specs.Prelude.{◌≡◌, ◌≢◌, ℕ, ◌≤◌, ◌⊎◌, true, Option, Some, None, Result, Ok, Err, List, [], ◌∷◌, ◌++◌, length}
use Rattle.hc_core.specs.Keys.{IsShortKey}
use Rattle.hc_base.specs.Entries.{entry_fits}
use Rattle.hc_base.specs.declared.full.Full.{Full as FullOf}
use Rattle.hc_base.specs.declared.numbers.Cid.{Cid}
use Rattle.hc_range.specs.declared.range.Range.{Range}
use Rattle.hc_range.specs.Order.{IsBelow}
use Rattle.hc_range.specs.Ranges.{InRange, Includes}
use Rattle.hc_core.specs.Account.{HasWritten, PartRead, WhenOpen, part_of, record_of, txns}
use Rattle.hc_core.specs.Diary.{entry_of}
use Rattle.hc_base.specs.Lookup.{Among}
use Rattle.hc_core.specs.Versions.{AreAscending}
use Rattle.hc_core.specs.declared.account.Entry.{Entry}
use Rattle.hc_core.specs.declared.account.Entry.TheVariants.{FoundFull, Reserved}
use Rattle.hc_core.specs.declared.cells.Cell.{Cell}
use Rattle.hc_core.specs.declared.cells.Write.{Write}
use Rattle.hc_core.specs.declared.event.Event.TheVariants.{Draw, Read, Check}
use Rattle.hc_core.specs.declared.outcome.Outcome.{Outcome}
use Rattle.hc_core.specs.declared.outcome.Outcome.TheVariants.{Done, Drew, Cells, Met, Lost, Decided}
use Rattle.hc_core.specs.declared.outcome.Met.{Met as MetRecord}
use Rattle.hc_core.specs.declared.outcome.Lost.{Lost as LostRecord}
use Rattle.hc_core.specs.declared.stop.Next.{Next}
use Rattle.hc_core.specs.declared.stop.Next.TheVariants.{More, End}
use Rattle.hc_core.specs.declared.stop.ReserveFault.{ReserveFault}
use Rattle.hc_core.specs.declared.stop.ReserveFault.TheVariants.{Full, NoMemory}

-- What each call keeps: the connection, and the bound on commit numbers. What was seen of the log never falls, and the
-- desk's own relation from earlier to later moments holds.
abbrev pub GoesOn : {D : Type 0} → (D → ℕ) → (D → ℕ) → (D → ℕ) → (D → D → Type 0) → D → D → Type 0
GoesOn conn most seen later before after =
    (conn after ≡ conn before) × (most after ≡ most before) × (seen before ≤ seen after) × later before after

-- the open transaction has drawn no id, and nothing was found full: it reads
abbrev pub IsReading : List Entry → Type 0
IsReading account = WhenOpen (txns account) (λ t. (t.id ≡ 0) × (t.full ≡ None))

-- the open transaction has room for its writes, is not decided, and proposes nothing; this write is one of those, and its
-- key is not put
abbrev pub MayPutNow : List Entry → List ℕ → Option (List ℕ) → Type 0
MayPutNow account key rec = WhenOpen (txns account) (λ t. (t.id ≢ 0) × (t.full ≡ None) × (t.place ≡ 0) × (t.proposed ≡ 0)
    × Among (record { key = key; rec = rec }) t.reserved × (HasWritten t key → ⊥))

-- the open transaction has an id, is not decided, and each write for which it has room is put
abbrev pub MayProposeNow : List Entry → Type 0
MayProposeNow account = WhenOpen (txns account) (λ t. (t.id ≢ 0) × (t.full ≡ None) × (t.place ≡ 0)
    × ((w : Write) → Among w t.reserved → HasWritten t w.key))

-- the open transaction proposes a number
abbrev pub IsProposing : List Entry → Type 0
IsProposing account = WhenOpen (txns account) (λ t. t.proposed ≢ 0)

-- and it is not decided, and each part that it read was checked for that number
abbrev pub MayDecideNow : List Entry → Type 0
MayDecideNow account = WhenOpen (txns account) (λ t. (t.proposed ≢ 0) × (t.place ≡ 0)
    × ((read : PartRead) → Among read t.reads → Includes t.checked read.part))

-- a key of the open transaction is put, and it is not decided
abbrev pub MayUnputNow : List Entry → List ℕ → Type 0
MayUnputNow account key = WhenOpen (txns account) (λ t. HasWritten t key × (t.place ≡ 0))

-- the open transaction is decided, or nothing of it is put
abbrev pub MayEndNow : List Entry → Type 0
MayEndNow account = WhenOpen (txns account) (λ t. (t.place ≢ 0) ⊎ (t.write_set ≡ []))

-- the upper end of what a call went over
abbrev pub end_of : Range → Next → Option (List ℕ)
end_of range (More key) = Some key
end_of range End = range.hi

-- a call that stops before the range's end stops in it, and above where it began
abbrev pub StopsIn : List ℕ → Range → Next → Type 0
StopsIn from range (More key) = IsBelow from key × InRange range key
StopsIn from range End = Unit {0}

-- where a call stops before the range's end it stops at one of these keys
abbrev pub StopsAt : (List ℕ → Type 0) → Next → Type 0
StopsAt stops (More key) = stops key
StopsAt stops End = Unit {0}

-- cells are in ascending order, each key in the part
abbrev pub AreCellsIn : Range → List Cell → Type 0
AreCellsIn part cells = AreAscending cells × ((cell : Cell) → Among cell cells → InRange part cell.key)

-- a part was read from a key up to an end: the account has the read with its cells, which are added to those before
abbrev pub HasRead : ℕ → List ℕ → Option (List ℕ) → List Entry → List Entry → List Cell → List Cell → Type 0
HasRead conn from upto before after cells_before cells_after = (cells : List Cell)
    × (after ≡ entry_of (Read conn from upto) (Cells (record { cells = cells })) ∷ before)
    × (cells_after ≡ cells_before ++ cells) × AreCellsIn (part_of from upto) cells

-- the last cell of a range was read: the part read is that from its key to the range's end
abbrev pub HasReadLast : ℕ → Range → List Entry → List Entry → List Cell → List Cell → Type 0
HasReadLast conn range before after cells_before cells_after = (cell : Cell)
    × (after ≡ entry_of (Read conn cell.key range.hi) (Cells (record { cells = cell ∷ [] })) ∷ before)
    × (cells_after ≡ cells_before ++ cell ∷ []) × InRange range cell.key × (IsShortKey cell.key)

-- a range was read whole, and has no cell
abbrev pub HasReadNone : ℕ → Range → List Entry → List Entry → List Cell → List Cell → Type 0
HasReadNone conn range before after cells_before cells_after =
    (after ≡ entry_of (Read conn range.lo range.hi) (Cells (record { cells = [] })) ∷ before) × (cells_after ≡ cells_before)

-- out of memory while reading: the account is as before, and so are the cells that were there
abbrev pub HasReadNothing : List Entry → List Entry → List Cell → List Cell → Type 0
HasReadNothing before after cells_before cells_after = (after ≡ before) × ((more : List Cell) × (cells_after ≡ cells_before ++ more))

-- writes in ascending order of keys, each key once
abbrev pub IsBelowEachWrite : List ℕ → List Write → Type 0
IsBelowEachWrite key [] = Unit {0}
IsBelowEachWrite key (w ∷ ws) = IsBelow key w.key × IsBelowEachWrite key ws

abbrev pub AreAscendingWrites : List Write → Type 0
AreAscendingWrites [] = Unit {0}
AreAscendingWrites (w ∷ ws) = IsBelowEachWrite w.key ws × AreAscendingWrites ws

-- each write is within the limit of an entry
abbrev pub EachFits : List Write → Type 0
EachFits writes = (w : Write) → Among w writes → entry_fits (length w.key) (length (record_of w.rec)) ≡ true

-- an account with an id drawn, and room made for writes
abbrev pub with_room : ℕ → ℕ → List Write → ℕ → List Entry → List Entry
with_room conn ord writes id account = Reserved conn writes ∷ entry_of (Draw conn ord) (Drew (record { 0 = id })) ∷ account

-- room was made for writes: an id was drawn
abbrev pub HasReserved : ℕ → ℕ → List Write → List Entry → List Entry → Type 0
HasReserved conn ord writes before after = (id : ℕ) × (id ≢ 0) × (after ≡ with_room conn ord writes id before)

-- no room was made. What was full is noted last, and an id may be drawn by then; out of memory nothing has happened
abbrev pub HasNoRoom : ℕ → ℕ → List Write → ReserveFault → List Entry → List Entry → Type 0
HasNoRoom conn ord writes (Full full) before after =
    (after ≡ FoundFull conn full ∷ before) ⊎ ((id : ℕ) × (id ≢ 0) × (after ≡ FoundFull conn full ∷ with_room conn ord writes id before))
HasNoRoom conn ord writes NoMemory before after = after ≡ before

-- what was full is one of these things
abbrev pub IsFullOf : (FullOf → Type 0) → ReserveFault → Type 0
IsFullOf fills (Full full) = fills full
IsFullOf fills NoMemory = Unit {0}

-- how the account has what a put was answered
abbrev pub put_outcome : {T : Type 0} → Result T MetRecord → Outcome
put_outcome (Ok done) = Done
put_outcome (Err met) = Met met

-- how the account has what a decision was answered
abbrev pub decide_outcome : Result Cid LostRecord → Outcome
decide_outcome (Ok number) = Decided number
decide_outcome (Err lost) = Lost lost

-- another connection is named, with a key
abbrev pub NamesOther : ℕ → List ℕ → MetRecord → Type 0
NamesOther conn key met = (met.conn ≢ conn) × (met.key ≡ key)

-- a part was checked from a key up to where the call stopped, and found unchanged
abbrev pub HasChecked : ℕ → List ℕ → Option (List ℕ) → List Entry → List Entry → Type 0
HasChecked conn from upto before after = after ≡ entry_of (Check conn from upto) Done ∷ before

-- the upper end is the range's, or a key in it above where the call began
abbrev pub EndsIn : List ℕ → Range → Option (List ℕ) → Type 0
EndsIn from range upto = (upto ≡ range.hi) ⊎ ((key : List ℕ) × (upto ≡ Some key) × IsBelow from key × InRange range key)

-- a part of the range was refused: another connection put a key of it
abbrev pub HasMet : ℕ → List ℕ → Range → MetRecord → List Entry → List Entry → Type 0
HasMet conn from range met before after = (upto : Option (List ℕ))
    × (after ≡ entry_of (Check conn from upto) (Met met) ∷ before) × EndsIn from range upto × InRange (part_of from upto) met.key × (met.conn ≢ conn)

-- the number that the open transaction proposes
abbrev pub Proposes : List Entry → ℕ → Type 0
Proposes account number = WhenOpen (txns account) (λ t. t.proposed ≡ number)
