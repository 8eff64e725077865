-- What a transaction gives, leaves, writes and reads, where it runs on a database.
use Rattle.std.specs.Prelude.{◌≡◌, not, is_none, List, [], ◌∷◌, ◌++◌, Some, None, map, filter, fold, ⊤}
use Rattle.hc_range.specs.declared.range.Range.{Range}
use Rattle.hc_core.specs.WriteSet.{is_same_rec}
use Rattle.hc_core.specs.declared.cells.Cell.{Cell}
use Rattle.hc_core.specs.declared.cells.Write.{Write}
use Rattle.hc_meaning.specs.Runs.Language.{Language, record_at}
use Rattle.hc_meaning.specs.Runs.Running.{Running, begun_on, answer_to, after_command, reads_of}
use Rattle.hc_meaning.specs.Runs.Walk.{Item, Answered, CommitRefused, OutOfMemory}

-- a transaction after an item, where `first` is the database on which it began
abbrev pub after_item : (L : Language) → L.Db → Running L → Item → Running L
after_item L first now (Answered c answer) = after_command L first now c
after_item L first now (CommitRefused c) = after_command L first now c
after_item L first now (OutOfMemory c) = now

-- the database that it leaves
abbrev pub left_by : (L : Language) → L.Db → List Item → L.Db
left_by L db items = (fold (after_item L db) (begun_on L db) items).db

-- an item's answer is what its command answers
abbrev pub IsGiven : (L : Language) → Running L → Item → Type 0
IsGiven L now (Answered c answer) = answer_to L now c ≡ answer
IsGiven L now (CommitRefused c) = ⊤
IsGiven L now (OutOfMemory c) = ⊤

-- and so is each one's, as they run one after another
abbrev pub AreGivenFrom : (L : Language) → L.Db → Running L → List Item → Type 0
AreGivenFrom L first now [] = ⊤
AreGivenFrom L first now (item ∷ items) = IsGiven L now item × AreGivenFrom L first (after_item L first now item) items

abbrev pub AreGiven : (L : Language) → L.Db → List Item → Type 0
AreGiven L db items = AreGivenFrom L db (begun_on L db) items

-- what an item read, and what it would have read too where it was answered 7
abbrev pub item_reads : (L : Language) → Running L → Item → List Range
item_reads L now (Answered c answer) = reads_of L now c
item_reads L now (CommitRefused c) = reads_of L now c
item_reads L now (OutOfMemory c) = []

abbrev pub item_footprint : (L : Language) → Running L → Item → List Range
item_footprint L now (Answered c answer) = reads_of L now c
item_footprint L now (CommitRefused c) = reads_of L now c
item_footprint L now (OutOfMemory c) = reads_of L now c

-- the ranges of all items, each on the database before it. What ROLLBACK TO undid stays in them
abbrev pub reads_from : (L : Language) → L.Db → Running L → List Item → List Range
reads_from L first now [] = []
reads_from L first now (item ∷ items) = item_reads L now item ++ reads_from L first (after_item L first now item) items

abbrev pub footprint_from : (L : Language) → L.Db → Running L → List Item → List Range
footprint_from L first now [] = []
footprint_from L first now (item ∷ items) = item_footprint L now item ++ footprint_from L first (after_item L first now item) items

abbrev pub reads : (L : Language) → L.Db → List Item → List Range
reads L db items = reads_from L db (begun_on L db) items

abbrev pub footprint : (L : Language) → L.Db → List Item → List Range
footprint L db items = footprint_from L db (begun_on L db) items

-- the write that clears a cell, and the one that sets it
abbrev pub clearing : Cell → Write
clearing cell = record { key = cell.key; rec = None }

abbrev pub setting : Cell → Write
setting cell = record { key = cell.key; rec = Some cell.rec }

-- the cells that are gone, and those that are new or have another record
abbrev pub gone : List Cell → List Cell → List Cell
gone before after = filter (λ cell. is_none (record_at after cell.key)) before

abbrev pub fresh : List Cell → List Cell → List Cell
fresh before after = filter (λ cell. not (is_same_rec (record_at before cell.key) (Some cell.rec))) after

abbrev pub changes : List Cell → List Cell → List Write
changes before after = map clearing (gone before after) ++ map setting (fresh before after)

-- the net writes: the keys whose record is another one in the end, with that record. An update to the same values is none
abbrev pub writes : (L : Language) → L.Db → List Item → List Write
writes L db items = changes (L.cells db) (L.cells (left_by L db items))
