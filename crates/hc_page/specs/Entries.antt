-- Entries: what is told of an entry of a page.
use Rattle.std.specs.Prelude.{◌≡◌, ◌<◌, ◌+◌, ℕ, Bool, true, false, List, length, slice_index, Option, Some, None}
use Rattle.std.specs.List.{slice_get}
use Rattle.hc_base.specs.Content.{Content, Entry, Held, Version, Child}
use Rattle.hc_base.specs.Layout.{IsPage, record_bytes}
use Rattle.hc_page.specs.declared.entry_at.EntryAt.{EntryAt}
use Rattle.hc_page.specs.Reading.{byte_in}

-- these bytes are at a place of the page
abbrev pub AreAt : List ℕ → ℕ → ℕ → List ℕ → Type 0
AreAt words at len bytes = (length bytes ≡ len) × ((k : ℕ) → k < len → byte_in words (at + k) ≡ slice_index bytes k)

abbrev pub is_tombstone : Option (List ℕ) → Bool
is_tombstone None = true
is_tombstone (Some bytes) = false

-- what is told is what the entry has
abbrev pub TellsHeld : List ℕ → EntryAt → List ℕ → Held → Type 0
TellsHeld words told key (Version tid rec older) =
    (told.tid ≡ tid) × AreAt words told.key_at told.key_len key × AreAt words told.rec_at told.rec_len (record_bytes rec)
    × (told.tombstone ≡ is_tombstone rec) × (told.older ≡ older)
TellsHeld words told key (Child number) = ⊥

abbrev pub Tells : List ℕ → EntryAt → Entry → Type 0
Tells words told entry = TellsHeld words told entry.key entry.held

-- the page is a leaf, and has an entry of this number
abbrev pub HasVersion : List ℕ → ℕ → Type 0
HasVersion words slot = (c : Content) × (entry : Entry) × IsPage words c × (c.level ≡ 0) × (slice_get c.entries slot ≡ Some entry)

-- the page is an inner one, and has an entry of this number
abbrev pub HasChild : List ℕ → ℕ → Type 0
HasChild words slot = (c : Content) × (entry : Entry) × IsPage words c × (0 < c.level) × (slice_get c.entries slot ≡ Some entry)
