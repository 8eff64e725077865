-- Words: each word of the engine's table as a number, and which forms there are. Page, logical and commit numbers are
-- counted from 1, and so are ordinals; a stamp and a snapshot may be 0.
use Rattle.std.specs.Prelude.{ℕ, ◌+◌, ◌*◌, ◌^◌, ◌<◌, ◌≢◌, ⊤}
use Rattle.hc_base.specs.declared.map_word.MapWord.{MapWord}
use Rattle.hc_base.specs.declared.map_word.MapWord.TheVariants as map
use Rattle.hc_base.specs.declared.page_word.PageWord.{PageWord}
use Rattle.hc_base.specs.declared.page_word.PageWord.TheVariants as page
use Rattle.hc_base.specs.declared.seat_word.SeatWord.{SeatWord}
use Rattle.hc_base.specs.declared.seat_word.SeatWord.TheVariants as seat
use Rattle.hc_base.specs.declared.tid_word.TidWord.{TidWord}
use Rattle.hc_base.specs.declared.tid_word.TidWord.TheVariants as tid

-- a tag in the top 8 bits, a seat in bits 32 to 39, and a number in the low 32
abbrev pub word_of_parts : ℕ → ℕ → ℕ → ℕ
word_of_parts tag at number = tag * 2 ^ 56 + at * 2 ^ 32 + number

-- no tag, seat and number make this word
abbrev pub HasNoParts : ℕ → Type 0
HasNoParts word = (tag at number : ℕ) → tag < 2 ^ 8 → at < 2 ^ 8 → number < 2 ^ 32 → word_of_parts tag at number ≢ word

-- a seat and the next number of its thread, 0 at the end
abbrev pub IsThread : ℕ → ℕ → Type 0
IsThread at next = (at < 2 ^ 8) × (next < 2 ^ 32)

-- a number that is counted from 1
abbrev pub IsNumber : ℕ → Type 0
IsNumber n = (0 < n) × (n < 2 ^ 32)

-- the word of a logical number
abbrev pub map_word : MapWord → ℕ
map_word map.Free = 0
map_word (map.Claimed at next) = word_of_parts 1 at next
map_word (map.Page p) = word_of_parts 2 0 p.0
map_word (map.Evicted left) = word_of_parts 3 0 left.0

abbrev pub IsMapWord : MapWord → Type 0
IsMapWord map.Free = ⊤
IsMapWord (map.Claimed at next) = IsThread at next
IsMapWord (map.Page p) = IsNumber p.0
IsMapWord (map.Evicted left) = IsNumber left.0

-- the word of a physical page
abbrev pub page_word : PageWord → ℕ
page_word page.Free = 0
page_word (page.Owned at next) = word_of_parts 1 at next
page_word (page.Mapped number) = word_of_parts 2 0 number.0
page_word (page.Pending at next) = word_of_parts 3 at next
page_word (page.Limbo stamp) = word_of_parts 4 0 stamp.0

abbrev pub IsPageWord : PageWord → Type 0
IsPageWord page.Free = ⊤
IsPageWord (page.Owned at next) = IsThread at next
IsPageWord (page.Mapped number) = IsNumber number.0
IsPageWord (page.Pending at next) = IsThread at next
IsPageWord (page.Limbo stamp) = stamp.0 < 2 ^ 32

-- the word of a connection's seat
abbrev pub seat_word : SeatWord → ℕ
seat_word seat.Idle = 0
seat_word seat.Starting = word_of_parts 1 0 0
seat_word (seat.Snapshot snapshot) = word_of_parts 2 0 snapshot.0

abbrev pub IsSeatWord : SeatWord → Type 0
IsSeatWord seat.Idle = ⊤
IsSeatWord seat.Starting = ⊤
IsSeatWord (seat.Snapshot snapshot) = snapshot.0 < 2 ^ 32

-- a tag in the top 3 bits, then 7 bits of the connection, 17 of the ordinal, 5 that are 0, and 32 of the commit number
abbrev pub tid_parts : ℕ → ℕ → ℕ → ℕ → ℕ
tid_parts tag conn ord c = tag * 2 ^ 61 + conn * 2 ^ 54 + ord * 2 ^ 37 + c

-- the word of a transaction id
abbrev pub tid_word : TidWord → ℕ
tid_word tid.Empty = 0
tid_word (tid.Live conn ord) = tid_parts 1 conn ord 0
tid_word (tid.Validating conn ord c) = tid_parts 2 conn ord c.0
tid_word (tid.Committed conn ord c) = tid_parts 3 conn ord c.0
tid_word (tid.RolledBack conn ord) = tid_parts 4 conn ord 0

-- a connection from 0, and an ordinal from 1
abbrev pub IsOwner : ℕ → ℕ → Type 0
IsOwner conn ord = (conn < 2 ^ 7) × (0 < ord) × (ord < 2 ^ 17)

abbrev pub IsTidWord : TidWord → Type 0
IsTidWord tid.Empty = ⊤
IsTidWord (tid.Live conn ord) = IsOwner conn ord
IsTidWord (tid.Validating conn ord c) = IsOwner conn ord × IsNumber c.0
IsTidWord (tid.Committed conn ord c) = IsOwner conn ord × IsNumber c.0
IsTidWord (tid.RolledBack conn ord) = IsOwner conn ord
