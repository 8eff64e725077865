-- Content: what a page holds, with no bit and no place.
use Rattle.std.specs.Prelude.{◌≡◌, ◌<◌, ◌≤◌, ℕ, zero, suc, ◌^◌, List, [], ◌∷◌, length, map, Option, Some, None, ⊤}
use Rattle.std.specs.List.{All}
use Rattle.hc_range.specs.Order.{IsBelow, IsAtMost}
use Rattle.hc_base.specs.declared.numbers.Tid.{Tid}
use Rattle.hc_base.specs.declared.numbers.Logical.{Logical}
use Rattle.hc_base.specs.declared.page.Older.{Older}
use Rattle.hc_base.specs.Words.{IsNumber}

-- What an entry has for its key: on a leaf the transaction that put the newest version, its record (none is a
-- tombstone) and where the version before it is; on an inner page the number of the child whose keys begin with it.
pub data Held : Type 0 where
  Version : Tid → Option (List ℕ) → Option Older → Held
  Child : Logical → Held

pub record Entry : Type 0 where
  pub key : List ℕ
  pub held : Held

-- The level is 0 for a leaf, and one more than that of its children for an inner page. The page has the keys from its
-- low fence up to, and without, its high one, or all from the low one on. `mark` is 0 for now.
pub record Content : Type 0 where
  pub level : ℕ
  pub own : Logical
  pub right : Option Logical
  pub low : List ℕ
  pub high : Option (List ℕ)
  pub mark : ℕ
  pub entries : List Entry

abbrev pub keys : List Entry → List (List ℕ)
keys entries = map (λ entry. entry.key) entries

-- each byte string comes before the next
abbrev pub Ascends : List (List ℕ) → Type 0
Ascends [] = ⊤
Ascends (key ∷ rest) = All (λ other. IsBelow key other) rest × Ascends rest

-- below the end, where there is one
abbrev pub IsBelowEnd : List ℕ → Option (List ℕ) → Type 0
IsBelowEnd key None = ⊤
IsBelowEnd key (Some end) = IsBelow key end

-- between the fences
abbrev pub IsWithin : List ℕ → Option (List ℕ) → List ℕ → Type 0
IsWithin low high key = IsAtMost low key × IsBelowEnd key high

-- so many bytes at most
abbrev pub IsBytes : ℕ → List ℕ → Type 0
IsBytes most bytes = (length bytes ≤ most) × All (λ byte. byte < 2 ^ 8) bytes

abbrev pub IsFence : List ℕ → Type 0
IsFence fence = IsBytes 463 fence

-- what an option has meets this
abbrev pub OfSome : {A : Type 0} → (A → Type 0) → Option A → Type 0
OfSome P None = ⊤
OfSome P (Some x) = P x

-- a place of an older version
abbrev pub IsOlder : Older → Type 0
IsOlder older = IsNumber older.page.0 × (older.slot < 2 ^ 16)

-- what an entry of a leaf has, within its bits
abbrev pub IsVersion : Held → Type 0
IsVersion (Version tid rec older) = (tid.0 < 2 ^ 32) × OfSome (IsBytes 4095) rec × OfSome IsOlder older
IsVersion (Child number) = ⊥

-- what an entry of an inner page has
abbrev pub IsChild : Held → Type 0
IsChild (Version tid rec older) = ⊥
IsChild (Child number) = IsNumber number.0

-- An entry of a leaf is bounded by the bits of its lengths alone. A key of an inner page may be a fence of its child.
abbrev pub IsEntryOf : ℕ → Entry → Type 0
IsEntryOf zero entry = IsVersion entry.held × IsBytes 4095 entry.key
IsEntryOf (suc level) entry = IsChild entry.held × IsFence entry.key

-- an inner page has an entry, and its low fence is its first key
abbrev pub BeginsAt : ℕ → List ℕ → List (List ℕ) → Type 0
BeginsAt zero low keys = ⊤
BeginsAt (suc level) low [] = ⊥
BeginsAt (suc level) low (key ∷ keys) = low ≡ key

-- The contents that there are, but for their size: `IsPage` (`Layout`) says that all fits 256 words.
pub record IsContent (c : Content) : Type 0 where
  pub level : c.level < 2 ^ 8
  pub own : IsNumber c.own.0
  pub right : OfSome (λ number. IsNumber number.0) c.right
  pub low : IsFence c.low
  pub high : OfSome IsFence c.high
  pub mark : c.mark ≡ 0
  pub entries : All (IsEntryOf c.level) c.entries
  pub ascending : Ascends (keys c.entries)
  pub within : All (IsWithin c.low c.high) (keys c.entries)
  pub begins : BeginsAt c.level c.low (keys c.entries)
