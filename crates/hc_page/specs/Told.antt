-- Told: what words tell of a content, whether they are a page or not.
use Rattle.std.specs.Prelude.{◌≡◌, ◌<◌, ◌≤◌, ℕ, zero, suc, ◌+◌, ◌*◌, ◌/◌, ◌%◌, ◌^◌, List, [], ◌∷◌, length, take, slice_index, Option, Some, None, ⊤}
use Rattle.std.specs.List.{All, slice_get}
use Rattle.std.specs.Option.{option_copied}
use Rattle.hc_range.specs.Order.{IsBelow}
use Rattle.hc_base.specs.Words.{IsNumber}
use Rattle.hc_base.specs.Content.{Content, Entry, Ascends, IsWithin, IsEntryOf, IsFence, OfSome, keys}
use Rattle.hc_base.specs.Layout.{IsPage}
use Rattle.hc_page.specs.declared.told.Told.{Told}
use Rattle.hc_page.specs.declared.told.Told.TheVariants as told
use Rattle.hc_page.specs.declared.validity.Copied.{Copied}
use Rattle.hc_page.specs.declared.writer.Draft.{Draft}
use Rattle.hc_page.specs.declared.writer.Head.{Head}
use Rattle.hc_page.specs.declared.writer.NewEntry.{NewEntry}
use Rattle.hc_page.specs.Drafts.{IsDraft, entry_of, child_of, started}
use Rattle.hc_page.specs.Puts.{with_entries}
use Rattle.hc_page.specs.Entries.{AreAt}
use Rattle.hc_page.specs.Reading.{byte_in, level_in, count_in, place_in, IsKeyAt}

-- all bytes of the words
pub record AreBytesOf (words bytes : List ℕ) : Type 0 where
  pub long : length bytes ≡ 2048
  pub each : (k : ℕ) → k < 2048 → slice_index bytes k ≡ byte_in words k

-- Bytes that are told are those at a place of the page, and such bytes are told where they are on the page.
pub record TellsBytes (words : List ℕ) (at len : ℕ) (told : Option (List ℕ)) : Type 0 where
  pub are : OfSome (λ bytes. AreAt words at len bytes) told
  pub is : (bytes : List ℕ) → AreAt words at len bytes → at + len ≤ 2048 → told ≡ Some bytes

-- The same of a fence, whose first word and length are in a word, 16 bits each.
pub record TellsFence (words : List ℕ) (word : ℕ) (told : Option (List ℕ)) : Type 0 where
  pub within : OfSome IsFence told
  pub is : (fence : List ℕ) → IsFence fence → IsKeyAt words (word / 2 ^ 16) (word % 2 ^ 16) fence → word / 2 ^ 16 * 8 + word % 2 ^ 16 ≤ 2048 → told ≡ Some fence

-- there is one, and it says this
abbrev pub IsTold : {A B : Type 0} → (A → B) → Option A → B → Type 0
IsTold of None b = ⊥
IsTold of (Some a) b = of a ≡ b

-- what a content has besides its entries is within its bits
pub record IsHead (c : Content) : Type 0 where
  pub level : c.level < 2 ^ 8
  pub own : IsNumber c.own.0
  pub right : OfSome (λ number. IsNumber number.0) c.right
  pub low : IsFence c.low
  pub high : OfSome IsFence c.high

-- What is told of the head is within its bits, and it is that of the content of which the words are a page.
pub record TellsHead (words : List ℕ) (told : Option Head) : Type 0 where
  pub within : OfSome (λ head. IsHead (started head)) told
  pub level : OfSome (λ head. head.level ≡ level_in words) told
  pub is : (c : Content) → IsPage words c → IsTold started told (with_entries c [])

-- the entry that is told of
abbrev pub entry_told : Told → Entry
entry_told (told.Version new) = entry_of new
entry_told (told.Child key child) = child_of key.now child

-- The same of the entry whose words are at a place of a leaf.
pub record TellsVersion (words : List ℕ) (at : ℕ) (told : Option NewEntry) : Type 0 where
  pub within : OfSome (λ new. IsEntryOf 0 (entry_of new)) told
  pub is : (c : Content) (slot : ℕ) (e : Entry) → IsPage words c → c.level ≡ 0 → slice_get c.entries slot ≡ Some e → at ≡ place_in words slot
      → IsTold entry_of told e

-- The same of the entry whose words are at a place of an inner page.
pub record TellsChild (words : List ℕ) (at : ℕ) (told : Option Told) : Type 0 where
  pub within : OfSome (λ t. IsEntryOf 1 (entry_told t)) told
  pub is : (c : Content) (slot : ℕ) (e : Entry) → IsPage words c → 0 < c.level → slice_get c.entries slot ≡ Some e → at ≡ place_in words slot
      → IsTold entry_told told e

-- The same of an entry of either kind of page, by its number.
pub record TellsEntry (words : List ℕ) (slot : ℕ) (told : Option Told) : Type 0 where
  pub within : OfSome (λ t. IsEntryOf (level_in words) (entry_told t)) told
  pub is : (c : Content) (e : Entry) → IsPage words c → slice_get c.entries slot ≡ Some e → IsTold entry_told told e

-- the key of the last entry
abbrev pub last_key : List Entry → Option (List ℕ)
last_key [] = None
last_key (e ∷ []) = Some e.key
last_key (e ∷ f ∷ es) = last_key (f ∷ es)

-- the key may come after the last one; the first one of an inner page is its low fence
abbrev pub IsNext : ℕ → List ℕ → Option (List ℕ) → List ℕ → Type 0
IsNext level low (Some last) key = IsBelow last key
IsNext zero low None key = ⊤
IsNext (suc level) low None key = low ≡ key

-- an entry with this key may come after the entries of the content
pub record MayFollow (c : Content) (last : Option (List ℕ)) (key : List ℕ) : Type 0 where
  pub within : IsWithin c.low c.high key
  pub next : IsNext c.level c.low last key

-- an inner page with entries begins at its low fence
abbrev pub BeginsSoFar : ℕ → List ℕ → List (List ℕ) → Type 0
BeginsSoFar zero low keys = ⊤
BeginsSoFar (suc level) low [] = ⊤
BeginsSoFar (suc level) low (key ∷ keys) = low ≡ key

-- a content but for that an inner page has an entry
pub record IsSoFar (c : Content) : Type 0 where
  pub head : IsHead c
  pub mark : c.mark ≡ 0
  pub entries : All (IsEntryOf c.level) c.entries
  pub ascending : Ascends (keys c.entries)
  pub within : All (IsWithin c.low c.high) (keys c.entries)
  pub begins : BeginsSoFar c.level c.low (keys c.entries)

-- The first entries are copied: the draft is one of this content, which has the first entries of the content of which
-- the words are a page.
pub record IsCopied (words : List ℕ) (head : Head) (copied : Copied) (out : List ℕ) (c : Content) : Type 0 where
  pub drafted : IsDraft copied.draft out c
  pub started : with_entries c [] ≡ started head
  pub so_far : IsSoFar c
  pub last : option_copied copied.last ≡ last_key c.entries
  pub total : copied.draft.total ≡ count_in words
  pub level : c.level ≡ level_in words
  pub same : (d : Content) → IsPage words d → c ≡ with_entries d (take copied.draft.count d.entries)

abbrev pub HasCopied : List ℕ → Head → Copied → List ℕ → Type 0
HasCopied words head copied out = (c : Content) × IsCopied words head copied out c

-- all entries are copied
abbrev pub HasWhole : List ℕ → Head → Draft → List ℕ → Type 0
HasWhole words head draft out = (copied : Copied) × HasCopied words head copied out × (copied.draft ≡ draft) × (draft.count ≡ draft.total)

-- one entry more
abbrev pub IsNextCount : Draft → Draft → Type 0
IsNextCount draft next = (next.count ≡ draft.count + 1) × (next.total ≡ draft.total)
