-- Joined: the entries of a page with one more in its key's place.
use Rattle.std.specs.Prelude.{◌≡◌, ◌<◌, ◌≤◌, ℕ, ◌-◌, List, [], ◌∷◌, ◌++◌, length, take, drop, slice_index_or, Some}
use Rattle.std.specs.List.{All, slice_get}
use Rattle.hc_base.specs.Content.{Content, Entry, IsContent, IsEntryOf, IsWithin, keys}
use Rattle.hc_base.specs.Layout.{IsPage, used_words}
use Rattle.hc_page.specs.declared.writer.Draft.{Draft}
use Rattle.hc_page.specs.declared.writer.Head.{Head}
use Rattle.hc_page.specs.Drafts.{HasRoom, child_of, entry_of, started}
use Rattle.hc_page.specs.Puts.{IsAround, with_entries}
use Rattle.hc_shape.specs.Halves.{IsSmall}
use Rattle.hc_split.specs.declared.joined.Added.{Added}
use Rattle.hc_split.specs.declared.joined.Added.TheVariants as added
use Rattle.hc_split.specs.declared.joined.Joined.{Joined}
use Rattle.hc_split.specs.declared.joined.Source.{Source}
use Rattle.hc_split.specs.declared.joined.Source.TheVariants as source

-- the entry that comes to the page
abbrev pub entry_added : Added → Entry
entry_added (added.Version new) = entry_of new
entry_added (added.Child key child) = child_of key.now child

-- An entry can come to the page: it is one of the page's kind with a key within its fences, and it is small, as each of the
-- page's entries is.
pub record WillJoin (words : List ℕ) (e : Entry) (c : Content) : Type 0 where
  pub page : IsPage words c
  pub entry : IsEntryOf c.level e
  pub within : IsWithin c.low c.high e.key
  pub new_small : IsSmall e
  pub small : All IsSmall c.entries

-- what is joined are a page of this content and such an entry, at its key's place
pub record IsJoined (joined : Joined) (c : Content) : Type 0 where
  pub will : WillJoin joined.page.now.words (entry_added joined.added) c
  pub around : IsAround c.entries (entry_added joined.added).key joined.before joined.after

-- all the entries
abbrev pub joined_entries : Joined → Content → List Entry
joined_entries joined c = take joined.before c.entries ++ (entry_added joined.added ∷ drop joined.after c.entries)

-- the key of an entry, by its number
abbrev pub key_of : List Entry → ℕ → List ℕ
key_of es slot = slice_index_or (keys es) slot []

-- an entry comes from here
abbrev pub IsSource : Joined → Content → ℕ → Source → Type 0
IsSource joined c slot (source.Page of) = (slice_get (joined_entries joined c) slot ≡ slice_get c.entries of) × (of < length c.entries)
IsSource joined c slot source.New = slice_get (joined_entries joined c) slot ≡ Some (entry_added joined.added)

-- the entry of this number can be added to the draft
pub record CanPush (joined : Joined) (slot : ℕ) (draft : Draft) (out : List ℕ) (c : Content) (e : Entry) : Type 0 where
  pub joined_is : IsJoined joined c
  pub there : slice_get (joined_entries joined c) slot ≡ Some e
  pub room : HasRoom draft out e

-- what a head says, with the entries from a number to another one
abbrev pub part_of : Joined → Head → ℕ → ℕ → Content → Content
part_of joined head from to c = with_entries (started head) (take (to - from) (drop from (joined_entries joined c)))

-- that is a content, and fits a page
pub record CanWrite (joined : Joined) (head : Head) (from to : ℕ) (c : Content) : Type 0 where
  pub joined_is : IsJoined joined c
  pub order : from ≤ to
  pub in_list : to ≤ length (joined_entries joined c)
  pub content : IsContent (part_of joined head from to c)
  pub fits : used_words (part_of joined head from to c) ≤ 256
