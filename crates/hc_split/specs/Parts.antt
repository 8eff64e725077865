-- Parts: joined entries that are cut in two.
use Rattle.std.specs.Prelude.{◌≡◌, ◌<◌, ◌≤◌, ℕ, ◌+◌, List, length}
use Rattle.hc_base.specs.declared.numbers.Logical.{Logical}
use Rattle.hc_base.specs.Content.{Content, Entry}
use Rattle.hc_base.specs.Layout.{IsPage, fence_words, low_words, used_words}
use Rattle.hc_base.specs.Words.{IsNumber}
use Rattle.hc_page.specs.Puts.{put_entry, with_entry}
use Rattle.hc_shape.specs.Halves.{IsCut, least_in_half, left_half, right_half}
use Rattle.hc_split.specs.declared.cut.Frame.{Frame}
use Rattle.hc_split.specs.declared.joined.Joined.{Joined}
use Rattle.hc_split.specs.Joined.{IsJoined, entry_added, joined_entries}

-- the level of a content, and the words of its fences that are written out
pub record IsFrame (frame : Frame) (c : Content) : Type 0 where
  pub level_is : frame.level ≡ c.level
  pub low_is : frame.low ≡ length (low_words c.level c.low)
  pub high_is : frame.high ≡ length (fence_words c.high)
  pub low_small : frame.low ≤ 58
  pub high_small : frame.high ≤ 58

-- there is a place to cut the entries
pub record HasPlace (joined : Joined) (frame : Frame) (c : Content) : Type 0 where
  pub joined_is : IsJoined joined c
  pub frame_is : IsFrame frame c
  pub place : least_in_half c.level + least_in_half c.level ≤ length (joined_entries joined c)

-- the halves of the entries, where the left one has so many, can be measured
pub record CanMeasure (joined : Joined) (frame : Frame) (at : ℕ) (c : Content) : Type 0 where
  pub joined_is : IsJoined joined c
  pub frame_is : IsFrame frame c
  pub there : at < length (joined_entries joined c)

-- a content with another number
abbrev pub owned : Content → Logical → Content
owned c own = record c { own = own }

-- the entries are more than fit, and the halves have numbers
pub record CanPart (joined : Joined) (own fresh : Logical) (c : Content) : Type 0 where
  pub joined_is : IsJoined joined c
  pub own_is : IsNumber own.0
  pub fresh_is : IsNumber fresh.0
  pub over : 256 < used_words (with_entry c (entry_added joined.added))

-- and they are cut here
pub record IsCutOf (joined : Joined) (own fresh : Logical) (at : ℕ) (c : Content) : Type 0 where
  pub part : CanPart joined own fresh c
  pub cut : IsCut c fresh (joined_entries joined c) at

-- Two pages are the halves of a content with an entry put, at the cut.
pub record AreParts (c : Content) (e : Entry) (fresh : Logical) (left right : List ℕ) : Type 0 where
  pub at : ℕ
  pub cut : IsCut c fresh (put_entry e c.entries) at
  pub left_page : IsPage left (left_half c fresh (put_entry e c.entries) at)
  pub right_page : IsPage right (right_half c fresh (put_entry e c.entries) at)
