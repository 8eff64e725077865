-- What a refusal's line holds, in parts by which two of them are compared.
use Rattle.std.specs.Prelude.{ℕ, ℤ, pos, List, []}
use Rattle.hc_transcript.specs.declared.sameness.Parts.{Parts}
use Rattle.hc_transcript.specs.declared.tag.RefusalTag.{RefusalTag}
use Rattle.hc_transcript.specs.declared.tag.RefusalTag.TheVariants as tag
use Rattle.hc_transcript.specs.Table.{RefusalLine}

-- the tag, two numbers, an integer, and two byte strings
pub record Held : Type 0 where
  pub tag : RefusalTag
  pub first : ℕ
  pub second : ℕ
  pub item : ℤ
  pub name : List ℕ
  pub other : List ℕ

-- what the code has of them
abbrev pub parts_shown : Parts → Held
parts_shown p = record { tag = p.tag; first = p.first; second = p.second; item = p.item; name = p.name.now; other = p.other.now }

abbrev pub held : RefusalTag → ℕ → ℕ → ℤ → List ℕ → List ℕ → Held
held t first second item name other = record { tag = t; first = first; second = second; item = item; name = name; other = other }

-- the parts of a line, with zeros and nothing in place of those that it has not
abbrev pub parts_of : RefusalLine → Held
parts_of (tag.Bare t, x) = held (tag.Bare t) 0 0 (pos 0) [] []
parts_of (tag.Number t, x) = held (tag.Number t) x 0 (pos 0) [] []
parts_of (tag.Name t, x) = held (tag.Name t) 0 0 (pos 0) x []
parts_of (tag.Names t, x) = held (tag.Names t) 0 0 (pos 0) x.0 x.1
parts_of (tag.Numbers t, x) = held (tag.Numbers t) x.0 x.1 (pos 0) [] []
parts_of (tag.NoItem, x) = held tag.NoItem 0 0 x [] []
parts_of (tag.TooBig, x) = held tag.TooBig x 0 (pos 0) [] []
parts_of (tag.Busy, x) = held tag.Busy x.0 x.1.0 (pos 0) x.1.1 []
