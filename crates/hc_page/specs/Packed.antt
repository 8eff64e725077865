-- A key that is sought, in words.
use Rattle.std.specs.Prelude.{◌≡◌, ℕ, ◌<◌, ◌*◌, List, drop, slice_index_or}
use Rattle.hc_base.specs.Layout.{word}

-- the words are the first words of the bytes, the first byte the highest, and 0 for bytes that are not there
abbrev pub ArePacked : List ℕ → List ℕ → Type 0
ArePacked words bytes = (j : ℕ) → j < 58 → slice_index_or words j 0 ≡ word 8 (drop (8 * j) bytes)

-- each byte is below 256
abbrev pub AreAllBytes : List ℕ → Type 0
AreAllBytes bytes = (i : ℕ) → slice_index_or bytes i 0 < 256
