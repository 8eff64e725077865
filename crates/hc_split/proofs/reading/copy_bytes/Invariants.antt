-- The first k bytes are copied.
use Rattle.std.proofs.Common.{◌≡◌, ◌<◌, ℕ, List, get_or, length}
use Rattle.hc_page.specs.Entries.{AreAt}
use Rattle.hc_split.proofs.reading.copy_bytes.Given as goal

abbrev pub invariant-loop-k : goal.invariant-loop-k
invariant-loop-k l =
    (length l.copy ≡ 463)
    × ((bytes : List ℕ) → AreAt l.page.words l.at l.len bytes → (i : ℕ) → i < l.k → get_or l.copy i 0 ≡ get_or bytes i 0)
