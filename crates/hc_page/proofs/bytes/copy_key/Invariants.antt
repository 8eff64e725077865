-- The first k bytes are copied.
use Rattle.std.proofs.Common.{◌≡◌, ◌<◌, ℕ, List, get_or, length}
use Rattle.hc_page.specs.Reading.{IsKeyAt}
use Rattle.hc_page.proofs.bytes.copy_key.Given as goal

abbrev pub invariant-loop-k : goal.invariant-loop-k
invariant-loop-k l =
    (length l.copy ≡ 463)
    × ((bytes : List ℕ) → IsKeyAt l.page.words l.key.at l.key.len bytes → (i : ℕ) → i < l.k → get_or l.copy i 0 ≡ get_or bytes i 0)
