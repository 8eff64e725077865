-- The first k bytes are there.
use Rattle.std.proofs.Common.{◌≡◌, ◌<◌, ℕ, get_or, length}
use Rattle.hc_page.specs.Reading.{byte_in}
use Rattle.hc_page.proofs.told.all_bytes.Given as goal

abbrev pub invariant-loop-k : goal.invariant-loop-k
invariant-loop-k l = (length l.bytes ≡ 2048) × ((i : ℕ) → i < l.k → get_or l.bytes i 0 ≡ byte_in l.page.words i)
