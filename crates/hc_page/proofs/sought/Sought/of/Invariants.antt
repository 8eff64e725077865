-- The words so far are those of the key, and the others are 0.
use Rattle.std.proofs.Common.{◌≡◌, ℕ, ◌*◌, ◌<◌, drop, length, slice_index_or}
use Rattle.hc_base.specs.Layout.{word}
use Rattle.hc_page.proofs.sought.Sought.of.Given as goal

abbrev pub invariant-loop-j : goal.invariant-loop-j
invariant-loop-j l = (length l.words ≡ 58) × ((k : ℕ) → k < l.j → slice_index_or l.words k 0 ≡ word 8 (drop (8 * k) l.bytes))
