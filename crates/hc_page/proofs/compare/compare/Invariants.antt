-- The words so far are equal, so the bytes are.
use Rattle.std.proofs.Common.{◌≡◌, ℕ, ◌*◌, List}
use Rattle.std.specs.declared.cmp.Ordering.TheVariants.{Equal}
use Rattle.hc_base.proofs.KeyOrder.{first_bytes}
use Rattle.hc_page.specs.Reading.{IsKeyAt}
use Rattle.hc_page.proofs.compare.compare.Given as goal

abbrev pub invariant-words : goal.invariant-words
invariant-words l = (bytes : List ℕ) → IsKeyAt l.page.words l.key.at l.key.len bytes → first_bytes (8 * l.j) bytes l.sought.bytes.now ≡ Equal
