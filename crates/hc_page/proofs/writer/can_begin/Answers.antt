-- The entries begin after the head, the directory and the fences.
use Rattle.std.proofs.Common.{◌≡◌, ◌+◌, ◌/◌, ◌≤◌, ℕ, length, leb, arith, IsTrue}
use Rattle.std.proofs.lemmas.Bool.Decides.{nat_tests}
use Rattle.hc_page.specs.Drafts.{entries_from, started}
use Rattle.hc_page.proofs.Beginning.{fences_fit}
use Rattle.hc_page.proofs.writer.can_begin.Goals as goal

tested : (m n most : ℕ) → n ≡ m → (IsTrue (leb m most) → n ≤ most) × (n ≤ most → IsTrue (leb m most))
tested m n most same = (λ fits. grind (arith, nat_tests), λ fits. grind (arith, nat_tests))

pub returns : goal.returns
returns c =
    let low = c.written_low-low.result.now in
    let high = c.bytes_of-high.result.now in
    tested (4 + (c.args.total + 3) / 4 + (length low + 7) / 8 + (length high + 7) / 8) (entries_from c.args.total (started c.args.head.now)) 256
    (fences_fit c.args.head.now c.args.total low high c.written_low-low.ensures c.bytes_of-high.ensures.fence)
