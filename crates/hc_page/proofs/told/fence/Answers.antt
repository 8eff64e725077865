-- The part is a fence where it is short.
use Rattle.std.proofs.Common.{◌*◌, ◌/◌, ◌%◌, ◌^◌, ◌≤◌, ℕ, List, Option, Some, None, arith}
use Rattle.hc_base.specs.Content.{IsFence, OfSome}
use Rattle.hc_page.specs.Entries.{AreAt}
use Rattle.hc_page.proofs.TellingEntries.{part_bytes}
use Rattle.hc_page.proofs.TellingHead.{key_bytes_at}
use Rattle.hc_page.proofs.told.fence.Goals as goal

short_fence : (words : List ℕ) (at len : ℕ) (told : Option (List ℕ)) → len ≤ 463 → OfSome (λ bytes. AreAt words at len bytes) told → OfSome IsFence told
short_fence words at len None short are = tt
short_fence words at len (Some bytes) short are = part_bytes words at len 463 bytes are short

pub returns : goal.returns
returns c = λ words of.
    let told = c.part.ensures words of in
    record {
      within = short_fence words (c.args.word / 2 ^ 16 * 8) (c.args.word % 2 ^ 16) _ (omega arith) told.are;
      is = λ fence short key fits. told.is fence (key_bytes_at words (c.args.word / 2 ^ 16) (c.args.word % 2 ^ 16) fence key) fits;
    }
