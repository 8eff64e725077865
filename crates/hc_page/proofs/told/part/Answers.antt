-- The part is told where the page has so many bytes.
use Rattle.std.proofs.Common.{Bor, ◌≡◌, ◌+◌, ◌-◌, ◌<◌, ◌≤◌, ◌⊎◌, ⊎_elim, ap, sym, subst, ◌∙◌, arith, ℕ, List, length, take, drop, Option, Some, None}
use Rattle.std.specs.List.{slice_range}
use Rattle.std.specs.Option.{MatchOption, option_copied}
use Rattle.hc_page.specs.Entries.{AreAt}
use Rattle.hc_page.specs.Told.{AreBytesOf, TellsBytes}
use Rattle.hc_page.proofs.TellingEntries.{part_at, one_part}
use Rattle.hc_page.proofs.told.part.Goals as goal

part_told : (bytes words : List ℕ) (at len : ℕ) (r : Option (Bor (List ℕ))) → MatchOption r ((at + len < at) ⊎ (length bytes < at + len)) (λ x. (at ≤ at + len) × (at + len ≤ length bytes) × (x.now ≡ slice_range bytes at (at + len)) × (length x.now + at ≡ at + len)) → AreBytesOf words bytes → TellsBytes words at len (option_copied r)
part_told bytes words at len None got of = record {
  are = tt;
  is = λ other are fits. absurd (⊎_elim (λ (less : at + len < at). let f : ⊥ = omega arith in f) (λ (less : length bytes < at + len). let f : ⊥ = omega (arith, of.long) in f) got);
}
part_told bytes words at len (Some part) got of =
    let there : part.now ≡ take len (drop at bytes) = got.2 ∙ ap (λ n. take n (drop at bytes)) (let z : at + len - at ≡ len = omega arith in z) in
    let here : AreAt words at len part.now = subst (λ bs. AreAt words at len bs) (sym there) (part_at words bytes at len of (omega (arith, got.1, of.long))) in
    record {
      are = here;
      is = λ other are fits. ap Some (one_part words at len part.now other here are);
    }

pub returns : goal.returns
returns c = λ words of. part_told c.args.bytes.now words c.args.at c.args.len c.get.result c.get.ensures.lookup.0 of
