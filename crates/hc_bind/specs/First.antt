-- The first place of a key, as it is kept.
use Rattle.std.specs.Prelude.{ℕ, List, Option}
use Rattle.std.specs.Ordering.{nat_cmp}
use Rattle.std.specs.Cmp.Lexicographic.{slice_cmp}
use Rattle.std.specs.BTreeMap.{get_by}
use Rattle.hc_bind.specs.declared.places.Places.{Places}

abbrev pub place_at : Places → List ℕ → Option ℕ
place_at places key = get_by (λ k. slice_cmp nat_cmp key k.items) places.known
