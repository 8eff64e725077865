-- Sets of keys that were worked out by hand. Their keys are one byte each.
use Rattle.std.specs.Prelude.{◌≡◌, ℕ, Some, List, [], ◌∷◌, ◌⊎◌, ◌↔◌}
use Rattle.hc_range.specs.Ranges.{InAny, InRange, IsNormal}
use Rattle.hc_range.specs.declared.range.Range.{Range}

-- the range from the key of one byte up to that of another
abbrev pub bytes_from : ℕ → ℕ → Range
bytes_from lo hi = record { lo = lo ∷ []; hi = Some (hi ∷ []) }

-- Of two ranges that overlap the one normal form is one range: from `a` up to `c` and from `b` up to `d` are from `a`
-- up to `d`. It covers `c`, which the second one has, and not `d`, which is the upper end.
pub record OverlapIsOneRange : Type 0 where
  pub one : (log : List Range)
      → (IsNormal log × ((key : List ℕ) → InAny log key ↔ (InRange (bytes_from 97 99) key ⊎ InRange (bytes_from 98 100) key)))
      ↔ (log ≡ bytes_from 97 100 ∷ [])
  pub covered : InAny (bytes_from 97 100 ∷ []) (99 ∷ [])
  pub uncovered : InAny (bytes_from 97 100 ∷ []) (100 ∷ []) → ⊥
