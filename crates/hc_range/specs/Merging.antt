-- Two lists of ranges that are merged from their ends.
use Rattle.std.specs.Prelude.{◌≡◌, ◌⊎◌, List, [], ◌∷◌, ◌++◌}
use Rattle.hc_range.specs.declared.range.Range.{Range}

-- the last range of the one list was taken, or that of the other
abbrev pub HasTakenOne : Range → List Range → List Range → List Range → List Range → Type 0
HasTakenOne range before after others_before others_after =
    ((before ≡ after ++ range ∷ []) × (others_after ≡ others_before)) ⊎ ((others_before ≡ others_after ++ range ∷ []) × (after ≡ before))
