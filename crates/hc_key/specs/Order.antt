-- The order of what keys stand for, and which lists begin so.
use Rattle.std.specs.Prelude.{◌≡◌, ℕ, List, ◌++◌}
use Rattle.std.specs.declared.cmp.Ordering.{Ordering}
use Rattle.std.specs.Ordering.{nat_cmp, ordering_then}
use Rattle.std.specs.Cmp.Lexicographic.{slice_cmp}
use Rattle.hc_value.specs.declared.value.Value.{Value}
use Rattle.hc_value.specs.Order.{value_order}

-- lists of values: by the first values that differ, and a proper prefix comes first
abbrev pub list_order : List Value → List Value → Ordering
list_order values others = slice_cmp value_order values others

-- tree numbers first, and then the lists
abbrev pub key_order : ℕ → List Value → ℕ → List Value → Ordering
key_order tree values other others = ordering_then (nat_cmp tree other) (list_order values others)

-- the order of byte strings
abbrev pub byte_order : List ℕ → List ℕ → Ordering
byte_order a b = slice_cmp nat_cmp a b

-- a list begins with these values
abbrev pub BeginsWith : List Value → List Value → Type 0
BeginsWith list values = (rest : List Value) × (list ≡ values ++ rest)
