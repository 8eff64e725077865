-- What holds of all keys. A tree number is one of 32 bits, and a value one that the program can have.
use Rattle.std.specs.Prelude.{◌≡◌, ℕ, ◌^◌, ◌<◌, List, [], ◌∷◌, ◌++◌, ◌↔◌, Some}
use Rattle.hc_value.specs.declared.value.Value.{Value}
use Rattle.hc_value.specs.Values.{AreValues}
use Rattle.hc_range.specs.declared.range.Range.{Range}
use Rattle.hc_range.specs.Ranges.{InRange}
use Rattle.hc_key.specs.Keys.{key_bytes}
use Rattle.hc_key.specs.Order.{key_order, byte_order, BeginsWith}

-- the bytes of two keys compare as the tree numbers and then the lists do
abbrev pub ByteOrderIsValueOrder : Type 0
ByteOrderIsValueOrder =
    (tree other : ℕ) (values others : List Value) → tree < 2 ^ 32 → other < 2 ^ 32 → AreValues values → AreValues others
    → byte_order (key_bytes tree values) (key_bytes other others) ≡ key_order tree values other others

-- one key stands for one tree number and one list
abbrev pub KeysDiffer : Type 0
KeysDiffer =
    (tree other : ℕ) (values others : List Value) → tree < 2 ^ 32 → other < 2 ^ 32 → AreValues values → AreValues others
    → key_bytes tree values ≡ key_bytes other others → (tree ≡ other) × (values ≡ others)

-- the byte strings from a key up to that key and FF
abbrev pub range_of : ℕ → List Value → Range
range_of tree values = record { lo = key_bytes tree values; hi = Some (key_bytes tree values ++ 255 ∷ []) }

-- a range holds of all keys exactly those of this tree whose lists begin with these values
abbrev pub HoldsPrefixed : Range → ℕ → List Value → Type 0
HoldsPrefixed range tree values =
    (other : ℕ) (list : List Value) → other < 2 ^ 32 → AreValues list
    → InRange range (key_bytes other list) ↔ ((other ≡ tree) × BeginsWith list values)

-- and so does the range of each list of values, of each tree
abbrev pub RangesHoldTheirKeys : Type 0
RangesHoldTheirKeys = (tree : ℕ) (values : List Value) → tree < 2 ^ 32 → AreValues values → HoldsPrefixed (range_of tree values) tree values
