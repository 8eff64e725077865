-- What may come next in a text, or in any bytes, read byte by byte.
use Rattle.std.specs.Prelude.{ℕ, zero, suc, ◌≤◌, List, [], ◌∷◌, ◌++◌, ◌↔◌}
use Rattle.std.specs.Str.{IsUtf8}
use Rattle.hc_text.specs.declared.utf8.Expected.{Expected}
use Rattle.hc_text.specs.declared.utf8.Expected.TheVariants.{Any, Character, Following}

-- So many bytes, of which the first lies in a range and the others in 80 to BF, and then a text.
abbrev pub Follows : ℕ → ℕ → ℕ → List ℕ → Type 0
Follows zero low high bytes = IsUtf8 bytes
Follows (suc more) low high [] = ⊥
Follows (suc more) low high (b ∷ bytes) = (low ≤ b) × (b ≤ high) × Follows more 0x80 0xBF bytes

-- the bytes are what is expected
abbrev pub Completes : Expected → List ℕ → Type 0
Completes Any bytes = Unit {0}
Completes Character bytes = IsUtf8 bytes
Completes (Following more low high) bytes = Follows more low high bytes

-- some bytes are what is expected, and within a character no byte of ASCII may come next
abbrev pub IsOpen : Expected → Type 0
IsOpen Any = Unit {0}
IsOpen Character = Unit {0}
IsOpen (Following more low high) = (1 ≤ more) × (128 ≤ low) × (low ≤ high)

-- after this byte something is expected exactly where it continues what was expected before
abbrev pub IsNext : Expected → ℕ → Expected → Type 0
IsNext expected byte next = IsOpen next × ((rest : List ℕ) → Completes next rest ↔ Completes expected (byte ∷ rest))

-- nothing that is expected begins with this byte
abbrev pub IsRefused : Expected → ℕ → Type 0
IsRefused expected byte = (rest : List ℕ) → Completes expected (byte ∷ rest) → ⊥

-- The content was read as far as this is expected: what is expected now are the bytes that continue it to what was
-- expected first. It is the fact that a loop keeps as it reads a text byte by byte.
abbrev pub HasRead : Expected → List ℕ → Expected → Type 0
HasRead first content expected = (rest : List ℕ) → Completes expected rest ↔ Completes first (content ++ rest)
