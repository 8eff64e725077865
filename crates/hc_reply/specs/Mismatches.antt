-- Parts of an output: which values a part may have, the text of each, and what may follow it. A part is read from
-- the front of bytes, or there is a mismatch where no part goes on.
use Rattle.std.specs.Prelude.{◌≡◌, ◌≢◌, ℕ, ◌<◌, ◌≤◌, ◌⊎◌, List, [], ◌∷◌, ◌++◌}
use Rattle.hc_value.specs.declared.value.Value.{Value}
use Rattle.hc_value.specs.declared.value.Value.TheVariants.{Null, Int, Text, Blob}
use Rattle.hc_reply.specs.declared.mismatch.Mismatch.{Mismatch}
use Rattle.hc_reply.specs.declared.mismatch.Mismatch.TheVariants.{At, NoMemory}

-- both are at their end, or begin with the same byte
abbrev pub SameFirst : List ℕ → List ℕ → Type 0
SameFirst [] [] = Unit {0}
SameFirst [] (b ∷ other) = ⊥
SameFirst (a ∷ rest) [] = ⊥
SameFirst (a ∷ rest) (b ∷ other) = a ≡ b

-- anything may follow
abbrev pub Anything : List ℕ → Type 0
Anything rest = Unit {0}

-- no digit follows
abbrev pub NoDigit : List ℕ → Type 0
NoDigit [] = Unit {0}
NoDigit (b ∷ rest) = (b < 48) ⊎ (58 ≤ b)

-- no quote follows
abbrev pub NoQuote : List ℕ → Type 0
NoQuote [] = Unit {0}
NoQuote (b ∷ rest) = b ≢ 39

-- the bytes do not begin with this byte
abbrev pub NotFirst : ℕ → List ℕ → Type 0
NotFirst first [] = Unit {0}
NotFirst first (b ∷ rest) = b ≢ first

-- no minus follows
abbrev pub NoMinus : List ℕ → Type 0
NoMinus [] = Unit {0}
NoMinus (b ∷ rest) = b ≢ 45

-- what may follow a value: after an integer no digit, and after a text no quote
abbrev pub EndsAfter : Value → List ℕ → Type 0
EndsAfter Null rest = Unit {0}
EndsAfter (Int n) rest = NoDigit rest
EndsAfter (Text text) rest = NoQuote rest
EndsAfter (Blob bytes) rest = Unit {0}

-- what ends any value
abbrev pub EndsValue : List ℕ → Type 0
EndsValue rest = NoDigit rest × NoQuote rest

-- A mismatch: the bytes before it begin some part, and with the byte there none goes on, whatever follows.
pub record IsMismatch {V : Type 0} (Ends : List ℕ → Type 0) (Is : V → Type 0) (text : V → List ℕ) (bytes rest : List ℕ) : Type 0 where
  pub before : List ℕ
  pub splits : bytes ≡ before ++ rest
  pub value : V
  pub more : List ℕ
  pub has : Is value
  pub begins : text value ≡ before ++ more
  pub none : (v : V) (more other : List ℕ) → Is v → Ends more → SameFirst rest other → text v ++ more ≡ before ++ other → ⊥

abbrev pub MismatchIn : {V : Type 0} → (List ℕ → Type 0) → (V → Type 0) → (V → List ℕ) → List ℕ → Mismatch → Type 0
MismatchIn Ends Is text bytes (At rest) = IsMismatch Ends Is text bytes rest.now
MismatchIn Ends Is text bytes NoMemory = Unit {0}
