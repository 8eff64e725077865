-- Where bytes are no key: after the bytes before the fault some key goes on, but none as these bytes do.
use Rattle.std.specs.Prelude.{◌≡◌, ℕ, ◌+◌, ◌^◌, ◌<◌, List, [], ◌∷◌, ◌++◌, length}
use Rattle.hc_value.specs.declared.value.Value.{Value}
use Rattle.hc_value.specs.Values.{IsValue, AreValues}
use Rattle.hc_key.specs.Keys.{ended, value_bytes, key_bytes}
use Rattle.hc_key.specs.declared.fault.KeyFault.{KeyFault}
use Rattle.hc_key.specs.declared.fault.KeyFault.TheVariants.{Bad, NoMemory}
use Rattle.hc_text.specs.declared.utf8.Expected.{Expected}
use Rattle.hc_text.specs.Utf8.{Completes}

-- the bytes are the key of a tree number of 32 bits and a list of values
abbrev pub IsKey : List ℕ → Type 0
IsKey bytes = (tree : ℕ) × (list : List Value) × (tree < 2 ^ 32) × AreValues list × (key_bytes tree list ≡ bytes)

-- some key begins with the bytes, or is them
abbrev pub BeginsKey : List ℕ → Type 0
BeginsKey bytes = (rest : List ℕ) × IsKey (bytes ++ rest)

-- After the bytes before, no key goes on as here: where more bytes follow, none goes on with the first
-- of them, and where there are none, the bytes are no key.
abbrev pub NoKeyGoesOn : List ℕ → List ℕ → Type 0
NoKeyGoesOn before [] = IsKey before → ⊥
NoKeyGoesOn before (byte ∷ after) = BeginsKey (before ++ byte ∷ []) → ⊥

-- the bytes are no key, by the byte that is at this place, or by their end
abbrev pub IsFaultAt : List ℕ → ℕ → Type 0
IsFaultAt bytes at =
    (before : List ℕ) × (after : List ℕ) × (bytes ≡ before ++ after) × (length before ≡ at) × BeginsKey before × NoKeyGoesOn before after

abbrev pub IsKeyFault : List ℕ → KeyFault → Type 0
IsKeyFault bytes (Bad at) = IsFaultAt bytes at
IsKeyFault bytes NoMemory = Unit {0}

-- ---- the parts of a key, each one of the byte strings of a set, whatever follows it

-- one of the set begins with the bytes, or is them
abbrev pub BeginsOne : (List ℕ → Type 0) → List ℕ → Type 0
BeginsOne Is bytes = (rest : List ℕ) × Is (bytes ++ rest)

-- after the bytes before, none of the set goes on as here, and none has ended
abbrev pub NoneGoesOn : (List ℕ → Type 0) → List ℕ → List ℕ → Type 0
NoneGoesOn Is before [] = (one more : List ℕ) → Is one → one ++ more ≡ before → ⊥
NoneGoesOn Is before (byte ∷ after) = (one more rest : List ℕ) → Is one → one ++ more ≡ before ++ byte ∷ rest → ⊥

abbrev pub IsFaultOf : (List ℕ → Type 0) → List ℕ → ℕ → Type 0
IsFaultOf Is bytes at =
    (before : List ℕ) × (after : List ℕ) × (bytes ≡ before ++ after) × (length before ≡ at) × BeginsOne Is before × NoneGoesOn Is before after

-- a fault whose place is told from the beginning of the key, where the part begins at a place
abbrev pub IsPartFault : (List ℕ → Type 0) → List ℕ → ℕ → KeyFault → Type 0
IsPartFault Is bytes place (Bad at) = (step : ℕ) × (at ≡ place + step) × IsFaultOf Is bytes step
IsPartFault Is bytes place NoMemory = Unit {0}

-- a value
abbrev pub IsValuePart : List ℕ → Type 0
IsValuePart bytes = (v : Value) × IsValue v × (value_bytes v ≡ bytes)

-- what is expected, with its zeros escaped and its end
abbrev pub IsContent : Expected → List ℕ → Type 0
IsContent expected bytes = (content : List ℕ) × Completes expected content × (ended content ≡ bytes)
