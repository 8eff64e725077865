-- What the top call promises of the bytes that it read and wrote.
use Rattle.std.specs.Prelude.{◌≡◌, ℕ, List, [], ◌++◌, take, Option, None, Some, ⊤}
use Rattle.hc_meaning.specs.RightOutput.{IsRightOutput}

-- it is a right output for the input, where the source tells its bytes
abbrev pub IsRightOutputIfTold : Option (List ℕ) → List ℕ → Type 0
IsRightOutputIfTold None output = ⊤
IsRightOutputIfTold (Some input) output = IsRightOutput input output

-- What was written after `before` is a right output for the input, where the source tells its bytes and
-- the sink what was written.
abbrev pub WritesRightOutput : Option (List ℕ) → Option (List ℕ) → Option (List ℕ) → Type 0
WritesRightOutput None before after = ⊤
WritesRightOutput (Some input) None after = ⊤
WritesRightOutput (Some input) (Some before) after = (output : List ℕ) × IsRightOutput input output × (after ≡ Some (before ++ output))

-- The same of the first bytes of a right output, maybe none or all.
abbrev pub WritesFrontOfRightOutput : Option (List ℕ) → Option (List ℕ) → Option (List ℕ) → Type 0
WritesFrontOfRightOutput None before after = ⊤
WritesFrontOfRightOutput (Some input) None after = ⊤
WritesFrontOfRightOutput (Some input) (Some before) after = (output : List ℕ) × (n : ℕ) × IsRightOutput input output × (after ≡ Some (before ++ take n output))

-- nothing is left of the input, where the source tells its bytes
abbrev pub ReadsToEnd : Option (List ℕ) → Option (List ℕ) → Type 0
ReadsToEnd None after = ⊤
ReadsToEnd (Some input) after = after ≡ Some []
