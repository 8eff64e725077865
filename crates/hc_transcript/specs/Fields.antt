-- The fields of a line: what follows its words, up to the line feed. One field follows another after a space and
-- further words.
use Rattle.std.specs.Prelude.{◌≢◌, ℕ, ℤ, ◌^◌, ◌<◌, ◌≤◌, List, [], ◌∷◌, ◌++◌, decimal, length, FitsSigned}
use Rattle.std.specs.Int.{w64}
use Rattle.std.specs.Fmt.{signed_decimal}
use Rattle.std.specs.Str.{IsUtf8}
use Rattle.std.specs.List.{AllByRecursion}
use Rattle.hc_text.specs.Bytes.{AreBytes}
use Rattle.hc_range.specs.declared.key.TheConstants.{LONGEST_KEY}
use Rattle.hc_value.specs.declared.value.Value.{Value}
use Rattle.hc_transcript.specs.Literals.{text_literal, blob_literal, values_text, IsPrintable}

-- A kind of field: none at all, a number of 32 or of 64 bits, an integer of 64 bits, a name, or a key.
pub data Kind : Type 0 where
  Nothing : Kind
  Number32 : Kind
  Number64 : Kind
  Integer : Kind
  Name : Kind
  Key : Kind

-- what a field holds
abbrev pub Held : Kind → Type 0
Held Nothing = Unit {0}
Held Number32 = ℕ
Held Number64 = ℕ
Held Integer = ℤ
Held Name = List ℕ
Held Key = List ℕ

-- its text
abbrev pub held_text : (kind : Kind) → Held kind → List ℕ
held_text Nothing nothing = []
held_text Number32 n = decimal n
held_text Number64 n = decimal n
held_text Integer n = signed_decimal n
held_text Name name = text_literal name
held_text Key key = blob_literal key

-- what it can hold in an output
abbrev pub IsHeld : (kind : Kind) → Held kind → Type 0
IsHeld Nothing nothing = Unit {0}
IsHeld Number32 n = n < 2 ^ 32
IsHeld Number64 n = n < 2 ^ 64
IsHeld Integer n = FitsSigned w64 n
IsHeld Name name = IsUtf8 name
IsHeld Key key = (length key ≤ LONGEST_KEY) × AreBytes key

-- The fields of a line: a row's values, a last field, or a field with a space and words before further ones.
pub data Fields : Type 0 where
  Values : Fields
  Last : Kind → Fields
  Next : Kind → List ℕ → Fields → Fields

-- what the fields hold
abbrev pub Content : Fields → Type 0
Content Values = List Value
Content (Last kind) = Held kind
Content (Next kind words more) = Held kind × Content more

-- their text
abbrev pub content_text : (fields : Fields) → Content fields → List ℕ
content_text Values values = values_text values
content_text (Last kind) held = held_text kind held
content_text (Next kind words more) content = held_text kind content.0 ++ (32 ∷ words) ++ content_text more content.1

-- what they can hold in an output; a row has at least one value
abbrev pub IsContent : (fields : Fields) → Content fields → Type 0
IsContent Values values = (values ≢ []) × AllByRecursion IsPrintable values
IsContent (Last kind) held = IsHeld kind held
IsContent (Next kind words more) content = IsHeld kind content.0 × IsContent more content.1
