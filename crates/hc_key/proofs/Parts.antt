-- A value after its class: what was read of it, and where its fault is.
use Rattle.std.proofs.Common.{◌≡◌, ℕ, ◌+◌, ◌-◌, ◌^◌, ◌<◌, ◌≤◌, ℤ, pos, negsuc, List, [], ◌∷◌, ◌++◌, length, take, drop, refl, sym, ap, subst, ◌∙◌, arith, inl, inr, w32, w64, FitsSigned}
use Rattle.std.specs.Prelude.{replicate}
use Rattle.std.specs.Str.{IsUtf8}
use Rattle.std.specs.Int.{bytes_high_first, from_be_bytes}
use Rattle.std.proofs.lemmas.Bool.{cases_lt}
use Rattle.std.proofs.lemmas.Nat.{be_bytes_8}
use Rattle.std.proofs.lemmas.List.{append-nil, length-append, length-replicate, length-take, take-append-drop}
use Rattle.hc_value.specs.declared.value.Value.{Value}
use Rattle.hc_value.specs.declared.value.Value.TheVariants.{Null, Int, Text, Blob}
use Rattle.hc_value.specs.Values.{IsValue}
use Rattle.hc_text.specs.declared.utf8.Expected.{Expected}
use Rattle.hc_text.specs.declared.utf8.Expected.TheVariants.{Any, Character}
use Rattle.hc_key.specs.declared.fault.KeyFault.{KeyFault}
use Rattle.hc_key.specs.declared.fault.KeyFault.TheVariants.{Bad, NoMemory}
use Rattle.hc_key.specs.Keys.{turned, ended, value_bytes}
use Rattle.hc_key.specs.Reading.{IsContent, IsValuePart, NoneGoesOn, IsFaultOf, IsPartFault}
use Rattle.hc_text.specs.Utf8.{Completes}
use Rattle.hc_text.proofs.ByteStrings.{IsBytes, IsBytes-padded, IsBytes-take}

-- ---- values by their classes

-- bytes that begin with a text and its end
abbrev pub TextOf : List ℕ → List ℕ → Type 0
TextOf more y = (c : List ℕ) × IsUtf8 c × (ended c ++ more ≡ y)

-- a value that begins with a 3 goes on with a text, and one with a 4 with a blob
class_three : (v : Value) (more y : List ℕ) → IsValue v → value_bytes v ++ more ≡ 3 ∷ y → (c : List ℕ) × Completes Character c × (ended c ++ more ≡ y)
unfolding value_bytes
class_three Null more y is e = let h : ◌≡◌ {A = ℕ} 1 3 = cc in absurd (omega (arith, h))
class_three (Int n) more y is e = let h : ◌≡◌ {A = ℕ} 2 3 = cc in absurd (omega (arith, h))
class_three (Text c) more y is e = (c, is, cc)
class_three (Blob b) more y is e = let h : ◌≡◌ {A = ℕ} 4 3 = cc in absurd (omega (arith, h))

class_four : (v : Value) (more y : List ℕ) → IsValue v → value_bytes v ++ more ≡ 4 ∷ y → (c : List ℕ) × Completes Any c × (ended c ++ more ≡ y)
unfolding value_bytes
class_four Null more y is e = let h : ◌≡◌ {A = ℕ} 1 4 = cc in absurd (omega (arith, h))
class_four (Int n) more y is e = let h : ◌≡◌ {A = ℕ} 2 4 = cc in absurd (omega (arith, h))
class_four (Text c) more y is e = let h : ◌≡◌ {A = ℕ} 3 4 = cc in absurd (omega (arith, h))
class_four (Blob b) more y is e = (b, tt, cc)

-- one that begins with a 2 goes on with an integer
class_two : (v : Value) (more y : List ℕ) → value_bytes v ++ more ≡ 2 ∷ y → (n : ℤ) × (bytes_high_first 8 (turned n) ++ more ≡ y)
unfolding value_bytes
class_two Null more y e = let h : ◌≡◌ {A = ℕ} 1 2 = cc in absurd (omega (arith, h))
class_two (Int n) more y e = (n, cc)
class_two (Text c) more y e = let h : ◌≡◌ {A = ℕ} 3 2 = cc in absurd (omega (arith, h))
class_two (Blob b) more y e = let h : ◌≡◌ {A = ℕ} 4 2 = cc in absurd (omega (arith, h))

-- a value's first byte is one of 1 to 4
some_class : (v : Value) (more y : List ℕ) (b : ℕ) → value_bytes v ++ more ≡ b ∷ y → (1 ≤ b) × (b ≤ 4)
unfolding value_bytes
some_class Null more y b e = let h : 1 ≡ b = cc in (omega (arith, h), omega (arith, h))
some_class (Int n) more y b e = let h : 2 ≡ b = cc in (omega (arith, h), omega (arith, h))
some_class (Text c) more y b e = let h : 3 ≡ b = cc in (omega (arith, h), omega (arith, h))
some_class (Blob c) more y b e = let h : 4 ≡ b = cc in (omega (arith, h), omega (arith, h))

-- a 3 and a text are a value, and so are a 4 and a blob
text_part : (c : List ℕ) → Completes Character c → IsValuePart (3 ∷ ended c)
unfolding value_bytes
text_part c text = (Text c, text, refl)

blob_part : (c : List ℕ) → Completes Any c → IsValuePart (4 ∷ ended c)
unfolding value_bytes
blob_part c any = (Blob c, tt, refl)

-- ---- texts and blobs

-- a class whose values are contents
abbrev IsClassOf : ℕ → Expected → Type 0
IsClassOf k f =
    ((c : List ℕ) → Completes f c → IsValuePart (k ∷ ended c))
    × ((v : Value) (more y : List ℕ) → IsValue v → value_bytes v ++ more ≡ k ∷ y → (c : List ℕ) × Completes f c × (ended c ++ more ≡ y))

-- where no content goes on so, no value of the class does
none_after : (k : ℕ) (f : Expected) → IsClassOf k f → (before after : List ℕ) → NoneGoesOn (IsContent f) before after → NoneGoesOn IsValuePart (k ∷ before) after
none_after k f is before [] none = λ one more part same.
    let found = is.1 part.0 more before part.1 (ap (λ (l : List ℕ). l ++ more) part.2 ∙ same) in
    none (ended found.0) more (found.0, found.1, refl) found.2
none_after k f is before (b ∷ after) none = λ one more rest part same.
    let found = is.1 part.0 more (before ++ b ∷ rest) part.1 (ap (λ (l : List ℕ). l ++ more) part.2 ∙ same) in
    none (ended found.0) more rest (found.0, found.1, refl) found.2

-- a fault in a content is one in its value, a byte later
after_class : (k : ℕ) (f : Expected) → IsClassOf k f → (rest : List ℕ) (step : ℕ) → IsFaultOf (IsContent f) rest step → IsFaultOf IsValuePart (k ∷ rest) (step + 1)
after_class k f is rest step fault =
    let begins = fault.4 in
    let content = begins.1 in (
      k ∷ fault.0,
      fault.1,
      ap (λ (l : List ℕ). k ∷ l) fault.2,
      omega (arith, fault.3),
      (begins.0, subst IsValuePart (ap (λ (l : List ℕ). k ∷ l) content.2) (is.0 content.0 content.1)),
      none_after k f is fault.0 fault.1 fault.5,
    )

-- the same of a fault whose place is told from the beginning of the key
part_fault : (k : ℕ) (f : Expected) → IsClassOf k f → (rest : List ℕ) (place : ℕ) (fault : KeyFault) → IsPartFault (IsContent f) rest (place + 1) fault → IsPartFault IsValuePart (k ∷ rest) place fault
part_fault k f is rest place (Bad at) h = (h.0 + 1, omega (arith, h.1), after_class k f is rest h.0 h.2)
part_fault k f is rest place NoMemory h = tt

-- a fault in a text is that of its value, and so is one in a blob
pub text_fault : (rest : List ℕ) (place : ℕ) (fault : KeyFault) → IsPartFault (IsContent Character) rest (place + 1) fault → IsPartFault IsValuePart (3 ∷ rest) place fault
text_fault = part_fault 3 Character (text_part, class_three)

pub blob_fault : (rest : List ℕ) (place : ℕ) (fault : KeyFault) → IsPartFault (IsContent Any) rest (place + 1) fault → IsPartFault IsValuePart (4 ∷ rest) place fault
blob_fault = part_fault 4 Any (blob_part, class_four)

-- a text that was read is a value, written as these bytes; the same of a blob, and of NULL
pub text_found : (out t rest left : List ℕ) → t ≡ out → (rest ≡ ended out ++ left) × IsUtf8 out → IsValue (Text t) × (3 ∷ rest ≡ value_bytes (Text t) ++ left)
unfolding value_bytes
text_found out t rest left same found =
    (subst IsUtf8 (sym same) found.1, ap (λ (l : List ℕ). 3 ∷ l) (found.0 ∙ ap (λ (c : List ℕ). ended c ++ left) (sym same)))

pub blob_found : (out b rest left : List ℕ) → b ≡ out → rest ≡ ended out ++ left → IsValue (Blob b) × (4 ∷ rest ≡ value_bytes (Blob b) ++ left)
unfolding value_bytes
blob_found out b rest left same found =
    (tt, ap (λ (l : List ℕ). 4 ∷ l) (found ∙ ap (λ (c : List ℕ). ended c ++ left) (sym same)))

pub null_found : (rest : List ℕ) → 1 ∷ rest ≡ value_bytes Null ++ rest
unfolding value_bytes
null_found rest = refl

-- ---- integers

-- four bytes are a number of 32 bits, and eight one of 64
pub number_fits_4 : (bytes : List ℕ) → IsBytes bytes → from_be_bytes w32 bytes < 2 ^ 32
number_fits_4 bytes are = omega (arith, are 0, are 1, are 2, are 3)

pub number_fits_8 : (bytes : List ℕ) → IsBytes bytes → from_be_bytes w64 bytes < 2 ^ 64
number_fits_8 bytes are = omega (arith, are 0, are 1, are 2, are 3, are 4, are 5, are 6, are 7)

-- each number of 64 bits is that of an integer
some_integer : (m : ℕ) → m < 2 ^ 64 → (z : ℤ) × FitsSigned w64 z × (turned z ≡ m)
some_integer m lt =
    elim (cases_lt m (2 ^ 63)) [
      | inl low ↦ (negsuc (2 ^ 63 - 1 - m), omega arith, omega arith)
      | inr high ↦ (pos (m - 2 ^ 63), omega arith, omega arith)
    ]

-- the bytes with zeros after them, up to a width
abbrev pub padded : ℕ → List ℕ → List ℕ
padded width bytes = bytes ++ replicate (width - length bytes) 0

-- padded bytes are as many as the width
pub length-padded : (width : ℕ) (bytes : List ℕ) → length bytes ≤ width → length (padded width bytes) ≡ width
length-padded width bytes short = length-append bytes (replicate (width - length bytes) 0) ∙ (let e : length bytes + length (replicate (width - length bytes) 0) ≡ width = omega (arith, short, length-replicate {A = ℕ} (width - length bytes) 0) in e)

-- fewer than eight bytes after a 2 are no integer
no_integer : (rest : List ℕ) → length rest < 8 → NoneGoesOn IsValuePart (2 ∷ rest) []
no_integer rest short one more part same =
    let found = class_two part.0 more rest (ap (λ (l : List ℕ). l ++ more) part.2 ∙ same) in
    omega (arith, short, ap length found.1, length-append (bytes_high_first 8 (turned found.0)) more)

-- a 2 and any eight bytes are a value
integer_part : (bytes : List ℕ) → length bytes ≡ 8 → IsBytes bytes → IsValuePart (2 ∷ bytes)
unfolding value_bytes
integer_part bytes long are =
    let some = some_integer (from_be_bytes w64 bytes) (number_fits_8 bytes are) in
    (Int some.0, some.1, ap (λ (l : List ℕ). 2 ∷ l) (be_bytes_8 bytes (turned some.0) long are some.2))

-- an integer that is cut off is at fault at the end of the bytes
pub integer_fault : (rest : List ℕ) (place : ℕ) → IsBytes rest → length rest < 8 → IsPartFault IsValuePart (2 ∷ rest) place (Bad (place + 1 + length rest))
integer_fault rest place are short = (
  1 + length rest,
  omega arith,
  (
    2 ∷ rest,
    [],
    sym (append-nil (2 ∷ rest)),
    omega arith,
    (replicate (8 - length rest) 0, integer_part (padded 8 rest) (length-padded 8 rest (omega (arith, short))) (IsBytes-padded rest (8 - length rest) are)),
    no_integer rest short,
  ),
)

-- eight bytes that were read after a 2 are an integer, written as these bytes
pub integer_found : (z y : ℤ) (rest bytes left : List ℕ) → z ≡ y → FitsSigned w64 y → IsBytes rest → 8 ≤ length rest → bytes ≡ take 8 rest → left ≡ drop 8 rest → turned y ≡ from_be_bytes w64 bytes
    → IsValue (Int z) × (2 ∷ rest ≡ value_bytes (Int z) ++ left)
unfolding value_bytes
integer_found z y rest bytes left same fits are long first second number =
    let bytes_are : IsBytes bytes = subst IsBytes (sym first) (IsBytes-take 8 rest are) in
    let eight : length bytes ≡ 8 = omega (arith, ap length first, length-take 8 rest, long) in
    let written : bytes_high_first 8 (turned z) ≡ bytes = ap (λ (n : ℤ). bytes_high_first 8 (turned n)) same ∙ be_bytes_8 bytes (turned y) eight bytes_are number in
    let all : rest ≡ bytes ++ left = sym (ap (λ (l : List ℕ). l ++ left) first ∙ ap (λ (l : List ℕ). take 8 rest ++ l) second ∙ take-append-drop 8 rest) in
    (subst (FitsSigned w64) (sym same) fits, ap (λ (l : List ℕ). 2 ∷ l) (all ∙ ap (λ (l : List ℕ). l ++ left) (sym written)))

-- ---- other first bytes

-- a 1 is a value
null_part : IsValuePart (1 ∷ [])
unfolding value_bytes
null_part = (Null, tt, refl)

-- a first byte that is no class is at fault
pub class_fault : (b : ℕ) (rest : List ℕ) (place : ℕ) → ((1 ≤ b) × (b ≤ 4) → ⊥) → IsPartFault IsValuePart (b ∷ rest) place (Bad place)
class_fault b rest place not = (
  0,
  omega arith,
  (
    [],
    b ∷ rest,
    refl,
    refl,
    (1 ∷ [], null_part),
    λ one more s part same. not (some_class part.0 more s b (ap (λ (l : List ℕ). l ++ more) part.2 ∙ same)),
  ),
)

-- a value has some bytes
pub some_value_bytes : (v : Value) → 0 < length (value_bytes v)
unfolding value_bytes
some_value_bytes Null = omega arith
some_value_bytes (Int n) = omega arith
some_value_bytes (Text c) = omega arith
some_value_bytes (Blob b) = omega arith
