-- A text in lower case is a text: the bytes of characters past ASCII stay as they are.
use Rattle.std.proofs.Common.{◌≡◌, ℕ, ◌≤◌, ◌<◌, true, List, [], ◌∷◌, map, refl, sym, ap, subst, ◌∙◌, arith}
use Rattle.std.specs.Str.{IsUtf8, str_to_ascii_lowercase}
use Rattle.std.specs.Char.{to_ascii_lowercase}
use Rattle.std.proofs.lemmas.List.{map-append}
use Rattle.std.proofs.lemmas.Bool.{and_parts, le-ltb}
use Rattle.std.proofs.lemmas.Str.{IsUtf8-append, IsUtf8-encode, IsUtf8-nil, encode_ascii}
use Rattle.std.proofs.lemmas.Str.Ascii.{lowercase_ascii}
use Rattle.std.proofs.str.Laws.{Shape, of1, of2, of3, of4, shape}
use lib.Utf8.{scalar, scalars, encode, encodes, scalar_cases, low_scalar}

-- a byte past ASCII stays
high_stays : (b : ℕ) → 128 ≤ b → to_ascii_lowercase b ≡ b
high_stays b high = rw (le-ltb b 91 (omega arith), le-ltb b 65 (omega arith)) refl

-- the bytes of one character
by_shape : (c : ℕ) → scalar c ≡ true → Shape c → IsUtf8 (map to_ascii_lowercase (encode c))
by_shape c ok (of1 low is) =
    let small : to_ascii_lowercase c < 128 = lowercase_ascii c low in
    subst IsUtf8 (encode_ascii (to_ascii_lowercase c) small ∙ sym (ap (map to_ascii_lowercase) is)) (IsUtf8-encode (to_ascii_lowercase c) (low_scalar (to_ascii_lowercase c) (omega arith)))
by_shape c ok (of2 a b p q u v is) =
    let same : map to_ascii_lowercase (encode c) ≡ encode c = ap (map to_ascii_lowercase) is ∙ (λ i. high_stays a (omega arith) i ∷ high_stays b u.0 i ∷ []) ∙ sym is in
    subst IsUtf8 (sym same) (IsUtf8-encode c ok)
by_shape c ok (of3 a b d p q u v w is) =
    let same : map to_ascii_lowercase (encode c) ≡ encode c = ap (map to_ascii_lowercase) is ∙ (λ i. high_stays a (omega arith) i ∷ high_stays b u.0 i ∷ high_stays d v.0 i ∷ []) ∙ sym is in
    subst IsUtf8 (sym same) (IsUtf8-encode c ok)
by_shape c ok (of4 a b d e p q u v w x is) =
    let same : map to_ascii_lowercase (encode c) ≡ encode c = ap (map to_ascii_lowercase) is ∙ (λ i. high_stays a (omega arith) i ∷ high_stays b u.0 i ∷ high_stays d v.0 i ∷ high_stays e w.0 i ∷ []) ∙ sym is in
    subst IsUtf8 (sym same) (IsUtf8-encode c ok)

-- the bytes of all characters
by_list : (cs : List ℕ) → scalars cs ≡ true → IsUtf8 (map to_ascii_lowercase (encodes cs))
by_list [] ok = IsUtf8-nil
by_list (c ∷ cs) ok =
    let parts = and_parts (scalar c) (scalars cs) ok in
    subst IsUtf8 (sym (map-append to_ascii_lowercase (encode c) (encodes cs)))
    (IsUtf8-append (map to_ascii_lowercase (encode c)) (map to_ascii_lowercase (encodes cs)) (by_shape c parts.0 (shape c (scalar_cases c parts.0))) (by_list cs parts.1))

pub lowered : (text : List ℕ) → IsUtf8 text → IsUtf8 (str_to_ascii_lowercase text)
lowered text is = subst (λ l. IsUtf8 (map to_ascii_lowercase l)) is.1.1 (by_list is.0 is.1.0)
