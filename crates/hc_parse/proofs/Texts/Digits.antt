-- Pairs of digits, one after the other.
use Rattle.std.proofs.Common.{◌≡◌, ◌∙◌, ◌+◌, ◌*◌, ℕ, Bool, true, false, ◌&&◌, List, [], ◌∷◌, ◌++◌, Option, Some, None, refl, sym, ap, append_assoc}
use Rattle.std.specs.Char.{digit_value, is_ascii_hexdigit}
use Rattle.hc_grammar.specs.Terminals.{also, digit_bytes}
use Rattle.hc_parse.specs.Pieces.{are_hex_pairs}

-- a last byte of the front is the first byte after it
with_front : (out : List ℕ) (b : ℕ) (o : Option (List ℕ)) → also (λ inner. (out ++ b ∷ []) ++ inner) o ≡ also (λ inner. out ++ inner) (also (λ inner. b ∷ inner) o)
with_front out b None = refl
with_front out b (Some inner) = ap Some (append_assoc out (b ∷ []) inner)

-- a byte more, where the bytes are of all digits but the last two
pub digits_on : (out : List ℕ) (high low : ℕ) (rest : List ℕ)
    → also (λ inner. (out ++ (16 * digit_value high + digit_value low) ∷ []) ++ inner) (digit_bytes rest) ≡ also (λ inner. out ++ inner) (digit_bytes (high ∷ low ∷ rest))
digits_on out high low rest = with_front out (16 * digit_value high + digit_value low) (digit_bytes rest)

-- where three hold, the last does
both_true : (a b c : Bool) → (a && (b && c)) ≡ true → c ≡ true
both_true true true c e = e
both_true true false c e = absurd (let bad = e in cc)
both_true false b c e = absurd (let bad = e in cc)

-- pairs of digits without the first pair are such pairs
pub pairs_after : (high low : ℕ) (rest : List ℕ) → are_hex_pairs (high ∷ low ∷ rest) ≡ true → are_hex_pairs rest ≡ true
pairs_after high low rest e = both_true (is_ascii_hexdigit high) (is_ascii_hexdigit low) (are_hex_pairs rest) e

-- the same as a loop meets it
pub pairs_on : (out longer rest tail following : List ℕ) (high low one other : ℕ) (whole : Option (List ℕ))
    → rest ≡ high ∷ tail → tail ≡ low ∷ following → one ≡ digit_value high → other ≡ digit_value low → longer ≡ out ++ (16 * one + other) ∷ []
    → (are_hex_pairs rest ≡ true) × (also (λ inner. out ++ inner) (digit_bytes rest) ≡ whole)
    → (are_hex_pairs following ≡ true) × (also (λ inner. longer ++ inner) (digit_bytes following) ≡ whole)
pairs_on out longer rest tail following high low one other whole a b d e f (are, same) =
    let is : rest ≡ high ∷ low ∷ following = a ∙ ap (λ t. high ∷ t) b in
    let byte : longer ≡ out ++ (16 * digit_value high + digit_value low) ∷ [] = f ∙ ap (λ x. out ++ (16 * x + other) ∷ []) d ∙ ap (λ x. out ++ (16 * digit_value high + x) ∷ []) e in (
      pairs_after high low following (ap are_hex_pairs (sym is) ∙ are),
      ap (λ xs. also (λ inner. xs ++ inner) (digit_bytes following)) byte ∙ digits_on out high low following ∙ ap (λ r. also (λ inner. out ++ inner) (digit_bytes r)) (sym is) ∙ same,
    )
