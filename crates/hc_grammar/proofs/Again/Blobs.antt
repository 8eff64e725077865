-- Blobs between spaces: two digits are a byte, and a blob among the tokens has bytes.
use Rattle.std.proofs.Common.{◌≡◌, ◌∙◌, refl, inr, sym, subst, ◌<◌, ◌+◌, ◌*◌, ◌/◌, ◌%◌, ℕ, List, [], ◌∷◌, ◌++◌, length, true, arith}
use Rattle.std.proofs.lemmas.Bool.Decides.{nat_tests}
use Rattle.std.proofs.lemmas.List.{append_cancel_right}
use Rattle.std.specs.Char.{digit_value, is_ascii_hexdigit}
use Rattle.std.specs.List.{AllByRecursion, flat_map}
use Rattle.hc_lex.specs.declared.character.Run.TheVariants as run
use Rattle.hc_lex.specs.declared.token.TokenKind.TheVariants as kind
use Rattle.hc_lex.specs.Characters.{IsRun}
use Rattle.hc_lex.specs.Tokens.{IsBlob}
use Rattle.hc_text.specs.Digits.{hex_digit, byte_digits}
use Rattle.hc_ast.specs.Words.{blob_word}
use Rattle.hc_grammar.specs.Lexemes.{SpellsBytes, IsBlobOf}
use Rattle.hc_grammar.proofs.Again.Apart.{IsApart}
use Rattle.hc_grammar.proofs.Again.Words.{of}

-- each is below 256
abbrev pub AreBytes : List ℕ → Type 0
AreBytes bytes = AllByRecursion (λ b. b < 256) bytes

-- a hexadecimal digit is below 16, and each number below 16 has its digit
hex_value : (c : ℕ) → is_ascii_hexdigit c ≡ true → digit_value c < 16
hex_value c is = grind (arith, nat_tests)

digit_is_hex : (d : ℕ) → d < 16 → is_ascii_hexdigit (hex_digit d) ≡ true
digit_is_hex d small = grind (arith, nat_tests)

digit_means : (d : ℕ) → d < 16 → digit_value (hex_digit d) ≡ d
digit_means d small = grind (arith, nat_tests)

-- the halves of a byte are below 16, and make it
high_half : (b : ℕ) → b < 256 → b / 16 < 16
high_half b small = omega arith

low_half : (b : ℕ) → b % 16 < 16
low_half b = omega arith

halves : (b : ℕ) → b ≡ 16 * (b / 16) + b % 16
halves b = omega arith

-- the digits of bytes
are_hex : (bytes : List ℕ) → AreBytes bytes → IsRun run.Blob (flat_map byte_digits bytes)
are_hex [] are = tt
are_hex (b ∷ bytes) are = (digit_is_hex (b / 16) (high_half b are.0), (digit_is_hex (b % 16) (low_half b), are_hex bytes are.1))

-- they are an even number
are_even : (bytes : List ℕ) → length (flat_map byte_digits bytes) % 2 ≡ 0
are_even [] = refl
are_even (b ∷ bytes) = omega (arith, are_even bytes)

-- they spell the bytes
spell : (bytes : List ℕ) → AreBytes bytes → SpellsBytes (flat_map byte_digits bytes) bytes
spell [] are = refl
spell (b ∷ bytes) are =
    let high = digit_means (b / 16) (high_half b are.0) in
    let low = digit_means (b % 16) (low_half b) in
    let value : b ≡ 16 * digit_value (hex_digit (b / 16)) + digit_value (hex_digit (b % 16)) = omega (arith, high, low, halves b) in
    (hex_digit (b / 16), hex_digit (b % 16), flat_map byte_digits bytes, refl, value, spell bytes are.1)

-- a blob's word is a blob, and of these bytes
is_blob : (bytes : List ℕ) → AreBytes bytes → IsBlob (blob_word bytes)
unfolding blob_word
is_blob bytes are = (88, flat_map byte_digits bytes, inr refl, are_hex bytes are, are_even bytes, refl)

pub is_blob_of : (bytes : List ℕ) → AreBytes bytes → IsBlobOf (blob_word bytes) bytes
unfolding blob_word
is_blob_of bytes are = (88, flat_map byte_digits bytes, refl, spell bytes are)

-- a blob
pub blob : (bytes : List ℕ) → AreBytes bytes → IsApart (of kind.Blob (blob_word bytes))
blob bytes are = (is_blob bytes are, λ more. is_blob bytes are)

-- what hexadecimal digits spell is bytes
spelled_bytes : (digits bytes : List ℕ) → IsRun run.Blob digits → SpellsBytes digits bytes → AreBytes bytes
spelled_bytes digits [] hex spells = tt
spelled_bytes digits (b ∷ bytes) hex spells =
    let all : IsRun run.Blob (spells.0 ∷ spells.1 ∷ spells.2) = subst (IsRun run.Blob) spells.3 hex in
    let high = hex_value spells.0 all.0 in
    let low = hex_value spells.1 all.1.0 in
    (omega (arith, spells.4, high, low), spelled_bytes spells.2 bytes all.1.1 spells.5)

after_mark : (m n : ℕ) (xs ys : List ℕ) → m ∷ 39 ∷ xs ≡ n ∷ 39 ∷ ys → xs ≡ ys
after_mark m n xs ys e = cc

-- what a blob's token means is bytes
pub blob_has_bytes : (text bytes : List ℕ) → IsBlob text → IsBlobOf text bytes → AreBytes bytes
blob_has_bytes text bytes is means =
    let same = append_cancel_right is.1 means.1 (39 ∷ []) (after_mark is.0 means.0 (is.1 ++ 39 ∷ []) (means.1 ++ 39 ∷ []) (sym is.5 ∙ means.2)) in
    spelled_bytes means.1 bytes (subst (IsRun run.Blob) same is.3) means.3
