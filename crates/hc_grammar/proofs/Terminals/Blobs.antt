-- The bytes of a blob are found in its digits.
use Rattle.std.proofs.Common.{◌≡◌, ◌∙◌, ap, ℕ, ◌+◌, ◌*◌, ◌==◌, List, [], ◌∷◌, ◌++◌, Bool, true, false, Some, None, sym, refl, subst}
use Rattle.std.specs.Prelude.{if◌then◌else◌}
use Rattle.std.specs.Char.{digit_value}
use Rattle.std.proofs.lemmas.Bool.{eqb-true}
use Rattle.hc_grammar.specs.Lexemes.{IsBlobOf, SpellsBytes}
use Rattle.hc_grammar.specs.Terminals.{also, digit_bytes, blob_of}
use Rattle.hc_grammar.proofs.Terminals.Quotes.{also_some, some_same}

-- digits are the bytes that are found in them
pub bytes_has : (digits bytes : List ℕ) → digit_bytes digits ≡ Some bytes → (inner : List ℕ) × (digits ≡ inner ++ 39 ∷ []) × SpellsBytes inner bytes
bytes_has [] bytes e = absurd (cc)
bytes_has (high ∷ []) bytes e = last_quote high (high == 39) refl bytes e
  where
    last_quote : (high : ℕ) (test : Bool) → (high == 39) ≡ test → (bytes : List ℕ) → (if test then Some [] else None) ≡ Some bytes → (inner : List ℕ) × (high ∷ [] ≡ inner ++ 39 ∷ []) × SpellsBytes inner bytes
    last_quote high true t bytes e = ([], ap (λ (x : ℕ). x ∷ []) (eqb-true high 39 t), subst (λ (b : List ℕ). SpellsBytes [] b) (some_same [] bytes e) refl)
    last_quote high false t bytes e = absurd (cc)
bytes_has (high ∷ low ∷ rest) bytes e =
    let h = also_some (λ (b : List ℕ). (16 * digit_value high + digit_value low) ∷ b) (digit_bytes rest) bytes e in
    let g = bytes_has rest h.0 h.1 in
    (high ∷ low ∷ g.0, ap (λ (l : List ℕ). high ∷ low ∷ l) g.1, subst (λ (b : List ℕ). SpellsBytes (high ∷ low ∷ g.0) b) (sym h.2) (high, low, g.0, refl, refl, g.2))

-- the bytes of digits are found
pub bytes_is : (bytes digits : List ℕ) → SpellsBytes digits bytes → digit_bytes (digits ++ 39 ∷ []) ≡ Some bytes
bytes_is [] digits h = ap (λ (l : List ℕ). digit_bytes (l ++ 39 ∷ [])) h
bytes_is (b ∷ bytes) digits h =
    ap (λ (l : List ℕ). digit_bytes (l ++ 39 ∷ [])) h.3
    ∙ ap (also (λ (l : List ℕ). (16 * digit_value h.0 + digit_value h.1) ∷ l)) (bytes_is bytes h.2 h.5)
    ∙ ap (λ (x : ℕ). Some (x ∷ bytes)) (sym h.4)

-- what is found in a text is the blob that it spells
pub blob_has : (text bytes : List ℕ) → blob_of text ≡ Some bytes → IsBlobOf text bytes
blob_has [] bytes e = absurd (cc)
blob_has (mark ∷ []) bytes e = absurd (cc)
blob_has (mark ∷ quote ∷ digits) bytes e = by_quote mark quote digits (quote == 39) refl bytes e
  where
    by_quote : (mark quote : ℕ) (digits : List ℕ) (test : Bool) → (quote == 39) ≡ test → (bytes : List ℕ) → (if test then digit_bytes digits else None) ≡ Some bytes → IsBlobOf (mark ∷ quote ∷ digits) bytes
    by_quote mark quote digits true t bytes e =
        let h = bytes_has digits bytes e in
        (mark, h.0, ap (λ (x : ℕ). mark ∷ x ∷ digits) (eqb-true quote 39 t) ∙ ap (λ (l : List ℕ). mark ∷ 39 ∷ l) h.1, h.2)
    by_quote mark quote digits false t bytes e = absurd (cc)

-- the blob that a text spells is found in it
pub blob_is : (text bytes : List ℕ) → IsBlobOf text bytes → blob_of text ≡ Some bytes
blob_is text bytes h = ap blob_of h.2 ∙ bytes_is bytes h.1 h.3
