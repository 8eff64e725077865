-- A blob at the front, or what only begins as one.
use Rattle.std.proofs.Common.{◌≡◌, ◌∙◌, ℕ, List, [], ◌∷◌, ◌++◌, refl, sym, ap, append_assoc}
use Rattle.hc_lex.specs.declared.fault.LexKind.TheVariants.{BadBlob}
use Rattle.hc_lex.specs.declared.token.TokenKind.TheVariants.{Blob}
use Rattle.hc_lex.specs.Flaws.{IsFlaw}
use Rattle.hc_lex.specs.Pieces.{Skips}
use Rattle.hc_lex.specs.Tokens.{ClosesBlob, ClosesNoBlob, IsBlob, IsBlobMark, IsToken}

-- a mark, a quote and what closes a blob are a blob in front
pub blob_here : (bytes : List ℕ) (mark : ℕ) (tail digits rest : List ℕ) → bytes ≡ mark ∷ tail → IsBlobMark mark → tail ≡ 39 ∷ digits → ClosesBlob digits rest → Skips (IsToken Blob) bytes rest
blob_here bytes mark tail digits rest e is f closes = (
  mark ∷ 39 ∷ closes.0 ++ 39 ∷ [],
  e ∙ ap (λ r. mark ∷ r) f ∙ ap (λ r. mark ∷ 39 ∷ r) (closes.3 ∙ sym (append_assoc closes.0 (39 ∷ []) rest)),
  (mark, closes.0, is, closes.1, closes.2, refl),
)

-- where the digits after the quote close no blob, no text in front is a blob
not_in_front : (digits text rest : List ℕ) (mark : ℕ) → ClosesNoBlob digits → IsBlob text → mark ∷ 39 ∷ digits ≡ text ++ rest → ⊥
not_in_front digits text rest mark closes is e =
    let whole : mark ∷ 39 ∷ digits ≡ is.0 ∷ 39 ∷ (is.1 ++ 39 ∷ []) ++ rest = e ∙ ap (λ t. t ++ rest) is.5 in
    let same : digits ≡ (is.1 ++ 39 ∷ []) ++ rest = cc in
    closes rest (is.1, is.3, is.4, same ∙ append_assoc is.1 (39 ∷ []) rest)

-- a mark and a quote with digits that close no blob are a bad blob
pub bad_blob : (bytes : List ℕ) (mark : ℕ) (tail digits : List ℕ) → bytes ≡ mark ∷ tail → IsBlobMark mark → tail ≡ 39 ∷ digits → ClosesNoBlob digits → IsFlaw BadBlob 0 bytes
bad_blob bytes mark tail digits e is f closes =
    let whole : bytes ≡ mark ∷ 39 ∷ digits = e ∙ ap (λ r. mark ∷ r) f in
    (refl, (mark, digits, is, whole), (λ text rest is_blob same. not_in_front digits text rest mark closes is_blob (sym whole ∙ same)))
