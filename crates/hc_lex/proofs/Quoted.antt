-- What is in quotes, read up to a place.
use Rattle.std.proofs.Common.{◌≡◌, ◌≢◌, ◌∙◌, ℕ, List, [], ◌∷◌, ◌++◌, refl, sym, ap, append_assoc}
use Rattle.std.proofs.lemmas.List.{append-nil}
use Rattle.hc_lex.specs.Characters.{BeginsWith}
use Rattle.hc_lex.specs.Pieces.{Skips}
use Rattle.hc_lex.specs.Quotes.{IsOpenQuoted, IsQuoted}
use Rattle.hc_text.specs.Quotes.{doubled, doubled_one}
use Rattle.hc_text.proofs.Doubled.{doubled_more, doubled_other, doubled_quote}

-- the bytes were read up to `rest`, and are within the quotes
pub record QuotedSoFar (quote : ℕ) (bytes rest : List ℕ) : Type 0 where
  pub inner : List ℕ
  pub whole : bytes ≡ doubled quote inner ++ rest

-- where nothing was read, all that was read is within the quotes
pub quoted_at_start : (quote : ℕ) (bytes : List ℕ) → QuotedSoFar quote bytes bytes
quoted_at_start quote bytes = record { inner = []; whole = refl }

-- one more character within the quotes
pub quoted_more : (quote : ℕ) (bytes rest : List ℕ) (b : ℕ) (tail : List ℕ) → QuotedSoFar quote bytes rest → rest ≡ doubled_one quote b ++ tail → QuotedSoFar quote bytes tail
quoted_more quote bytes rest b tail s e = record {
  inner = s.inner ++ b ∷ [];
  whole = s.whole ∙ ap (λ r. doubled quote s.inner ++ r) e ∙ sym (append_assoc (doubled quote s.inner) (doubled_one quote b) tail)
      ∙ ap (λ r. r ++ tail) (sym (doubled_more quote s.inner b));
}

-- the quotes are closed here
pub quoted_here : (quote : ℕ) (bytes rest tail : List ℕ) → QuotedSoFar quote bytes rest → rest ≡ quote ∷ tail → ¬ BeginsWith quote tail → Skips (IsQuoted quote) (quote ∷ bytes) tail
quoted_here quote bytes rest tail s e n = (
  quote ∷ doubled quote s.inner ++ quote ∷ [],
  ap (λ r. quote ∷ r) (s.whole ∙ ap (λ r. doubled quote s.inner ++ r) e ∙ sym (append_assoc (doubled quote s.inner) (quote ∷ []) tail)),
  (s.inner, refl, n),
)

-- the text ends within the quotes
pub never_quoted : (quote : ℕ) (bytes rest : List ℕ) → QuotedSoFar quote bytes rest → rest ≡ [] → IsOpenQuoted quote (quote ∷ bytes)
never_quoted quote bytes rest s e =
    (s.inner, ap (λ r. quote ∷ r) (s.whole ∙ ap (λ r. doubled quote s.inner ++ r) e ∙ append-nil (doubled quote s.inner)))

-- two quotes in a row are one of the characters
pub quote_within : (quote : ℕ) (bytes rest : List ℕ) (b : ℕ) (tail after : List ℕ) → QuotedSoFar quote bytes rest → rest ≡ b ∷ tail → b ≡ quote → tail ≡ quote ∷ after → QuotedSoFar quote bytes after
quote_within quote bytes rest b tail after s e is f =
    quoted_more quote bytes rest quote after s (e ∙ ap (λ x. x ∷ tail) is ∙ ap (λ r. quote ∷ r) f
    ∙ ap (λ r. r ++ after) (sym (doubled_quote quote quote refl)))

-- any other character is itself
pub other_within : (quote : ℕ) (bytes rest : List ℕ) (b : ℕ) (tail : List ℕ) → QuotedSoFar quote bytes rest → rest ≡ b ∷ tail → b ≢ quote → QuotedSoFar quote bytes tail
other_within quote bytes rest b tail s e isnt =
    quoted_more quote bytes rest b tail s (e ∙ ap (λ r. r ++ tail) (sym (doubled_other quote b isnt)))
