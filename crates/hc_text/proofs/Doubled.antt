-- Characters within quotes, one after the other.
use Rattle.std.proofs.Common.{◌≡◌, ◌∙◌, ap, eq-eqb, if◌then◌else◌, ℕ, List, [], ◌∷◌, ◌++◌, refl, sym, subst}
use Rattle.std.proofs.lemmas.Bool.{ne_eqb}
use Rattle.std.proofs.lemmas.Grind.{flat_map-append}
use Rattle.std.proofs.lemmas.List.{append-nil}
use Rattle.hc_text.specs.Quotes.{doubled, doubled_one}

-- a quote is written twice
pub doubled_quote : (quote b : ℕ) → b ≡ quote → doubled_one quote b ≡ quote ∷ quote ∷ []
doubled_quote quote b is = subst (λ (k : ℕ). doubled_one quote k ≡ quote ∷ quote ∷ []) (sym is) (ap (λ t. if t then quote ∷ quote ∷ [] else quote ∷ []) (eq-eqb quote quote refl))

-- any other character is written once
pub doubled_other : (quote b : ℕ) → (b ≡ quote → ⊥) → doubled_one quote b ≡ b ∷ []
doubled_other quote b other = ap (λ t. if t then b ∷ b ∷ [] else b ∷ []) (ne_eqb b quote other)

-- one character more
pub doubled_more : (quote : ℕ) (inner : List ℕ) (b : ℕ) → doubled quote (inner ++ b ∷ []) ≡ doubled quote inner ++ doubled_one quote b
doubled_more quote inner b = flat_map-append (doubled_one quote) inner (b ∷ []) ∙ ap (λ (l : List ℕ). doubled quote inner ++ l) (append-nil (doubled_one quote b))
