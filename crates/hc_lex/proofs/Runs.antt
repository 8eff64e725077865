-- A run at the front ends at one place alone.
use Rattle.std.proofs.Common.{◌≡◌, ◌≢◌, ◌∙◌, ◌%◌, ℕ, List, [], ◌∷◌, ◌++◌, length, Option, None, Some, refl, sym, ap, subst}
use Rattle.std.specs.Prelude.{IsTrue, IfNone, MatchOption}
use Rattle.hc_lex.specs.declared.character.Run.{Run}
use Rattle.hc_lex.specs.declared.character.Run.TheVariants as run
use Rattle.hc_lex.specs.Characters.{BeginsRun, BeginsWith, GoesOn, IsRun, is_in}
use Rattle.hc_lex.specs.Tokens.{ClosesNoBlob}

-- what begins with a character of the run goes on with it
goes_on : (k : Run) (b : ℕ) (text rest : List ℕ) (bytes : List ℕ) → bytes ≡ b ∷ text ++ rest → IsTrue (is_in k b) → GoesOn k bytes
goes_on k b text rest bytes e h = subst (λ bs. GoesOn k bs) (sym e) h

-- bytes begin with one run alone, and leave one rest
pub run_is_one : (k : Run) (a r b s : List ℕ) → a ++ r ≡ b ++ s → IsRun k a → IsRun k b → ¬ GoesOn k r → ¬ GoesOn k s → (a ≡ b) × (r ≡ s)
run_is_one k [] r [] s e in_a in_b end_r end_s = (refl, e)
run_is_one k [] r (y ∷ b) s e in_a in_b end_r end_s = absurd (end_r (goes_on k y b s r e in_b.0))
run_is_one k (x ∷ a) r [] s e in_a in_b end_r end_s = absurd (end_s (goes_on k x a r s (sym e) in_a.0))
run_is_one k (x ∷ a) r (y ∷ b) s e in_a in_b end_r end_s =
    let tail : a ++ r ≡ b ++ s = cc in
    let head : x ≡ y = cc in
    let same : (a ≡ b) × (r ≡ s) = run_is_one k a r b s tail in_a.1 in_b.1 end_r end_s in
    (cc, same.1)

-- a quote is no hexadecimal digit
pub quote_is_no_hex : (rest : List ℕ) → ¬ GoesOn run.Blob (39 ∷ rest)
quote_is_no_hex rest h = cc

-- the hexadecimal digits of a blob are all that are there
pub blob_digits : (bytes digits rest other after : List ℕ) → BeginsRun run.Blob bytes digits rest → IsRun run.Blob other → bytes ≡ other ++ 39 ∷ after → (digits ≡ other) × (rest ≡ 39 ∷ after)
blob_digits bytes digits rest other after is is_other e =
    run_is_one run.Blob digits rest other (39 ∷ after) (sym is.0 ∙ e) is.1 is_other is.2 (quote_is_no_hex after)

-- digits of an odd number close no blob
pub odd_is_no_blob : (bytes digits rest : List ℕ) → BeginsRun run.Blob bytes digits rest → length digits % 2 ≢ 0 → ClosesNoBlob bytes
odd_is_no_blob bytes digits rest is odd after closes =
    odd (ap (λ d. length d % 2) (blob_digits bytes digits rest closes.0 after is closes.1 closes.3).0 ∙ closes.2)

-- digits with no quote after them close no blob
pub open_is_no_blob : (bytes digits rest : List ℕ) → BeginsRun run.Blob bytes digits rest → ¬ BeginsWith 39 rest → ClosesNoBlob bytes
open_is_no_blob bytes digits rest is unquoted after closes =
    unquoted (subst (λ r. BeginsWith 39 r) (sym (blob_digits bytes digits rest closes.0 after is closes.1 closes.3).1) refl)

-- where finding nothing means that no quote follows the digits, it means that they close no blob
pub no_quote_is_no_blob : {X : Type 0} (r : Option X) (Q : X → Type 0) (bytes digits rest : List ℕ) → BeginsRun run.Blob bytes digits rest → MatchOption r (¬ BeginsWith 39 rest) Q → IfNone r (ClosesNoBlob bytes)
no_quote_is_no_blob None Q bytes digits rest is unquoted = open_is_no_blob bytes digits rest is unquoted
no_quote_is_no_blob (Some x) Q bytes digits rest is unquoted = tt
