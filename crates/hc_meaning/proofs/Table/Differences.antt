-- Two dbs are the same at each id if they are at the ids of their rows.
use Rattle.std.proofs.Common.{◌≡◌, ◌∙◌, ap, sym, subst, refl, cond, ℤ, suc, Bool, true, false, [], ◌∷◌, None, Some, arith, ◌⊎◌, inl, inr, ⊎_elim}
use Rattle.std.specs.Prelude.{All}
use Rattle.std.specs.Ordering.{int_eq}
use Rattle.std.proofs.lemmas.Bool.Decides.{Decides-int_eq}
use Rattle.hc_meaning.specs.Database.{Db, value_at}

-- they have the same there
abbrev pub AgreesAt : Db → Db → ℤ → Type 0
AgreesAt before after id = value_at after id ≡ value_at before id

-- an id of no row, or one at which the dbs agree
at-id : (rows before after : Db) → All (λ row. AgreesAt before after row.0) rows → (id : ℤ) → (value_at rows id ≡ None) ⊎ AgreesAt before after id
at-id [] before after all id = inl refl
at-id (row ∷ rows) before after all id = by_test (int_eq row.0 id) refl (at-id rows before after (λ k d within. all (suc k) d (omega (arith, within))) id)
  where
    by_test : (here : Bool) → int_eq row.0 id ≡ here → (value_at rows id ≡ None) ⊎ AgreesAt before after id → (value_at (row ∷ rows) id ≡ None) ⊎ AgreesAt before after id
    by_test true is later = inr (subst (AgreesAt before after) ((Decides-int_eq row.0 id).0 is) (all 0 row (omega arith)))
    by_test false is later = ⊎_elim (λ none. inl (ap (λ b. cond b (Some row.1) (value_at rows id)) is ∙ none)) (λ agrees. inr agrees) later

-- the ids of both dbs' rows are enough
pub agrees : (before after : Db) → All (λ row. AgreesAt before after row.0) before → All (λ row. AgreesAt before after row.0) after → (id : ℤ) → AgreesAt before after id
agrees before after in_before in_after id =
    ⊎_elim (λ none. ⊎_elim (λ gone. gone ∙ sym none) (λ is. is) (at-id after before after in_after id)) (λ is. is) (at-id before before after in_before id)
