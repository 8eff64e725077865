-- A page is claimed, written and given back, and the seat has what it had.
use Rattle.std.proofs.Common.{◌≡◌, ◌≢◌, ◌∙◌, refl, sym, ap, subst, inl, inr, ℕ, ◌<◌, List, [], ◌∷◌, cond, eqb, eq-eqb, ne_eqb, get_or, arith}
use Rattle.std.proofs.lemmas.List.{get_or-set_same}
use Rattle.hc_base.specs.Lookup.{Among}
use Rattle.hc_rule.specs.declared.view.View.{View}
use Rattle.hc_rule.specs.declared.view.Row.{Row}
use Rattle.hc_rule.specs.Hands.{row_of, changed, set_word, without_page}
use Rattle.hc_rule.specs.Kinds.Rows.{with_word}
use Rattle.hc_rule.specs.Kinds.StorePage.{without}
use Rattle.hc_pool.specs.Claiming.{Claims}
use Rattle.hc_engine_tests.specs.Holding.{KeepsRest}

-- nothing of a page is changed or taken away where it is not
apart : (p : ℕ) (f : Row → Row) (xs : List Row) → ((row : Row) → Among row xs → row.page.0 ≢ p) → without_page p (changed p f xs) ≡ xs
apart p f [] differ = refl
apart p f (z ∷ zs) differ =
    let no : eqb z.page.0 p ≡ _ = ne_eqb z.page.0 p (differ z (inl refl)) in
    ap (λ b. without_page p (cond b (f z) z ∷ changed p f zs)) no
    ∙ (ap (λ b. cond b (without_page p (changed p f zs)) (z ∷ without_page p (changed p f zs))) no
    ∙ ap (λ ys. z ∷ ys) (apart p f zs (λ row there. differ row (inr there))))

module _ (p word n : ℕ) (v w u : View) (claims : Claims p v w) (stored : u ≡ with_word p word n w) where
  rows_are : u.pages ≡ changed p (set_word word n) (row_of p 0 claims.1 ∷ v.pages)
  rows_are = ap (λ (x : View). x.pages) stored ∙ ap (λ (x : View). changed p (set_word word n) x.pages) claims.4

  -- the seat knows the word that it wrote
  pub is_written : word < 256 → (row : Row) × Among row u.pages × (row.page.0 ≡ p) × (get_or row.words word 0 ≡ n)
  is_written within = (
    set_word word n (row_of p 0 claims.1),
    subst (λ xs. Among (set_word word n (row_of p 0 claims.1)) xs) (sym rows_are)
        (inl (sym (ap (λ b. cond b (set_word word n (row_of p 0 claims.1)) (row_of p 0 claims.1)) (eq-eqb p p refl)))),
    refl,
    get_or-set_same claims.1 word n 0 (omega (arith, within, claims.2)),
  )

  -- once the page is given back, all is as it was
  pub given_back : (t x : View) → KeepsRest u t → x ≡ without p t → KeepsRest v x
  given_back t x kept given = record {
    pages =
        ap (λ (z : View). z.pages) given
        ∙ (ap (λ xs. without_page p xs) (kept.pages ∙ rows_are)
        ∙ (ap (λ b. without_page p (cond b (set_word word n (row_of p 0 claims.1)) (row_of p 0 claims.1) ∷ changed p (set_word word n) v.pages)) (eq-eqb p p refl)
        ∙ (ap (λ b. cond b (without_page p (changed p (set_word word n) v.pages)) (set_word word n (row_of p 0 claims.1) ∷ without_page p (changed p (set_word word n) v.pages))) (eq-eqb p p refl)
        ∙ apart p (set_word word n) v.pages claims.0)));
    stage = ap (λ (z : View). z.stage) given ∙ (kept.stage ∙ (ap (λ (z : View). z.stage) stored ∙ ap (λ (z : View). z.stage) claims.4));
    account = ap (λ (z : View). z.account) given ∙ (kept.account ∙ (ap (λ (z : View). z.account) stored ∙ ap (λ (z : View). z.account) claims.4));
  }
