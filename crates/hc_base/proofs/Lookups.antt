-- Look-ups in a function with one answer changed, and in lists as sets of elements.
use Rattle.std.proofs.Common.{◌≡◌, ◌≢◌, inl, inr, ⊎_elim, refl, sym, ap, subst, ℕ, cond, List, ◌∷◌}
use Rattle.std.proofs.lemmas.Bool.{cases_eq, eq-eqb, ne_eqb}
use Rattle.hc_base.specs.Lookup.{Among, but}

-- at i, a function with the answer changed there gives the new one
pub but-same : {A : Type 0} (f : ℕ → A) (i : ℕ) (x : A) → but f i x i ≡ x
unfolding but
but-same f i x = ap (λ b. cond b x (f i)) (eq-eqb i i refl)

-- elsewhere it answers as before
pub but-other : {A : Type 0} (f : ℕ → A) (i j : ℕ) (x : A) → i ≢ j → but f i x j ≡ f j
unfolding but
but-other f i j x differ = ap (λ b. cond b x (f j)) (ne_eqb i j differ)

-- functions that agree at i on one answer, and elsewhere with f, are f with that answer
pub but-is : {A : Type 0} (f g : ℕ → A) (i : ℕ) (x : A) → g i ≡ x → ((j : ℕ) → i ≢ j → g j ≡ f j) → (j : ℕ) → g j ≡ but f i x j
but-is f g i x here others j =
    ⊎_elim (λ (same : i ≡ j). subst (λ k. g k ≡ but f i x k) same (rw but-same here))
    (λ differ. rw (but-other f i j x differ) (others j differ))
    (cases_eq i j)

-- what holds of the new answer, and of each other one, holds of each
pub each_but : {A : Type 0} (f : ℕ → A) (i : ℕ) (x : A) (P : ℕ → A → Type 0) → P i x → ((j : ℕ) → i ≢ j → P j (f j)) → (j : ℕ) → P j (but f i x j)
each_but f i x P here others j =
    ⊎_elim (λ (same : i ≡ j). subst (λ k. P k (but f i x k)) same (subst (P i) (sym (but-same f i x)) here))
    (λ differ. subst (P j) (sym (but-other f i j x differ)) (others j differ))
    (cases_eq i j)

-- a function from connections to lists, with i's list changed to new and the rest
module _ {A : Type 0} (of : ℕ → List A) (i : ℕ) (new : A) (rest : List A) where
  -- the new one is in i's list
  pub new_here : Among new (but of i (new ∷ rest) i)
  new_here = subst (Among new) (sym (but-same of i (new ∷ rest))) (inl refl)

  -- each of the rest is in i's list
  pub rest_here : (u : A) → Among u rest → Among u (but of i (new ∷ rest) i)
  rest_here u there = subst (Among u) (sym (but-same of i (new ∷ rest))) (inr there)

  -- each of another connection's list is there still
  pub others_here : (j : ℕ) (u : A) → i ≢ j → Among u (of j) → Among u (but of i (new ∷ rest) j)
  others_here j u differ there = subst (Among u) (sym (but-other of i j (new ∷ rest) differ)) there

  -- what holds of the new one, of each after it and of each elsewhere holds of each
  pub each_new : (P : ℕ → A → Type 0) → P i new → ((u : A) → Among u rest → P i u) → ((j : ℕ) (u : A) → i ≢ j → Among u (of j) → P j u)
      → (j : ℕ) (u : A) → Among u (but of i (new ∷ rest) j) → P j u
  each_new P first following others j u among =
      ⊎_elim (λ (same : i ≡ j). subst (λ k. (v : A) → Among v (but of i (new ∷ rest) k) → P k v) same here u among)
      (λ differ. others j u differ (subst (Among u) (but-other of i j (new ∷ rest) differ) among))
      (cases_eq i j)
    where
      here : (v : A) → Among v (but of i (new ∷ rest) i) → P i v
      here v v_among =
          ⊎_elim (λ e. subst (P i) (sym e) first) (λ there. following v there) (subst (Among v) (but-same of i (new ∷ rest)) v_among)

-- where the rest is what was after t
module _ {A : Type 0} (of : ℕ → List A) (i : ℕ) (t : A) (rest : List A) (is : of i ≡ t ∷ rest) where
  -- t is in i's old list
  pub old_there : Among t (of i)
  old_there = subst (Among t) (sym is) (inl refl)

  -- each of the rest is in i's old list
  pub rest_there : (u : A) → Among u rest → Among u (of i)
  rest_there u there = subst (Among u) (sym is) (inr there)

  -- what holds of t, of each after it and of each elsewhere holds of each
  pub each_old : (P : ℕ → A → Type 0) → P i t → ((u : A) → Among u rest → P i u) → ((j : ℕ) (u : A) → i ≢ j → Among u (of j) → P j u)
      → (j : ℕ) (u : A) → Among u (of j) → P j u
  each_old P first following others j u among =
      ⊎_elim (λ (same : i ≡ j). subst (λ k. (v : A) → Among v (of k) → P k v) same here u among)
      (λ differ. others j u differ among)
      (cases_eq i j)
    where
      here : (v : A) → Among v (of i) → P i v
      here v v_among = ⊎_elim (λ e. subst (P i) (sym e) first) (λ there. following v there) (subst (Among v) is v_among)

  -- what holds of the new one and of each old one holds of each
  pub each_either : (new : A) (P : ℕ → A → Type 0) → P i new → ((j : ℕ) (u : A) → Among u (of j) → P j u) → (j : ℕ) (u : A) → Among u (but of i (new ∷ rest) j) → P j u
  each_either new P first others = each_new of i new rest P first (λ u there. others i u (rest_there u there)) (λ j u differ there. others j u there)

-- where the rest is all that was
module _ {A : Type 0} (of : ℕ → List A) (i : ℕ) (new : A) where
  -- what holds of the new one and of each old one holds of each
  pub each_grown : (P : ℕ → A → Type 0) → P i new → ((j : ℕ) (u : A) → Among u (of j) → P j u) → (j : ℕ) (u : A) → Among u (but of i (new ∷ of i) j) → P j u
  each_grown P first others = each_new of i new (of i) P first (λ u there. others i u there) (λ j u differ there. others j u there)

  -- each old one is there still
  pub grown_here : (j : ℕ) (u : A) → Among u (of j) → Among u (but of i (new ∷ of i) j)
  grown_here j u there =
      ⊎_elim (λ (same : i ≡ j). subst (λ k. (v : A) → Among v (of k) → Among v (but of i (new ∷ of i) k)) same (λ v v_there. rest_here of i new (of i) v v_there) u there)
      (λ differ. others_here of i new (of i) j u differ there)
      (cases_eq i j)
