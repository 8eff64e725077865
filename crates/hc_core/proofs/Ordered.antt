-- What the order of a connection's transactions says: who has ended, what is below, and that an id is one transaction's.
use Rattle.std.proofs.Common.{◌≡◌, ◌≢◌, ◌∙◌, inl, inr, ⊎_elim, refl, sym, ap, subst, ℕ, ◌+◌, ◌-◌, ◌<◌, List, [], ◌∷◌, arith}
use Rattle.hc_base.specs.Lookup.{Among, but}
use Rattle.hc_core.specs.Account.{Txn}
use Rattle.hc_core.specs.Sound.{ComesAfter, ComesAfterEach, AreInOrder, AreSound, TxnIsSound}
use Rattle.hc_base.proofs.Lookups.{each_but}

-- a transaction comes after each of the list
pub after_each : (t u : Txn) (rest : List Txn) → ComesAfterEach t rest → Among u rest → ComesAfter t u
after_each t u [] each there = elim there [ ]
after_each t u (v ∷ rest) each there = ⊎_elim (λ same. subst (ComesAfter t) (sym same) each.0) (λ following. after_each t u rest each.1 following) there

-- and the other way round
pub each_after : (t : Txn) (rest : List Txn) → ((u : Txn) → Among u rest → ComesAfter t u) → ComesAfterEach t rest
each_after t [] each = tt
each_after t (v ∷ rest) each = (each v (inl refl), each_after t rest (λ u there. each u (inr there)))

-- of two transactions of a connection one id makes one
same_id : (t u : Txn) (ts : List Txn) → AreInOrder ts → Among t ts → Among u ts → t.id ≢ 0 → t.id ≡ u.id → t ≡ u
same_id t u [] ordered there u_there drawn same = elim there [ ]
same_id t u (v ∷ ts) ordered there u_there drawn same =
    ⊎_elim
    (λ (first : t ≡ v). ⊎_elim (λ (u_first : u ≡ v). first ∙ sym u_first)
    (λ following. absurd ((after_each t u ts (subst (λ w. ComesAfterEach w ts) (sym first) ordered.0) following).id drawn (sym same))) u_there)
    (λ following. ⊎_elim
    (λ (u_first : u ≡ v). absurd ((after_each u t ts (subst (λ w. ComesAfterEach w ts) (sym u_first) ordered.0) following).id (λ none. drawn (same ∙ none)) same))
    (λ u_later. same_id t u ts ordered.1 following u_later drawn same) u_there)
    there

module _ {size : ℕ} {log : ℕ → ℕ} {of : ℕ → List Txn} (s : AreSound size log of) where
  -- a committed transaction has drawn an id
  pub placed_drew : (i : ℕ) (t : Txn) → Among t (of i) → t.place ≢ 0 → t.id ≢ 0
  placed_drew i t there placed none = placed ((s.each i t there).numbers.undrawn none).0

  -- two transactions with one id are one, of one connection
  pub one_id : (i j : ℕ) (t u : Txn) → Among t (of i) → Among u (of j) → t.id ≢ 0 → t.id ≡ u.id → (i ≡ j) × (t ≡ u)
  one_id i j t u there u_there drawn same =
      let here = s.ids i j t u there u_there drawn same in
      (here, same_id t u (of i) (s.in_order i) there (subst (λ k. Among u (of k)) (sym here) u_there) drawn same)

  -- two transactions with one commit number are one, of one connection
  pub one_place : (i j : ℕ) (t u : Txn) → Among t (of i) → Among u (of j) → t.place ≢ 0 → t.place ≡ u.place → (i ≡ j) × (t ≡ u)
  one_place i j t u there u_there placed same =
      let c : ℕ = t.place - 1 in
      let at : t.place ≡ c + 1 = omega arith in
      one_id i j t u there u_there (placed_drew i t there placed) (sym (s.decided i t c there at) ∙ s.decided j u c u_there (sym same ∙ at))

  module _ (i : ℕ) (t : Txn) (there : Among t (of i)) (drew : t.id ≢ 0) (undecided : t.place ≡ 0) where
    -- the id of an undecided transaction is not in the log
    pub untaken : (c : ℕ) → c < size → log c ≢ t.id
    untaken c below same =
        let e = s.entries c below in
        let one = one_id i e.0 t e.1 there e.2 drew (sym same ∙ s.decided e.0 e.1 c e.2 e.3) in
        let place : t.place ≡ e.1.place = ap (λ (u : Txn). u.place) one.1 in
        omega (arith, place, undecided, e.3)

    -- and with it at the end the log's ids differ still
    pub distinct_with : (c d : ℕ) → c < size + 1 → d < size + 1 → but log size t.id c ≡ but log size t.id d → c ≡ d
    distinct_with c d c_below d_below =
        each_but log size t.id (λ k x. k < size + 1 → x ≡ but log size t.id d → k ≡ d)
        (λ last.
        each_but log size t.id (λ e y. e < size + 1 → t.id ≡ y → size ≡ e) (λ e_last same. refl) (λ e differ e_below same. absurd (untaken e (omega arith) (sym same))) d d_below)
        (λ k differ k_below.
        each_but log size t.id (λ e y. e < size + 1 → log k ≡ y → k ≡ e) (λ e_last same. absurd (untaken k (omega arith) same))
        (λ e e_differ e_below same. s.distinct k e (omega arith) (omega arith) same) d d_below)
        c c_below

  module _ (i : ℕ) (t : Txn) (rest : List Txn) (is : of i ≡ t ∷ rest) where
    -- the newest transaction of a connection is among its transactions
    pub newest_there : Among t (of i)
    newest_there = subst (Among t) (sym is) (inl refl)

    -- what holds for it
    pub newest_sound : TxnIsSound size of i t
    newest_sound = s.each i t newest_there

    pub newest_after : ComesAfterEach t rest
    newest_after = (subst AreInOrder is (s.in_order i)).0

    -- a transaction of its connection is it, or an older one
    pub newest_or_older : (P : Txn → Type 0) → P t → ((u : Txn) → Among u rest → ComesAfter t u → P u) → (u : Txn) → Among u (of i) → P u
    newest_or_older P newest older u there =
        ⊎_elim (λ same. subst P (sym same) newest) (λ following. older u following (after_each t u rest newest_after following)) (subst (Among u) is there)
