-- Numbers next to each other on a level, and what a new number changes of that.
use Rattle.std.proofs.Common.{◌≡◌, ap, ◌≢◌, refl, sym, ◌∙◌, subst, ℕ, Bool, true, false, cond, eqb, List, [], ◌∷◌, Some, None, inl, inr, ◌⊎◌, ⊎_elim}
use Rattle.std.proofs.lemmas.Bool.{cases_eq, cond_both, eq-eqb, ne_eqb, true≢false}
use Rattle.hc_range.specs.Order.{is_below, IsAtMost, IsBelow}
use Rattle.hc_range.proofs.ByteOrder.{below_flip, below_irrefl, below_trans, empty_least}
use Rattle.hc_base.specs.Content.{Content, IsBelowEnd}
use Rattle.hc_base.specs.Lookup.{Among}
use Rattle.hc_shape.specs.Leaves.{LowsAscend, number_in, number_of, with_next}
use Rattle.hc_shape.specs.Shape.{AreLinked, first_of, linked, low_of, next_of, PartsKeys}
use Rattle.hc_shape.proofs.Leaves.{each_above, there}
use Rattle.hc_shape.proofs.Members.{among_cond, some_is}

module _ (at new : ℕ) where
  -- a level with a new number has the old ones and the new one
  pub among_next : (m : ℕ) (ns : List ℕ) → Among m (with_next at new ns) → (m ≡ new) ⊎ Among m ns
  among_next m [] there = inr there
  among_next m (n ∷ more) (inl is) = inr (inl is)
  among_next m (n ∷ more) (inr later) =
      ⊎_elim (λ (there : Among m (new ∷ more)). new_or_later there) (λ (there : Among m (with_next at new more)). on (among_next m more there))
      (among_cond (eqb n at) (new ∷ more) (with_next at new more) m later)
    where
      new_or_later : Among m (new ∷ more) → (m ≡ new) ⊎ Among m (n ∷ more)
      new_or_later (inl is) = inl is
      new_or_later (inr there) = inr (inr there)

      on : (m ≡ new) ⊎ Among m more → (m ≡ new) ⊎ Among m (n ∷ more)
      on (inl is) = inl is
      on (inr there) = inr (inr there)

  pub old_there : (m : ℕ) (ns : List ℕ) → Among m ns → Among m (with_next at new ns)
  old_there m [] among = among
  old_there m (n ∷ more) (inl is) = inl is
  old_there m (n ∷ more) (inr later) =
      inr (cond_both (eqb n at) (new ∷ more) (with_next at new more) (λ xs. Among m xs) (λ here. inr later) (λ on. old_there m more later))

  pub new_there : (ns : List ℕ) → Among at ns → Among new (with_next at new ns)
  new_there [] among = absurd among
  new_there (n ∷ more) (inl is) =
      inr (subst (λ b. Among new (cond b (new ∷ more) (with_next at new more))) (sym (eq-eqb n at (sym is))) (inl refl))
  new_there (n ∷ more) (inr later) =
      inr (cond_both (eqb n at) (new ∷ more) (with_next at new more) (λ xs. Among new xs) (λ here. inl refl) (λ on. new_there more later))

  -- the first number stays
  pub first_kept : (ns : List ℕ) → first_of (with_next at new ns) ≡ first_of ns
  first_kept [] = refl
  first_kept (n ∷ more) = refl

  after_first : (n : ℕ) (more : List ℕ) → Among at (n ∷ more) → n ≢ at → Among at more
  after_first n more (inl is) differ = absurd (differ (sym is))
  after_first n more (inr later) differ = later

  -- the new number is next to the one that was cut
  pub next_at : (ns : List ℕ) → Among at ns → next_of (with_next at new ns) at ≡ Some new
  next_at [] among = absurd among
  next_at (n ∷ more) among =
      elim (cases_eq n at) [
        | inl is ↦ rw (eq-eqb n at is) refl
        | inr differ ↦ rw (ne_eqb n at differ) (next_at more (after_first n more among differ))
      ]

  -- next to it is what was next to that one
  pub next_new : (ns : List ℕ) → Among at ns → (Among new ns → ⊥) → next_of (with_next at new ns) new ≡ next_of ns at
  next_new [] among fresh = absurd among
  next_new (n ∷ more) among fresh =
      elim (cases_eq n at) [
        | inl is ↦ rw (ne_eqb n new (λ e. fresh (inl (sym e)))) (rw (eq-eqb n at is) (rw (eq-eqb new new refl) refl))
        | inr differ ↦
            rw (ne_eqb n new (λ e. fresh (inl (sym e))))
            (rw (ne_eqb n at differ) (next_new more (after_first n more among differ) (λ later. fresh (inr later))))
      ]

  -- and each other number has the same next to it
  pub next_else : (m : ℕ) (ns : List ℕ) → m ≢ at → m ≢ new → next_of (with_next at new ns) m ≡ next_of ns m
  next_else m [] other differ = refl
  next_else m (n ∷ more) other differ =
      elim (cases_eq n m) [
        | inl is ↦ rw (eq-eqb n m is) (rw (ne_eqb n at (λ e. other (sym is ∙ e))) (first_kept more))
        | inr apart ↦ elim (cases_eq n at) [
          | inl is ↦ rw (ne_eqb n m apart) (rw (eq-eqb n at is) (rw (ne_eqb new m (λ e. differ (sym e))) refl))
          | inr far ↦ rw (ne_eqb n m apart) (rw (ne_eqb n at far) (next_else m more other differ))
        ]
      ]

module _ (low : ℕ → List ℕ) (key : List ℕ) where
  -- below the first low fence is below each
  first_beyond : (m : ℕ) (ns : List ℕ) → LowsAscend low ns → IsBelowEnd key (low_of low (first_of ns)) → Among m ns → IsBelow key (low m)
  first_beyond m [] up end among = absurd among
  first_beyond m (n ∷ more) up end (inl is) = subst (λ x. IsBelow key (low x)) (sym is) end
  first_beyond m (n ∷ more) up end (inr later) = below_trans key (low n) (low m) end (each_above low (low n) more m up.0 later)

  -- a key below the low fence of the next number is below that of each number further right
  pub beyond : (n : ℕ) (ns : List ℕ) → LowsAscend low ns → Among n ns → IsBelowEnd key (low_of low (next_of ns n))
      → (m : ℕ) → Among m ns → IsBelow (low n) (low m) → IsBelow key (low m)
  beyond n [] up there end m among less = absurd there
  beyond n (here ∷ more) up there end m among less =
      elim (cases_eq here n) [
        | inl is ↦ at_here is (subst (λ b. IsBelowEnd key (low_of low (cond b (first_of more) (next_of more n)))) (eq-eqb here n is) end) among
        | inr differ ↦ on (λ after next later. beyond n more up.1 after next m later less) differ there (subst (λ b. IsBelowEnd key (low_of low (cond b (first_of more) (next_of more n)))) (ne_eqb here n differ) end) among
      ]
    where
      at_here : here ≡ n → IsBelowEnd key (low_of low (first_of more)) → Among m (here ∷ more) → IsBelow key (low m)
      at_here is first (inl same) = absurd (true≢false (sym less ∙ subst (λ x. is_below (low n) (low x) ≡ false) (sym (same ∙ is)) (below_irrefl (low n))))
      at_here is first (inr later) = first_beyond m more up.1 first later

      on : (Among n more → IsBelowEnd key (low_of low (next_of more n)) → Among m more → IsBelow key (low m)) → here ≢ n → Among n (here ∷ more)
          → IsBelowEnd key (low_of low (next_of more n)) → Among m (here ∷ more) → IsBelow key (low m)
      on further differ (inl is) next among = absurd (differ (sym is))
      on further differ (inr after) next (inl same) =
          absurd (true≢false (sym less ∙ subst (λ x. is_below (low n) (low x) ≡ false) (sym same) (below_flip (low here) (low n) (each_above low (low here) more n up.0 after))))
      on further differ (inr after) next (inr later) = further after next later

  -- The number that has a key: its low fence is not above the key, and the next number's is.
  abbrev Holds : List ℕ → ℕ → Type 0
  Holds ns n = IsAtMost (low n) key × IsBelowEnd key (low_of low (next_of ns n))

  module _ (here m : ℕ) (later : List ℕ) (up : LowsAscend low (here ∷ m ∷ later)) (from : IsAtMost (low here) key) where
    differ : here ≢ number_in low key m later
    differ is =
        true≢false
        (sym (each_above low (low here) (m ∷ later) (number_in low key m later) up.0 (there low key m later))
        ∙ subst (λ x. is_below (low here) (low x) ≡ false) is (below_irrefl (low here))
        )

    by_test : (b : Bool) → is_below key (low m) ≡ b → (is_below key (low m) ≡ false → Holds (m ∷ later) (number_in low key m later))
        → Holds (here ∷ m ∷ later) (cond b here (number_in low key m later))
    by_test true less on = (from, subst (λ b. IsBelowEnd key (low_of low (cond b (Some m) (next_of (m ∷ later) here)))) (sym (eq-eqb here here refl)) less)
    by_test false at_most on =
        let further : Holds (m ∷ later) (number_in low key m later) = on at_most in (
          further.0,
          subst (λ b. IsBelowEnd key (low_of low (cond b (Some m) (next_of (m ∷ later) (number_in low key m later)))))
              (sym (ne_eqb here (number_in low key m later) differ)) further.1,
        )

  holds_in : (here : ℕ) (more : List ℕ) → LowsAscend low (here ∷ more) → IsAtMost (low here) key → Holds (here ∷ more) (number_in low key here more)
  holds_in here [] up from = (from, subst (λ b. IsBelowEnd key (low_of low (cond b None None))) (sym (eq-eqb here here refl)) tt)
  holds_in here (m ∷ later) up from = by_test here m later up from (is_below key (low m)) refl (λ at_most. holds_in m later up.1 at_most)

  -- the number that has a key is one of them, and its low fence and the next one's are on both sides of the key
  pub holds_of : (ns : List ℕ) → PartsKeys low ns → Among (number_of low key ns) ns × Holds ns (number_of low key ns)
  holds_of [] parts = absurd parts
  holds_of (here ∷ more) parts = (there low key here more, holds_in here more parts.1 (subst (λ l. IsAtMost l key) (sym parts.0) (empty_least key)))

-- the next number is one of them, with a greater low fence
pub next_right : (low : ℕ → List ℕ) (ns : List ℕ) (n m : ℕ) → LowsAscend low ns → next_of ns n ≡ Some m → Among m ns × IsBelow (low n) (low m)
next_right low [] n m up next = absurd (none next)
  where
    none : None ≡ Some m → ⊥
    none e = cc
next_right low (here ∷ more) n m up next =
    elim (cases_eq here n) [
      | inl is ↦ at_here is more up (subst (λ b. cond b (first_of more) (next_of more n) ≡ Some m) (eq-eqb here n is) next)
      | inr differ ↦ on (next_right low more n m up.1 (subst (λ b. cond b (first_of more) (next_of more n) ≡ Some m) (ne_eqb here n differ) next))
    ]
  where
    at_here : here ≡ n → (more : List ℕ) → LowsAscend low (here ∷ more) → first_of more ≡ Some m → Among m (here ∷ more) × IsBelow (low n) (low m)
    at_here is [] up first = absurd (none first)
      where
        none : None ≡ Some m → ⊥
        none e = cc
    at_here is (f ∷ rest) up first =
        let same : m ≡ f = sym (some_is f m first) in
        (inr (inl same), subst (λ x. IsBelow (low x) (low m)) is (each_above low (low here) (f ∷ rest) m up.0 (inl same)))

    on : Among m more × IsBelow (low n) (low m) → Among m (here ∷ more) × IsBelow (low n) (low m)
    on further = (inr further.0, further.1)

-- links that lead to what is next in a list lead from its first number to its last
pub in_order : (low : ℕ → List ℕ) (node : ℕ → Content) (ns : List ℕ) → LowsAscend low ns → ((n : ℕ) → Among n ns → linked (node n).right ≡ next_of ns n) → AreLinked node ns
in_order low node [] up leads = tt
in_order low node (n ∷ more) up leads = (
  leads n (inl refl) ∙ ap (λ b. cond b (first_of more) (next_of more n)) (eq-eqb n n refl),
  in_order low node more up.1
      (λ m later.
      leads m (inr later)
      ∙ ap (λ b. cond b (first_of more) (next_of more m))
      (ne_eqb n m
      (λ e. true≢false (sym (each_above low (low n) more m up.0 later) ∙ subst (λ x. is_below (low n) (low x) ≡ false) e (below_irrefl (low n))))
      )),
)
