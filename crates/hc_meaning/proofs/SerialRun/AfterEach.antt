-- What holds of one connection's transactions after each of them, and that the next one keeps it.
use Rattle.std.proofs.Common.{◌≡◌, ◌∙◌, ap, sym, subst, ℕ, ◌+◌, ◌-◌, ◌<◌, ◌≤◌, List, [], ◌∷◌, ◌++◌, length, Some, arith, ⊎_elim, length-append}
use Rattle.std.specs.Prelude.{Contains, slice_get}
use Rattle.std.proofs.lemmas.List.Elements.{Contains-push, Contains-push_cases, Contains-append_left}
use Rattle.std.proofs.lemmas.Option.{slice_get_within}
use Rattle.hc_transcript.specs.declared.reply.Ending.{Ending}
use Rattle.hc_transcript.specs.declared.reply.Ending.TheVariants.{Commit}
use Rattle.hc_meaning.specs.declared.transaction.Transaction.{Transaction}
use Rattle.hc_meaning.specs.Database.{Db}
use Rattle.hc_transcript.specs.Text.{ending_number}
use Rattle.hc_meaning.specs.History.{state, IsHistory, IsLegal, IsLegalAt}
use Rattle.hc_meaning.specs.RightOutput.{IsCommitted, IsReadUnlessCommitted}
use Rattle.hc_meaning.proofs.SerialRun.Places.{slice_get-last, slice_get-earlier, slice_get-push_cases}
use Rattle.hc_meaning.proofs.SerialRun.Grown.{state-earlier, reads-grown}

-- u is printed after t, and its number says so
pub record IsAfter (t u : Transaction) : Type 0 where
  pub no_fall : ending_number t.ending ≤ ending_number u.ending
  pub above : IsCommitted u.ending → ending_number t.ending < ending_number u.ending

-- the history is that of connection 0's transactions, which are in order and below the next ordinal
pub record IsSoFar (transactions history : List Transaction) (next : ℕ) : Type 0 where
  pub is_history : IsHistory transactions history
  pub is_legal : IsLegal history
  pub others : (t : Transaction) → Contains transactions t → IsReadUnlessCommitted history t t.ending
  pub rising : (t u : Transaction) → Contains transactions t → Contains transactions u → t.ordinal < u.ordinal → IsAfter t u
  pub counted : (t : Transaction) → Contains transactions t → ending_number t.ending ≤ length history
  pub named : (t : Transaction) → Contains transactions t → (t.conn ≡ 0) × (t.ordinal < next)

-- what holds of each so far and of the new one holds of each
each : (P : Transaction → Type 0) (transactions : List Transaction) (new : Transaction) → ((t : Transaction) → Contains transactions t → P t) → P new
    → (t : Transaction) → Contains (transactions ++ new ∷ []) t → P t
each P transactions new earlier last t among =
    ⊎_elim (λ there. earlier t there) (λ (is : new ≡ t). subst P is last) (Contains-push_cases transactions new t among)

module _ (transactions history : List Transaction) (next : ℕ) (so_far : IsSoFar transactions history next) (new : Transaction) (first : new.conn ≡ 0) (named : new.ordinal ≡ next) where
  -- with the new one, each is of connection 0 and below the next ordinal
  named-next : (t : Transaction) → Contains (transactions ++ new ∷ []) t → (t.conn ≡ 0) × (t.ordinal < next + 1)
  named-next = each (λ t. (t.conn ≡ 0) × (t.ordinal < next + 1)) transactions new
      (λ t among. ((so_far.named t among).0, omega (arith, (so_far.named t among).1))) (first, omega (arith, named))

  -- the new one comes after each, and no other comes after it
  rising-next : ((t : Transaction) → Contains transactions t → IsAfter t new)
      → (t u : Transaction) → Contains (transactions ++ new ∷ []) t → Contains (transactions ++ new ∷ []) u → t.ordinal < u.ordinal → IsAfter t u
  rising-next last t u among_t among_u before =
      ⊎_elim (λ there_u. ⊎_elim (λ there_t. so_far.rising t u there_t there_u before)
      (λ (is : new ≡ t). absurd (omega (arith, before, (so_far.named u there_u).1, named, ap (λ (v : Transaction). v.ordinal) is)))
      (Contains-push_cases transactions new t among_t))
      (λ (is_u : new ≡ u). ⊎_elim (λ there_t. subst (λ (v : Transaction). IsAfter t v) is_u (last t there_t))
      (λ (is_t : new ≡ t). absurd (omega (arith, before, ap (λ (v : Transaction). v.ordinal) is_t, ap (λ (v : Transaction). v.ordinal) is_u)))
      (Contains-push_cases transactions new t among_t))
      (Contains-push_cases transactions new u among_u)

  -- a transaction that commits
  module _ (commits : new.ending ≡ Commit (length history + 1)) (legal : IsLegalAt (state history (length history)) new) where
    -- the new one's number is that of its place
    number-new : ending_number new.ending ≡ length history + 1
    number-new = ap ending_number commits

    -- the new history has the commits that are printed, each at its place
    printed-committed : (k : ℕ) (t : Transaction) → slice_get (history ++ new ∷ []) k ≡ Some t → (t.ending ≡ Commit (k + 1)) × Contains (transactions ++ new ∷ []) t
    printed-committed k t is =
        ⊎_elim (λ earlier. let p = so_far.is_history.printed k t earlier in (p.0, Contains-append_left transactions (new ∷ []) t p.1))
        (λ last. (
          ap (λ (v : Transaction). v.ending) (sym last.1) ∙ commits ∙ ap (λ n. Commit (n + 1)) (sym last.0),
          subst (λ (v : Transaction). Contains (transactions ++ new ∷ []) v) last.1 (Contains-push transactions new),
        ))
        (slice_get-push_cases history new t k is)

    placed-committed : (k : ℕ) (t : Transaction) → Contains (transactions ++ new ∷ []) t → t.ending ≡ Commit k → (0 < k) × (slice_get (history ++ new ∷ []) (k - 1) ≡ Some t)
    placed-committed k t among is =
        ⊎_elim (λ there. let p = so_far.is_history.placed k t there is in (p.0, slice_get-earlier history new t (k - 1) p.1))
        (λ (is_new : new ≡ t).
        let here : length history + 1 ≡ k = ap ending_number (sym commits ∙ ap (λ (v : Transaction). v.ending) is_new ∙ is) in
        let place : k - 1 ≡ length history = omega (arith, here) in
        (omega (arith, here), rw place (slice_get-last history new ∙ ap Some is_new)))
        (Contains-push_cases transactions new t among)

    -- the new history is legal
    legal-committed : IsLegal (history ++ new ∷ [])
    legal-committed k t is =
        ⊎_elim (λ earlier.
        let within = slice_get_within history k t earlier in
        subst (λ (db : Db). IsLegalAt db t) (sym (state-earlier history new k (omega (arith, within)))) (so_far.is_legal k t earlier))
        (λ last.
        let before : state (history ++ new ∷ []) k ≡ state history (length history) =
        ap (λ n. state (history ++ new ∷ []) n) last.0 ∙ state-earlier history new (length history) (omega arith) in
        subst (λ (v : Transaction). IsLegalAt (state (history ++ new ∷ []) k) v) last.1 (subst (λ (db : Db). IsLegalAt db new) (sym before) legal))
        (slice_get-push_cases history new t k is)

    -- what held so far holds on with a transaction that commits
    pub committed-next : IsSoFar (transactions ++ new ∷ []) (history ++ new ∷ []) (next + 1)
    committed-next = record {
      is_history = record { printed = printed-committed; placed = placed-committed };
      is_legal = legal-committed;
      others = each (λ t. IsReadUnlessCommitted (history ++ new ∷ []) t t.ending) transactions new
          (λ t among. reads-grown history t new t.ending (so_far.others t among))
          (subst (λ (e : Ending). IsReadUnlessCommitted (history ++ new ∷ []) new e) (sym commits) tt);
      rising = rising-next (λ t among. record {
        no_fall = omega (arith, so_far.counted t among, number-new);
        above = λ is. omega (arith, so_far.counted t among, number-new);
      });
      counted = each (λ t. ending_number t.ending ≤ length (history ++ new ∷ [])) transactions new
          (λ t among. omega (arith, so_far.counted t among, length-append history (new ∷ [])))
          (omega (arith, number-new, length-append history (new ∷ [])));
      named = named-next;
    }

  -- a transaction that doesn't
  module _ (numbered : ending_number new.ending ≡ length history) (uncommitted : IsCommitted new.ending → ⊥) (read : IsReadUnlessCommitted history new new.ending) where
    -- each commit is at its place still
    placed-read : (k : ℕ) (t : Transaction) → Contains (transactions ++ new ∷ []) t → t.ending ≡ Commit k → (0 < k) × (slice_get history (k - 1) ≡ Some t)
    placed-read k t among is =
        ⊎_elim (λ there. so_far.is_history.placed k t there is)
        (λ (is_new : new ≡ t). absurd (uncommitted (subst IsCommitted (sym (ap (λ (v : Transaction). v.ending) is_new ∙ is)) tt)))
        (Contains-push_cases transactions new t among)

    -- what held so far holds on with a transaction that doesn't
    pub read-next : IsSoFar (transactions ++ new ∷ []) history (next + 1)
    read-next = record {
      is_history = record {
        printed = λ k t is. let p = so_far.is_history.printed k t is in (p.0, Contains-append_left transactions (new ∷ []) t p.1);
        placed = placed-read;
      };
      is_legal = so_far.is_legal;
      others = each (λ t. IsReadUnlessCommitted history t t.ending) transactions new so_far.others read;
      rising = rising-next (λ t among. record { no_fall = omega (arith, so_far.counted t among, numbered); above = λ is. absurd (uncommitted is) });
      counted = each (λ t. ending_number t.ending ≤ length history) transactions new so_far.counted (omega (arith, numbered));
      named = named-next;
    }
