-- A walk over the transactions of a right run of one connection: the history's next one is the next that commits.
use Rattle.std.proofs.Common.{◌≡◌, ◌∙◌, ◌⊎◌, inl, inr, sym, ap, subst, ℕ, ◌+◌, ◌-◌, ◌<◌, ◌≤◌, List, [], ◌∷◌, length, Some, arith, ⊎_elim, fold, take, get_or}
use Rattle.std.specs.Prelude.{Contains, slice_get}
use Rattle.std.proofs.lemmas.Bool.{cases_lt}
use Rattle.std.proofs.lemmas.List.{take_more}
use Rattle.std.proofs.lemmas.List.Elements.{Contains-append_left, Contains-append_right, Contains-push}
use Rattle.std.proofs.lemmas.List.Sums.{fold-append}
use Rattle.std.proofs.lemmas.Option.{slice_get_within, slice_get-get_or, get_or_from_slice_get}
use Rattle.hc_transcript.specs.declared.reply.Ending.TheVariants.{Commit}
use Rattle.hc_meaning.specs.declared.transaction.Transaction.{Transaction}
use Rattle.hc_meaning.specs.Database.{empty_db}
use Rattle.hc_transcript.specs.Text.{ending_number}
use Rattle.hc_meaning.specs.History.{state, after, IsHistory}
use Rattle.hc_meaning.specs.RightOutput.{IsCommitted}
use Rattle.hc_meaning.proofs.SerialRun.AfterEach.{IsAfter}
use Rattle.hc_meaning.proofs.OneRun.Peeled.{cons_cases}

-- the db after one more commit
pub state-more : (history : List Transaction) (k : ℕ) (t : Transaction) → slice_get history k ≡ Some t → state history (k + 1) ≡ after (state history k) t
state-more history k t is =
    ap (λ (h : List Transaction). fold after empty_db h) (take_more history k t (slice_get_within history k t is))
    ∙ fold-append after empty_db (take k history) (get_or history k t ∷ [])
    ∙ ap (after (state history k)) (get_or_from_slice_get history k t t is)

-- the first that is left is among those that are left
pub is_left : (t : Transaction) (later : List Transaction) → Contains (t ∷ later) t
is_left t later = Contains-append_left (t ∷ []) later t (Contains-push [] t)

module _ (transactions history : List Transaction) (is_history : IsHistory transactions history) where
  -- so many of the history's transactions are passed, and these of the connection's are left
  pub record IsAt (commits : ℕ) (left : List Transaction) : Type 0 where
    pub within : commits ≤ length history
    pub among : (t : Transaction) → Contains left t → Contains transactions t
    pub passed : (t : Transaction) → Contains transactions t → (ending_number t.ending ≤ commits) ⊎ Contains left t
    pub no_fall : (t : Transaction) → Contains left t → commits ≤ ending_number t.ending
    pub above : (t : Transaction) → Contains left t → IsCommitted t.ending → commits < ending_number t.ending

  module _ (commits : ℕ) (t : Transaction) (later : List Transaction) (is_at : IsAt commits (t ∷ later)) (is_before : (u : Transaction) → Contains later u → IsAfter t u) where
    -- the history's next transaction is this one, unless this one's number is no higher
    next-is : (u : Transaction) → slice_get history commits ≡ Some u → (t ≡ u) ⊎ (ending_number t.ending ≤ commits)
    next-is u is =
        let p = is_history.printed commits u is in
        let counts : ending_number u.ending ≡ commits + 1 = ap ending_number p.0 in
        ⊎_elim (λ low. absurd (omega (arith, low, counts)))
        (λ there. ⊎_elim (λ same. inl same)
        (λ later. inr (omega (arith, counts, (is_before u later).above (subst IsCommitted (sym p.0) tt))))
        (cons_cases t later u there))
        (is_at.passed u p.1)

    -- where this one's number is higher, it commits next
    next-commits : commits < ending_number t.ending → ending_number t.ending ≤ length history → (slice_get history commits ≡ Some t) × (t.ending ≡ Commit (commits + 1))
    next-commits higher within =
        let u : Transaction = get_or history commits t in
        let is : slice_get history commits ≡ Some u = slice_get-get_or history commits t (omega (arith, higher, within)) in
        ⊎_elim (λ same. let here : slice_get history commits ≡ Some t = is ∙ ap Some (sym same) in (here, (is_history.printed commits t here).0))
        (λ low. absurd (omega (arith, low, higher)))
        (next-is u is)

    -- the walk goes on after it
    pub goes_on : (next : ℕ) → ending_number t.ending ≡ next → next ≤ length history → IsAt next later
    goes_on next counts within = record {
      within = within;
      among = λ u there. is_at.among u (Contains-append_right (t ∷ []) later u there);
      passed = λ u there. ⊎_elim (λ low. inl (omega (arith, low, counts, is_at.no_fall t (is_left t later))))
          (λ left. ⊎_elim (λ (same : t ≡ u). inl (omega (arith, counts, ap (λ (v : Transaction). ending_number v.ending) same))) (λ later. inr later) (cons_cases t later u left))
          (is_at.passed u there);
      no_fall = λ u there. omega (arith, counts, (is_before u there).no_fall);
      above = λ u there is. omega (arith, counts, (is_before u there).above is);
    }

    -- a commit has the next number, and is at its place
    pub commit-next : (k : ℕ) → t.ending ≡ Commit k → (slice_get history commits ≡ Some t) × (k ≡ commits + 1)
    commit-next k is =
        let counts : ending_number t.ending ≡ k = ap ending_number is in
        let p = is_history.placed k t (is_at.among t (is_left t later)) is in
        let inside = slice_get_within history (k - 1) t p.1 in
        let higher = is_at.above t (is_left t later) (subst IsCommitted (sym is) tt) in
        let n = next-commits higher (omega (arith, counts, inside, p.0)) in
        (n.0, sym counts ∙ ap ending_number n.1)

    -- any other has the number of commits so far
    pub other-stays : (IsCommitted t.ending → ⊥) → ending_number t.ending ≤ length history → ending_number t.ending ≡ commits
    other-stays other within =
        ⊎_elim (λ higher. absurd (other (subst IsCommitted (sym (next-commits higher within).1) tt)))
        (λ low. omega (arith, low, is_at.no_fall t (is_left t later)))
        (cases_lt commits (ending_number t.ending))
