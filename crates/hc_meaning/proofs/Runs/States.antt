-- The cells of the state after k commits are what the first k puts leave, where each commit fits the account.
use Rattle.std.proofs.Common.{◌≡◌, ◌≢◌, ◌↔◌, ◌∙◌, inl, ⊎_elim, sym, subst, ℕ, zero, suc, ◌<◌, ◌≤◌, Some, List, [], arith}
use Rattle.std.specs.Prelude.{slice_get}
use Rattle.std.proofs.lemmas.Option.{none-some}
use Rattle.hc_core.specs.Account.{Txn, HasRead}
use Rattle.hc_base.specs.Lookup.{Among}
use Rattle.hc_core.specs.Running.{HaveSameWrites}
use Rattle.hc_core.specs.Sound.{AreSound, NonePutBetween}
use Rattle.hc_core.specs.Versions.{HasAfter}
use Rattle.hc_core.specs.declared.cells.Cell.{Cell}
use Rattle.hc_core.specs.declared.cells.Write.{Write}
use Rattle.hc_core.proofs.Known.{known_holds}
use Rattle.hc_meaning.specs.Runs.Commits.{after, state}
use Rattle.hc_meaning.specs.Runs.Cut.{Transaction}
use Rattle.hc_meaning.specs.Runs.Fitting.{AgreesWith, FitsOne, PutsFit}
use Rattle.hc_meaning.specs.Runs.Language.{Language, IsLanguage, record_at}
use Rattle.hc_meaning.specs.Runs.Walk.{Close, Finished}
use Rattle.hc_meaning.specs.Runs.Writes.{left_by, writes}
use Rattle.hc_meaning.proofs.Runs.Cells.{at_from, at_into, same_option}
use Rattle.hc_meaning.proofs.Runs.Changes.{change_from, unchanged}
use Rattle.hc_meaning.proofs.Runs.Databases.{fold_next, fold_none, left_is, state_is}
use Rattle.hc_meaning.proofs.Runs.Puts.{after_other, after_same, after_write, none_after}

-- what one change after another makes of equivalences
both_ways : {A B C : Type 0} → A ↔ B → B ↔ C → A ↔ C
both_ways one other = (λ a. other.0 (one.0 a), λ c. one.1 (other.1 c))

other_way : {A B : Type 0} → A ↔ B → B ↔ A
other_way one = (one.1, one.0)

same_as : {A : Type 0} (a b c : A) → a ≡ b → (a ≡ c) ↔ (b ≡ c)
same_as a b c is = (λ e. sym is ∙ e, λ e. is ∙ e)

module _ (L : Language) (laws : IsLanguage L) {size : ℕ} {log : ℕ → ℕ} {of : ℕ → List Txn} (sound : AreSound size log of) (history : List Transaction) where
  -- the history has at place c a transaction that fits the one with commit number c + 1
  pub record CommitAt (c : ℕ) : Type 0 where
    pub t : Transaction
    pub i : ℕ
    pub x : Txn
    pub is : slice_get history c ≡ Some t
    pub there : Among x (of i)
    pub place : x.place ≡ suc c
    pub fits : FitsOne L t x
    pub finished : t.close ≡ Finished

  -- the state after k commits has what the first k put
  abbrev pub HasPuts : ℕ → Type 0
  HasPuts k = (key rec : List ℕ) → (record_at (L.cells (state L history k)) key ≡ Some rec) ↔ HasAfter of k key (Some rec)

  -- a state at or above a snapshot has what was read, where no commit between put any of it
  pub agrees : (k i : ℕ) (x : Txn) → HasPuts k → Among x (of i) → x.snapshot ≤ k
      → ((key : List ℕ) → HasRead x key → NonePutBetween of x.snapshot (suc k) key) → AgreesWith L (state L history k) x.reads
  agrees k i x has there within none read among key inside =
      let cells = (sound.each i x there).reads read among in
      same_option (record_at (L.cells (state L history k)) key) (record_at read.cells key) (λ rec.
      both_ways (has key rec) (both_ways (other_way (after_same of x.snapshot k key within (none key (read, among, inside)) (Some rec))) (
        λ put. at_from read.cells key rec cells.ascending ((cells.exact key rec).1 (inside, put)),
        λ found. ((cells.exact key rec).0 (at_into read.cells key rec found)).1,
      )))

  -- so does the snapshot's own
  pub agrees_at_snapshot : (i : ℕ) (x : Txn) → HasPuts x.snapshot → Among x (of i) → AgreesWith L (state L history x.snapshot) x.reads
  agrees_at_snapshot i x has there = agrees x.snapshot i x has there (omega arith)
      (λ key read c rec above below put. omega (arith, above, below))

  -- and the one before a commit
  pub agrees_before : (k i : ℕ) (x : Txn) → HasPuts k → Among x (of i) → x.place ≡ suc k → AgreesWith L (state L history k) x.reads
  agrees_before k i x has there place =
      let fact = sound.each i x there in
      let placed : x.place ≢ 0 = λ none. omega (arith, none, place) in
      let within = fact.numbers.place_within placed in
      agrees k i x has there (omega (arith, within.0, place))
      (λ key read. subst (λ n. NonePutBetween of x.snapshot n key) place (fact.first placed key (inl read)))

  -- what a commit wrote is what its transaction writes there
  same_writes : (close : Close) (x : Txn) (ws : List Write) → close ≡ Finished → PutsFit close x ws → HaveSameWrites x.write_set ws
  same_writes close x ws finished puts =
      let fit : PutsFit Finished x ws = subst (λ c. PutsFit c x ws) finished puts in
      subst (λ (put : List Write). HaveSameWrites put ws) (sym fit.0) fit.1

  next : (k : ℕ) → CommitAt k → HasPuts k → HasPuts (suc k)
  next k at has key rec =
      let before : L.Db = state L history k in
      let db = state_is L laws history k in
      let step : state L history (suc k) ≡ left_by L before at.t.items = fold_next (after L) L.start history k at.t at.is in
      let agree = agrees_before k at.i at.x has at.there at.place in
      let same = same_writes at.t.close at.x (writes L before at.t.items) at.finished (at.fits.puts_on before db agree).puts in
      let from = laws.ascending before db in
      let to = laws.ascending (left_by L before at.t.items) (left_is L laws before at.t.items db) in
      rw step (⊎_elim
      (λ held.
      let change = change_from (L.cells before) (L.cells (left_by L before at.t.items)) from to (record { key = key; rec = held.0 })
      ((same (record { key = key; rec = held.0 })).0 held.1) in
      both_ways (same_as (record_at (L.cells (left_by L before at.t.items)) key) held.0 (Some rec) change.0)
      (other_way (after_write sound at.i at.x at.there k at.place key held.0 (Some rec) held.1)))
      (λ never.
      let kept = unchanged (L.cells before) (L.cells (left_by L before at.t.items)) from to key
      (λ changed. never (changed.0, (same (record { key = key; rec = changed.0 })).1 changed.1)) in
      both_ways (same_as (record_at (L.cells (left_by L before at.t.items)) key) (record_at (L.cells before) key) (Some rec) kept)
      (both_ways (has key rec) (after_other sound at.i at.x at.there k at.place key (Some rec) never)))
      (known_holds key at.x.write_set))

  first : HasPuts 0
  first key rec =
      let start : state L history 0 ≡ L.start = fold_none (after L) L.start history in (
        λ found.
            let e : record_at [] key ≡ Some rec = subst (λ (cells : List Cell). record_at cells key ≡ Some rec) laws.start_empty
            (subst (λ (db : L.Db). record_at (L.cells db) key ≡ Some rec) start found) in
            absurd (none-some rec e),
        λ has. absurd (none_after of key (Some rec) has),
      )

  -- the state after as many commits as are there has what they put
  pub has_puts : (k : ℕ) → ((c : ℕ) → c < k → CommitAt c) → HasPuts k
  has_puts zero commits = first
  has_puts (suc k) commits = next k (commits k (omega arith)) (has_puts k (λ c below. commits c (omega (arith, below))))
