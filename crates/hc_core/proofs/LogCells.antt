-- The cells of a range after entries of the log are those after as many commits.
use Rattle.std.proofs.Common.{◌≡◌, ◌∙◌, ◌⊎◌, ◌↔◌, inl, inr, ⊎_elim, refl, sym, ap, subst, ℕ, zero, suc, ◌+◌, ◌<◌, ◌≤◌, Bool, true, false, cond, Option, Some, List, [], ◌∷◌, length, take, arith}
use Rattle.std.proofs.lemmas.Bool.{false≢true, true≢false, cases_Bool, cases_eq, cond_both}
use Rattle.hc_range.specs.declared.range.Range.{Range}
use Rattle.hc_base.specs.Lookup.{Among}
use Rattle.hc_core.specs.Account.{Txn, HoldsKey}
use Rattle.hc_core.specs.Versions.{PutAt, AreAscending, AreCellsAfter}
use Rattle.hc_core.specs.Running.{holds_key}
use Rattle.hc_core.specs.Sound.{AreSound, IsAbsent, HasEachOnce}
use Rattle.hc_core.specs.Commits.{AreCommits, writes_at, is_in, set_cell, cells_with, cells_of}
use Rattle.hc_core.specs.declared.cells.Cell.{Cell}
use Rattle.hc_core.specs.declared.cells.Write.{Write}
use Rattle.hc_core.specs.declared.commit.Commit.{Commit}
use Rattle.hc_core.proofs.CellOrder.{set_ascending, set_exact}
use Rattle.hc_core.proofs.LogEntries.{holds_from, holds_into, writer_at, put_at_place}
use Rattle.hc_core.proofs.LogLeast.{in_range, in_test}

-- each key has one record or tombstone among writes
abbrev pub HasOneEach : List Write → Type 0
HasOneEach ws = (key : List ℕ) (a b : Option (List ℕ)) → Among (record { key = key; rec = a }) ws → Among (record { key = key; rec = b }) ws → a ≡ b

absent_none : (key : List ℕ) (ws : List Write) → IsAbsent key ws → (rec : Option (List ℕ)) → Among (record { key = key; rec = rec }) ws → ⊥
absent_none key [] none rec there = there
absent_none key (w ∷ ws) none rec there = ⊎_elim (λ same. none.0 (sym (ap (λ (v : Write). v.key) same))) (λ following. absent_none key ws none.1 rec following) there

absent_as : (key : List ℕ) (w : Write) (ws : List Write) → IsAbsent w.key ws → (a b : Option (List ℕ)) → record { key = key; rec = a } ≡ w → Among (record { key = key; rec = b }) ws → ⊥
absent_as key w ws none a b same there =
    absent_none w.key ws none b (subst (λ (k : List ℕ). Among (record { key = k; rec = b }) ws) (ap (λ (v : Write). v.key) same) there)

-- where each key is written once it has one record or tombstone
pub once_one : (ws : List Write) → HasEachOnce ws → HasOneEach ws
once_one [] once key a b a_there b_there = absurd a_there
once_one (w ∷ ws) once key a b a_there b_there =
    ⊎_elim
    (λ a_first. ⊎_elim (λ b_first. ap (λ (v : Write). v.rec) (a_first ∙ sym b_first)) (λ b_later. absurd (absent_as key w ws once.0 a b a_first b_later)) b_there)
    (λ a_later. ⊎_elim (λ b_first. absurd (absent_as key w ws once.0 b a b_first a_later)) (λ b_later. once_one ws once.1 key a b a_later b_later) b_there)
    a_there

set_if : (b : Bool) (w : Write) (cells : List Cell) → AreAscending cells → (k r : List ℕ)
    → Among (record { key = k; rec = r }) (cond b (set_cell w.key w.rec cells) cells)
    ↔ (((b ≡ true) × (k ≡ w.key) × (w.rec ≡ Some r)) ⊎ (((b ≡ true) → k ≡ w.key → ⊥) × Among (record { key = k; rec = r }) cells))
set_if true w cells ascending k r =
    let e = set_exact w.key w.rec cells ascending k r in (
      λ there. ⊎_elim (λ set. inl (refl, set.0, set.1)) (λ other. inr ((λ _ same. other.0 same), other.1)) (e.0 there),
      λ set. e.1 (⊎_elim (λ here. inl (here.1, here.2)) (λ other. inr (other.0 refl, other.1)) set),
    )
set_if false w cells ascending k r = (
  λ there. inr ((λ on. absurd (false≢true on)), there),
  λ set. ⊎_elim (λ here. absurd (false≢true here.0)) (λ other. other.1) set,
)

if_ascending : (range : Range) (w : Write) (cells : List Cell) → AreAscending cells → AreAscending (cond (is_in range w.key) (set_cell w.key w.rec cells) cells)
if_ascending range w cells ascending =
    cond_both (is_in range w.key) (set_cell w.key w.rec cells) cells AreAscending (λ _. set_ascending w.key w.rec cells ascending) (λ _. ascending)

-- cells stay in ascending order when writes are set
pub with_ascending : (range : Range) (cells : List Cell) (ws : List Write) → AreAscending cells → AreAscending (cells_with range cells ws)
with_ascending range cells [] ascending = ascending
with_ascending range cells (w ∷ ws) ascending =
    with_ascending range (cond (is_in range w.key) (set_cell w.key w.rec cells) cells) ws (if_ascending range w cells ascending)

-- a key of the range and a record are what a write puts, or they were there, and no write puts such a key
abbrev pub IsWrittenOrOther : Range → List Write → List Cell → List ℕ → List ℕ → Type 0
IsWrittenOrOther range ws cells k r =
    ((is_in range k ≡ true) × Among (record { key = k; rec = Some r }) ws)
    ⊎ ((is_in range k ≡ true → HoldsKey ws k → ⊥) × Among (record { key = k; rec = r }) cells)

-- what is among cells after writes are set
pub with_exact : (range : Range) (cells : List Cell) (ws : List Write) → AreAscending cells → HasOneEach ws → (k r : List ℕ)
    → Among (record { key = k; rec = r }) (cells_with range cells ws) ↔ IsWrittenOrOther range ws cells k r
with_exact range cells [] ascending one k r = (
  λ there. inr ((λ _ held. held.1), there),
  λ written. ⊎_elim (λ here. absurd here.1) (λ other. other.1) written,
)
with_exact range cells (w ∷ ws) ascending one k r =
    let now = set_if (is_in range w.key) w cells ascending k r in
    let following = with_exact range (cond (is_in range w.key) (set_cell w.key w.rec cells) cells) ws (if_ascending range w cells ascending)
    (λ key a b a_there b_there. one key a b (inr a_there) (inr b_there)) k r in (
      λ there. ⊎_elim
          (λ here. inl (here.0, inr here.1))
          (λ other. ⊎_elim
          (λ set. inl (
            subst (λ (x : List ℕ). is_in range x ≡ true) (sym set.1) set.0,
            inl (ap (λ (x : List ℕ). record { key = x; rec = Some r }) set.1 ∙ ap (λ (x : Option (List ℕ)). record { key = w.key; rec = x }) (sym set.2)),
          ))
          (λ rest. inr (
            (λ inside held. ⊎_elim
                (λ same. rest.0 (subst (λ (x : List ℕ). is_in range x ≡ true) (ap (λ (v : Write). v.key) same) inside) (ap (λ (v : Write). v.key) same))
                (λ later. other.0 inside (held.0, later)) held.1),
            rest.1,
          ))
          (now.0 other.1))
          (following.0 there),
      λ written. following.1 (⊎_elim
          (λ here. ⊎_elim
          (λ same. ⊎_elim
          (λ held. let h = holds_into k ws held in
          inl (here.0, subst (λ (x : Option (List ℕ)). Among (record { key = k; rec = x }) ws) (one k h.0 (Some r) (inr h.1) (inl same)) h.1))
          (λ none. inr (
            (λ _ held. true≢false (sym (holds_from k ws held) ∙ none)),
            now.1 (inl (subst (λ (x : List ℕ). is_in range x ≡ true) (ap (λ (v : Write). v.key) same) here.0, ap (λ (v : Write). v.key) same, sym (ap (λ (v : Write). v.rec) same))),
          ))
          (cases_Bool (holds_key k ws)))
          (λ later. inl (here.0, later))
          here.1)
          (λ other. inr (
            (λ inside held. other.0 inside (held.0, inr held.1)),
            now.1 (inr ((λ on same. other.0 (subst (λ (x : List ℕ). is_in range x ≡ true) (sym same) on) (w.rec, inl (ap (λ (x : List ℕ). record { key = x; rec = w.rec }) same))), other.1)),
          ))
          written),
    )

-- one more entry
pub cells_step : (range : Range) (cells : List Cell) (commits : List Commit) (k : ℕ) → k < length commits
    → cells_of range cells (take (suc k) commits) ≡ cells_with range (cells_of range cells (take k commits)) (writes_at commits k)
cells_step range cells [] k within = absurd (omega arith)
cells_step range cells (commit ∷ commits) zero within = refl
cells_step range cells (commit ∷ commits) (suc k) within = cells_step range (cells_with range cells commit.writes.items) commits k (omega arith)

-- the cells after one more commit, which puts each of the writes and no others
pub cells_next : (of : ℕ → List Txn) (part : Range) (k : ℕ) (cells : List Cell) (ws : List Write) → HasOneEach ws
    → ((key : List ℕ) (rec : Option (List ℕ)) → PutAt of (k + 1) key rec ↔ Among (record { key = key; rec = rec }) ws)
    → AreCellsAfter of k part cells → AreCellsAfter of (k + 1) part (cells_with part cells ws)
cells_next of part k cells ws one puts was = record {
  ascending = with_ascending part cells ws was.ascending;
  exact = λ key rec.
      let e = with_exact part cells ws was.ascending one key rec in (
        λ there. ⊎_elim
            (λ here. (in_range part key here.0, (k + 1, omega arith, (puts key (Some rec)).1 here.1, λ d other above upto put. omega (arith, above, upto))))
            (λ other. let p = (was.exact key rec).0 other.1 in (
              p.0,
              (
                p.1.0,
                omega (arith, p.1.1),
                p.1.2,
                λ d o above upto put. ⊎_elim
                    (λ (last : d ≡ k + 1). other.0 (in_test part key p.0) (o, (puts key o).0 (subst (λ n. PutAt of n key o) last put)))
                    (λ differ. p.1.3 d o above (omega (arith, upto, differ)) put)
                    (cases_eq d (k + 1)),
              ),
            ))
            (e.0 there),
        λ p. e.1 (⊎_elim
            (λ (last : p.1.0 ≡ k + 1). inl (in_test part key p.0, (puts key (Some rec)).0 (subst (λ n. PutAt of n key (Some rec)) last p.1.2)))
            (λ differ. inr (
              (λ _ held. p.1.3 (k + 1) held.0 (omega (arith, p.1.1, differ)) (omega arith) ((puts key held.0).1 held.1)),
              (was.exact key rec).1 (p.0, (p.1.0, omega (arith, p.1.1, differ), p.1.2, λ d o above upto put. p.1.3 d o above (omega (arith, upto)) put)),
            ))
            (cases_eq p.1.0 (k + 1))),
      );
}

-- before all commits there are none
pub cells_first : (of : ℕ → List Txn) (part : Range) → AreCellsAfter of 0 part []
cells_first of part = record { ascending = tt; exact = λ key rec. (λ there. absurd there, λ p. absurd (p.1.2.4 (omega (arith, p.1.1)))) }

module _ {size : ℕ} {log : ℕ → ℕ} {of : ℕ → List Txn} (s : AreSound size log of) (commits : List Commit) (are : AreCommits of 1 commits) (long : length commits ≡ size) where
  pub one_each : (k : ℕ) → k < length commits → HasOneEach (writes_at commits k)
  one_each k within key a b a_there b_there =
      let w = writer_at of commits 1 k are within in
      once_one w.1.write_set (s.each w.0 w.1 w.2).writes.once key a b ((w.4 (record { key = key; rec = a })).0 a_there) ((w.4 (record { key = key; rec = b })).0 b_there)

  pub entry_puts : (k : ℕ) → k < length commits → (key : List ℕ) (rec : Option (List ℕ))
      → PutAt of (k + 1) key rec ↔ Among (record { key = key; rec = rec }) (writes_at commits k)
  entry_puts k within key rec =
      let e = put_at_place s commits are long k key rec in (λ put. (e.0 put).1, λ there. e.1 (within, there))

  -- the cells of a range after the first k entries are those after k commits
  pub cells_are : (part : Range) (k : ℕ) → k ≤ length commits → AreCellsAfter of k part (cells_of part [] (take k commits))
  cells_are part zero within = cells_first of part
  cells_are part (suc k) within =
      let here : k < length commits = omega arith in
      let next : k + 1 ≡ suc k = omega arith in
      subst (λ n. AreCellsAfter of n part (cells_of part [] (take (suc k) commits))) next
      (subst (AreCellsAfter of (k + 1) part) (sym (cells_step part [] commits k here))
      (cells_next of part k (cells_of part [] (take k commits)) (writes_at commits k) (one_each k here) (entry_puts k here) (cells_are part k (omega arith))))
