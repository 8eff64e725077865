-- The cells of a range, found from those after fewer entries of the log.
use Rattle.std.proofs.Common.{◌≡◌, ◌∙◌, ◌↔◌, refl, sym, ap, subst, ℕ, zero, suc, ◌+◌, ◌-◌, ◌<◌, ◌≤◌, Bool, true, false, not, ◌&&◌, cond, filter, Option, Some, List, [], ◌∷◌, ◌++◌, length, map, take, drop, get_or, arith}
use Rattle.std.proofs.lemmas.Bool.{cond_both}
use Rattle.std.proofs.lemmas.List.{drop-map, drop-take, get_or-drop, length-append, length-drop, take-append-le}
use Rattle.hc_base.specs.Lookup.{Among}
use Rattle.hc_range.specs.declared.range.Range.{Range}
use Rattle.hc_range.proofs.ByteOrder.{empty_least}
use Rattle.hc_core.specs.Account.{Txn}
use Rattle.hc_core.specs.Base.{AreCellsFrom, IsBased, after_all, all_keys, cells_within, with_all}
use Rattle.hc_core.specs.Commits.{AreCommits, cells_of, cells_with, is_in, set_cell, writes_at}
use Rattle.hc_core.specs.Sound.{AreSound}
use Rattle.hc_core.specs.Versions.{AreAscending, AreCellsAfter, IsBelowEach}
use Rattle.hc_core.specs.declared.base.Base.{Base}
use Rattle.hc_core.specs.declared.cells.Cell.{Cell}
use Rattle.hc_core.specs.declared.cells.Write.{Write}
use Rattle.hc_core.specs.declared.commit.Commit.{Commit}
use Rattle.hc_core.proofs.Elements.{among_filter}
use Rattle.hc_core.proofs.LogCells.{cells_are, cells_next, cells_step, entry_puts, one_each}
use Rattle.hc_core.proofs.LogEntries.{writes_there}
use Rattle.hc_core.proofs.LogLeast.{in_range, in_test}

-- each key is one of all
all_in : (key : List ℕ) → is_in all_keys key ≡ true
all_in key = ap (λ (b : Bool). not b && true) (empty_least key)

with_all_is : (cells : List Cell) (ws : List Write) → with_all cells ws ≡ cells_with all_keys cells ws
with_all_is cells [] = refl
with_all_is cells (w ∷ ws) =
    with_all_is (set_cell w.key w.rec cells) ws ∙ ap (λ (b : Bool). cells_with all_keys (cond b (set_cell w.key w.rec cells) cells) ws) (sym (all_in w.key))

after_all_is : (cells : List Cell) (commits : List Commit) → after_all cells commits ≡ cells_of all_keys cells commits
after_all_is cells [] = refl
after_all_is cells (commit ∷ commits) =
    after_all_is (with_all cells commit.writes.items) commits ∙ ap (λ (now : List Cell). cells_of all_keys now commits) (with_all_is cells commit.writes.items)

-- one more entry
all_step : (cells : List Cell) (commits : List Commit) (k : ℕ) → k < length commits
    → after_all cells (take (suc k) commits) ≡ with_all (after_all cells (take k commits)) (writes_at commits k)
all_step cells [] k within = absurd (omega arith)
all_step cells (commit ∷ commits) zero within = refl
all_step cells (commit ∷ commits) (suc k) within = all_step (with_all cells commit.writes.items) commits k (omega arith)

-- before all entries there is no cell
pub based_none : (base : Base) (log : List Commit) → base.cells ≡ [] → base.count ≡ 0 → IsBased base log
based_none base log empty none = record {
  within = omega (arith, none);
  cells = empty ∙ ap (λ n. after_all [] (take n log)) (sym none);
}

-- after one more entry
pub based_more : (base now : Base) (log : List Commit) (entry : Commit) → IsBased base log → base.count < length log → entry ≡ get_or log base.count entry
    → now.cells ≡ with_all base.cells entry.writes.items → now.count ≡ base.count + 1 → IsBased now log
based_more base now log entry was within is set more = record {
  within = omega (arith, within, more);
  cells =
      let next : suc base.count ≡ now.count = omega (arith, more) in
      set ∙ ap (λ (cells : List Cell). with_all cells entry.writes.items) was.cells
      ∙ ap (λ (ws : List Write). with_all (after_all [] (take base.count log)) ws) (ap (λ (c : Commit). c.writes.items) is ∙ sym (writes_there log base.count entry within))
      ∙ sym (all_step [] log base.count within)
      ∙ ap (λ n. after_all [] (take n log)) next;
}

-- a longer log has the same first entries
pub based_pushed : (base : Base) (log : List Commit) (commit : Commit) → IsBased base log → IsBased base (log ++ commit ∷ [])
based_pushed base log commit was = record {
  within = omega (arith, was.within, length-append log (commit ∷ []));
  cells = was.cells ∙ ap (after_all []) (sym (take-append-le base.count log (commit ∷ []) was.within));
}

-- those of cells in order that pass a test are in order
below_filtered : (key : List ℕ) (p : Cell → Bool) (cells : List Cell) → IsBelowEach key cells → IsBelowEach key (filter p cells)
below_filtered key p [] h = tt
below_filtered key p (cell ∷ cells) h =
    cond_both (p cell) (cell ∷ filter p cells) (filter p cells) (IsBelowEach key) (λ _. (h.0, below_filtered key p cells h.1)) (λ _. below_filtered key p cells h.1)

ascending_filtered : (p : Cell → Bool) (cells : List Cell) → AreAscending cells → AreAscending (filter p cells)
ascending_filtered p [] h = tt
ascending_filtered p (cell ∷ cells) h =
    cond_both (p cell) (cell ∷ filter p cells) (filter p cells) AreAscending (λ _. (below_filtered cell.key p cells h.0, ascending_filtered p cells h.1)) (λ _. ascending_filtered p cells h.1)

-- of all cells those of a part
narrowed : (of : ℕ → List Txn) (k : ℕ) (part : Range) (cells : List Cell) → AreCellsAfter of k all_keys cells → AreCellsAfter of k part (cells_within part cells)
narrowed of k part cells are = record {
  ascending = ascending_filtered (λ cell. is_in part cell.key) cells are.ascending;
  exact = λ key rec.
      let e = among_filter (λ (cell : Cell). is_in part cell.key) (record { key = key; rec = rec }) cells in (
        λ there. let both = e.0 there in (in_range part key both.1, ((are.exact key rec).0 both.0).1),
        λ h. e.1 ((are.exact key rec).1 (in_range all_keys key (all_in key), h.1), in_test part key h.0),
      );
}

-- what the entries after the first ones put
rest_writes : (commits : List Commit) (n more : ℕ) → writes_at (drop n commits) more ≡ writes_at commits (n + more)
rest_writes commits n more =
    ap (λ (all : List (List Write)). get_or all more []) (sym (drop-map (λ (commit : Commit). commit.writes.items) n commits))
    ∙ get_or-drop n (map (λ (commit : Commit). commit.writes.items) commits) more []

module _ {size : ℕ} {log : ℕ → ℕ} {of : ℕ → List Txn} (s : AreSound size log of) (commits : List Commit) (are : AreCommits of 1 commits) (long : length commits ≡ size) where
  -- the cells of a part after more entries
  more_cells : (part : Range) (n more : ℕ) (cells : List Cell) → n + more ≤ length commits → AreCellsAfter of n part cells
      → AreCellsAfter of (n + more) part (cells_of part cells (take more (drop n commits)))
  more_cells part n zero cells within was = let same : n ≡ n + zero = omega arith in subst (λ k. AreCellsAfter of k part cells) same was
  more_cells part n (suc more) cells within was =
      let here : n + more < length commits = omega (arith, within) in
      let in_rest : more < length (drop n commits) = omega (arith, within, length-drop n commits) in
      let next : (n + more) + 1 ≡ n + suc more = omega arith in
      let wrote : writes_at (drop n commits) more ≡ writes_at commits (n + more) = rest_writes commits n more in
      subst (λ k. AreCellsAfter of k part (cells_of part cells (take (suc more) (drop n commits)))) next
      (subst (AreCellsAfter of ((n + more) + 1) part)
      (sym (cells_step part cells (drop n commits) more in_rest ∙ ap (cells_with part (cells_of part cells (take more (drop n commits)))) wrote))
      (cells_next of part (n + more) (cells_of part cells (take more (drop n commits))) (writes_at commits (n + more))
      (one_each s commits are long (n + more) here) (entry_puts s commits are long (n + more) here)
      (more_cells part n more cells (omega (arith, within)) was)))

  -- the cells of a part that are found from those after fewer entries are those of the snapshot
  pub from_base : (part : Range) (snapshot : ℕ) (cells : List Cell) → snapshot ≤ length commits → AreCellsFrom part commits snapshot cells
      → AreCellsAfter of snapshot part cells
  from_base part snapshot cells within h =
      let n = h.0 in
      let more = snapshot - n in
      let whole : n + more ≡ snapshot = omega (arith, h.1) in
      let first : AreCellsAfter of n part (cells_within part (after_all [] (take n commits))) =
      narrowed of n part _ (subst (AreCellsAfter of n all_keys) (sym (after_all_is [] (take n commits))) (cells_are s commits are long all_keys n (omega (arith, within, h.1)))) in
      subst (AreCellsAfter of snapshot part)
      (sym (h.2 ∙ ap (cells_of part (cells_within part (after_all [] (take n commits)))) (ap (λ k. drop n (take k commits)) (sym whole) ∙ drop-take n more commits)))
      (subst (λ k. AreCellsAfter of k part (cells_of part (cells_within part (after_all [] (take n commits))) (take more (drop n commits)))) whole
      (more_cells part n more (cells_within part (after_all [] (take n commits))) (omega (arith, whole, within)) first))
