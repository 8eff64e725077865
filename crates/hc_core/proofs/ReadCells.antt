-- What is known of cells that were read.
use Rattle.std.proofs.Common.{◌≡◌, ◌∙◌, ⊎_elim, refl, sym, ap, subst, inl, ℕ, true, false, Some, List, [], ◌∷◌, ◌++◌, length, ◌+◌, ◌-◌, take, drop, arith}
use Rattle.std.proofs.lemmas.List.{length-append, take_all}
use Rattle.std.proofs.Math.Seq.{drop-append_seam}
use Rattle.hc_range.specs.declared.range.Range.{Range}
use Rattle.hc_range.specs.Order.{is_below}
use Rattle.hc_range.specs.Ranges.{InRange}
use Rattle.hc_range.proofs.ByteOrder.{at_most_trans, below_irrefl}
use Rattle.hc_core.specs.Account.{Txn, part_of}
use Rattle.hc_core.specs.Calls.{AreSnapshotCells, HaveShortKeys}
use Rattle.hc_core.specs.Kept.{IsKept, machine_of}
use Rattle.hc_base.specs.Lookup.{Among}
use Rattle.hc_core.specs.Machine.{Machine, txns_of}
use Rattle.hc_core.specs.Versions.{AreAscending, AreCellsAfter, HasAfter, IsBelowEach}
use Rattle.hc_core.specs.declared.account.Entry.{Entry}
use Rattle.hc_core.specs.declared.cells.Cell.{Cell}
use Rattle.hc_core.specs.declared.commit.Commit.{Commit}
use Rattle.hc_core.proofs.Elements.{among_push}
use Rattle.hc_core.proofs.Entered.{opened}
use Rattle.hc_core.proofs.Steps.{when_map}

-- each cell that is read has a key that was put, which is short
pub short_read : (drawn room : ℕ) (commits : List Commit) (accounts : List (List Entry)) → IsKept drawn commits room accounts
    → (k : ℕ) (part : Range) (cells : List Cell) → AreCellsAfter (txns_of (machine_of drawn commits accounts)) k part cells → HaveShortKeys cells
short_read drawn room commits accounts kept k part cells are cell there =
    let put = ((are.exact cell.key cell.rec).0 there).1.2 in
    kept.short put.0 put.1 cell.key put.2 (Some cell.rec, put.5)

-- cells in front are below the last one
below_last : (cells : List Cell) (last cell : Cell) → AreAscending (cells ++ last ∷ []) → Among cell cells → is_below cell.key last.key ≡ true
below_last [] last cell ascending there = absurd there
below_last (first ∷ cells) last cell ascending there =
    ⊎_elim
    (λ same. subst (λ (x : Cell). is_below x.key last.key ≡ true) (sym same) (below_there first.key cells last ascending.0))
    (λ rest. below_last cells last cell ascending.1 rest)
    there
  where
    below_there : (key : List ℕ) (xs : List Cell) (y : Cell) → IsBelowEach key (xs ++ y ∷ []) → is_below key y.key ≡ true
    below_there key [] y below = below.0
    below_there key (x ∷ xs) y below = below_there key xs y below.1

-- the last cell of a range is all that is in the part from its key to the range's end
pub last_alone : (of : ℕ → List Txn) (k : ℕ) (range : Range) (cells : List Cell) (last : Cell) → AreCellsAfter of k range (cells ++ last ∷ [])
    → AreCellsAfter of k (part_of last.key range.hi) (last ∷ []) × InRange range last.key
last_alone of k range cells last are =
    let own = (are.exact last.key last.rec).0 ((among_push last last cells).1 (inl refl)) in (
      record {
        ascending = (tt, tt);
        exact = λ key rec. (
          (λ there. ⊎_elim
              (λ same. subst (λ (x : Cell). InRange (part_of last.key range.hi) x.key × HasAfter of k x.key (Some x.rec)) (sym same) ((below_irrefl last.key, own.0.1), own.1))
              (λ none. absurd none)
              there),
          λ h. ⊎_elim
              (λ same. inl same)
              (λ front. absurd (let e : true ≡ false = sym (below_last cells last (record { key = key; rec = rec }) are.ascending front) ∙ h.0.0 in cc))
              ((among_push (record { key = key; rec = rec }) last cells).0 ((are.exact key rec).1 ((at_most_trans range.lo last.key key own.0.0 h.0.0, h.0.1), h.1))),
        );
      },
      own.0,
    )

-- cells that were added are what follows those before
pub added_cells : (before cells all : List Cell) (count : ℕ) → all ≡ before ++ cells → count ≡ length before → take (length all - count) (drop count all) ≡ cells
added_cells before cells all count is at =
    let rest : drop count all ≡ cells = ap (drop count) is ∙ ap (λ n. drop n (before ++ cells)) at ∙ drop-append_seam before cells in
    let long : length all ≡ length before + length cells = ap length is ∙ length-append before cells in
    ap (take (length all - count)) rest ∙ take_all (length all - count) cells (omega (arith, long, at))

-- so it is for a connection's snapshot
pub last_read : (m : Machine) (i : ℕ) (range part : Range) (cells rest : List Cell) (last : Cell) → AreSnapshotCells m i range cells → cells ≡ rest ++ last ∷ []
    → part ≡ part_of last.key range.hi → AreSnapshotCells m i part (last ∷ []) × InRange range last.key
last_read m i range part cells rest last are is part_is =
    let both = when_map (λ t. AreCellsAfter (txns_of m) t.snapshot range cells) (λ t. AreCellsAfter (txns_of m) t.snapshot (part_of last.key range.hi) (last ∷ []) × InRange range last.key) (txns_of m i)
    (λ t h. last_alone (txns_of m) t.snapshot range rest last (subst (AreCellsAfter (txns_of m) t.snapshot range) is h)) are in (
      subst (λ (p : Range). AreSnapshotCells m i p (last ∷ [])) (sym part_is) (when_map _ _ (txns_of m i) (λ t h. h.0) both),
      (opened (txns_of m i) _ both).holds.1,
    )
