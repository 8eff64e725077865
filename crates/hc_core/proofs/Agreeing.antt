-- Transactions by connection that agree on which commit put what: the same cells, and the same commits between.
use Rattle.std.proofs.Common.{ℕ, ◌+◌, ◌≤◌, List, Option, Some, arith}
use Rattle.hc_range.specs.declared.range.Range.{Range}
use Rattle.hc_core.specs.declared.cells.Cell.{Cell}
use Rattle.hc_core.specs.Account.{Txn, PartRead, PartChecked}
use Rattle.hc_core.specs.Versions.{PutAt, HasAfter, AreCellsAfter}
use Rattle.hc_core.specs.Sound.{AreSnapshotReads, ChecksAreSound, HoldsAlone, NonePutBetween, NumbersAreSound, RefusalsAreTrue, TxnIsSound}

-- the commits up to n put the same
pub record AgreeUpto (n : ℕ) (of now : ℕ → List Txn) : Type 0 where
  pub there : (c : ℕ) (key : List ℕ) (rec : Option (List ℕ)) → c ≤ n → PutAt of c key rec → PutAt now c key rec
  pub back : (c : ℕ) (key : List ℕ) (rec : Option (List ℕ)) → c ≤ n → PutAt now c key rec → PutAt of c key rec

-- the agreement turned about
turned : {n : ℕ} {of now : ℕ → List Txn} → AgreeUpto n of now → AgreeUpto n now of
turned a = record { there = a.back; back = a.there }

-- what a key has after a commit up to n is the same
has_after-agree : (n : ℕ) (of now : ℕ → List Txn) → AgreeUpto n of now → (k : ℕ) (key : List ℕ) (rec : Option (List ℕ)) → k ≤ n → HasAfter of k key rec → HasAfter now k key rec
has_after-agree n of now a k key rec within h =
    (h.0, h.1, a.there h.0 key rec (omega (arith, h.1)) h.2, λ d other above upto put. h.3 d other above upto (a.back d key other (omega arith) put))

-- the cells of a part are the same after a commit up to n
pub cells-agree : (n : ℕ) (of now : ℕ → List Txn) → AgreeUpto n of now → (k : ℕ) (part : Range) (cells : List Cell) → k ≤ n → AreCellsAfter of k part cells → AreCellsAfter now k part cells
cells-agree n of now a k part cells within h = record {
  ascending = h.ascending;
  exact = λ key rec. (
    λ among. let p = (h.exact key rec).0 among in (p.0, has_after-agree n of now a k key (Some rec) within p.1),
    λ p. (h.exact key rec).1 (p.0, has_after-agree n now of (turned a) k key (Some rec) within p.1),
  );
}

-- a key that no commit put between two numbers, up to n + 1, none put there in the other
pub none-agree : (n : ℕ) (of now : ℕ → List Txn) → AgreeUpto n of now → (snapshot number : ℕ) (key : List ℕ) → number ≤ n + 1 → NonePutBetween of snapshot number key → NonePutBetween now snapshot number key
none-agree n of now a snapshot number key within none c rec above below put = none c rec above below (a.back c key rec (omega arith) put)

-- numbers that are sound stay so over a longer log
pub numbers-longer : {n size id snapshot proposed place : ℕ} → n ≤ size → NumbersAreSound n id snapshot proposed place → NumbersAreSound size id snapshot proposed place
numbers-longer longer h = record {
  snapshot_within = omega (arith, longer, h.snapshot_within);
  undrawn = h.undrawn;
  place_within = λ placed. let p = h.place_within placed in (p.0, omega (arith, longer, p.1));
  proposed_within = omega (arith, longer, h.proposed_within);
  chosen = h.chosen;
}

-- what was read is the same
pub reads-agree : (n : ℕ) (of now : ℕ → List Txn) → AgreeUpto n of now → (snapshot : ℕ) (reads : List PartRead) → snapshot ≤ n → AreSnapshotReads of snapshot reads → AreSnapshotReads now snapshot reads
reads-agree n of now a snapshot reads within h read among = cells-agree n of now a snapshot read.part read.cells within (h read among)

-- what was checked is as it was found
pub checks-agree : (n size : ℕ) (of now : ℕ → List Txn) → AgreeUpto n of now → n ≤ size → {snapshot proposed : ℕ} {checked : List Range} {unchanged : List PartChecked} → proposed ≤ n + 1
    → ChecksAreSound of n snapshot proposed checked unchanged → ChecksAreSound now size snapshot proposed checked unchanged
checks-agree n size of now a longer {snapshot} {proposed} within h = record {
  current = λ part among key inside. none-agree n of now a snapshot proposed key within (h.current part among key inside);
  ever = λ found among. let u = h.ever found among in
      (omega (arith, longer, u.0), λ key inside. none-agree n of now a snapshot found.number key u.0 (u.1 key inside));
}

-- a sound transaction stays so, also over a longer log, where what it says of the others' writes does
pub sound-agree : (n size : ℕ) (of now : ℕ → List Txn) → AgreeUpto n of now → n ≤ size → (i : ℕ) (t : Txn) → TxnIsSound n of i t
    → HoldsAlone now i t.snapshot t.place t.write_set → RefusalsAreTrue now i t.snapshot t.refusals → TxnIsSound size now i t
sound-agree n size of now a longer i t h holds refusals = record {
  numbers = numbers-longer longer h.numbers;
  writes = h.writes;
  holds = holds;
  reads = reads-agree n of now a t.snapshot t.reads h.numbers.snapshot_within h.reads;
  checks = checks-agree n size of now a longer h.numbers.proposed_within h.checks;
  first = λ placed key has. none-agree n of now a t.snapshot t.place key (omega (arith, (h.numbers.place_within placed).1)) (h.first placed key has);
  refusals = refusals;
}
