-- A sound machine answers an event in one way: what a put or a check meets is determined, and so are the cells of a part.
use Rattle.std.proofs.Common.{◌≡◌, ◌∙◌, inl, inr, ⊎_elim, refl, sym, ap, ap₂, subst, ℕ, ◌≤◌, true, List, [], ◌∷◌, le_antisymm, arith}
use Rattle.std.proofs.lemmas.Bool.{true≢false}
use Rattle.hc_range.specs.Order.{is_below}
use Rattle.hc_range.specs.declared.range.Range.{Range}
use Rattle.hc_base.specs.Lookup.{Among}
use Rattle.hc_core.specs.Account.{Txn, HasWritten, part_of, WhenOpen}
use Rattle.hc_core.specs.Versions.{AreCellsAfter, AreAscending, IsBelowEach, IsLatestVersion, IsInTheWay, IsBetween, IsFound}
use Rattle.hc_core.specs.Machine.{Machine, Names, txns_of, IsFree, IsAnswer, IsPutAnswer, IsCheckAnswer, IsDecideAnswer, Answers}
use Rattle.hc_core.specs.Sound.{AreSound, IsSound}
use Rattle.hc_core.specs.declared.cells.Cell.{Cell}
use Rattle.hc_core.specs.declared.event.Event.{Event}
use Rattle.hc_core.specs.declared.event.Event.TheVariants.{Begin, Draw, Read, Put, Propose, Check, Decide, Unput, End, Purge}
use Rattle.hc_core.specs.declared.outcome.Met.{Met as MetRecord}
use Rattle.hc_core.specs.declared.outcome.Outcome.{Outcome}
use Rattle.hc_core.specs.declared.outcome.Outcome.TheVariants.{Cells, Met}
use Rattle.hc_range.proofs.ByteOrder.{below_irrefl, below_flip, same_from_neither}
use Rattle.hc_core.proofs.Ordered.{one_place, newest_or_older}
use Rattle.hc_base.proofs.Lookups.{rest_there}
use Rattle.hc_core.proofs.WriteSets.{nothing_written}

-- a key is below that of each cell after it
below_each : (key : List ℕ) (cells : List Cell) (cell : Cell) → IsBelowEach key cells → Among cell cells → is_below key cell.key ≡ true
below_each key [] cell below there = elim there [ ]
below_each key (c ∷ cells) cell below there =
    ⊎_elim (λ same. subst (λ (d : Cell). is_below key d.key ≡ true) (sym same) below.0) (λ following. below_each key cells cell below.1 following) there

-- a cell is not after itself
not_following : (cell : Cell) (cells : List Cell) → IsBelowEach cell.key cells → Among cell cells → ⊥
not_following cell cells below there = true≢false (sym (below_each cell.key cells cell below there) ∙ below_irrefl cell.key)

-- two lists that ascend and have the same cells are one
ascending_one : (xs ys : List Cell) → AreAscending xs → AreAscending ys → ((cell : Cell) → Among cell xs → Among cell ys) → ((cell : Cell) → Among cell ys → Among cell xs) → xs ≡ ys
ascending_one [] [] x_up y_up there back = refl
ascending_one [] (y ∷ ys) x_up y_up there back = absurd (back y (inl refl))
ascending_one (x ∷ xs) [] x_up y_up there back = absurd (there x (inl refl))
ascending_one (x ∷ xs) (y ∷ ys) x_up y_up there back =
    ap₂ (λ (c : Cell) (cs : List Cell). c ∷ cs) first
    (ascending_one xs ys x_up.1 y_up.1
    (λ cell following. ⊎_elim (λ (same : cell ≡ y). absurd (not_following x xs x_up.0 (subst (λ (c : Cell). Among c xs) (same ∙ sym first) following))) (λ y_following. y_following) (there cell (inr following)))
    (λ cell following. ⊎_elim (λ (same : cell ≡ x). absurd (not_following y ys y_up.0 (subst (λ (c : Cell). Among c ys) (same ∙ first) following))) (λ x_following. x_following) (back cell (inr following))))
  where
    first : x ≡ y
    first =
        ⊎_elim (λ same. same)
        (λ x_following. ⊎_elim (λ same. sym same)
        (λ y_following. absurd (true≢false (sym (below_each x.key xs y x_up.0 y_following) ∙ below_flip y.key x.key (below_each y.key ys x y_up.0 x_following))))
        (back y (inl refl)))
        (there x (inl refl))

-- the cells of a part are determined
cells_one : (of : ℕ → List Txn) (k : ℕ) (part : Range) (xs ys : List Cell) → AreCellsAfter of k part xs → AreCellsAfter of k part ys → xs ≡ ys
cells_one of k part xs ys x y =
    ascending_one xs ys x.ascending y.ascending
    (λ cell there. (y.exact cell.key cell.rec).1 ((x.exact cell.key cell.rec).0 there))
    (λ cell there. (x.exact cell.key cell.rec).1 ((y.exact cell.key cell.rec).0 there))

-- whom a refusal names is determined by the transaction, its connection and the key
names_one : (one other : MetRecord) (j k : ℕ) (u v : Txn) (key at : List ℕ) → j ≡ k → u ≡ v → key ≡ at → Names one j u key → Names other k v at → one ≡ other
names_one one other j k u v key at same_conn same_txn same_key a b =
    let tid : one.tid.0 ≡ other.tid.0 = a.0 ∙ ap (λ (t : Txn). t.id) same_txn ∙ sym b.0 in
    let conn : one.conn ≡ other.conn = a.1 ∙ same_conn ∙ sym b.1 in
    let ord : one.ord ≡ other.ord = a.2 ∙ ap (λ (t : Txn). t.ord) same_txn ∙ sym b.2 in
    let met_key : one.key ≡ other.key = a.3 ∙ same_key ∙ sym b.3 in
    λ d. record { tid = record { 0 = tid d }; conn = conn d; ord = ord d; key = met_key d }

module _ {size : ℕ} {log : ℕ → ℕ} {of : ℕ → List Txn} (s : AreSound size log of) where
  -- of a connection only the newest transaction has puts that are undecided
  open_one : (j : ℕ) (u v : Txn) (key : List ℕ) → Among u (of j) → Among v (of j) → u.place ≡ 0 → v.place ≡ 0 → HasWritten u key → HasWritten v key → u ≡ v
  open_one j u v key u_there v_there u_open v_open u_written v_stands = by_list (of j) refl u_there
    where
      by_list : (ts : List Txn) → of j ≡ ts → Among u ts → u ≡ v
      by_list [] is there = elim there [ ]
      by_list (t ∷ rest) is there =
          let is_newest : (w : Txn) → Among w (of j) → w.place ≡ 0 → HasWritten w key → w ≡ t =
          newest_or_older s j t rest is (λ w. w.place ≡ 0 → HasWritten w key → w ≡ t) (λ w_open written. refl)
          (λ w following after w_open written. absurd (nothing_written w ((s.each j w (rest_there of j t rest is w following)).writes.rolled_back after.ended w_open) key written)) in
          is_newest u u_there u_open u_written ∙ sym (is_newest v v_there v_open v_stands)

  -- the first version of a key is determined
  pub first_one : (key : List ℕ) (j k : ℕ) (u v : Txn) → IsLatestVersion of key j u → IsLatestVersion of key k v → (j ≡ k) × (u ≡ v)
  first_one key j k u v a b =
      ⊎_elim
      (λ (u_open : u.place ≡ 0). ⊎_elim
      (λ (v_open : v.place ≡ 0).
      let here : k ≡ j = (s.each j u a.0).holds.alone u_open k v key b.0 v_open a.1 b.1 in
      (sym here, open_one j u v key a.0 (subst (λ n. Among v (of n)) here b.0) u_open v_open a.1 b.1))
      (λ v_first. absurd ((v_first.1 j u a.0 a.1).0 u_open)) b.2)
      (λ u_first. ⊎_elim
      (λ (v_open : v.place ≡ 0). absurd ((u_first.1 k v b.0 b.1).0 v_open))
      (λ v_first. one_place s j k u v a.0 b.0 u_first.0 (le_antisymm (v_first.1 j u a.0 a.1).1 (u_first.1 k v b.0 b.1).1)) b.2)
      a.2

  -- what a check finds is determined
  found_one : (snapshot number : ℕ) (part : Range) (key at : List ℕ) (j k : ℕ) (u v : Txn) → IsFound of snapshot number part key j u → IsFound of snapshot number part at k v
      → (key ≡ at) × ((j ≡ k) × (u ≡ v))
  found_one snapshot number part key at j k u v a b =
      let same : key ≡ at = same_from_neither key at (b.least key j u a.inside a.between) (a.least at k v b.inside b.between) in
      let up : u.place ≤ v.place = b.newest j u (subst (λ (n : List ℕ). IsBetween of snapshot number n j u) same a.between) in
      let down : v.place ≤ u.place = a.newest k v (subst (λ (n : List ℕ). IsBetween of snapshot number n k v) (sym same) b.between) in
      (same, one_place s j k u v a.between.0 b.between.0 (λ none. omega (arith, none, a.between.1)) (omega arith))

module _ (m : Machine) (s : IsSound m) where
  -- a put has one answer
  put_one : (i : ℕ) (key : List ℕ) (t : Txn) (o p : Outcome) → IsPutAnswer m i key t o → IsPutAnswer m i key t p → o ≡ p
  put_one i key t o p a b =
      ⊎_elim
      (λ x. ⊎_elim
      (λ y. let same = first_one s.sound key x.1 y.1 x.2 y.2 x.3.0 y.3.0 in
      x.5 ∙ ap Met (names_one x.0 y.0 x.1 y.1 x.2 y.2 key key same.0 same.1 refl x.4 y.4) ∙ sym y.5)
      (λ y. absurd (not_free x.1 x.2 x.3 y.0)) b)
      (λ x. ⊎_elim (λ y. absurd (not_free y.1 y.2 y.3 x.0)) (λ y. x.1 ∙ sym y.1) b)
      a
    where
      not_free : (j : ℕ) (u : Txn) → IsInTheWay (txns_of m) i t.snapshot key j u → IsFree (txns_of m) i t.snapshot key → ⊥
      not_free j u way free =
          let f = free j u way.0.0 way.0.1 in
          ⊎_elim (λ other. ⊎_elim (λ placed. placed other.0) (λ own. other.1 own) f.0) (λ above. omega (arith, above, f.1)) way.1

  -- a check has one answer
  check_one : (part : Range) (t : Txn) (o p : Outcome) → IsCheckAnswer m part t o → IsCheckAnswer m part t p → o ≡ p
  check_one part t o p a b =
      ⊎_elim
      (λ x. ⊎_elim
      (λ y. let same = found_one s.sound t.snapshot t.proposed part x.1 y.1 x.2 y.2 x.3 y.3 x.4 y.4 in
      x.6 ∙ ap Met (names_one x.0 y.0 x.2 y.2 x.3 y.3 x.1 y.1 same.1.0 same.1.1 same.0 x.5 y.5) ∙ sym y.6)
      (λ y. absurd (y.0 x.1 x.2 x.3 x.4.inside x.4.between)) b)
      (λ x. ⊎_elim (λ y. absurd (x.0 y.1 y.2 y.3 y.4.inside y.4.between)) (λ y. x.1 ∙ sym y.1) b)
      a

  -- a decision has one answer
  decide_one : (t : Txn) (o p : Outcome) → IsDecideAnswer m t o → IsDecideAnswer m t p → o ≡ p
  decide_one t o p a b =
      ⊎_elim
      (λ x. ⊎_elim (λ y. x.1 ∙ sym y.1) (λ y. absurd (y.0 x.0)) b)
      (λ x. ⊎_elim (λ y. absurd (x.0 y.0)) (λ y. x.1 ∙ sym y.1) b)
      a

  -- what both answers of an open transaction are, they are alike
  when_open_one : (ts : List Txn) (P Q : Txn → Type 0) {o p : Outcome} → WhenOpen ts P → WhenOpen ts Q → ((t : Txn) → P t → Q t → o ≡ p) → o ≡ p
  when_open_one [] P Q a b one = elim a [ ]
  when_open_one (t ∷ rest) P Q a b one = one t a.1 b.1

  -- an event that is enabled has one answer
  answer_one : (event : Event) (o p : Outcome) → IsAnswer m event o → IsAnswer m event p → o ≡ p
  answer_one (Begin i) o p a b = a ∙ sym b
  answer_one (Draw i ord) o p a b = a ∙ sym b
  answer_one (Read i from upto) o p a b =
      when_open_one (txns_of m i) (λ t. (cells : List Cell) × AreCellsAfter (txns_of m) t.snapshot (part_of from upto) cells × (o ≡ Cells (record { cells = cells })))
      (λ t. (cells : List Cell) × AreCellsAfter (txns_of m) t.snapshot (part_of from upto) cells × (p ≡ Cells (record { cells = cells }))) a b
      (λ t x y. x.2 ∙ ap (λ (cells : List Cell). Cells (record { cells = cells })) (cells_one (txns_of m) t.snapshot (part_of from upto) x.0 y.0 x.1 y.1) ∙ sym y.2)
  answer_one (Put i key rec) o p a b = when_open_one (txns_of m i) (λ t. IsPutAnswer m i key t o) (λ t. IsPutAnswer m i key t p) a b (λ t. put_one i key t o p)
  answer_one (Propose i) o p a b = a ∙ sym b
  answer_one (Check i from upto) o p a b = when_open_one (txns_of m i) (λ t. IsCheckAnswer m (part_of from upto) t o) (λ t. IsCheckAnswer m (part_of from upto) t p) a b (λ t. check_one (part_of from upto) t o p)
  answer_one (Decide i) o p a b = when_open_one (txns_of m i) (λ t. IsDecideAnswer m t o) (λ t. IsDecideAnswer m t p) a b (λ t. decide_one t o p)
  answer_one (Unput i key) o p a b = a ∙ sym b
  answer_one (End i) o p a b = a ∙ sym b
  answer_one (Purge key) o p a b = a ∙ sym b

-- an event has one answer
pub answers_one : (m : Machine) (event : Event) (o p : Outcome) → IsSound m → Answers m event o → Answers m event p → o ≡ p
answers_one m event o p s a b =
    ⊎_elim
    (λ x. ⊎_elim (λ y. answer_one m s event o p x.1 y.1) (λ y. absurd (y.0 x.0)) b)
    (λ x. ⊎_elim (λ y. absurd (x.0 y.0)) (λ y. x.1 ∙ sym y.1) b)
    a
