-- The last cell of a range under own writes.
use Rattle.std.proofs.Common.{◌≡◌, ◌≢◌, ◌∙◌, refl, sym, ap, subst, ℕ, ◌+◌, ◌<◌, ◌≤◌, zero, suc, Bool, true, false, cond, Option, Some, None, List, [], ◌∷◌, ◌++◌, length, get_or, arith, inl, inr, ◌⊎◌, ◌↔◌}
use Rattle.std.specs.Option.{unwrap_or}
use Rattle.std.proofs.lemmas.Bool.{true≢false, cases_Bool}
use Rattle.hc_range.specs.declared.range.Range.{Range}
use Rattle.hc_range.specs.Order.{is_below}
use Rattle.hc_range.specs.Ranges.{InRange}
use Rattle.hc_range.proofs.ByteOrder.{at_most_trans, below_flip, below_irrefl, below_trans, same_from_neither}
use Rattle.hc_base.specs.Lookup.{Among}
use Rattle.hc_core.specs.Account.{PartRead}
use Rattle.hc_core.specs.Desk.{IsReading}
use Rattle.hc_core.specs.declared.account.Entry.{Entry}
use Rattle.hc_core.specs.declared.cells.Cell.{Cell}
use Rattle.hc_core.specs.declared.cells.Write.{Write}
use Rattle.hc_txn.specs.Lasts.{HasReadDown, HasReadToLast, IsCellIn, IsLastLeft, IsLastOf, IsLastSeen, IsLeft, IsNoneOrCleared, cells_in, later_cell, part_from}
use Rattle.hc_txn.specs.Laying.{IsLastOwn}
use Rattle.hc_txn.specs.Stores.{Store, Agrees, HasExactly, latest, over}
use Rattle.hc_txn.specs.Transactions.{entries_of, reads_of}
use Rattle.hc_txn.proofs.LastRead.{entries_both, part_below_inside, part_inside}
use Rattle.hc_txn.proofs.Logging.{agrees_newer, agrees_older, reads_grown}
use Rattle.hc_txn.proofs.Ranks.{longest, rank, rank_below}

-- above the one cell of a part nothing is
above_alone : (store : Store) (part : Range) (cell : Cell) → HasExactly store part (cell ∷ []) → (key : List ℕ) → InRange part key → is_below cell.key key ≡ true → store key ≡ None
above_alone store part cell exact key inside above = at (store key) refl
  where
    at : (found : Option (List ℕ)) → store key ≡ found → store key ≡ None
    at None e = e
    at (Some rec) e = elim ((exact key rec).1 (inside, e)) [
      | inl same ↦ absurd (true≢false (sym above ∙ ap (λ (c : Cell). is_below cell.key c.key) same ∙ below_irrefl cell.key))
      | inr none ↦ absurd none
    ]

-- where there is no cell there is none at any key
none_there : (store : Store) (part : Range) → HasExactly store part [] → (key : List ℕ) → InRange part key → store key ≡ None
none_there store part exact key inside = at (store key) refl
  where
    at : (found : Option (List ℕ)) → store key ≡ found → store key ≡ None
    at None e = e
    at (Some rec) e = absurd ((exact key rec).1 (inside, e))

-- a cell that was read is the last one that a store has in the range
last_left : (own : List Write) (range : Range) (found : Option Cell) (store : Store) → IsCellIn range found → HasExactly store (part_from range found) (cells_in found) → IsLastLeft own range found store
last_left own range None store inside exact = λ key at. inl (none_there store range exact key at)
last_left own range (Some cell) store inside exact = (
  ((exact cell.key cell.rec).0 (inl refl)).1,
  λ key at above. inl (above_alone store (part_from range (Some cell)) cell exact key (below_flip cell.key key above, at.1) above),
)

-- the first call
pub first_down : (conn : ℕ) (own : List Write) (range : Range) (found : Option Cell) (before after : List Entry) → HasReadToLast conn range found before after → HasReadDown conn own range found before after
first_down conn own range found before after h = record {
  reads = h.1.reads;
  grown = h.1.grown;
  inside = h.0;
  last = λ store agrees. last_left own range found store h.0 (subst (HasExactly store (part_from range found)) (sym h.1.added) (h.1.exact store agrees));
}

-- at a cell that is cleared and above it own writes leave nothing
none_from : (own : List Write) (range : Range) (cell : Cell) (store : Store) → IsLastLeft own range (Some cell) store → latest own cell.key ≡ Some None → (key : List ℕ)
    → InRange range key → is_below key cell.key ≡ false → IsNoneOrCleared own store key
none_from own range cell store h cleared key inside from = elim (cases_Bool (is_below cell.key key)) [
  | inl above ↦ h.1 key inside above
  | inr at ↦ inr (ap (latest own) (same_from_neither key cell.key from at) ∙ cleared)
]

-- a further one, below a cell that is cleared
more_left : (own : List Write) (range : Range) (cell : Cell) (found : Option Cell) (store : Store) → IsLastLeft own range (Some cell) store → latest own cell.key ≡ Some None
    → IsLastLeft own (record { lo = range.lo; hi = Some cell.key }) found store → IsLastLeft own range found store
more_left own range cell None store h cleared g = λ key inside. elim (cases_Bool (is_below key cell.key)) [
  | inl below ↦ g key (inside.0, below)
  | inr from ↦ none_from own range cell store h cleared key inside from
]
more_left own range cell (Some next) store h cleared g = (
  g.0,
  λ key inside above. elim (cases_Bool (is_below key cell.key)) [
    | inl below ↦ g.1 key (inside.0, below) above
    | inr from ↦ none_from own range cell store h cleared key inside from
  ],
)

more_inside : (range : Range) (cell : Cell) (found : Option Cell) → IsCellIn range (Some cell) → IsCellIn (record { lo = range.lo; hi = Some cell.key }) found → IsCellIn range found
more_inside range cell None at inside = tt
more_inside range cell (Some next) at inside = (part_below_inside range cell at next.key inside.0, inside.1, inside.2)

pub more_down : (conn : ℕ) (own : List Write) (range : Range) (cell : Cell) (found : Option Cell) (before between after : List Entry) → HasReadDown conn own range (Some cell) before between
    → latest own cell.key ≡ Some None → HasReadToLast conn (record { lo = range.lo; hi = Some cell.key }) found between after → HasReadDown conn own range found before after
more_down conn own range cell found before between after h cleared g = record {
  reads = g.1.reads ++ h.reads;
  grown = g.1.grown ∙ ap (λ (account : List Entry). entries_of conn g.1.reads ++ account) h.grown ∙ sym (entries_both conn g.1.reads h.reads before);
  inside = more_inside range cell found h.inside g.0;
  last = λ store agrees.
      more_left own range cell found store (h.last store (agrees_older g.1.reads h.reads store agrees)) cleared
      (last_left own (record { lo = range.lo; hi = Some cell.key }) found store g.0
      (subst (HasExactly store (part_from (record { lo = range.lo; hi = Some cell.key }) found)) (sym g.1.added) (g.1.exact store (agrees_newer g.1.reads h.reads store agrees))));
}

-- each store that agrees with all that was read has this last cell
pub down_agrees : (conn : ℕ) (own : List Write) (range : Range) (found : Option Cell) (before after : List Entry) → IsReading before → HasReadDown conn own range found before after → (store : Store)
    → Agrees (reads_of after) store → IsLastLeft own range found store
down_agrees conn own range found before after reading h store agrees =
    h.last store (agrees_newer h.reads (reads_of before) store
    (subst (λ (reads : List PartRead). Agrees reads store) (reads_grown conn h.reads before reading)
    (subst (λ (account : List Entry). Agrees (reads_of account) store) h.grown agrees)))

some_some : (x y : Option (List ℕ)) → Some x ≡ Some y → x ≡ y
some_some x y e = cc

none_some : (x : Option (List ℕ)) → None ≡ Some x → ⊥
none_some x e = cc

-- at a key where no own write puts a record, and that is cleared or has none, there is none
cleared_over : (own : List Write) (store : Store) (key : List ℕ) → ((rec : Option (List ℕ)) → latest own key ≡ Some rec → rec ≡ None) → IsNoneOrCleared own store key → over own store key ≡ None
cleared_over own store key nothing h = at (latest own key) refl
  where
    at : (now : Option (Option (List ℕ))) → latest own key ≡ now → over own store key ≡ None
    at None e =
        ap (λ (n : Option (Option (List ℕ))). unwrap_or n (store key)) e
        ∙ elim h [ inl none ↦ none | inr cleared ↦ absurd (none_some None (sym e ∙ cleared)) ]
    at (Some rec) e = ap (λ (n : Option (Option (List ℕ))). unwrap_or n (store key)) e ∙ nothing rec e

-- at one where no own write puts a record, and that is not cleared, there is what the store has
left_over : (own : List Write) (store : Store) (key : List ℕ) → ((rec : Option (List ℕ)) → latest own key ≡ Some rec → rec ≡ None) → latest own key ≢ Some None → over own store key ≡ store key
left_over own store key nothing left = at (latest own key) refl
  where
    at : (now : Option (Option (List ℕ))) → latest own key ≡ now → over own store key ≡ store key
    at None e = ap (λ (n : Option (Option (List ℕ))). unwrap_or n (store key)) e
    at (Some rec) e = absurd (left (e ∙ ap (λ (r : Option (List ℕ)). Some r) (nothing rec e)))

module _ (own : List Write) (range : Range) (store : Store) where
  -- of an own cell and the cell that was found from its key on, the last one is the last that the transaction sees
  one_of_two : (w c : Cell) (b : Bool) → is_below w.key c.key ≡ b → IsLastOwn range own (Some w) → IsLeft own (Some c) → IsCellIn (part_from range (Some w)) (Some c)
      → IsLastLeft own (part_from range (Some w)) (Some c) store → IsLastOf (over own store) range (cond b (Some c) (Some w))
  one_of_two w c true e h left inside read = (
    (at_most_trans range.lo w.key c.key h.0.0 inside.0.0, inside.0.1),
    left_over own store c.key (λ rec. h.2 c.key rec (at_most_trans range.lo w.key c.key h.0.0 inside.0.0, inside.0.1) e) left ∙ read.0,
    λ key at above.
        let over_w : is_below w.key key ≡ true = below_trans w.key c.key key e above in
        cleared_over own store key (λ rec. h.2 key rec at over_w) (read.1 key (below_flip w.key key over_w, at.1) above),
  )
  one_of_two w c false e h left inside read =
      let same : w.key ≡ c.key = same_from_neither w.key c.key e inside.0.0 in (
        h.0,
        ap (λ (n : Option (Option (List ℕ))). unwrap_or n (store w.key)) h.1,
        λ key at above. cleared_over own store key (λ rec. h.2 key rec at above)
            (read.1 key (below_flip w.key key above, at.1) (subst (λ (k : List ℕ). is_below k key ≡ true) same above)),
      )

  last_of : (o found : Option Cell) → IsLastOwn range own o → IsLeft own found → IsCellIn (part_from range o) found → IsLastLeft own (part_from range o) found store
      → IsLastOf (over own store) range (later_cell o found)
  last_of None None h left inside read = λ key at. cleared_over own store key (λ rec. h key rec at) (read key at)
  last_of None (Some c) h left inside read = (
    inside.0,
    left_over own store c.key (λ rec. h c.key rec inside.0) left ∙ read.0,
    λ key at above. cleared_over own store key (λ rec. h key rec at) (read.1 key at above),
  )
  last_of (Some w) None h left inside read = (
    h.0,
    ap (λ (n : Option (Option (List ℕ))). unwrap_or n (store w.key)) h.1,
    λ key at above. cleared_over own store key (λ rec. h.2 key rec at above) (read key (below_flip w.key key above, at.1)),
  )
  last_of (Some w) (Some c) h left inside read = one_of_two w c (is_below w.key c.key) refl h left inside read

pub last_seen : (conn : ℕ) (own : List Write) (range : Range) (o found : Option Cell) (before after : List Entry) → IsReading before → IsLastOwn range own o → IsLeft own found
    → HasReadDown conn own (part_from range o) found before after → IsLastSeen own range after (later_cell o found)
last_seen conn own range o found before after reading h left down = λ store agrees.
    last_of own range store o found h left down.inside (down_agrees conn own (part_from range o) found before after reading down store agrees)

-- the part of the range that was read is the part from the last cell on
same_later : (range : Range) (w c : Cell) (b : Bool) → is_below w.key c.key ≡ b → IsCellIn (part_from range (Some w)) (Some c)
    → part_from (part_from range (Some w)) (Some c) ≡ part_from range (cond b (Some c) (Some w))
same_later range w c true e inside = refl
same_later range w c false e inside = ap (λ (lo : List ℕ). record { lo = lo; hi = range.hi }) (sym (same_from_neither w.key c.key e inside.0.0))

pub part_later : (range : Range) (o found : Option Cell) → IsCellIn (part_from range o) found → part_from (part_from range o) found ≡ part_from range (later_cell o found)
part_later range None found inside = refl
part_later range (Some w) None inside = refl
part_later range (Some w) (Some c) inside = same_later range w c (is_below w.key c.key) refl inside

-- the part from an own cell's key on lies in the range
pub own_inside : (own : List Write) (range : Range) (o : Option Cell) → IsLastOwn range own o → (key : List ℕ) → InRange (part_from range o) key → InRange range key
own_inside own range None h key inside = inside
own_inside own range (Some w) h key inside = (at_most_trans range.lo w.key key h.0.0 inside.0, inside.1)

-- how much is left below a cell
abbrev pub left_below : Option Cell → ℕ
left_below None = 0
left_below (Some cell) = 1 + rank longest cell.key

pub less_below : (range : Range) (cell : Cell) (found : Option Cell) → IsCellIn range (Some cell) → IsCellIn (record { lo = range.lo; hi = Some cell.key }) found
    → left_below found < left_below (Some cell)
unfolding longest
less_below range cell None at inside = omega arith
less_below range cell (Some next) at inside = omega (arith, rank_below 463 next.key cell.key inside.1 at.1 inside.2 inside.0.1)
