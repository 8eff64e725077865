-- The entries of an ordered map as cells.
use Rattle.std.proofs.Common.{◌≡◌, ◌∙◌, refl, sym, ap, ℕ, Bool, true, false, cond, Option, Some, None, List, [], ◌∷◌, map, bytes_eq, filter, not, ◌&&◌, is_gt, inl, inr}
use Rattle.std.proofs.lemmas.Bool.{true≢false, cases_Bool}
use Rattle.std.proofs.lemmas.Cmp.{nat_list_cmp_total, tied_itself}
use Rattle.std.proofs.lemmas.Slice.Eq.{bytes_eq-Decides}
use Rattle.std.specs.BTreeMap.{insert_entry}
use Rattle.std.specs.Cmp.Lexicographic.{slice_cmp}
use Rattle.std.specs.FinMap.{nat_cmp-IsAntisymmetric, slice_cmp-IsAntisymmetric}
use Rattle.std.specs.List.{AllByRecursion}
use Rattle.std.specs.List.Sorted.{IsStrictlySortedBy}
use Rattle.std.specs.Map.{keys_of, remove_entry}
use Rattle.std.specs.Ordering.{nat_cmp, is_eq, is_le, is_lt, ordering_reverse, match_ordering}
use Rattle.std.specs.declared.cmp.Ordering.{Ordering}
use Rattle.std.specs.declared.cmp.Ordering.TheVariants.{Less, Equal, Greater}
use Rattle.hc_range.specs.Order.{is_below}
use Rattle.hc_range.specs.Ranges.{is_under}
use Rattle.hc_range.specs.declared.range.Range.{Range}
use Rattle.hc_range.proofs.ByteOrder.{at_most_below}
use Rattle.hc_core.specs.Base.{cells_within}
use Rattle.hc_core.specs.Commits.{is_in, set_cell, set_here}
use Rattle.hc_core.specs.declared.cells.Cell.{Cell}

-- keys that compare alike are one
alike : (a b : List ℕ) → slice_cmp nat_cmp a b ≡ Equal → a ≡ b
alike a b h = slice_cmp-IsAntisymmetric nat_cmp-IsAntisymmetric a b h

is_equal : (o : Ordering) → is_eq o ≡ true → o ≡ Equal
is_equal Less h = absurd (true≢false (sym h))
is_equal Equal h = refl
is_equal Greater h = absurd (true≢false (sym h))

-- the map's test for a key, and the test for equal bytes
same_test : (q k : List ℕ) → is_eq (slice_cmp nat_cmp q k) ≡ bytes_eq k q
same_test q k =
    elim (cases_Bool (bytes_eq k q)) [
      | inl same ↦ ap (λ (b : List ℕ). is_eq (slice_cmp nat_cmp q b)) ((bytes_eq-Decides k q).0 same) ∙ ap is_eq (tied_itself nat_list_cmp_total q) ∙ sym same
      | inr other ↦ elim (cases_Bool (is_eq (slice_cmp nat_cmp q k))) [
        | inl tied ↦ absurd (true≢false (sym ((bytes_eq-Decides k q).1 (sym (alike q k (is_equal _ tied)))) ∙ other))
        | inr apart ↦ apart ∙ sym other
      ]
    ]

-- at a lower end or above, and below an upper end
le_reversed : (o : Ordering) → is_le o ≡ not (is_lt (ordering_reverse o))
le_reversed Less = refl
le_reversed Equal = refl
le_reversed Greater = refl

twice_not : (b : Bool) → not (not b) ≡ b
twice_not true = refl
twice_not false = refl

gt_less : (o : Ordering) → is_lt o ≡ true → is_gt o ≡ false
gt_less Less h = refl
gt_less Equal h = refl
gt_less Greater h = absurd (true≢false (sym h))

from_start : (lo key : List ℕ) → is_le (slice_cmp nat_cmp lo key) ≡ not (is_below key lo)
unfolding is_below
from_start lo key = le_reversed (slice_cmp nat_cmp lo key) ∙ ap (λ (o : Ordering). not (is_lt o)) (sym (nat_list_cmp_total.antisymm key lo))

before_end : (hi key : List ℕ) → not (is_le (slice_cmp nat_cmp hi key)) ≡ is_below key hi
before_end hi key = ap not (from_start hi key) ∙ twice_not (is_below key hi)

-- the ends of a range that is not empty are in order
pub ends_forward : (lo hi : List ℕ) → is_below lo hi ≡ true → is_gt (slice_cmp nat_cmp lo hi) ≡ false
unfolding is_below
ends_forward lo hi h = gt_less (slice_cmp nat_cmp lo hi) h

-- the map's two bounds are the range's
pub in_bounds : (range : Range) (lo hi key : List ℕ) → lo ≡ range.lo → Some hi ≡ range.hi
    → (is_le (slice_cmp nat_cmp lo key) && not (is_le (slice_cmp nat_cmp hi key))) ≡ is_in range key
in_bounds range lo hi key e f =
    (λ i. from_start lo key i && before_end hi key i) ∙ (λ i. not (is_below key (e i)) && is_under key (f i))

pub from_bound : (range : Range) (lo key : List ℕ) → lo ≡ range.lo → None ≡ range.hi → (is_le (slice_cmp nat_cmp lo key) && true) ≡ is_in range key
from_bound range lo key e f =
    (λ i. from_start lo key i && true) ∙ (λ i. not (is_below key (e i)) && is_under key (f i))

-- no key is in a range whose upper end is not above its lower end
pub none_within : (range : Range) (hi : List ℕ) (cells : List Cell) → Some hi ≡ range.hi → is_below range.lo hi ≡ false → cells_within range cells ≡ []
none_within range hi [] is empty = refl
none_within range hi (cell ∷ cells) is empty =
    ap (λ (b : Bool). cond b (cell ∷ cells_within range cells) (cells_within range cells)) outside ∙ none_within range hi cells is empty
  where
    outside : is_in range cell.key ≡ false
    outside =
        elim (cases_Bool (is_below cell.key range.lo)) [
          | inl below ↦ ap (λ (b : Bool). not b && is_under cell.key range.hi) below
          | inr above ↦ ap (λ (b : Bool). not b && is_under cell.key range.hi) above ∙ ap (is_under cell.key) (sym is)
              ∙ elim (cases_Bool (is_below cell.key hi)) [
                | inl under ↦ absurd (true≢false (sym (at_most_below range.lo cell.key hi above under) ∙ empty))
                | inr past ↦ past
              ]
        ]

module _ {K : Type 0} (bytes : K → List ℕ) where
  -- what an entry says
  abbrev pub shown : K × List ℕ → Cell
  shown e = record { key = bytes e.0; rec = e.1 }

  abbrev pub seen : List (K × List ℕ) → List Cell
  seen es = map shown es

  abbrev test : List ℕ → K → Bool
  test q k = is_eq (slice_cmp nat_cmp q (bytes k))

  abbrev order : K → K → Ordering
  order a b = slice_cmp nat_cmp (bytes a) (bytes b)

  -- a cell is set in one step of three
  abbrev in_step : Bool → Bool → List ℕ → Option (List ℕ) → Cell → List Cell → List Cell
  in_step below same key rec cell cells = cond below (cell ∷ set_cell key rec cells) (set_here key rec (cond same cells (cell ∷ cells)))

  step_is : (q : List ℕ) (rec : Option (List ℕ)) (e : K × List ℕ) (cells : List Cell)
      → in_step (is_lt (ordering_reverse (slice_cmp nat_cmp q (bytes e.0)))) (test q e.0) q rec (shown e) cells ≡ set_cell q rec (shown e ∷ cells)
  unfolding is_below
  step_is q rec e cells =
      ap (λ (o : Ordering). in_step (is_lt o) (test q e.0) q rec (shown e) cells) (sym (nat_list_cmp_total.antisymm (bytes e.0) q))
      ∙ ap (λ (b : Bool). in_step (is_below (bytes e.0) q) b q rec (shown e) cells) (same_test q (bytes e.0))

  add_step : (o : Ordering) (k : K) (v : List ℕ) (e : K × List ℕ) (es : List (K × List ℕ)) → (o ≡ Equal → bytes k ≡ bytes e.0)
      → seen (insert_entry order es k v) ≡ set_cell (bytes k) (Some v) (seen es)
      → seen (match_ordering o ((k, v) ∷ e ∷ es) ((e.0, v) ∷ es) (e ∷ insert_entry order es k v))
      ≡ in_step (is_lt (ordering_reverse o)) (is_eq o) (bytes k) (Some v) (shown e) (seen es)
  add_step Less k v e es same h = refl
  add_step Equal k v e es same h = ap (λ (key : List ℕ). record { key = key; rec = v } ∷ seen es) (sym (same refl))
  add_step Greater k v e es same h = ap (λ (cells : List Cell). shown e ∷ cells) h

  -- an insertion sets the cell
  pub add_entry : (es : List (K × List ℕ)) (k : K) (v : List ℕ) → seen (insert_entry order es k v) ≡ set_cell (bytes k) (Some v) (seen es)
  add_entry [] k v = refl
  add_entry (e ∷ es) k v =
      add_step (order k e.0) k v e es (alike (bytes k) (bytes e.0)) (add_entry es k v) ∙ step_is (bytes k) (Some v) e (seen es)

  -- what is above a key has it not
  keeps_above : (q : List ℕ) (es : List (K × List ℕ)) → AllByRecursion (λ k. slice_cmp nat_cmp q (bytes k) ≡ Less) (keys_of es) → remove_entry (test q) es ≡ es
  keeps_above q [] h = refl
  keeps_above q (e ∷ es) h =
      ap (λ (o : Ordering). cond (is_eq o) es (e ∷ remove_entry (test q) es)) h.0 ∙ ap (λ (rest : List (K × List ℕ)). e ∷ rest) (keeps_above q es h.1)

  all_above : (q : List ℕ) (k : K) (es : List (K × List ℕ)) → slice_cmp nat_cmp q (bytes k) ≡ Less → AllByRecursion (λ y. order k y ≡ Less) (keys_of es)
      → AllByRecursion (λ y. slice_cmp nat_cmp q (bytes y) ≡ Less) (keys_of es)
  all_above q k [] below h = tt
  all_above q k (e ∷ es) below h = (nat_list_cmp_total.trans q (bytes k) (bytes e.0) below h.0, all_above q k es below h.1)

  remove_step : (o : Ordering) (q : List ℕ) (e : K × List ℕ) (es : List (K × List ℕ)) → (o ≡ Less → remove_entry (test q) es ≡ es)
      → seen (remove_entry (test q) es) ≡ set_cell q None (seen es)
      → seen (cond (is_eq o) es (e ∷ remove_entry (test q) es)) ≡ in_step (is_lt (ordering_reverse o)) (is_eq o) q None (shown e) (seen es)
  remove_step Less q e es above h = ap (λ (rest : List (K × List ℕ)). seen (e ∷ rest)) (above refl)
  remove_step Equal q e es above h = refl
  remove_step Greater q e es above h = ap (λ (cells : List Cell). shown e ∷ cells) h

  -- and a removal takes it out
  pub remove_cell : (q : List ℕ) (es : List (K × List ℕ)) → IsStrictlySortedBy order (keys_of es) → seen (remove_entry (test q) es) ≡ set_cell q None (seen es)
  unfolding IsStrictlySortedBy
  remove_cell q [] h = refl
  remove_cell q (e ∷ es) h =
      remove_step (slice_cmp nat_cmp q (bytes e.0)) q e es (λ below. keeps_above q es (all_above q e.0 es below h.0)) (remove_cell q es h.1)
      ∙ step_is q None e (seen es)

  filter_step : (b : Bool) (e : K × List ℕ) (es : List (K × List ℕ)) (cells : List Cell) → seen es ≡ cells
      → seen (cond b (e ∷ es) es) ≡ cond b (shown e ∷ cells) cells
  filter_step true e es cells h = ap (λ (rest : List Cell). shown e ∷ rest) h
  filter_step false e es cells h = h

  -- the entries that pass a test are the cells in a range
  pub entries_in : (range : Range) (passes : K × List ℕ → Bool) (es : List (K × List ℕ)) → ((e : K × List ℕ) → passes e ≡ is_in range (bytes e.0))
      → seen (filter passes es) ≡ cells_within range (seen es)
  entries_in range passes [] same = refl
  entries_in range passes (e ∷ es) same =
      filter_step (passes e) e (filter passes es) (cells_within range (seen es)) (entries_in range passes es same)
      ∙ ap (λ (b : Bool). cond b (shown e ∷ cells_within range (seen es)) (cells_within range (seen es))) (same e)
