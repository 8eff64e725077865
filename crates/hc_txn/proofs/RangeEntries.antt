-- The entries of the ordered map in a range.
use Rattle.std.proofs.Common.{◌≡◌, ◌∙◌, refl, sym, ap, ℕ, Bool, true, false, cond, Some, None, List, [], ◌∷◌, filter, not, ◌&&◌, is_gt}
use Rattle.std.proofs.lemmas.Bool.{true≢false}
use Rattle.std.proofs.lemmas.Cmp.{nat_list_cmp_total}
use Rattle.std.specs.Cmp.Lexicographic.{slice_cmp}
use Rattle.std.specs.Ordering.{nat_cmp, is_le, is_lt, ordering_reverse}
use Rattle.std.specs.declared.cmp.Ordering.{Ordering}
use Rattle.std.specs.declared.cmp.Ordering.TheVariants.{Less, Equal, Greater}
use Rattle.hc_range.specs.Order.{is_below}
use Rattle.hc_range.specs.Ranges.{is_under}
use Rattle.hc_range.specs.declared.range.Range.{Range}
use Rattle.std.specs.List.{AllByRecursion}
use Rattle.std.specs.List.Sorted.{IsStrictlySortedBy}
use Rattle.std.specs.Map.{keys_of}
use Rattle.hc_txn.specs.Kept.{Known, AreAbove, AreOrdered}
use Rattle.hc_txn.specs.Laid.{holds}
use Rattle.hc_txn.specs.declared.kept.Kept.{Kept}
use Rattle.hc_txn.proofs.KeptEntries.{seen, shown}

le_reversed : (o : Ordering) → is_le o ≡ not (is_lt (ordering_reverse o))
le_reversed Less = refl
le_reversed Equal = refl
le_reversed Greater = refl

twice_not : (b : Bool) → not (not b) ≡ b
twice_not true = refl
twice_not false = refl

gt_less : (o : Ordering) → is_lt o ≡ true → is_gt o ≡ false
gt_less Less h = refl
gt_less Equal h = refl
gt_less Greater h = absurd (true≢false (sym h))

-- at a lower end or above
pub from_start : (lo key : List ℕ) → is_le (slice_cmp nat_cmp lo key) ≡ not (is_below key lo)
unfolding is_below
from_start lo key = le_reversed (slice_cmp nat_cmp lo key) ∙ ap (λ (o : Ordering). not (is_lt o)) (sym (nat_list_cmp_total.antisymm key lo))

-- below an upper end
pub before_end : (hi key : List ℕ) → not (is_le (slice_cmp nat_cmp hi key)) ≡ is_below key hi
before_end hi key = ap not (from_start hi key) ∙ twice_not (is_below key hi)

-- the ends of a range that is not empty are in order
pub ends_forward : (lo hi : List ℕ) → is_below lo hi ≡ true → is_gt (slice_cmp nat_cmp lo hi) ≡ false
unfolding is_below
ends_forward lo hi h = gt_less (slice_cmp nat_cmp lo hi) h

-- the map's two bounds are the range's
pub in_bounds : (range : Range) (lo hi key : List ℕ) → lo ≡ range.lo → Some hi ≡ range.hi
    → (is_le (slice_cmp nat_cmp lo key) && not (is_le (slice_cmp nat_cmp hi key))) ≡ holds range key
in_bounds range lo hi key e f =
    (λ i. from_start lo key i && before_end hi key i) ∙ (λ i. not (is_below key (e i)) && is_under key (f i))

pub from_bound : (range : Range) (lo key : List ℕ) → lo ≡ range.lo → None ≡ range.hi → (is_le (slice_cmp nat_cmp lo key) && true) ≡ holds range key
from_bound range lo key e f =
    (λ i. from_start lo key i && true) ∙ (λ i. not (is_below key (e i)) && is_under key (f i))

module _ {K : Type 0} (bytes : K → List ℕ) where
  filter_step : (b : Bool) (e : K × Kept) (es : List (K × Kept)) (kept : List Known) → seen bytes es ≡ kept
      → seen bytes (cond b (e ∷ es) es) ≡ cond b (shown bytes e ∷ kept) kept
  filter_step true e es kept h = ap (λ (ks : List Known). shown bytes e ∷ ks) h
  filter_step false e es kept h = h

  -- the entries that pass a test are the keys in a range
  pub entries_in : (range : Range) (passes : K × Kept → Bool) (es : List (K × Kept)) → ((e : K × Kept) → passes e ≡ holds range (bytes e.0))
      → seen bytes (filter passes es) ≡ filter (λ k. holds range k.key) (seen bytes es)
  entries_in range passes [] same = refl
  entries_in range passes (e ∷ es) same =
      filter_step (passes e) e (filter passes es) (filter (λ k. holds range k.key) (seen bytes es)) (entries_in range passes es same)
      ∙ ap (λ (b : Bool). cond b (shown bytes e ∷ filter (λ k. holds range k.key) (seen bytes es)) (filter (λ k. holds range k.key) (seen bytes es))) (same e)

  -- the keys of a map are in order
  above_first : (k : K) (es : List (K × Kept)) → AllByRecursion (λ q. slice_cmp nat_cmp (bytes k) (bytes q) ≡ Less) (keys_of es) → AreAbove (bytes k) (seen bytes es)
  unfolding is_below
  above_first k [] h = tt
  above_first k (e ∷ es) h = (ap is_lt h.0, above_first k es h.1)

  pub ordered_seen : (es : List (K × Kept)) → IsStrictlySortedBy (λ a b. slice_cmp nat_cmp (bytes a) (bytes b)) (keys_of es) → AreOrdered (seen bytes es)
  unfolding IsStrictlySortedBy
  ordered_seen [] h = tt
  ordered_seen (e ∷ es) h = (above_first e.0 es h.0, ordered_seen es h.1)
