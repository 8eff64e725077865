-- The entries of the ordered map as a list of what is known of each key.
use Rattle.std.proofs.Common.{◌≡◌, ◌∙◌, refl, sym, ap, ℕ, Bool, true, false, cond, Option, Some, None, List, [], ◌∷◌, map, bytes_eq, inl, inr}
use Rattle.std.proofs.lemmas.Bool.{true≢false, cases_Bool}
use Rattle.std.proofs.lemmas.Cmp.{nat_list_cmp_total, tied_itself}
use Rattle.std.proofs.lemmas.Slice.Eq.{bytes_eq-Decides}
use Rattle.std.specs.BTreeMap.{insert_entry}
use Rattle.std.specs.Cmp.Lexicographic.{slice_cmp}
use Rattle.std.specs.FinMap.{nat_cmp-IsAntisymmetric, slice_cmp-IsAntisymmetric}
use Rattle.std.specs.Map.{lookup, set_value}
use Rattle.std.specs.Option.{option_map}
use Rattle.std.specs.Ordering.{nat_cmp, is_eq, is_lt, ordering_reverse, match_ordering}
use Rattle.std.specs.declared.cmp.Ordering.{Ordering}
use Rattle.std.specs.declared.cmp.Ordering.TheVariants.{Less, Equal, Greater}
use Rattle.hc_range.specs.Order.{is_below}
use Rattle.hc_txn.specs.Kept.{Known, find_known, with_known, with_now}
use Rattle.hc_txn.specs.declared.kept.Kept.{Kept}

-- keys that compare alike are one
pub alike : (a b : List ℕ) → slice_cmp nat_cmp a b ≡ Equal → a ≡ b
alike a b h = slice_cmp-IsAntisymmetric nat_cmp-IsAntisymmetric a b h

is_equal : (o : Ordering) → is_eq o ≡ true → o ≡ Equal
is_equal Less h = absurd (true≢false (sym h))
is_equal Equal h = refl
is_equal Greater h = absurd (true≢false (sym h))

-- the map's test for a key, and the test for equal bytes
pub same_test : (q k : List ℕ) → is_eq (slice_cmp nat_cmp q k) ≡ bytes_eq k q
same_test q k =
    elim (cases_Bool (bytes_eq k q)) [
      | inl same ↦ ap (λ (b : List ℕ). is_eq (slice_cmp nat_cmp q b)) ((bytes_eq-Decides k q).0 same) ∙ ap is_eq (tied_itself nat_list_cmp_total q) ∙ sym same
      | inr other ↦ elim (cases_Bool (is_eq (slice_cmp nat_cmp q k))) [
        | inl tied ↦ absurd (true≢false (sym ((bytes_eq-Decides k q).1 (sym (alike q k (is_equal _ tied)))) ∙ other))
        | inr apart ↦ apart ∙ sym other
      ]
    ]

abbrev pub known_as : List ℕ → Kept → Known
known_as q kept = record { key = q; before = kept.before; now = kept.now }

some_is : (x y : Kept) → Some x ≡ Some y → x ≡ y
some_is x y h = cc

none_is_not : (x : Kept) → None ≡ Some x → ⊥
none_is_not x h = cc

module _ {K : Type 0} (bytes : K → List ℕ) where
  -- what an entry says
  abbrev pub shown : K × Kept → Known
  shown e = record { key = bytes e.0; before = e.1.before; now = e.1.now }

  abbrev pub seen : List (K × Kept) → List Known
  seen es = map shown es

  abbrev test : List ℕ → K → Bool
  test q k = is_eq (slice_cmp nat_cmp q (bytes k))

  find_step : (b : Bool) (q : List ℕ) (e : K × Kept) (rest : Option Known) (found : Option Kept) → (b ≡ true → bytes e.0 ≡ q)
      → rest ≡ option_map (known_as q) found → cond b (Some (shown e)) rest ≡ option_map (known_as q) (cond b (Some e.1) found)
  find_step true q e rest found same h = ap (λ (key : List ℕ). Some (known_as key e.1)) (same refl)
  find_step false q e rest found same h = h

  -- a look-up in the map finds what is known of the key
  pub find_lookup : (q : List ℕ) (es : List (K × Kept)) → find_known q (seen es) ≡ option_map (known_as q) (lookup (test q) es)
  find_lookup q [] = refl
  find_lookup q (e ∷ es) =
      find_step (bytes_eq (bytes e.0) q) q e (find_known q (seen es)) (lookup (test q) es) (bytes_eq-Decides (bytes e.0) q).0 (find_lookup q es)
      ∙ ap (λ (b : Bool). option_map (known_as q) (cond b (Some e.1) (lookup (test q) es))) (sym (same_test q (bytes e.0)))

  abbrev order : K → K → Ordering
  order a b = slice_cmp nat_cmp (bytes a) (bytes b)

  add_step : (o : Ordering) (k : K) (v : Kept) (e : K × Kept) (es : List (K × Kept)) → (o ≡ Equal → bytes k ≡ bytes e.0)
      → seen (insert_entry order es k v) ≡ with_known (shown (k, v)) (seen es)
      → seen (match_ordering o ((k, v) ∷ e ∷ es) ((e.0, v) ∷ es) (e ∷ insert_entry order es k v))
      ≡ cond (is_lt o) (shown (k, v) ∷ seen (e ∷ es)) (cond (is_lt (ordering_reverse o)) (shown e ∷ with_known (shown (k, v)) (seen es)) (shown (k, v) ∷ seen es))
  add_step Less k v e es same h = refl
  add_step Equal k v e es same h = ap (λ (key : List ℕ). known_as key v ∷ seen es) (sym (same refl))
  add_step Greater k v e es same h = ap (λ (ks : List Known). shown e ∷ ks) h

  -- an insertion adds the key in its place
  pub add_entry : (es : List (K × Kept)) (k : K) (v : Kept) → seen (insert_entry order es k v) ≡ with_known (shown (k, v)) (seen es)
  unfolding is_below
  add_entry [] k v = refl
  add_entry (e ∷ es) k v =
      add_step (order k e.0) k v e es (alike (bytes k) (bytes e.0)) (add_entry es k v)
      ∙ ap (λ (o : Ordering). cond (is_lt (order k e.0)) (shown (k, v) ∷ seen (e ∷ es)) (cond (is_lt o) (shown e ∷ with_known (shown (k, v)) (seen es)) (shown (k, v) ∷ seen es)))
      (sym (nat_list_cmp_total.antisymm (bytes e.0) (bytes k)))

  set_step : (b : Bool) (q : List ℕ) (e : K × Kept) (es : List (K × Kept)) (v w : Kept) → w.before ≡ v.before
      → cond b (Some e.1) (lookup (test q) es) ≡ Some v
      → (lookup (test q) es ≡ Some v → seen (set_value (test q) es w) ≡ with_now q w.now (seen es))
      → seen (cond b ((e.0, w) ∷ es) (e ∷ set_value (test q) es w)) ≡ cond b (record (shown e) { now = w.now } ∷ seen es) (shown e ∷ with_now q w.now (seen es))
  set_step true q e es v w same found h =
      ap (λ (r : Option (List ℕ)). record { key = bytes e.0; before = r; now = w.now } ∷ seen es) (same ∙ sym (ap (λ (kept : Kept). kept.before) (some_is e.1 v found)))
  set_step false q e es v w same found h = ap (λ (ks : List Known). shown e ∷ ks) (h found)

  -- a new own write at a key that the map has
  pub set_entry : (q : List ℕ) (es : List (K × Kept)) (v w : Kept) → w.before ≡ v.before → lookup (test q) es ≡ Some v
      → seen (set_value (test q) es w) ≡ with_now q w.now (seen es)
  set_entry q [] v w same found = absurd (none_is_not v found)
  set_entry q (e ∷ es) v w same found =
      set_step (test q e.0) q e es v w same found (set_entry q es v w same)
      ∙ ap (λ (b : Bool). cond b (record (shown e) { now = w.now } ∷ seen es) (shown e ∷ with_now q w.now (seen es))) (same_test q (bytes e.0))
