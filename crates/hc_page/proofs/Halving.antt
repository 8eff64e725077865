-- A search that halves a part of ascending keys.
use Rattle.std.proofs.Common.{◌≡◌, ℕ, suc, ◌+◌, ◌<◌, ◌≤◌, List, [], ◌∷◌, length, drop, get_or, sym, ap, subst, ◌∙◌, arith, inl, inr}
use Rattle.std.specs.declared.cmp.Ordering.TheVariants.{Less, Equal, Greater}
use Rattle.std.specs.Ordering.{nat_cmp, is_lt, ordering_reverse}
use Rattle.std.specs.Cmp.Lexicographic.{slice_cmp}
use Rattle.std.proofs.lemmas.Cmp.{nat_list_cmp_total}
use Rattle.std.specs.FinMap.{nat_cmp-IsAntisymmetric, slice_cmp-IsAntisymmetric}
use Rattle.std.proofs.lemmas.Bool.{cases_eq}
use Rattle.std.proofs.Math.Seq.{drop-cons}
use Rattle.hc_range.specs.Order.{IsBelow, is_below}
use Rattle.hc_range.proofs.ByteOrder.{below_trans}
use Rattle.hc_base.specs.Content.{Ascends}
use Rattle.hc_page.proofs.Ordered.{ascends_at, all_below, all_from}
use Rattle.hc_page.specs.Finding.{IsFound}
use Rattle.hc_page.specs.declared.search.Found.TheVariants.{At, Before}

-- the keys before `low` are below the sought one, and those from `high` on are above it
pub record IsBetween (ks : List (List ℕ)) (key : List ℕ) (low high : ℕ) : Type 0 where
  pub order : low ≤ high
  pub within : high ≤ length ks
  pub below : (i : ℕ) → i < low → IsBelow (get_or ks i []) key
  pub above : (i : ℕ) → high ≤ i → i < length ks → IsBelow key (get_or ks i [])

-- what the order of two keys says
pub is_less : (a b : List ℕ) → slice_cmp nat_cmp a b ≡ Less → IsBelow a b
unfolding is_below
is_less a b h = ap is_lt h

pub is_greater : (a b : List ℕ) → slice_cmp nat_cmp a b ≡ Greater → IsBelow b a
unfolding is_below
is_greater a b h = ap is_lt (nat_list_cmp_total.antisymm b a ∙ ap ordering_reverse h)

pub is_equal : (a b : List ℕ) → slice_cmp nat_cmp a b ≡ Equal → a ≡ b
is_equal a b h = slice_cmp-IsAntisymmetric nat_cmp-IsAntisymmetric a b h

-- at the start nothing is known
pub between_all : (ks : List (List ℕ)) (key : List ℕ) (n : ℕ) → n ≡ length ks → IsBetween ks key 0 n
between_all ks key n all = record {
  order = omega arith;
  within = omega arith;
  below = λ i none. absurd (omega arith);
  above = λ i past within. absurd (omega arith);
}

-- a key of the part that is below the sought one leaves the upper half
pub upper_half : (ks : List (List ℕ)) (key : List ℕ) (low high m : ℕ) → Ascends ks → IsBetween ks key low high → m < high → IsBelow (get_or ks m []) key
    → IsBetween ks key (m + 1) high
upper_half ks key low high m up part inside less = record {
  order = omega arith;
  within = part.within;
  below = λ i before.
      elim (cases_eq i m) [
        | inl same ↦ subst (λ n. IsBelow (get_or ks n []) key) (sym same) less
        | inr other ↦ below_trans (get_or ks i []) (get_or ks m []) key (ascends_at ks i m up (omega arith) (omega (arith, part.within))) less
      ];
  above = part.above;
}

-- one that is above it leaves the lower half
pub lower_half : (ks : List (List ℕ)) (key : List ℕ) (low high m : ℕ) → Ascends ks → IsBetween ks key low high → low ≤ m → m < high → IsBelow key (get_or ks m [])
    → IsBetween ks key low m
lower_half ks key low high m up part above inside more = record {
  order = above;
  within = omega (arith, part.within);
  below = part.below;
  above = λ i past within.
      elim (cases_eq i m) [
        | inl same ↦ subst (λ n. IsBelow key (get_or ks n [])) (sym same) more
        | inr other ↦ below_trans key (get_or ks m []) (get_or ks i []) more (ascends_at ks m i up (omega arith) within)
      ];
}

-- where nothing is left the place is found
pub nothing_left : (ks : List (List ℕ)) (key : List ℕ) (low high : ℕ) → IsBetween ks key low high → high ≤ low → IsFound ks key (Before low)
nothing_left ks key low high part none = (
  omega (arith, part.within, part.order),
  all_below ks low (λ other. IsBelow other key) (omega (arith, part.within, part.order)) part.below,
  all_from ks low (λ other. IsBelow key other) (λ i past within. part.above i (omega arith) within),
)

-- the key itself
pub found_at : (ks : List (List ℕ)) (key : List ℕ) (m : ℕ) → m < length ks → get_or ks m [] ≡ key → IsFound ks key (At m)
found_at ks key m inside same = (drop (suc m) ks, drop-cons ks m [] inside ∙ ap (λ k. k ∷ drop (suc m) ks) same)
