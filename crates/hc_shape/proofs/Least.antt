-- Among finitely many places one has the least of a number, at the first such place.
use Rattle.std.proofs.Common.{◌≡◌, subst, ℕ, zero, suc, ◌+◌, ◌-◌, ◌<◌, ◌≤◌, List, length, inl, inr, arith}
use Rattle.std.proofs.lemmas.Bool.{cases_lt}
use Rattle.hc_base.specs.declared.numbers.Logical.{Logical}
use Rattle.hc_base.specs.Content.{Content, Entry}
use Rattle.hc_shape.specs.Halves.{IsCut, IsPlace, larger, least_in_half}

-- a place from a on, n places long, with the least of f, and no earlier one with as little
record Least (f : ℕ → ℕ) (a n : ℕ) : Type 0 where
  at : ℕ
  from : a ≤ at
  to : at ≤ a + n
  least : (j : ℕ) → a ≤ j → j ≤ a + n → f at ≤ f j
  first : (j : ℕ) → a ≤ j → j < at → f at < f j

module _ (f : ℕ → ℕ) (a : ℕ) where
  -- the last place or an earlier one
  last_or_earlier : (P : ℕ → Type 0) (n j : ℕ) → P (a + suc n) → (j ≤ a + n → P j) → j ≤ a + suc n → P j
  last_or_earlier P n j last earlier to =
      elim (cases_lt j (a + suc n)) [
        | inl less ↦ earlier (omega (arith, less))
        | inr at_last ↦ let is : a + suc n ≡ j = omega (arith, at_last, to) in subst P is last
      ]

  least : (n : ℕ) → Least f a n
  least zero = record {
    at = a;
    from = omega arith;
    to = omega arith;
    least = λ j from to. let is : a ≡ j = omega (arith, from, to) in subst (λ i. f a ≤ f i) is (omega arith);
    first = λ j from less. absurd (omega (arith, from, less));
  }
  least (suc n) = on (least n)
    where
      on : Least f a n → Least f a (suc n)
      on b =
          elim (cases_lt (f (a + suc n)) (f b.at)) [
            | inl less ↦ record {
              at = a + suc n;
              from = omega arith;
              to = omega arith;
              least = λ j from to. last_or_earlier (λ i. f (a + suc n) ≤ f i) n j (omega arith) (λ within. omega (arith, less, b.least j from within)) to;
              first = λ j from before. let within : j ≤ a + n = omega (arith, before) in omega (arith, less, b.least j from within);
            }
            | inr at_most ↦ record {
              at = b.at;
              from = b.from;
              to = omega (arith, b.to);
              least = λ j from to. last_or_earlier (λ i. f b.at ≤ f i) n j at_most (λ within. b.least j from within) to;
              first = b.first;
            }
          ]

pub there_is : (c : Content) (fresh : Logical) (es : List Entry) (j : ℕ) → IsPlace c es j → (k : ℕ) × IsCut c fresh es k
there_is c fresh es j place = (b.at, record { place = (b.from, omega (arith, b.to, place.0, place.1)); least = every; first = earlier })
  where
    a : ℕ
    a = least_in_half c.level

    b : Least (larger c fresh es) (least_in_half c.level) (length es - (least_in_half c.level + least_in_half c.level))
    b = least (larger c fresh es) (least_in_half c.level) (length es - (least_in_half c.level + least_in_half c.level))

    every : (i : ℕ) → IsPlace c es i → larger c fresh es b.at ≤ larger c fresh es i
    every i other = b.least i other.0 (omega (arith, other.0, other.1))

    earlier : (i : ℕ) → IsPlace c es i → i < b.at → larger c fresh es b.at < larger c fresh es i
    earlier i other less = b.first i other.0 less
