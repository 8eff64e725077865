-- Best: the first place so far with the least of a number.
use Rattle.std.proofs.Common.{◌≡◌, ap, subst, ◌∙◌, ℕ, zero, suc, ◌+◌, ◌<◌, ◌≤◌, length, inl, inr, List, arith}
use Rattle.std.proofs.lemmas.Bool.{cases_lt}
use Rattle.hc_base.specs.declared.numbers.Logical.{Logical}
use Rattle.hc_base.specs.Content.{Content, Entry}
use Rattle.hc_shape.specs.Halves.{IsCut, larger, least_in_half}
use Rattle.hc_split.specs.declared.cut.Frame.{Frame}
use Rattle.hc_split.specs.declared.joined.Joined.{Joined}
use Rattle.hc_split.specs.Joined.{joined_entries}
use Rattle.hc_split.specs.Parts.{CanMeasure, HasPlace}

-- the best of the places from a on and below n
pub record IsBest (f : ℕ → ℕ) (a n size best fewest : ℕ) : Type 0 where
  pub from : a ≤ best
  pub to : best + a ≤ size
  pub is : fewest ≡ f best
  pub least : (j : ℕ) → a ≤ j → j < n → f best ≤ f j
  pub first : (j : ℕ) → a ≤ j → j < best → f best < f j

pub best_first : (f : ℕ → ℕ) (a n size fewest : ℕ) → n ≡ a + 1 → a + a ≤ size → fewest ≡ f a → IsBest f a n size a fewest
best_first f a n size fewest next place is = record {
  from = omega arith;
  to = place;
  is = is;
  least = λ j from less. let same : a ≡ j = omega (arith, from, less, next) in subst (λ i. f a ≤ f i) same (omega arith);
  first = λ j from less. absurd (omega (arith, from, less));
}

-- the next place, or the one before
at_last : (P : ℕ → Type 0) (j n : ℕ) → P n → (j < n → P j) → j < n + 1 → P j
at_last P j n last earlier less =
    elim (cases_lt j n) [
      | inl before ↦ earlier before
      | inr at_n ↦ let same : n ≡ j = omega (arith, at_n, less) in subst P same last
    ]

pub best_next : (f : ℕ → ℕ) (a n size best fewest words : ℕ) → IsBest f a n size best fewest → a ≤ n → n + a ≤ size → words ≡ f n → words < fewest → IsBest f a (n + 1) size n words
best_next f a n size best fewest words b from to is less = record {
  from = from;
  to = to;
  is = is;
  least = λ j from_j to_j. at_last (λ i. f n ≤ f i) j n (omega arith) (λ before. omega (arith, less, is, b.is, b.least j from_j before)) to_j;
  first = λ j from_j to_j. omega (arith, less, is, b.is, b.least j from_j to_j);
}

pub best_still : (f : ℕ → ℕ) (a n size best fewest words : ℕ) → IsBest f a n size best fewest → words ≡ f n → fewest ≤ words → IsBest f a (n + 1) size best fewest
best_still f a n size best fewest words b is more = record {
  from = b.from;
  to = b.to;
  is = b.is;
  least = λ j from_j to_j. at_last (λ i. f best ≤ f i) j n (omega (arith, more, is, b.is)) (λ before. b.least j from_j before) to_j;
  first = b.first;
}

-- after all places it is the cut
pub best_cut : (c : Content) (fresh : Logical) (es : List Entry) (a n best fewest : ℕ) → a ≡ least_in_half c.level → length es < n + a
    → IsBest (larger c fresh es) a n (length es) best fewest → IsCut c fresh es best
best_cut c fresh es a n best fewest a_is all b = record {
  place = (omega (arith, b.from, a_is), omega (arith, b.to, a_is));
  least = λ j place. b.least j (omega (arith, place.0, a_is)) (omega (arith, place.1, a_is, all));
  first = λ j place less. b.first j (omega (arith, place.0, a_is)) less;
}

pub least_some : (level : ℕ) → 1 ≤ least_in_half level
least_some zero = omega arith
least_some (suc level) = omega arith

-- how many entries a half has at least, by the frame
pub least_by : (joined : Joined) (frame : Frame) (c : Content) (a : ℕ) → HasPlace joined frame c → a ≡ least_in_half frame.level → a ≡ least_in_half c.level
least_by joined frame c a has is = is ∙ ap (λ l. least_in_half l) has.frame_is.level_is

pub can_measure : (joined : Joined) (frame : Frame) (c : Content) (a at : ℕ) → HasPlace joined frame c → a ≡ least_in_half frame.level → at + a ≤ length (joined_entries joined c)
    → CanMeasure joined frame at c
can_measure joined frame c a at has is within = record {
  joined_is = has.joined_is;
  frame_is = has.frame_is;
  there = omega (arith, within, is, least_some frame.level);
}

pub first_place : (joined : Joined) (frame : Frame) (c : Content) (a : ℕ) → HasPlace joined frame c → a ≡ least_in_half frame.level → a + a ≤ length (joined_entries joined c)
first_place joined frame c a has is = omega (arith, has.place, least_by joined frame c a has is)
