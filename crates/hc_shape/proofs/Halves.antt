-- Where one small entry more than fits is put, some place cuts the entries so that both halves fit.
use Rattle.std.proofs.Common.{◌≡◌, refl, ℕ, zero, suc, ◌+◌, ◌-◌, ◌*◌, ◌/◌, ◌<◌, ◌≤◌, Bool, true, false, leb, List, [], ◌∷◌, ◌++◌, length, take, drop, Option, Some, None, ◌⊎◌, inl, inr, arith, length-append, length-drop}
use Rattle.std.specs.List.{All, filter}
use Rattle.std.proofs.lemmas.Bool.{cases_Bool, cases_lt, cond_both, leb-true, leb-false}
use Rattle.std.proofs.lemmas.List.Elements.{All-append, All-cons, All-filter, All-head, All-tail, All-take}
use Rattle.hc_range.specs.Order.{is_below}
use Rattle.hc_range.proofs.ByteOrder.{below_flip}
use Rattle.hc_base.specs.declared.numbers.Logical.{Logical}
use Rattle.hc_base.specs.Content.{Content, Entry, IsFence, OfSome}
use Rattle.hc_base.specs.Layout.{all_words, entry_words, fence_words, low_words, used_words}
use Rattle.hc_base.proofs.Places.{words_of-length}
use Rattle.hc_page.specs.Puts.{put_entry}
use Rattle.hc_shape.specs.Halves.{CanHalve, cut_at, HalvesFit, IsCut, IsPlace, IsSmall, larger, least_in_half, left_half, right_half}

-- what entries take of a page, in quarters of a word: their words, and a place in the directory each
abbrev cost : List Entry → ℕ
cost [] = 0
cost (e ∷ es) = 4 * length (entry_words e) + 1 + cost es

cost_is : (es : List Entry) → cost es ≡ 4 * length (all_words es) + length es
cost_is [] = refl
cost_is (e ∷ es) = omega (arith, cost_is es, length-append (entry_words e) (all_words es))

cost_both : (xs ys : List Entry) → cost (xs ++ ys) ≡ cost xs + cost ys
cost_both [] ys = omega arith
cost_both (x ∷ xs) ys = omega (arith, cost_both xs ys)

cost_cut : (k : ℕ) (es : List Entry) → cost (take k es) + cost (drop k es) ≡ cost es
cost_cut zero es = omega arith
cost_cut (suc k) [] = omega arith
cost_cut (suc k) (e ∷ es) = omega (arith, cost_cut k es)

-- a small entry costs 241 at most
cost_most : (es : List Entry) → All IsSmall es → cost es ≤ 241 * length es
cost_most [] small = omega arith
cost_most (e ∷ es) small = omega (arith, cost_most es (All-tail IsSmall e es small), (All-head IsSmall e es small).0)

cost_step : (k : ℕ) (es : List Entry) → All IsSmall es → cost (take (suc k) es) ≤ cost (take k es) + 241
cost_step k [] small = omega arith
cost_step zero (e ∷ es) small = omega (arith, (All-head IsSmall e es small).0)
cost_step (suc k) (e ∷ es) small = omega (arith, cost_step k es (All-tail IsSmall e es small))

-- an entry passes one of the two filters at most
cost_parts : (p q : Entry → Bool) → ((x : Entry) → p x ≡ true → q x ≡ false) → (es : List Entry) → cost (filter p es) + cost (filter q es) ≤ cost es
cost_parts p q apart [] = omega arith
cost_parts p q apart (x ∷ es) =
    elim (cases_Bool (p x)) [
      | inl passes ↦ rw passes (rw (apart x passes) (omega (arith, cost_parts p q apart es)))
      | inr fails ↦ elim (cases_Bool (q x)) [
        | inl other ↦ rw fails (rw other (omega (arith, cost_parts p q apart es)))
        | inr neither ↦ rw fails (rw neither (omega (arith, cost_parts p q apart es)))
      ]
    ]

cost_put : (e : Entry) (es : List Entry) → cost (put_entry e es) ≤ cost es + (4 * length (entry_words e) + 1)
cost_put e es =
    omega (
      arith,
      cost_both (filter (λ x. is_below x.key e.key) es) (e ∷ filter (λ x. is_below e.key x.key) es),
      cost_parts (λ x. is_below x.key e.key) (λ x. is_below e.key x.key) (λ x less. below_flip x.key e.key less) es,
    )

small_put : (e : Entry) (es : List Entry) → IsSmall e → All IsSmall es → All IsSmall (put_entry e es)
small_put e es own small =
    All-append IsSmall (filter (λ x. is_below x.key e.key) es) (e ∷ filter (λ x. is_below e.key x.key) es)
    (All-filter (λ x. is_below x.key e.key) IsSmall es small)
    (All-cons IsSmall e (filter (λ x. is_below e.key x.key) es) own (All-filter (λ x. is_below e.key x.key) IsSmall es small))

-- a place whose two sides cost so much at most
record Chosen (es : List Entry) (least left right : ℕ) : Type 0 where
  at : ℕ
  from : least ≤ at
  to : at + least ≤ length es
  before : cost (take at es) ≤ left
  after : cost (drop at es) ≤ right

length_drop : (k : ℕ) (es : List Entry) → length (drop k es) ≡ length es - k
length_drop k es = length-drop k es

-- Looked for from a place on: where one entry more does not fit on the left, the rest fits on the right.
module _ (es : List Entry) (least left right : ℕ) (small : All IsSmall es) (room : cost es + 241 ≤ left + right) (end : 241 * least ≤ right) where
  choose : (n k : ℕ) → k + n + least ≡ length es → least ≤ k → cost (take k es) ≤ left → Chosen es least left right
  choose zero k count from before = record {
    at = k;
    from = from;
    to = omega (arith, count);
    before = before;
    after = omega (arith, cost_most (drop k es) (small_drop k es small), length_drop k es, count, end);
  }
    where
      small_drop : (k : ℕ) (es : List Entry) → All IsSmall es → All IsSmall (drop k es)
      small_drop zero es small = small
      small_drop (suc k) [] small = small
      small_drop (suc k) (e ∷ es) small = small_drop k es (All-tail IsSmall e es small)
  choose (suc n) k count from before =
      elim (cases_lt left (cost (take (suc k) es))) [
        | inl over ↦ record {
          at = k;
          from = from;
          to = omega (arith, count);
          before = before;
          after = omega (arith, cost_cut k es, cost_step k es small, over, room);
        }
        | inr fits ↦ choose n (suc k) (omega (arith, count)) (omega (arith, from)) fits
      ]

-- a fence takes 58 words at most
low_small : (level : ℕ) (low : List ℕ) → length low ≤ 463 → length (low_words level low) ≤ 58
low_small zero low short = omega (arith, words_of-length low, short)
low_small (suc level) low short = omega arith

high_small : (high : Option (List ℕ)) → OfSome IsFence high → length (fence_words high) ≤ 58
high_small None fence = omega arith
high_small (Some high) fence = omega (arith, words_of-length high, fence.0)

-- each key is short, and so is the cut
cut_short : (es : List Entry) (k : ℕ) → All IsSmall es → length (cut_at es k) ≤ 463
cut_short [] k small = omega arith
cut_short (e ∷ es) zero small = (All-head IsSmall e es small).1
cut_short (e ∷ es) (suc k) small = cut_short es k (All-tail IsSmall e es small)

module _ (c : Content) (e : Entry) (fresh : Logical) (h : CanHalve c e) where
  abbrev pub es : List Entry
  es = put_entry e c.entries

  small : All IsSmall es
  small = small_put e c.entries h.new_small h.small

  abbrev pub low : ℕ
  low = length (low_words c.level c.low)

  abbrev pub high : ℕ
  high = length (fence_words c.high)

  low_most : low ≤ 58
  low_most = low_small c.level c.low h.low.0

  high_most : high ≤ 58
  high_most = high_small c.high h.high

  -- all that is put costs, and one small entry more, fits what two pages have for entries
  room : cost es + 241 ≤ (773 - 4 * low) + (773 - 4 * high)
  room = omega (arith, cost_put e c.entries, cost_is c.entries, h.new_small.0, h.fits, low_most, high_most)

  -- there are enough entries for both halves
  enough : (level low : ℕ) → low ≤ 58 → ((level ≡ 0) ⊎ (low ≡ 0)) → 256 < 4 + (length es + 3) / 4 + low + high + length (all_words es) → least_in_half level + least_in_half level ≤ length es
  enough zero low most by_level over = omega (arith, cost_is es, cost_most es small, high_most, most, over)
  enough (suc level) low most (inl leaf) over = absurd (omega (arith, leaf))
  enough (suc level) low most (inr none) over = omega (arith, cost_is es, cost_most es small, high_most, none, over)

  by_level : (level : ℕ) (fence : List ℕ) → (level ≡ 0) ⊎ (length (low_words level fence) ≡ 0)
  by_level zero fence = inl refl
  by_level (suc level) fence = inr refl

  least_small : (level : ℕ) → (level ≡ 0) ⊎ (low ≡ 0) → (241 * least_in_half level ≤ 773 - 4 * low) × (241 * least_in_half level ≤ 773 - 4 * high)
  least_small zero by = (omega (arith, low_most), omega (arith, high_most))
  least_small (suc level) (inl leaf) = absurd (omega (arith, leaf))
  least_small (suc level) (inr none) = (omega (arith, none), omega (arith, high_most))

  take_short : (k : ℕ) (xs : List Entry) → length (take k xs) ≤ k
  take_short zero xs = omega arith
  take_short (suc k) [] = omega arith
  take_short (suc k) (x ∷ xs) = omega (arith, take_short k xs)

  chosen : Chosen es (least_in_half c.level) (773 - 4 * low) (773 - 4 * high)
  chosen =
      let least = least_in_half c.level in
      let two : least + least ≤ length es = enough c.level low low_most (by_level c.level c.low) h.over in
      let sizes = least_small c.level (by_level c.level c.low) in
      let first : cost (take least es) ≤ 773 - 4 * low =
      omega (arith, cost_most (take least es) (All-take IsSmall least es small), take_short least es, sizes.0) in
      choose es least (773 - 4 * low) (773 - 4 * high) small room sizes.1 (length es - (least + least)) least (omega (arith, two)) (omega arith) first

  pub some_place : (k : ℕ) × IsPlace c es k × HalvesFit c fresh es k
  some_place =
      let at = chosen.at in
      let cut = cut_short es at small in (
        at,
        (chosen.from, chosen.to),
        (
          omega (arith, cost_is (take at es), chosen.before, low_most, words_of-length (cut_at es at), cut),
          omega (arith, cost_is (drop at es), chosen.after, high_most, low_small c.level (cut_at es at) cut),
        ),
      )

-- the larger half is as large as each, and no larger than both
left_larger : (c : Content) (fresh : Logical) (es : List Entry) (k : ℕ) → used_words (left_half c fresh es k) ≤ larger c fresh es k
left_larger c fresh es k =
    cond_both (leb (used_words (left_half c fresh es k)) (used_words (right_half c fresh es k))) _ _ (λ x. used_words (left_half c fresh es k) ≤ x)
    (λ is. leb-true _ _ is) (λ other. omega arith)

right_larger : (c : Content) (fresh : Logical) (es : List Entry) (k : ℕ) → used_words (right_half c fresh es k) ≤ larger c fresh es k
right_larger c fresh es k =
    cond_both (leb (used_words (left_half c fresh es k)) (used_words (right_half c fresh es k))) _ _ (λ x. used_words (right_half c fresh es k) ≤ x)
    (λ is. omega arith) (λ other. omega (arith, leb-false _ _ other))

larger_most : (c : Content) (fresh : Logical) (es : List Entry) (k : ℕ) → HalvesFit c fresh es k → larger c fresh es k ≤ 256
larger_most c fresh es k fit =
    cond_both (leb (used_words (left_half c fresh es k)) (used_words (right_half c fresh es k))) _ _ (λ x. x ≤ 256) (λ is. fit.1) (λ other. fit.0)

pub halves_fit : (c : Content) (e : Entry) (fresh : Logical) (k : ℕ) → CanHalve c e → IsCut c fresh (put_entry e c.entries) k → HalvesFit c fresh (put_entry e c.entries) k
halves_fit c e fresh k h cut =
    let es = put_entry e c.entries in
    let other = some_place c e fresh h in
    let most : larger c fresh es k ≤ 256 = omega (arith, cut.least other.0 other.1, larger_most c fresh es other.0 other.2) in
    (omega (arith, left_larger c fresh es k, most), omega (arith, right_larger c fresh es k, most))

pub one_cut : (c : Content) (fresh : Logical) (es : List Entry) (j k : ℕ) → IsCut c fresh es j → IsCut c fresh es k → j ≡ k
one_cut c fresh es j k one other =
    elim (cases_lt j k) [
      | inl less ↦ absurd (omega (arith, other.first j one.place less, one.least k other.place))
      | inr at_most ↦ elim (cases_lt k j) [
        | inl less ↦ absurd (omega (arith, one.first k other.place less, other.least j one.place))
        | inr same ↦ omega (arith, at_most, same)
      ]
    ]
