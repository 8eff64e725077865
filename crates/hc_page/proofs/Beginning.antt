-- Head and fences, and zeros: the draft of a page with no entry yet.
use Rattle.std.proofs.Common.{◌≡◌, ℕ, ◌+◌, ◌-◌, ◌*◌, ◌/◌, ◌^◌, ◌<◌, ◌≤◌, List, [], ◌++◌, length, get_or, refl, sym, ap, subst, ◌∙◌, inl, inr, arith, append-nil, length-append}
use Rattle.std.proofs.lemmas.List.{get_or_append_left, get_or-append_right}
use Rattle.std.proofs.lemmas.Bool.{cases_lt}
use Rattle.hc_base.specs.Content.{Content}
use Rattle.hc_base.specs.Layout.{words_of, low_words, fence_words}
use Rattle.hc_base.proofs.Places.{words_of-length}
use Rattle.hc_page.specs.declared.writer.Draft.{Draft}
use Rattle.hc_page.specs.declared.writer.Head.{Head}
use Rattle.hc_page.specs.Drafts.{IsDraft, IsWritten, fences, fences_from, entries_from, first_of, second_of, third_of, started, four, low_from, high_part}

module _ (head : Head) (draft : Draft) (cleared between words : List ℕ) (low_at high_at : ℕ) (low high : List ℕ)
    (low_is : words_of low ≡ low_words (started head).level (started head).low) (high_is : words_of high ≡ fence_words (started head).high)
    (none : draft.count ≡ 0) (used : draft.used ≡ draft.first)
    (low_place : low_at ≡ fences_from draft.total) (high_place : high_at ≡ low_at + length (words_of low)) (first_place : draft.first ≡ high_at + length (words_of high))
    (room : draft.first ≤ 256)
    (word_0 : get_or cleared 0 0 ≡ first_of draft.total (started head)) (word_1 : get_or cleared 1 0 ≡ second_of (started head)) (word_2 : get_or cleared 2 0 ≡ third_of draft.total (started head))
    (rest : (i : ℕ) → 3 ≤ i → get_or cleared i 0 ≡ 0)
    (lows : IsWritten cleared between low_at (words_of (low ++ []))) (highs : IsWritten between words high_at (words_of (high ++ []))) where
  c : Content
  c = started head

  lows_here : IsWritten cleared between low_at (words_of low)
  lows_here = subst (λ bytes. IsWritten cleared between low_at (words_of bytes)) (append-nil low) lows

  highs_here : IsWritten between words high_at (words_of high)
  highs_here = subst (λ bytes. IsWritten between words high_at (words_of bytes)) (append-nil high) highs

  early : (i : ℕ) → i < low_at → get_or words i 0 ≡ get_or cleared i 0
  early i below = highs_here.before i (omega (arith, high_place)) ∙ lows_here.before i below

  fences_are : fences (started head) ≡ words_of low ++ words_of high
  fences_are = ap (λ ws. ws ++ fence_words (started head).high) (sym low_is) ∙ ap (λ ws. words_of low ++ ws) (sym high_is)

  long : length (fences (started head)) ≡ length (words_of low) + length (words_of high)
  long = ap (λ ws. length ws) fences_are ∙ length-append (words_of low) (words_of high)

  fence : (k : ℕ) → k < length (fences (started head)) → get_or words (fences_from draft.total + k) 0 ≡ get_or (fences (started head)) k 0
  fence k within =
      (elim (cases_lt k (length (words_of low))) [
        | inl inside ↦
            ap (λ n. get_or words (n + k) 0) (sym low_place)
            ∙ (highs_here.before (low_at + k) (omega (arith, high_place))
            ∙ (lows_here.here k inside ∙ sym (get_or_append_left (words_of low) (words_of high) 0 k inside)))
        | inr past ↦
            let n = k - length (words_of low) in
            ap (λ m. get_or words m 0) (let e : fences_from draft.total + k ≡ high_at + n = omega (arith, low_place, high_place, past) in e)
            ∙ (highs_here.here n (omega (arith, long, within, past)) ∙ sym (get_or-append_right (words_of low) (words_of high) (length (words_of low)) k 0 refl past))
      ])
      ∙ ap (λ ws. get_or ws k 0) (sym fences_are)

  pub begun : IsDraft draft words (started head)
  begun = record {
    count = sym none;
    room = omega (arith, none);
    first = omega (arith, first_place, high_place, low_place, long);
    used = omega (arith, used);
    fits = omega (arith, used, room);
    mark = refl;
    word_0 = early 0 (omega (arith, low_place)) ∙ word_0;
    word_1 = early 1 (omega (arith, low_place)) ∙ word_1;
    word_2 = early 2 (omega (arith, low_place)) ∙ word_2;
    word_3 = early 3 (omega (arith, low_place)) ∙ rest 3 (omega arith);
    directory = λ j within. early (4 + j) (omega (arith, low_place, within)) ∙ (rest (4 + j) (omega arith) ∙ (let e : 0 ≡ four [] j = omega arith in e));
    fences = fence;
    entries = λ k.
        highs_here.after (draft.first + k) (omega (arith, first_place))
        ∙ (lows_here.after (draft.first + k) (omega (arith, first_place, high_place)) ∙ rest (draft.first + k) (omega (arith, first_place, high_place, low_place)));
  }

-- the fences fit where the entries can begin
pub fences_fit : (head : Head) (total : ℕ) (low high : List ℕ) → words_of low ≡ low_words head.level head.low.now → words_of high ≡ fence_words (started head).high
    → entries_from total (started head) ≡ fences_from total + (length low + 7) / 8 + (length high + 7) / 8
fences_fit head total low high low_is high_is =
    omega (arith, length-append (low_words head.level head.low.now) (fence_words (started head).high), ap (λ ws. length ws) low_is, ap (λ ws. length ws) high_is, words_of-length low, words_of-length high)

-- the third word with places that are worked out
pub third_begun : (head : Head) (total low_at high_at first word : ℕ) (low high : List ℕ) → words_of low ≡ low_words head.level head.low.now → words_of high ≡ fence_words (started head).high
    → low_at ≡ fences_from total → high_at ≡ low_at + (length low + 7) / 8 → first ≡ high_at + (length high + 7) / 8
    → word ≡ low_from head.level low_at first * 2 ^ 48 + length head.low.now * 2 ^ 32 + high_part high_at (started head).high
    → word ≡ third_of total (started head)
third_begun head total low_at high_at first word low high low_is high_is low_place high_place first_place is =
    let first_same : first ≡ entries_from total (started head) = omega (arith, fences_fit head total low high low_is high_is, low_place, high_place, first_place) in
    let high_same : high_at ≡ fences_from total + length (low_words head.level head.low.now) = omega (arith, ap (λ ws. length ws) low_is, words_of-length low, low_place, high_place) in
    is
    ∙ (ap (λ n. low_from head.level n first * 2 ^ 48 + length head.low.now * 2 ^ 32 + high_part high_at (started head).high) low_place
    ∙ (ap (λ n. low_from head.level (fences_from total) n * 2 ^ 48 + length head.low.now * 2 ^ 32 + high_part high_at (started head).high) first_same
    ∙ ap (λ n. low_from head.level (fences_from total) (entries_from total (started head)) * 2 ^ 48 + length head.low.now * 2 ^ 32 + high_part n (started head).high) high_same))
