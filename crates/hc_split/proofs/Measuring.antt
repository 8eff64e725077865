-- Measuring: how many words the halves of joined entries have.
use Rattle.std.proofs.Common.{◌≡◌, sym, ap, ◌∙◌, ℕ, ◌+◌, ◌-◌, ◌/◌, ◌<◌, ◌≤◌, List, length, take, drop, arith, cond, leb, length-drop, length-take-le, inl, inr}
use Rattle.std.proofs.lemmas.Bool.{cases_Bool, leb-true, leb-false}
use Rattle.std.proofs.lemmas.List.{take-append-drop, take_all}
use Rattle.hc_base.specs.declared.numbers.Logical.{Logical}
use Rattle.hc_base.specs.Content.{Content, Entry}
use Rattle.hc_base.specs.Layout.{all_words, low_words, used_words}
use Rattle.hc_base.proofs.Places.{words_of-length}
use Rattle.hc_page.specs.Puts.{with_entries}
use Rattle.hc_page.proofs.Entries.{all_words-split}
use Rattle.hc_shape.specs.Halves.{cut_at, larger, left_half, right_half}
use Rattle.hc_split.specs.declared.cut.Frame.{Frame}
use Rattle.hc_split.specs.Parts.{IsFrame}

pub left_is : (frame : Frame) (c : Content) (fresh : Logical) (es : List Entry) (at cut words : ℕ) → IsFrame frame c → at < length es
    → cut ≡ (length (cut_at es at) + 7) / 8 → words ≡ length (all_words (take at es)) → 4 + (at + 3) / 4 + frame.low + cut + words ≡ used_words (left_half c fresh es at)
left_is frame c fresh es at cut words is inside cut_is words_is =
    omega (arith, is.low_is, words_of-length (cut_at es at), cut_is, words_is, length-take-le at es (omega (arith, inside)))

-- the words of the other entries
rest_is : (es : List Entry) (at n : ℕ) → n ≡ length es → length (all_words (take n es)) ≡ length (all_words (take at es)) + length (all_words (drop at es))
rest_is es at n all =
    ap (λ xs. length (all_words xs)) (take_all n es (omega (arith, all)) ∙ sym (take-append-drop at es)) ∙ all_words-split (take at es) (drop at es)

pub no_more : (es : List Entry) (at n : ℕ) → n ≡ length es → length (all_words (take at es)) ≤ length (all_words (take n es))
no_more es at n all = omega (arith, rest_is es at n all)

pub right_is : (frame : Frame) (c : Content) (fresh : Logical) (es : List Entry) (at n cut all words : ℕ) → IsFrame frame c → at < length es → n ≡ length es
    → cut ≡ length (low_words frame.level (cut_at es at)) → all ≡ length (all_words (take n es)) → words ≡ length (all_words (take at es))
    → 4 + (n - at + 3) / 4 + cut + frame.high + (all - words) ≡ used_words (right_half c fresh es at)
right_is frame c fresh es at n cut all words is inside n_is cut_is all_is words_is =
    omega (
      arith,
      is.high_is,
      cut_is ∙ ap (λ l. length (low_words l (cut_at es at))) is.level_is,
      rest_is es at n n_is,
      all_is,
      words_is,
      n_is,
      length-drop at es,
    )

pub all_is : (frame : Frame) (c : Content) (es : List Entry) (n words : ℕ) → IsFrame frame c → n ≡ length es → words ≡ length (all_words (take n es))
    → 4 + (n + 3) / 4 + frame.low + frame.high + words ≡ used_words (with_entries c es)
all_is frame c es n words is n_is words_is =
    omega (arith, is.low_is, is.high_is, n_is, words_is, ap (λ xs. length (all_words xs)) (take_all n es (omega (arith, n_is))))

-- the larger of two numbers
pub larger_right : (c : Content) (fresh : Logical) (es : List Entry) (at left right : ℕ) → left ≡ used_words (left_half c fresh es at) → right ≡ used_words (right_half c fresh es at)
    → left ≤ right → right ≡ larger c fresh es at
larger_right c fresh es at left right left_is right_is order =
    elim (cases_Bool (leb (used_words (left_half c fresh es at)) (used_words (right_half c fresh es at)))) [
      | inl at_most ↦ right_is ∙ sym (ap (λ b. cond b (used_words (right_half c fresh es at)) (used_words (left_half c fresh es at))) at_most)
      | inr other ↦ absurd (omega (arith, leb-false (used_words (left_half c fresh es at)) (used_words (right_half c fresh es at)) other, left_is, right_is, order))
    ]

pub larger_left : (c : Content) (fresh : Logical) (es : List Entry) (at left right : ℕ) → left ≡ used_words (left_half c fresh es at) → right ≡ used_words (right_half c fresh es at)
    → right < left → left ≡ larger c fresh es at
larger_left c fresh es at left right left_is right_is order =
    elim (cases_Bool (leb (used_words (left_half c fresh es at)) (used_words (right_half c fresh es at)))) [
      | inl at_most ↦ absurd (omega (arith, leb-true (used_words (left_half c fresh es at)) (used_words (right_half c fresh es at)) at_most, left_is, right_is, order))
      | inr other ↦ left_is ∙ sym (ap (λ b. cond b (used_words (right_half c fresh es at)) (used_words (left_half c fresh es at))) other)
    ]
