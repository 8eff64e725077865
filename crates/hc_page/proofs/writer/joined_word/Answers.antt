-- The word is of the second string, of the first one, or of both.
use Rattle.std.proofs.Common.{◌≡◌, ℕ, ◌+◌, ◌-◌, ◌/◌, ◌^◌, ◌<◌, ◌≤◌, ◌++◌, List, length, drop, get_or, refl, sym, ap, ◌∙◌, arith, Fits, w8, w64, length-drop}
use Rattle.std.proofs.lemmas.List.{drop-append-le}
use Rattle.std.proofs.Math.Seq.{drop-append-add}
use Rattle.hc_base.specs.Layout.{word}
use Rattle.hc_base.proofs.KeyOrder.{AreBytes, AreBytes-drop, word-below}
use Rattle.hc_page.proofs.Entries.{small_both}
use Rattle.hc_page.proofs.Keys.{word-front, word-joined}
use Rattle.hc_page.proofs.writer.joined_word.Goals as goal

-- the bytes of a slice are bytes
are_bytes : (bytes : List ℕ) → ((i : ℕ) → Fits w8 (get_or bytes i 0)) → AreBytes bytes
are_bytes bytes fits i = omega (arith, fits i)

-- in the first string eight bytes are left
in_first : (one other : List ℕ) (at : ℕ) → at + 8 ≤ length one → word 8 (drop at one) ≡ word 8 (drop at (one ++ other))
in_first one other at room =
    sym (ap (λ bs. word 8 bs) (drop-append-le at one other (omega arith)) ∙ word-front 8 (drop at one) other (omega (arith, length-drop at one)))

-- in the first string fewer are left
in_both : (one other : List ℕ) (at left : ℕ) → AreBytes other → left ≡ length one - at → at < length one → left < 8
    → word 8 (drop at one) + word 8 other / 256 ^ left ≡ word 8 (drop at (one ++ other))
in_both one other at left of is less few =
    let size : length (drop at one) ≡ left = omega (arith, length-drop at one, is) in
    ap (λ n. word 8 (drop at one) + word 8 other / 256 ^ n) (sym size)
    ∙ sym (ap (λ bs. word 8 bs) (drop-append-le at one other (omega arith)) ∙ word-joined (drop at one) other (omega (arith, size)) of)

-- past the first string
in_second : (one other : List ℕ) (at : ℕ) → length one ≤ at → word 8 (drop (at - length one) other) ≡ word 8 (drop at (one ++ other))
in_second one other at past =
    ap (λ bs. word 8 bs) (sym (ap (λ n. drop n (one ++ other)) (let e : at ≡ length one + (at - length one) = omega arith in e) ∙ drop-append-add one other (at - length one)))

pub returns-then-at-one : goal.returns-then-at-one
returns-then-at-one c = c.word_from.ensures ∙ in_second c.args.one.now c.args.other.now c.args.at c.if-at-one.true

pub returns-then-left-ge8 : goal.returns-then-left-ge8
returns-then-left-ge8 c = c.word_from-then-left-ge8.ensures ∙ in_first c.args.one.now c.args.other.now c.args.at (omega arith)

-- the two words together are one
both : (one other : List ℕ) (at a b c : ℕ) → AreBytes other → at < length one → length one - at < 8 → a ≡ word 8 (drop at one) → c ≡ word 8 other → b ≡ c / 256 ^ (length one - at)
    → a + b ≡ word 8 (drop at (one ++ other))
both one other at a b c of less few one_is other_is cut =
    ap (λ n. n + b) one_is ∙ (ap (λ n. word 8 (drop at one) + n) (cut ∙ ap (λ n. n / 256 ^ (length one - at)) other_is) ∙ in_both one other at (length one - at) of refl less few)

both_small : (one other : List ℕ) (at sum : ℕ) → AreBytes one → AreBytes other → sum ≡ word 8 (drop at (one ++ other)) → Fits w64 sum
both_small one other at sum of_one of_other is =
    omega (arith, is, word-below 8 (drop at (one ++ other)) (AreBytes-drop at (one ++ other) (small_both one other of_one of_other)))

pub overflow_add-result : goal.overflow_add-result
overflow_add-result c =
    let of = are_bytes c.args.other.now c.type_inv.other in
    both_small c.args.one.now c.args.other.now c.args.at (c.word_from-2.result + c.after_bytes.result) (are_bytes c.args.one.now c.type_inv.one) of
    (both c.args.one.now c.args.other.now c.args.at c.word_from-2.result c.after_bytes.result c.first_word.result of c.if-at-one.false c.if-left-ge8.false c.word_from-2.ensures c.first_word.ensures c.after_bytes.ensures)

pub returns : goal.returns
returns c =
    let of = are_bytes c.args.other.now c.type_inv.other in
    both c.args.one.now c.args.other.now c.args.at c.word_from-2.result c.after_bytes.result c.first_word.result of c.if-at-one.false c.if-left-ge8.false c.word_from-2.ensures c.first_word.ensures c.after_bytes.ensures
