-- The first word tells whether there is a high fence, and the third where it is.
use Rattle.std.proofs.Common.{◌≡◌, ◌/◌, ◌%◌, ◌^◌, length, List, ℕ, get_or, sym, ap, subst, ◌∙◌, arith, Option, Some, None, refl}
use Rattle.hc_base.specs.Content.{Content}
use Rattle.hc_base.specs.Layout.{IsPage, no_high_flag}
use Rattle.hc_page.proofs.HeadWords.{head_read, high_read}
use Rattle.hc_page.specs.Reading.{IsKeyAt}
use Rattle.hc_page.proofs.fences.high.Goals as goal

-- no flag, so a high fence
some_high : (words : List ℕ) (c : Content) → IsPage words c → (get_or words 0 0 % 2 ≡ 1 → ⊥) → (h : List ℕ) × (c.high ≡ Some h)
some_high words c page unset = by_case c.high refl
  where
    by_case : (high : Option (List ℕ)) → c.high ≡ high → (h : List ℕ) × (c.high ≡ Some h)
    by_case None is = absurd (unset (let r = head_read words c page in omega (arith, r.no_high, ap no_high_flag is)))
    by_case (Some h) is = (h, is)

pub copy_key-requires-clause-fits : goal.copy_key-requires-clause-fits
copy_key-requires-clause-fits c =
    let words = c.args.page.now.words in
    let d = c.requires.valid.0 in
    let r = head_read words d c.requires.valid.1 in
    let some = some_high words d c.requires.valid.1 c.if-page-eq1.false in
    let at = r.high some.0 some.1 in
    omega (arith, r.high_fits some.0 some.1, at.0, at.1)

pub returns : goal.returns
returns c = record {
  high = λ d page.
      let words = c.args.page.now.words in
      let r = head_read words d page in
      let some = some_high words d page c.if-page-eq1.false in
      let at = r.high some.0 some.1 in
      ap (λ k. Some k)
      (c.copy_key.ensures some.0
      (subst (λ n. IsKeyAt words (get_or words 2 0 / 2 ^ 16 % 2 ^ 16) n some.0) (sym at.1)
      (subst (λ n. IsKeyAt words n (length some.0) some.0) (sym at.0) (high_read words d some.0 page some.1))))
      ∙ sym some.1;
}
