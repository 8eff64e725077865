-- What the words tell is what the page has.
use Rattle.std.proofs.Common.{Bor, ◌≡◌, List, ℕ, Option, sym, subst, ◌∙◌, arith}
use Rattle.std.specs.Option.{option_copied}
use Rattle.std.proofs.lemmas.Option.{none-some}
use Rattle.hc_base.specs.Content.{Content, IsFence, OfSome}
use Rattle.hc_base.specs.Layout.{IsPage}
use Rattle.hc_page.proofs.Entries.{level_is}
use Rattle.hc_page.proofs.HeadWords.{head_read}
use Rattle.hc_page.proofs.OneContent.{right_same}
use Rattle.hc_page.proofs.TellingEntries.{told_one}
use Rattle.hc_page.proofs.TellingHead.{low_told, high_told, no_high_told, head_is}
use Rattle.hc_page.proofs.told.head_told.Goals.{then-page-eq1, else-page-eq1+in_ok-fence}
use Rattle.hc_page.proofs.told.head_told.Goals as goal

-- a high fence is told, or that there is none
abbrev IsHighTold : List ℕ → Option (Bor (List ℕ)) → Type 0
IsHighTold words high = OfSome IsFence (option_copied high) × ((d : Content) → IsPage words d → option_copied high ≡ d.high)

pub returns-then-own-eq0 : goal.returns-then-own-eq0
returns-then-own-eq0 c = record {
  within = tt;
  level = tt;
  is = λ d page. let r = head_read c.args.page.now.words d page in absurd (omega (arith, r.own, page.content.own.0, c.upper-own.ensures.half, c.if-own-eq0.true));
}

pub returns-in_err-low : goal.returns-in_err-low
returns-in_err-low c =
    rw c.from_residual.ensures
    (record {
      within = tt;
      level = tt;
      is = λ d page. none-some d.low (low_told c.args.page.now.words d _ page (c.in_err-low.ensures c.args.page.now.words c.requires.bytes));
    })

pub returns-in_err-fence : goal.returns-in_err-fence
returns-in_err-fence c =
    rw c.from_residual-in_err-fence.ensures
    (record {
      within = tt;
      level = tt;
      is = λ d page.
          let told = high_told c.args.page.now.words d _ page c.if-page-eq1.false (c.in_err-fence.ensures c.args.page.now.words c.requires.bytes) in none-some told.0 told.2;
    })

pub returns : goal.returns
returns c =
    let words = c.args.page.now.words in
    let low_tells = c.in_ok-low.ensures words c.requires.bytes in
    let high : IsHighTold words c.if-page-eq1.high =
    elim c.if-page-eq1.branch [
      | then-page-eq1 w ↦ subst (λ h. IsHighTold words h) (sym w.high-is) (tt, λ d page. sym (no_high_told words d page w.if-page-eq1.true))
      | else-page-eq1+in_ok-fence w ↦
          let tells = w.in_ok-fence.ensures words c.requires.bytes in
          subst (λ h. IsHighTold words h) (sym w.high-is)
          (tells.within, λ d page. let told = high_told words d _ page w.if-page-eq1.false tells in told.2 ∙ sym told.1)
    ] in
    record {
      within = record {
        level = omega (arith, c.level.ensures);
        own = (omega (arith, c.if-own-eq0.false), c.upper-own.ensures.small);
        right = c.number.ensures.from_1;
        low = low_tells.within;
        high = high.0;
      };
      level = c.level.ensures;
      is = λ d page.
          let r = head_read words d page in
          head_is d (record { level = c.level.result; own = record { 0 = c.upper-own.result }; right = c.number.result; low = c.in_ok-low.low; high = c.if-page-eq1.high }) (c.level.ensures ∙ level_is words d page) (c.upper-own.ensures.half ∙ r.own)
          (right_same c.number.result d.right c.number.ensures.from_1 page.content.right (c.number.ensures.number ∙ r.right))
          (told_one c.in_ok-low.low.now d.low (low_told words d _ page low_tells)) (high.1 d page) page.content.mark;
    }
