-- The third word tells where the low fence is.
use Rattle.std.proofs.Common.{◌/◌, ◌^◌, length, get_or, sym, subst, arith}
use Rattle.hc_page.proofs.HeadWords.{head_read, low_read}
use Rattle.hc_page.specs.Reading.{IsKeyAt}
use Rattle.hc_page.proofs.fences.low.Goals as goal

pub copy_key-requires-clause-fits : goal.copy_key-requires-clause-fits
copy_key-requires-clause-fits c =
    let r = head_read c.args.page.now.words c.requires.valid.0 c.requires.valid.1 in omega (arith, r.low_fits, r.low_place, r.low_length)

pub returns : goal.returns
returns c = record {
  low = λ d page.
      let words = c.args.page.now.words in
      let r = head_read words d page in
      c.copy_key.ensures d.low
      (subst (λ n. IsKeyAt words (get_or words 2 0 / 2 ^ 48) n d.low) (sym r.low_length)
      (subst (λ n. IsKeyAt words n (length d.low) d.low) (sym r.low_place) (low_read words d page)));
}
