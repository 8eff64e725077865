-- What the words tell is what the entry has.
use Rattle.std.proofs.Common.{◌≡◌, sym, ◌∙◌, arith}
use Rattle.std.proofs.lemmas.Option.{none-some}
use Rattle.hc_base.specs.Content.{Child}
use Rattle.hc_page.proofs.TellingEntries.{told_one, child_known, child_key, part_bytes}
use Rattle.hc_page.proofs.told.child_told.Goals.{then-child-eq0-via-then-child-eq0, then-child-eq0-via-else-child-eq0+then-key_len-gt463}
use Rattle.hc_page.proofs.told.child_told.Goals as goal

pub returns-then-at-gt255 : goal.returns-then-at-gt255
returns-then-at-gt255 c = record {
  within = tt;
  is = λ d slot e page inner there is. let r = child_known c.args.page.now.words d slot e c.args.at page inner there is in absurd (omega (arith, r.some));
}

pub returns-then-child-eq0 : goal.returns-then-child-eq0
returns-then-child-eq0 c = record {
  within = tt;
  is = λ d slot e page inner there is.
      let r = child_known c.args.page.now.words d slot e c.args.at page inner there is in
      elim c.then-child-eq0.branch [
        | then-child-eq0-via-then-child-eq0 w ↦ absurd (omega (arith, r.number, w.if-child-eq0.true, c.upper-child.ensures.half))
        | then-child-eq0-via-else-child-eq0+then-key_len-gt463 w ↦ absurd (omega (arith, r.short, w.if-key_len-gt463.true, c.key_len-key_len.ensures))
      ];
}

pub returns-in_err-key : goal.returns-in_err-key
returns-in_err-key c =
    rw c.from_residual.ensures
    (record {
      within = tt;
      is = λ d slot e page inner there is.
          let words = c.args.page.now.words in
          let r = child_known words d slot e c.args.at page inner there is in
          none-some e.key (child_key words c.args.at e _ _ r c.key_len-key_len.ensures (c.in_err-key.ensures words c.requires.bytes));
    })

pub returns : goal.returns
returns c =
    let words = c.args.page.now.words in
    let at = c.args.at in
    let key = c.in_ok-key.key.now in
    let key_told = c.in_ok-key.ensures words c.requires.bytes in
    record {
      within = ((omega (arith, c.if-child-eq0.false), c.upper-child.ensures.small), part_bytes words _ _ 463 key key_told.are (omega (arith, c.if-key_len-gt463.false)));
      is = λ d slot e page inner there is.
          let r = child_known words d slot e at page inner there is in
          let key_is : key ≡ e.key = told_one key e.key (child_key words at e _ _ r c.key_len-key_len.ensures key_told) in
          let held_is = (λ i. Child (record { 0 = c.upper-child.ensures.half i })) ∙ sym r.child in
          λ i. record { key = key_is i; held = held_is i };
    }
