-- Each turn halves the part that is left.
use Rattle.std.proofs.Common.{◌≡◌, ◌+◌, ◌-◌, ◌/◌, [], get_or, sym, ap, ◌∙◌, arith}
use Rattle.std.proofs.lemmas.List.{length-map}
use Rattle.std.specs.Ordering.{nat_cmp}
use Rattle.std.specs.Cmp.Lexicographic.{slice_cmp}
use Rattle.hc_base.specs.Content.{keys}
use Rattle.hc_page.proofs.Entries.{level_is, count_is, entry_there, key_at}
use Rattle.hc_page.proofs.Halving.{between_all, upper_half, lower_half, nothing_left, found_at, is_less, is_greater, is_equal}
use Rattle.hc_page.proofs.search.find_sought.Goals as goal

pub halves-init : goal.halves-init
halves-init c = λ d page. between_all (keys d.entries) c.args.key.now.bytes.now c.count-high.result (c.count-high.ensures ∙ (count_is c.args.page.now.words d page ∙ sym (length-map d.entries (λ entry. entry.key))))

pub key_of-requires : goal.key_of-requires
key_of-requires c =
    let d = c.requires.valid.0 in
    let page = c.requires.valid.1 in
    let part = c.halves.invariant d page in
    let m = c.halves.low + (c.halves.high - c.halves.low) / 2 in
    let there = entry_there d.entries m (omega (arith, part.within, length-map d.entries (λ entry. entry.key))) in
    record { entry = (d, there.0, page, sym (level_is c.args.page.now.words d page) ∙ sym c.level-level.ensures, there.1) }

pub halves-preserved-in-Less : goal.halves-preserved-in-Less
halves-preserved-in-Less c = λ d page.
    let part = c.halves.invariant d page in
    let m = c.halves.low + (c.halves.high - c.halves.low) / 2 in
    let there = entry_there d.entries m (omega (arith, part.within, length-map d.entries (λ entry. entry.key))) in
    let order : slice_cmp nat_cmp (get_or (keys d.entries) m []) c.args.key.now.bytes.now ≡ c.compare.result =
    ap (λ k. slice_cmp nat_cmp k c.args.key.now.bytes.now) (key_at d.entries m there.0 there.1)
    ∙ sym (c.compare.ensures there.0.key (c.key_of.ensures.key d there.0 page there.1)) in
    upper_half (keys d.entries) c.args.key.now.bytes.now c.halves.low c.halves.high m page.content.ascending part (omega arith) (is_less (get_or (keys d.entries) m []) c.args.key.now.bytes.now (order ∙ c.in-Less.is))

pub halves-preserved : goal.halves-preserved
halves-preserved c = λ d page.
    let part = c.halves.invariant d page in
    let m = c.halves.low + (c.halves.high - c.halves.low) / 2 in
    let there = entry_there d.entries m (omega (arith, part.within, length-map d.entries (λ entry. entry.key))) in
    let order : slice_cmp nat_cmp (get_or (keys d.entries) m []) c.args.key.now.bytes.now ≡ c.compare.result =
    ap (λ k. slice_cmp nat_cmp k c.args.key.now.bytes.now) (key_at d.entries m there.0 there.1)
    ∙ sym (c.compare.ensures there.0.key (c.key_of.ensures.key d there.0 page there.1)) in
    lower_half (keys d.entries) c.args.key.now.bytes.now c.halves.low c.halves.high m page.content.ascending part (omega arith) (omega arith) (is_greater (get_or (keys d.entries) m []) c.args.key.now.bytes.now (order ∙ c.in-Greater.is))

pub returns-in-Equal : goal.returns-in-Equal
returns-in-Equal c = record {
  found = λ d page.
      let part = c.halves.invariant d page in
      let m = c.halves.low + (c.halves.high - c.halves.low) / 2 in
      let there = entry_there d.entries m (omega (arith, part.within, length-map d.entries (λ entry. entry.key))) in
      let order : slice_cmp nat_cmp (get_or (keys d.entries) m []) c.args.key.now.bytes.now ≡ c.compare.result =
      ap (λ k. slice_cmp nat_cmp k c.args.key.now.bytes.now) (key_at d.entries m there.0 there.1)
      ∙ sym (c.compare.ensures there.0.key (c.key_of.ensures.key d there.0 page there.1)) in
      found_at (keys d.entries) c.args.key.now.bytes.now m (omega (arith, part.within)) (is_equal (get_or (keys d.entries) m []) c.args.key.now.bytes.now (order ∙ c.in-Equal.is));
}

pub returns : goal.returns
returns c = record { found = λ d page. nothing_left (keys d.entries) c.args.key.now.bytes.now c.halves.low c.halves.high (c.halves.invariant d page) c.halves-test.false }
