-- A leaf's low fence is written out.
use Rattle.std.proofs.Common.{◌∙◌, ◌/◌, ◌+◌, ap, sym, length, arith, ◌≡◌}
use Rattle.hc_base.specs.Layout.{low_words}
use Rattle.hc_base.proofs.Places.{words_of-length}
use Rattle.hc_split.proofs.cut.low_size.Goals as goal

pub returns-then-level-eq0-clause-size : goal.returns-then-level-eq0-clause-size
returns-then-level-eq0-clause-size c = λ low is.
    c.size.ensures.size ∙ (let words : (c.args.len + 7) / 8 ≡ length (low_words 0 low) = omega (arith, words_of-length low, is) in words)
    ∙ ap (λ l. length (low_words l low)) (sym c.if-level-eq0.true)
