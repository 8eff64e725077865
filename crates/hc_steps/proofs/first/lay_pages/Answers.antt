-- Both rows are contents.
use Rattle.hc_rule.proofs.Laying.{both_laid}
use Rattle.hc_steps.proofs.first.lay_pages.Goals as goal

pub returns : goal.returns
returns c =
    both_laid c.args.layout.now c.args.words.now c.lay_row.new.words c.lay_row-2.new.words c.first_leaf.new.out.words c.first_inner.new.out.words c.requires.blank c.lay_row.ensures c.lay_row-2.ensures c.first_leaf.ensures.content c.first_inner.ensures.content
