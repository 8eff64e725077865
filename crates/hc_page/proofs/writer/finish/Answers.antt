-- With the number of its words the page is whole.
use Rattle.std.proofs.Common.{◌+◌, ◌*◌, ◌^◌, get_or, set, refl, arith}
use Rattle.hc_page.proofs.Finishing.{finished, first-small}
use Rattle.hc_page.proofs.writer.finish.Goals as goal

pub overflow_add-out : goal.overflow_add-out
overflow_add-out c = let w = c.requires.whole in omega (arith, first-small c.args.draft c.args.out.now.words w.0 w.1)

pub returns : goal.returns
returns c = record {
  page = λ d whole.
      let old = c.args.out.now.words in
      finished c.args.draft old (set old 0 (get_or old 0 0 + c.args.draft.used * 2 ^ 16)) d whole (omega arith) refl;
}
