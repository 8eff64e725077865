-- Each word goes to its place.
use Rattle.std.proofs.Common.{◌≡◌, ◌+◌, length, take, drop, get_or, sym, ◌∙◌, arith, length-drop, length-take-le}
use Rattle.std.proofs.lemmas.List.{get_or-take, get_or-drop}
use Rattle.hc_page.proofs.Written.{written_more, written_all}
use Rattle.hc_page.proofs.writer.copy_words.Goals as goal

pub loop-k-preserved : goal.loop-k-preserved
loop-k-preserved c =
    let ws = take c.args.len (drop c.args.from c.args.page.now.words) in
    let long : length ws ≡ c.args.len = length-take-le c.args.len (drop c.args.from c.args.page.now.words) (omega (arith, length-drop c.args.from c.args.page.now.words)) in
    written_more c.args.out.now.words c.loop-k.out.words c.args.at c.loop-k.k (get_or c.args.page.now.words (c.args.from + c.loop-k.k) 0) ws c.loop-k.invariant (omega (arith, long)) (omega (arith, long))
    (sym (get_or-take c.args.len (drop c.args.from c.args.page.now.words) c.loop-k.k 0 (omega arith) ∙ get_or-drop c.args.from c.args.page.now.words c.loop-k.k 0))

pub returns : goal.returns
returns c =
    let ws = take c.args.len (drop c.args.from c.args.page.now.words) in
    let long : length ws ≡ c.args.len = length-take-le c.args.len (drop c.args.from c.args.page.now.words) (omega (arith, length-drop c.args.from c.args.page.now.words)) in
    written_all c.args.out.now.words c.loop-k.out.words c.args.at c.loop-k.k ws c.loop-k.invariant (omega (arith, long))
