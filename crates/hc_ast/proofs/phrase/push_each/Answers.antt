use Rattle.std.proofs.Common.{string_bytes}
use Rattle.hc_ast.proofs.Lists.{each_written}
use Rattle.hc_ast.proofs.phrase.push_each.Goals as goal

pub returns : goal.returns
returns g c =
    each_written g.P.Phrase.words (string_bytes c.args.out.now) (string_bytes c.loop-part.out) c.args.parts.now c.loop-part.part-index c.loop-part.invariant c.loop-part-test.false
