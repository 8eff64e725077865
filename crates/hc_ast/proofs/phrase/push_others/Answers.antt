use Rattle.std.proofs.Common.{string_bytes, ◌∷◌, codes}
use Rattle.hc_ast.proofs.Lists.{each_written}
use Rattle.hc_ast.proofs.phrase.push_others.Goals as goal

pub returns : goal.returns
returns g c =
    each_written (λ other. codes "," ∷ g.P.Phrase.words other) (string_bytes c.args.out.now) (string_bytes c.loop-other.out) c.args.others.now c.loop-other.other-index c.loop-other.invariant c.loop-other-test.false
