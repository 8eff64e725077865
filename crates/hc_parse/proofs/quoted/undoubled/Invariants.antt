use Rattle.std.proofs.Common.{◌≡◌, ◌++◌, length}
use Rattle.hc_grammar.specs.Terminals.{also, undoubled}
use Rattle.hc_parse.proofs.quoted.undoubled.Given as goal

abbrev pub invariant-bytes : goal.invariant-bytes
invariant-bytes l = also (λ inner. l.out.items ++ inner) (undoubled l.quote l.rest) ≡ undoubled l.quote l.bytes

abbrev pub decreases-bytes : goal.decreases-bytes
decreases-bytes l = length l.rest
