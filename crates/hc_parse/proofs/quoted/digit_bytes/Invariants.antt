use Rattle.std.proofs.Common.{◌≡◌, ◌++◌, true, length}
use Rattle.hc_grammar.specs.Terminals.{also, digit_bytes}
use Rattle.hc_parse.specs.Pieces.{are_hex_pairs}
use Rattle.hc_parse.proofs.quoted.digit_bytes.Given as goal

abbrev pub invariant-pairs : goal.invariant-pairs
invariant-pairs l = (are_hex_pairs l.rest ≡ true) × (also (λ inner. l.out.items ++ inner) (digit_bytes l.rest) ≡ digit_bytes l.digits)

abbrev pub decreases-pairs : goal.decreases-pairs
decreases-pairs l = length l.rest
