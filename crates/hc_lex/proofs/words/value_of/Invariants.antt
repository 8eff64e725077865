-- The value so far, with the digits that are left after it.
use Rattle.std.proofs.Common.{◌≡◌, ◌≤◌, drop}
use Rattle.hc_lex.specs.Tokens.{value_after, value_of}
use Rattle.hc_lex.proofs.words.value_of.Given as goal

abbrev pub invariant-loop-b : goal.invariant-loop-b
invariant-loop-b l = record {
  value : value_after l.value (drop l.b-index l.digits) ≡ value_of l.digits;
  fits : l.value ≤ 9223372036854775809;
}
