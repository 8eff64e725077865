-- The digits so far are written of n, and some number of the range begins with them.
use Rattle.std.proofs.Common.{◌≡◌, ◌^◌, ◌<◌, ◌++◌, length}
use Rattle.std.specs.Prelude.{decimal}
use Rattle.hc_reply.specs.Numbers.{SomeBegins}
use Rattle.hc_reply.proofs.number.number.Given as goal

abbrev pub invariant-loop-d : goal.invariant-loop-d
invariant-loop-d l = record {
  written : l.bytes ≡ decimal l.n ++ l.rest;
  some : SomeBegins l.n l.low l.high;
  small : l.n < 2 ^ 64;
}

abbrev pub decreases-loop-d : goal.decreases-loop-d
decreases-loop-d l = length l.rest
