-- What was read, what is left, and what may come.
use Rattle.std.proofs.Common.{◌≡◌, ◌++◌, length}
use Rattle.hc_key.specs.Keys.{escaped}
use Rattle.hc_text.specs.Utf8.{IsOpen, HasRead}
use Rattle.hc_key.proofs.content.content.Given as goal

abbrev pub invariant-loop-byte : goal.invariant-loop-byte
invariant-loop-byte l = record {
  written : l.bytes ≡ escaped l.out.items ++ l.rest;
  alive : IsOpen l.expected;
  goes : HasRead l.fn.first l.out.items l.expected;
}

abbrev pub decreases-loop-byte : goal.decreases-loop-byte
decreases-loop-byte l = length l.rest
