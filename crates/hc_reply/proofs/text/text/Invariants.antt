-- The bytes so far are the beginning of a text in quotes, which goes on with what is expected.
use Rattle.std.proofs.Common.{◌≡◌, ◌∷◌, ◌++◌, length}
use Rattle.hc_text.specs.Quotes.{doubled}
use Rattle.hc_text.specs.declared.utf8.Expected.TheVariants.{Character}
use Rattle.hc_text.specs.Utf8.{IsOpen, HasRead}
use Rattle.hc_reply.proofs.text.text.Given as goal

abbrev pub invariant-loop-byte : goal.invariant-loop-byte
invariant-loop-byte l = record {
  written : l.bytes ≡ (39 ∷ doubled 39 l.out.items) ++ l.rest;
  alive : IsOpen l.expected;
  goes : HasRead Character l.out.items l.expected;
}

abbrev pub decreases-loop-byte : goal.decreases-loop-byte
decreases-loop-byte l = length l.rest
