-- The bytes so far are written, each as its two digits.
use Rattle.std.proofs.Common.{◌≡◌, ◌++◌, take, flat_map, codes}
use Rattle.hc_text.specs.Digits.{byte_digits}
use Rattle.hc_text.specs.Bytes.{AreBytes}
use Rattle.hc_reply.proofs.literals.print_blob.Given as goal

abbrev pub invariant-loop-b : goal.invariant-loop-b
invariant-loop-b l = record {
  text : l.out.items ≡ (l.fn.out.items ++ codes "X'") ++ flat_map byte_digits (take l.b-index l.bytes);
  bytes : AreBytes (take l.b-index l.bytes);
}
