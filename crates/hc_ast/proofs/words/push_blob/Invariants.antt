-- The bytes so far are written, each as its two digits.
use Rattle.std.proofs.Common.{◌≡◌, ◌++◌, string_bytes, take, codes}
use Rattle.std.specs.List.{flat_map}
use Rattle.hc_text.specs.Digits.{byte_digits}
use Rattle.hc_ast.proofs.words.push_blob.Given as goal

abbrev pub invariant-loop-b : goal.invariant-loop-b
invariant-loop-b l = string_bytes l.out ≡ (string_bytes l.fn.out ++ codes " X'") ++ flat_map byte_digits (take l.b-index l.b-items)
