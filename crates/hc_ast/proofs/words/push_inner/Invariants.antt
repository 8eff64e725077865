-- The characters so far are written, each quote twice.
use Rattle.std.proofs.Common.{◌≡◌, ◌++◌, string_bytes, encode_utf8_all}
use Rattle.hc_text.specs.Quotes.{doubled}
use Rattle.hc_ast.proofs.words.push_inner.Given as goal

abbrev pub invariant-loop-c : goal.invariant-loop-c
invariant-loop-c l = string_bytes l.out ≡ string_bytes l.fn.out ++ encode_utf8_all (doubled l.quote l.yielded)
