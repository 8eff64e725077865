-- The bytes so far are written, each quote twice.
use Rattle.std.proofs.Common.{◌≡◌, [], ◌∷◌, ◌++◌, take}
use Rattle.hc_text.specs.Quotes.{doubled}
use Rattle.hc_reply.proofs.literals.print_text.Given as goal

abbrev pub invariant-loop-b : goal.invariant-loop-b
invariant-loop-b l = l.out.items ≡ (l.fn.out.items ++ 39 ∷ []) ++ doubled 39 (take l.b-index l.b-items)
