-- The parts so far are written.
use Rattle.std.proofs.Common.{◌≡◌, ◌++◌, string_bytes, take}
use Rattle.std.specs.List.{flat_map}
use Rattle.hc_ast.specs.Words.{spaced}
use Rattle.hc_ast.proofs.phrase.push_each.Given as goal

abbrev pub invariant-loop-part : goal.invariant-loop-part
invariant-loop-part g l = string_bytes l.out ≡ string_bytes l.fn.out ++ flat_map (λ part. spaced (g.P.Phrase.words part)) (take l.part-index l.parts)
