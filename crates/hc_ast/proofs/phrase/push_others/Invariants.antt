-- The parts so far are written, each with its comma.
use Rattle.std.proofs.Common.{◌≡◌, ◌∷◌, ◌++◌, string_bytes, take, codes}
use Rattle.std.specs.List.{flat_map}
use Rattle.hc_ast.specs.Words.{spaced}
use Rattle.hc_ast.proofs.phrase.push_others.Given as goal

abbrev pub invariant-loop-other : goal.invariant-loop-other
invariant-loop-other g l = string_bytes l.out ≡ string_bytes l.fn.out ++ flat_map (λ other. spaced (codes "," ∷ g.P.Phrase.words other)) (take l.other-index l.others)
