-- The expressions so far are written.
use Rattle.std.proofs.Common.{◌≡◌, ◌∷◌, ◌++◌, string_bytes, take, codes}
use Rattle.std.specs.List.{flat_map}
use Rattle.hc_ast.specs.Words.{spaced}
use Rattle.hc_ast.specs.Expressions.{expression_words}
use Rattle.hc_ast.proofs.expression_text.+expression.Given as goal

abbrev pub invariant-push_values-loop-other : goal.invariant-push_values-loop-other
invariant-push_values-loop-other l =
    string_bytes l.out ≡ string_bytes l.initial.out ++ flat_map (λ other. spaced (codes "," ∷ expression_words other)) (take l.other-index l.others)
