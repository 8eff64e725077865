-- Whether an aggregate is in some expression of a query.
use Rattle.std.proofs.Common.{◌≡◌, ◌∙◌, List, [], ◌∷◌, ◌++◌, map, refl, ap}
use Rattle.std.specs.Prelude.{◌||◌}
use Rattle.std.specs.List.{list_any, flat_map}
use Rattle.std.proofs.lemmas.List.Folds.{list_any-append}
use Rattle.hc_ast.specs.declared.expression.Expr.{Expr}
use Rattle.hc_ast.specs.declared.query.Item.{Item}
use Rattle.hc_ast.specs.declared.query.Term.{Term}
use Rattle.hc_schema.specs.Binding.Expressions.{has_aggregate}
use Rattle.hc_schema.specs.Binding.Queries.{item_expressions}

pub any_in_items : (items : List Item) → list_any has_aggregate (flat_map item_expressions items) ≡ list_any (λ item. list_any has_aggregate (item_expressions item)) items
any_in_items [] = refl
any_in_items (x ∷ items) =
    list_any-append has_aggregate (item_expressions x) (flat_map item_expressions items)
    ∙ ap (λ b. list_any has_aggregate (item_expressions x) || b) (any_in_items items)

pub any_in_terms : (terms : List Term) → list_any has_aggregate (map (λ t. t.value) terms) ≡ list_any (λ t. has_aggregate t.value) terms
any_in_terms [] = refl
any_in_terms (x ∷ terms) = ap (λ b. has_aggregate x.value || b) (any_in_terms terms)

pub any_in_results : (a b c : List Expr) → list_any has_aggregate (a ++ (b ++ c)) ≡ (list_any has_aggregate a || (list_any has_aggregate b || list_any has_aggregate c))
any_in_results a b c =
    list_any-append has_aggregate a (b ++ c) ∙ ap (λ x. list_any has_aggregate a || x) (list_any-append has_aggregate b c)
