-- The words of an expression, by its form.
use Rattle.std.proofs.Common.{◌≡◌, ◌∙◌, ap, sym, List, [], ◌∷◌, ◌++◌, map, ℕ, Option, Bool, codes}
use Rattle.hc_value.specs.declared.value.Value.{Value}
use Rattle.hc_ast.specs.declared.operator.BinaryOp.{BinaryOp}
use Rattle.hc_ast.specs.declared.expression.Expr.{Expr}
use Rattle.hc_ast.specs.declared.expression.Expr.TheVariants as expr
use Rattle.hc_ast.specs.declared.expression.Expr.TheOpen.{Expr-F}
use Rattle.hc_ast.specs.declared.expression.Expr.TheFolds.{fold-roll-Expr}
use Rattle.hc_ast.specs.Words.{Words, name_word, value_words, words_if, listed, enclosed}
use Rattle.hc_ast.specs.Expressions.{expression_words, level_words, operator_words, qualifier_words}

-- a value, and a name with its qualifier
pub value_tree : (value : Value) → expression_words (expr.Value value) ≡ value_words value
value_tree value = ap expression_words (sym (expr.rolls-Value value)) ∙ fold-roll-Expr Words level_words (Expr-F.Value value)

pub name_tree : (table : Option (List ℕ)) (column : List ℕ) → expression_words (expr.Name table column) ≡ qualifier_words table ++ name_word column ∷ []
name_tree table column = ap expression_words (sym (expr.rolls-Name table column)) ∙ fold-roll-Expr Words level_words (Expr-F.Name table column)

-- NOT or a sign before its operand, both in parentheses
pub not_tree : (operand : Expr) → expression_words (expr.Not operand) ≡ enclosed (codes "NOT" ∷ expression_words operand)
not_tree operand = ap expression_words (sym (expr.rolls-Not operand)) ∙ fold-roll-Expr Words level_words (Expr-F.Not operand)

pub minus_tree : (operand : Expr) → expression_words (expr.Minus operand) ≡ enclosed (codes "-" ∷ expression_words operand)
minus_tree operand = ap expression_words (sym (expr.rolls-Minus operand)) ∙ fold-roll-Expr Words level_words (Expr-F.Minus operand)

pub plus_tree : (operand : Expr) → expression_words (expr.Plus operand) ≡ enclosed (codes "+" ∷ expression_words operand)
plus_tree operand = ap expression_words (sym (expr.rolls-Plus operand)) ∙ fold-roll-Expr Words level_words (Expr-F.Plus operand)

-- an operator between its operands, all in parentheses
pub binary_tree : (op : BinaryOp) (left right : Expr)
    → expression_words (expr.Binary op left right) ≡ enclosed (expression_words left ++ operator_words op ++ expression_words right)
binary_tree op left right = ap expression_words (sym (expr.rolls-Binary op left right)) ∙ fold-roll-Expr Words level_words (Expr-F.Binary op left right)

-- so do IN, LIKE and BETWEEN, with NOT before them where they are negated
pub one_of_tree : (is_negated : Bool) (left : Expr) (list : List Expr) → expression_words (expr.OneOf is_negated left list)
    ≡ enclosed (expression_words left ++ words_if is_negated (codes "NOT" ∷ []) ++ codes "IN" ∷ enclosed (listed (map expression_words list)))
one_of_tree is_negated left list = ap expression_words (sym (expr.rolls-OneOf is_negated left list)) ∙ fold-roll-Expr Words level_words (Expr-F.OneOf is_negated left list)

pub like_tree : (is_negated : Bool) (left pattern : Expr) → expression_words (expr.Like is_negated left pattern)
    ≡ enclosed (expression_words left ++ words_if is_negated (codes "NOT" ∷ []) ++ codes "LIKE" ∷ expression_words pattern)
like_tree is_negated left pattern = ap expression_words (sym (expr.rolls-Like is_negated left pattern)) ∙ fold-roll-Expr Words level_words (Expr-F.Like is_negated left pattern)

pub between_tree : (is_negated : Bool) (left low high : Expr) → expression_words (expr.Between is_negated left low high)
    ≡ enclosed (expression_words left ++ words_if is_negated (codes "NOT" ∷ []) ++ codes "BETWEEN" ∷ expression_words low ++ codes "AND" ∷ expression_words high)
between_tree is_negated left low high = ap expression_words (sym (expr.rolls-Between is_negated left low high)) ∙ fold-roll-Expr Words level_words (Expr-F.Between is_negated left low high)

-- a call is its name, and in parentheses its arguments or `*`
pub call_tree : (name : List ℕ) (args : List Expr) → expression_words (expr.Call name args) ≡ name_word name ∷ enclosed (listed (map expression_words args))
call_tree name args = ap expression_words (sym (expr.rolls-Call name args)) ∙ fold-roll-Expr Words level_words (Expr-F.Call name args)

pub call_all_tree : (name : List ℕ) → expression_words (expr.CallAll name) ≡ name_word name ∷ enclosed (codes "*" ∷ [])
call_all_tree name = ap expression_words (sym (expr.rolls-CallAll name)) ∙ fold-roll-Expr Words level_words (Expr-F.CallAll name)
