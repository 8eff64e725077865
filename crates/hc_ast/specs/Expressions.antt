-- Expressions in canonical text: each one with an operator is in parentheses, so none of them depends on how
-- tightly an operator binds.
use Rattle.std.specs.Prelude.{ℕ, List, [], ◌∷◌, ◌++◌, Option, Some, None, codes}
use Rattle.hc_ast.specs.declared.operator.BinaryOp.{BinaryOp}
use Rattle.hc_ast.specs.declared.operator.BinaryOp.TheVariants.{Or, And, Eq, Ne, Is, IsNot, Lt, Le, Gt, Ge, Add, Sub, Mul, Div, Rem, Concat}
use Rattle.hc_ast.specs.declared.expression.Expr.{Expr}
use Rattle.hc_ast.specs.declared.expression.Expr.TheOpen.{Expr-F}
use Rattle.hc_ast.specs.declared.expression.Expr.TheFolds.{fold-Expr}
use Rattle.hc_ast.specs.Words.{Words, name_word, value_words, words_if, listed, enclosed}

-- an operator: `=` and `<>`, also where `==` and `!=` were written
abbrev pub operator_words : BinaryOp → Words
operator_words Or = codes "OR" ∷ []
operator_words And = codes "AND" ∷ []
operator_words Eq = codes "=" ∷ []
operator_words Ne = codes "<>" ∷ []
operator_words Is = codes "IS" ∷ []
operator_words IsNot = codes "IS" ∷ codes "NOT" ∷ []
operator_words Lt = codes "<" ∷ []
operator_words Le = codes "<=" ∷ []
operator_words Gt = codes ">" ∷ []
operator_words Ge = codes ">=" ∷ []
operator_words Add = codes "+" ∷ []
operator_words Sub = codes "-" ∷ []
operator_words Mul = codes "*" ∷ []
operator_words Div = codes "/" ∷ []
operator_words Rem = codes "%" ∷ []
operator_words Concat = codes "||" ∷ []

-- the table's name before a column's
abbrev pub qualifier_words : Option (List ℕ) → Words
qualifier_words None = []
qualifier_words (Some table) = name_word table ∷ codes "." ∷ []

-- one level, with the words of each part in its place
abbrev pub level_words : Expr-F Words → Words
level_words (Expr-F.Value value) = value_words value
level_words (Expr-F.Name table column) = qualifier_words table ++ name_word column ∷ []
level_words (Expr-F.Not operand) = enclosed (codes "NOT" ∷ operand)
level_words (Expr-F.Minus operand) = enclosed (codes "-" ∷ operand)
level_words (Expr-F.Plus operand) = enclosed (codes "+" ∷ operand)
level_words (Expr-F.Binary op left right) = enclosed (left ++ operator_words op ++ right)
level_words (Expr-F.OneOf is_negated left list) =
    enclosed (left ++ words_if is_negated (codes "NOT" ∷ []) ++ codes "IN" ∷ enclosed (listed list))
level_words (Expr-F.Like is_negated left pattern) =
    enclosed (left ++ words_if is_negated (codes "NOT" ∷ []) ++ codes "LIKE" ∷ pattern)
level_words (Expr-F.Between is_negated left low high) =
    enclosed (left ++ words_if is_negated (codes "NOT" ∷ []) ++ codes "BETWEEN" ∷ low ++ codes "AND" ∷ high)
level_words (Expr-F.Call name args) = name_word name ∷ enclosed (listed args)
level_words (Expr-F.CallAll name) = name_word name ∷ enclosed (codes "*" ∷ [])

-- an expression
abbrev pub expression_words : Expr → Words
expression_words = fold-Expr Words level_words
