-- Each expression has one class, which holds on every row: Int, Text, Blob, or Null for what is NULL on every row. Classes
-- are not converted, other than in SQLite, where https://www.sqlite.org/datatype3.html has its affinities.
use Rattle.std.specs.Prelude.{Bool, true, false, ◌&&◌, List, Option, Some, None, if◌then◌else◌}
use Rattle.std.specs.List.{list_all, fold}
use Rattle.std.specs.Option.{option_and_then, is_some}
use Rattle.hc_value.specs.declared.storage.Class.{Class}
use Rattle.hc_value.specs.declared.storage.Class.TheVariants.{Int, Text, Blob, Null}
use Rattle.hc_ast.specs.declared.operator.BinaryOp.{BinaryOp}
use Rattle.hc_ast.specs.declared.operator.BinaryOp.TheVariants as op
use Rattle.hc_schema.specs.declared.typed.Typed.{Typed}

-- whether a value of the first class may be where the second is wanted: NULL may be anywhere
abbrev pub fits : Class → Class → Bool
fits Null wanted = true
fits Int Int = true
fits Text Text = true
fits Blob Blob = true
fits class wanted = false

-- all are of this class, or NULL
abbrev pub all_fit : List Typed → Class → Bool
all_fit ts wanted = list_all (λ t. fits t.class wanted) ts

-- the one class of two
abbrev pub common : Class → Class → Option Class
common Null class = Some class
common class Null = Some class
common Int Int = Some Int
common Text Text = Some Text
common Blob Blob = Some Blob
common class other = None

-- the one class of some expressions and one more
abbrev pub with_class : Option Class → Typed → Option Class
with_class one t = option_and_then (λ class. common class t.class) one

-- the one class of a class and several expressions
abbrev pub one_class : Class → List Typed → Option Class
one_class first ts = fold with_class (Some first) ts

-- a result of one class where a condition on the operands holds
abbrev pub result_if : Bool → Class → Option Class
result_if holds class = if holds then Some class else None

-- two operands that want one class, and the class of the result
abbrev pub of_both : Class → Class → Class → Class → Option Class
of_both wanted left right result = result_if (fits left wanted && fits right wanted) result

-- operands of one class, whichever it is, make an integer
abbrev pub compared : Option Class → Option Class
compared one = result_if (is_some one) Int

-- The class of what an operator makes of two operands; none where they do not fit it. AND, OR and arithmetic want integers,
-- `||` texts, and a comparison operands of one class.
abbrev pub operator_class : BinaryOp → Class → Class → Option Class
operator_class op.Or left right = of_both Int left right Int
operator_class op.And left right = of_both Int left right Int
operator_class op.Eq left right = compared (common left right)
operator_class op.Ne left right = compared (common left right)
operator_class op.Is left right = compared (common left right)
operator_class op.IsNot left right = compared (common left right)
operator_class op.Lt left right = compared (common left right)
operator_class op.Le left right = compared (common left right)
operator_class op.Gt left right = compared (common left right)
operator_class op.Ge left right = compared (common left right)
operator_class op.Add left right = of_both Int left right Int
operator_class op.Sub left right = of_both Int left right Int
operator_class op.Mul left right = of_both Int left right Int
operator_class op.Div left right = of_both Int left right Int
operator_class op.Rem left right = of_both Int left right Int
operator_class op.Concat left right = of_both Text left right Text
