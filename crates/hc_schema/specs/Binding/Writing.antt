-- When two bound expressions are the same: where they are written alike. A writing is a list of bytes that no other
-- writing begins, so none but the same expression is written so. The bytes are our own.
use Rattle.std.specs.Prelude.{ℕ, pos, Bool, List, [], ◌∷◌, ◌++◌, length, Option, Some, None, if◌then◌else◌, nat_abs, int_lt, decimal}
use Rattle.std.specs.List.{concat}
use Rattle.hc_value.specs.declared.value.Value.{Value}
use Rattle.hc_value.specs.declared.value.Value.TheVariants.{Null, Int, Text, Blob}
use Rattle.hc_ast.specs.declared.operator.BinaryOp.{BinaryOp}
use Rattle.hc_ast.specs.declared.operator.BinaryOp.TheVariants as op
use Rattle.hc_ast.specs.declared.bound.Bound.{Bound}
use Rattle.hc_ast.specs.declared.bound.Bound.TheOpen.{Bound-F}
use Rattle.hc_ast.specs.declared.bound.Bound.TheFolds.{fold-Bound}
use Rattle.hc_schema.specs.declared.bound_statement.Aggregate.{Aggregate}
use Rattle.hc_schema.specs.declared.bound_statement.AggregateKind.{AggregateKind}
use Rattle.hc_schema.specs.declared.bound_statement.AggregateKind.TheVariants.{Count, Sum, Min, Max}

-- a number in decimals, with `;` (59) after it
abbrev pub number_written : ℕ → List ℕ
number_written n = decimal n ++ 59 ∷ []

-- bytes after their length
abbrev pub bytes_written : List ℕ → List ℕ
bytes_written bytes = number_written (length bytes) ++ bytes

abbrev pub flag_written : Bool → ℕ
flag_written flag = if flag then 1 else 0

abbrev pub value_written : Value → List ℕ
value_written Null = 1 ∷ []
value_written (Int n) = 2 ∷ flag_written (int_lt n (pos 0)) ∷ number_written (nat_abs n)
value_written (Text text) = 3 ∷ bytes_written text
value_written (Blob bytes) = 4 ∷ bytes_written bytes

abbrev pub operator_written : BinaryOp → ℕ
operator_written op.Or = 0
operator_written op.And = 1
operator_written op.Eq = 2
operator_written op.Ne = 3
operator_written op.Is = 4
operator_written op.IsNot = 5
operator_written op.Lt = 6
operator_written op.Le = 7
operator_written op.Gt = 8
operator_written op.Ge = 9
operator_written op.Add = 10
operator_written op.Sub = 11
operator_written op.Mul = 12
operator_written op.Div = 13
operator_written op.Rem = 14
operator_written op.Concat = 15

-- expressions after their count
abbrev pub list_written : List (List ℕ) → List ℕ
list_written list = number_written (length list) ++ concat list

-- one level, with the writing of each part in its place
abbrev pub level_written : Bound-F (List ℕ) → List ℕ
level_written (Bound-F.Value v) = value_written v
level_written (Bound-F.Column place) = 5 ∷ number_written place
level_written (Bound-F.Not of) = 6 ∷ of
level_written (Bound-F.Minus of) = 7 ∷ of
level_written (Bound-F.Plus of) = 8 ∷ of
level_written (Bound-F.Binary operator left right) = 9 ∷ operator_written operator ∷ left ++ right
level_written (Bound-F.OneOf is_negated left list) = 10 ∷ flag_written is_negated ∷ left ++ list_written list
level_written (Bound-F.Like is_negated left pattern) = 11 ∷ flag_written is_negated ∷ left ++ pattern
level_written (Bound-F.Between is_negated left low high) = 12 ∷ flag_written is_negated ∷ left ++ (low ++ high)
level_written (Bound-F.Length of) = 13 ∷ of
level_written (Bound-F.Abs of) = 14 ∷ of
level_written (Bound-F.Coalesce list) = 15 ∷ list_written list

abbrev pub written : Bound → List ℕ
written = fold-Bound (List ℕ) level_written

abbrev pub kind_written : AggregateKind → ℕ
kind_written Count = 0
kind_written Sum = 1
kind_written Min = 2
kind_written Max = 3

abbrev pub argument_written : Option Bound → List ℕ
argument_written None = 0 ∷ []
argument_written (Some of) = 1 ∷ written of

abbrev pub aggregate_written : Aggregate → List ℕ
aggregate_written a = kind_written a.kind ∷ argument_written a.of
