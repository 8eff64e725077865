-- The value of a bound expression on a row, after https://www.sqlite.org/lang_expr.html, but that an
-- overflow is no value and that operands are not converted. Every operand counts: where one overflows, the
-- whole does.
use Rattle.std.specs.Prelude.{pos, List, [], ◌∷◌, ◌++◌, length, Bool, false, Option, Some, None, slice_index_or, map}
use Rattle.std.specs.declared.cmp.Ordering.{Ordering}
use Rattle.std.specs.Ordering.{is_eq, is_ne, is_lt, is_le, is_gt, is_ge}
use Rattle.std.specs.Option.{option_and_then, option_map}
use Rattle.std.specs.Str.{chars}
use Rattle.hc_value.specs.declared.value.Value.{Value}
use Rattle.hc_value.specs.declared.value.Value.TheVariants.{Null, Int, Text, Blob}
use Rattle.hc_value.specs.Order.{value_order}
use Rattle.hc_ast.specs.declared.operator.BinaryOp.{BinaryOp}
use Rattle.hc_ast.specs.declared.operator.BinaryOp.TheVariants as op
use Rattle.hc_ast.specs.declared.bound.Bound.{Bound}
use Rattle.hc_ast.specs.declared.bound.Bound.TheOpen.{Bound-F}
use Rattle.hc_ast.specs.declared.bound.Bound.TheFolds.{fold-Bound}
use Rattle.hc_expr.specs.Arithmetic.{Outcome, sum, difference, product, quotient, remainder, negative, magnitude, whole}
use Rattle.hc_expr.specs.Like.{is_like}
use Rattle.hc_expr.specs.Logic.{Truth, truth_of, value_of_truth, negation, conjunction, disjunction, negated_if}

-- a truth is a value and does not overflow
abbrev pub told : Truth → Outcome
told t = Some (value_of_truth t)

-- the order of two values; there is none where one of them is NULL
abbrev pub order_of : Value → Value → Option Ordering
order_of Null w = None
order_of v Null = None
order_of v w = Some (value_order v w)

-- a comparison: unknown where one of the two is NULL
abbrev pub compared : (Ordering → Bool) → Value → Value → Truth
compared holds v w = option_map holds (order_of v w)

abbrev pub are_equal : Value → Value → Truth
are_equal = compared is_eq

-- `||` of two texts; NULL of anything else
abbrev pub joined : Value → Value → Value
joined (Text s) (Text t) = Text (s ++ t)
joined v w = Null

-- LIKE of two texts, the pattern second; unknown for anything else
abbrev pub likeness : Value → Value → Truth
likeness (Text text) (Text pattern) = Some (is_like (chars pattern) (chars text))
likeness v w = None

-- the characters of a text, the bytes of a blob; NULL of anything else
abbrev pub extent : Value → Outcome
extent (Text text) = Some (Int (pos (length (chars text))))
extent (Blob bytes) = Some (Int (pos (length bytes)))
extent v = Some Null

-- an operator between two values
abbrev pub operated : BinaryOp → Value → Value → Outcome
operated op.Or v w = told (disjunction (truth_of v) (truth_of w))
operated op.And v w = told (conjunction (truth_of v) (truth_of w))
operated op.Eq v w = told (compared is_eq v w)
operated op.Ne v w = told (compared is_ne v w)
operated op.Is v w = told (Some (is_eq (value_order v w)))
operated op.IsNot v w = told (Some (is_ne (value_order v w)))
operated op.Lt v w = told (compared is_lt v w)
operated op.Le v w = told (compared is_le v w)
operated op.Gt v w = told (compared is_gt v w)
operated op.Ge v w = told (compared is_ge v w)
operated op.Add v w = sum v w
operated op.Sub v w = difference v w
operated op.Mul v w = product v w
operated op.Div v w = quotient v w
operated op.Rem v w = remainder v w
operated op.Concat v w = Some (joined v w)

-- `v IN (..)`: v equals one of them, three-valued
abbrev pub is_among : Value → List Value → Truth
is_among v [] = Some false
is_among v (w ∷ others) = disjunction (are_equal v w) (is_among v others)

-- `v BETWEEN low AND high`
abbrev pub is_between : Value → Value → Value → Truth
is_between v low high = conjunction (compared is_ge v low) (compared is_le v high)

-- the value, or the other one in place of NULL
abbrev pub value_or : Value → Value → Value
value_or Null other = other
value_or v other = v

-- the first that is not NULL
abbrev pub first_value : List Value → Value
first_value [] = Null
first_value (v ∷ others) = value_or v (first_value others)

-- all values, or none where one is missing
abbrev pub all_values : List Outcome → Option (List Value)
all_values [] = Some []
all_values (first ∷ others) = option_and_then (λ v. option_and_then (λ vs. Some (v ∷ vs)) (all_values others)) first

-- a function of two outcomes
abbrev pub of_both : (Value → Value → Outcome) → Outcome → Outcome → Outcome
of_both f a b = option_and_then (λ v. option_and_then (f v) b) a

-- one level, with the outcome of each part in its place
abbrev pub level_value : List Value → Bound-F Outcome → Outcome
level_value row (Bound-F.Value v) = Some v
level_value row (Bound-F.Column place) = Some (slice_index_or row place Null)
level_value row (Bound-F.Not of) = option_and_then (λ v. told (negation (truth_of v))) of
level_value row (Bound-F.Minus of) = option_and_then negative of
level_value row (Bound-F.Plus of) = option_and_then whole of
level_value row (Bound-F.Binary operator left right) = of_both (operated operator) left right
level_value row (Bound-F.OneOf is_negated left list) =
    option_and_then (λ v. option_and_then (λ vs. told (negated_if is_negated (is_among v vs))) (all_values list)) left
level_value row (Bound-F.Like is_negated left pattern) =
    of_both (λ v w. told (negated_if is_negated (likeness v w))) left pattern
level_value row (Bound-F.Between is_negated left low high) =
    option_and_then (λ v. of_both (λ l h. told (negated_if is_negated (is_between v l h))) low high) left
level_value row (Bound-F.Length of) = option_and_then extent of
level_value row (Bound-F.Abs of) = option_and_then magnitude of
level_value row (Bound-F.Coalesce list) = option_and_then (λ vs. Some (first_value vs)) (all_values list)

-- the value of an expression on a row
abbrev pub value_of : List Value → Bound → Outcome
value_of row = fold-Bound Outcome (level_value row)

-- the values of a list of them, if all have one
abbrev pub values_of : List Value → List Bound → Option (List Value)
values_of row list = all_values (map (value_of row) list)
