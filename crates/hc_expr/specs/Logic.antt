-- Logic of three values: true, false and unknown. NULL is unknown, a number is true where it is not 0.
-- After https://www.sqlite.org/lang_expr.html, "Boolean Expressions", and its operators.
use Rattle.std.specs.Prelude.{pos, Bool, true, false, not, Option, Some, None, if◌then◌else◌}
use Rattle.std.specs.Ordering.{int_eq}
use Rattle.hc_value.specs.declared.value.Value.{Value}
use Rattle.hc_value.specs.declared.value.Value.TheVariants.{Null, Int, Text, Blob}

-- `None` is unknown
abbrev pub Truth : Type 0
Truth = Option Bool

-- a value as a condition; one that is no number is unknown, as NULL is
abbrev pub truth_of : Value → Truth
truth_of Null = None
truth_of (Int n) = Some (not (int_eq n (pos 0)))
truth_of (Text text) = None
truth_of (Blob bytes) = None

-- a truth as a value
abbrev pub value_of_truth : Truth → Value
value_of_truth None = Null
value_of_truth (Some true) = Int (pos 1)
value_of_truth (Some false) = Int (pos 0)

-- NOT
abbrev pub negation : Truth → Truth
negation None = None
negation (Some true) = Some false
negation (Some false) = Some true

-- AND: false where one is false, else unknown where one is unknown
abbrev pub conjunction : Truth → Truth → Truth
conjunction (Some false) b = Some false
conjunction (Some true) b = b
conjunction None (Some false) = Some false
conjunction None (Some true) = None
conjunction None None = None

-- OR: true where one is true, else unknown where one is unknown
abbrev pub disjunction : Truth → Truth → Truth
disjunction (Some true) b = Some true
disjunction (Some false) b = b
disjunction None (Some true) = Some true
disjunction None (Some false) = None
disjunction None None = None

-- turned round where the flag says so
abbrev pub negated_if : Bool → Truth → Truth
negated_if is_negated t = if is_negated then negation t else t
