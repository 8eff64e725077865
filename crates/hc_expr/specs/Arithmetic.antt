-- Arithmetic on integers of 64 bits. The exact result is the answer where it fits, and else there is none:
-- SQLite goes on in floating point there, which this engine does not have.
use Rattle.std.specs.Prelude.{ℤ, pos, neg_ℤ, nat_abs, ◌+ℤ◌, ◌-ℤ◌, ◌*ℤ◌, int_div, int_rem, int_lt, int_le, ◌&&◌, ◌^◌, Bool, Option, Some, None, if◌then◌else◌}
use Rattle.std.specs.Ordering.{int_eq}
use Rattle.hc_value.specs.declared.value.Value.{Value}
use Rattle.hc_value.specs.declared.value.Value.TheVariants.{Null, Int}

-- what an expression gives: a value, or `None` where a result in it overflows
abbrev pub Outcome : Type 0
Outcome = Option Value

-- whether 64 bits hold it
abbrev pub fits : ℤ → Bool
fits n = int_le (neg_ℤ (pos (2 ^ 63))) n && int_lt n (pos (2 ^ 63))

-- the exact result
abbrev pub exact : ℤ → Outcome
exact n = if fits n then Some (Int n) else None

-- a function of one integer; NULL of anything else
abbrev pub of_integer : (ℤ → Outcome) → Value → Outcome
of_integer f (Int n) = f n
of_integer f v = Some Null

-- a function of two integers; NULL where one is none
abbrev pub of_integers : (ℤ → ℤ → Outcome) → Value → Value → Outcome
of_integers f (Int m) (Int n) = f m n
of_integers f v w = Some Null

abbrev pub sum : Value → Value → Outcome
sum = of_integers (λ m n. exact (m +ℤ n))

abbrev pub difference : Value → Value → Outcome
difference = of_integers (λ m n. exact (m -ℤ n))

abbrev pub product : Value → Value → Outcome
product = of_integers (λ m n. exact (m *ℤ n))

-- rounded toward zero; by 0 it is NULL
abbrev pub quotient : Value → Value → Outcome
quotient = of_integers (λ m n. if int_eq n (pos 0) then Some Null else exact (int_div m n))

-- with the sign of the dividend; by 0 it is NULL
abbrev pub remainder : Value → Value → Outcome
remainder = of_integers (λ m n. if int_eq n (pos 0) then Some Null else exact (int_rem m n))

abbrev pub negative : Value → Outcome
negative = of_integer (λ n. exact (neg_ℤ n))

abbrev pub magnitude : Value → Outcome
magnitude = of_integer (λ n. exact (pos (nat_abs n)))

-- the number itself
abbrev pub whole : Value → Outcome
whole = of_integer (λ n. Some (Int n))
