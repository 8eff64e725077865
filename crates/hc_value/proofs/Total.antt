-- The order of values is that of the classes, then of the numbers, then of the bytes, and so it is
-- total; and it takes no two values for equal.
use Rattle.std.proofs.Common.{◌≡◌, ap, subst, sym, refl, ℕ, ℤ, pos, List, [], Ordering, Less, Equal, Greater, nat_cmp, int_cmp}
use Rattle.std.specs.Ordering.{ordering_then, on, then_cmp}
use Rattle.std.specs.Cmp.{IsTotalOrder}
use Rattle.std.specs.Cmp.Lexicographic.{slice_cmp}
use Rattle.std.proofs.lemmas.Cmp.{on_total, then_total, nat_cmp_total, int_cmp_total, nat_list_cmp_total, tied_itself}
use Rattle.std.proofs.lemmas.Map.Lookups.{exact_bytes, exact_signed}
use Rattle.hc_value.specs.declared.value.Value.{Value}
use Rattle.hc_value.specs.declared.value.Value.TheVariants.{Null, Int, Text, Blob}
use Rattle.hc_value.specs.Order.{class_of, rank_of, value_order}

-- the number of an integer, and of another value 0
abbrev number : Value → ℤ
number Null = pos 0
number (Int n) = n
number (Text t) = pos 0
number (Blob b) = pos 0

-- the bytes of a text or a blob, and of another value none
abbrev bytes : Value → List ℕ
bytes Null = []
bytes (Int n) = []
bytes (Text t) = t
bytes (Blob b) = b

abbrev rank : Value → ℕ
rank v = rank_of (class_of v)

abbrev by_parts : Value → Value → Ordering
by_parts = then_cmp (on rank nat_cmp) (then_cmp (on number int_cmp) (on bytes (slice_cmp nat_cmp)))

by_parts_total : IsTotalOrder by_parts
by_parts_total = then_total (on_total rank nat_cmp_total) (then_total (on_total number int_cmp_total) (on_total bytes nat_list_cmp_total))

then-Equal : (o : Ordering) → o ≡ ordering_then o Equal
then-Equal Less = refl
then-Equal Equal = refl
then-Equal Greater = refl

value_order-by_parts : (a b : Value) → value_order a b ≡ by_parts a b
value_order-by_parts Null Null = refl
value_order-by_parts Null (Int n) = refl
value_order-by_parts Null (Text t) = refl
value_order-by_parts Null (Blob b) = refl
value_order-by_parts (Int m) Null = refl
value_order-by_parts (Int m) (Int n) = then-Equal (int_cmp m n)
value_order-by_parts (Int m) (Text t) = refl
value_order-by_parts (Int m) (Blob b) = refl
value_order-by_parts (Text s) Null = refl
value_order-by_parts (Text s) (Int n) = refl
value_order-by_parts (Text s) (Text t) = refl
value_order-by_parts (Text s) (Blob b) = refl
value_order-by_parts (Blob a) Null = refl
value_order-by_parts (Blob a) (Int n) = refl
value_order-by_parts (Blob a) (Text t) = refl
value_order-by_parts (Blob a) (Blob b) = refl

same_order : value_order ≡ by_parts
same_order = λ i a b. value_order-by_parts a b i

pub value_order_total : IsTotalOrder value_order
value_order_total = subst IsTotalOrder (sym same_order) by_parts_total

pub same_from_tie : (a b : Value) → value_order a b ≡ Equal → a ≡ b
same_from_tie Null Null tie = refl
same_from_tie Null (Int n) tie = cc
same_from_tie Null (Text t) tie = cc
same_from_tie Null (Blob b) tie = cc
same_from_tie (Int m) Null tie = cc
same_from_tie (Int m) (Int n) tie = ap Int (exact_signed m n tie)
same_from_tie (Int m) (Text t) tie = cc
same_from_tie (Int m) (Blob b) tie = cc
same_from_tie (Text s) Null tie = cc
same_from_tie (Text s) (Int n) tie = cc
same_from_tie (Text s) (Text t) tie = ap Text (exact_bytes s t tie)
same_from_tie (Text s) (Blob b) tie = cc
same_from_tie (Blob a) Null tie = cc
same_from_tie (Blob a) (Int n) tie = cc
same_from_tie (Blob a) (Text t) tie = cc
same_from_tie (Blob a) (Blob b) tie = ap Blob (exact_bytes a b tie)

pub tie_from_same : (a b : Value) → a ≡ b → value_order a b ≡ Equal
tie_from_same a b same = subst (λ v. value_order a v ≡ Equal) same (tied_itself value_order_total a)
