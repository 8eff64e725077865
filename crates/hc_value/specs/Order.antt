-- The order of values, which is that of SQL: "Sort Order" of
-- https://www.sqlite.org/datatype3.html, at the collation BINARY.
use Rattle.std.specs.Prelude.{ℕ}
use Rattle.std.specs.declared.cmp.Ordering.{Ordering}
use Rattle.std.specs.declared.cmp.Ordering.TheVariants as how
use Rattle.std.specs.Ordering.{nat_cmp, int_cmp}
use Rattle.std.specs.Cmp.Lexicographic.{slice_cmp}
use Rattle.hc_value.specs.declared.storage.Class.{Class}
use Rattle.hc_value.specs.declared.storage.Class.TheVariants as class
use Rattle.hc_value.specs.declared.value.Value.{Value}
use Rattle.hc_value.specs.declared.value.Value.TheVariants.{Null, Int, Text, Blob}

-- the class that a value has
abbrev pub class_of : Value → Class
class_of Null = class.Null
class_of (Int n) = class.Int
class_of (Text t) = class.Text
class_of (Blob b) = class.Blob

-- the place of a class: NULL, integers, texts, blobs
abbrev pub rank_of : Class → ℕ
rank_of class.Null = 0
rank_of class.Int = 1
rank_of class.Text = 2
rank_of class.Blob = 3

-- integers by their number, texts and blobs by their bytes, where the first that differ decide and a
-- proper prefix comes first; values of two classes by the places of the classes
abbrev pub value_order : Value → Value → Ordering
value_order Null Null = how.Equal
value_order (Int m) (Int n) = int_cmp m n
value_order (Text s) (Text t) = slice_cmp nat_cmp s t
value_order (Blob a) (Blob b) = slice_cmp nat_cmp a b
value_order v w = nat_cmp (rank_of (class_of v)) (rank_of (class_of w))
