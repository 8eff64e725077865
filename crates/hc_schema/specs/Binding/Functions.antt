-- The functions: `length`, `abs` and `coalesce` of a row's values, and the aggregates `count`, `sum`, `min` and `max` over the
-- rows of a group.
use Rattle.std.specs.Prelude.{ℕ, Bool, true, false, ◌||◌, List, [], ◌∷◌, Option, Some, None, if◌then◌else◌, codes, max}
use Rattle.std.specs.List.{list_all}
use Rattle.hc_value.specs.declared.storage.Class.{Class}
use Rattle.hc_value.specs.declared.storage.Class.TheVariants as class
use Rattle.hc_schema.specs.declared.bound_statement.AggregateKind.TheVariants.{Count, Sum, Min, Max}
use Rattle.hc_schema.specs.declared.typed.Typed.{Typed}
use Rattle.hc_schema.specs.declared.typed.Function.{Function}
use Rattle.hc_schema.specs.declared.typed.Function.TheVariants.{Length, Abs, Coalesce, Over}
use Rattle.hc_schema.specs.Binding.Names.{same_name}
use Rattle.hc_schema.specs.Binding.Classes.{fits, all_fit, one_class, result_if}

-- a name with its function
pub record Named : Type 0 where
  pub name : List ℕ
  pub function : Function

abbrev pub named : List ℕ → Function → Named
named name function = record { name = name; function = function }

-- the one table of functions
abbrev pub functions : List Named
functions =
    named (codes "length") Length ∷ named (codes "abs") Abs ∷ named (codes "coalesce") Coalesce
    ∷ named (codes "count") (Over Count) ∷ named (codes "sum") (Over Sum) ∷ named (codes "min") (Over Min) ∷ named (codes "max") (Over Max) ∷ []

-- the function that has the name among these
abbrev pub function_among : List ℕ → List Named → Option Function
function_among name [] = None
function_among name (f ∷ fs) = if same_name f.name name then Some f.function else function_among name fs

abbrev pub function_of : List ℕ → Option Function
function_of name = function_among name functions

-- a function over the rows of a group
abbrev pub is_aggregate : Option Function → Bool
is_aggregate (Some (Over kind)) = true
is_aggregate function = false

-- `count`, which alone may have `*` in place of arguments
abbrev pub is_count : Option Function → Bool
is_count (Some (Over Count)) = true
is_count function = false

-- the class of the first; Null without one
abbrev pub first_class : List Typed → Class
first_class [] = class.Null
first_class (first ∷ others) = first.class

-- texts, blobs and NULL have a length
abbrev pub has_length : Class → Bool
has_length given = fits given class.Text || fits given class.Blob

-- The class of a call, whatever the number of its arguments; none where their classes do not fit it.
abbrev pub call_class : Function → List Typed → Option Class
call_class Length ts = result_if (list_all (λ t. has_length t.class) ts) class.Int
call_class Abs ts = result_if (all_fit ts class.Int) class.Int
call_class Coalesce ts = one_class class.Null ts
call_class (Over Count) ts = Some class.Int
call_class (Over Sum) ts = result_if (all_fit ts class.Int) class.Int
call_class (Over Min) ts = Some (first_class ts)
call_class (Over Max) ts = Some (first_class ts)

-- how many arguments are wanted, where so many are given: `coalesce` takes two or more, and the others take one
abbrev pub wanted : Function → ℕ → ℕ
wanted Coalesce given = max given 2
wanted Length given = 1
wanted Abs given = 1
wanted (Over kind) given = 1
