-- Lists that are gone through: what all have, and the first that passes.
use Rattle.std.proofs.Common.{ℕ, ◌+◌, ◌<◌, List, [], ◌∷◌, ◌++◌, ◌≡◌, ◌∙◌, ap, sym, refl, zero, suc, true, false, Bool, map, length, take, get_or, Some, None, arith}
use Rattle.std.specs.Prelude.{◌&&◌, ◌||◌, nat_eq, if◌then◌else◌}
use Rattle.std.specs.Option.{option_to_list}
use Rattle.std.proofs.lemmas.Bool.{and_right, and_parts, and_from}
use Rattle.std.proofs.lemmas.List.{map_more}
use Rattle.hc_ast.specs.declared.bound.Bound.{Bound}
use Rattle.hc_schema.specs.Paths.{Facts, all_before, includes, side}

all_more : (es : List Facts) (e : Facts) → all_before es ≡ true → e.before ≡ true → all_before (es ++ e ∷ []) ≡ true
all_more [] e h one = ap (λ b. b && true) one
all_more (x ∷ es) e h one =
    let both = and_parts x.before (all_before es) h in
    and_from x.before (all_before (es ++ e ∷ [])) both.0 (all_more es e both.1 one)

-- a number is in one of two lists
pub includes_either : (n : ℕ) (ms ks : List ℕ) → includes n (ms ++ ks) ≡ includes n ms || includes n ks
includes_either n [] ks = refl
includes_either n (m ∷ ms) ks = ap (λ b. nat_eq m n || b) (includes_either n ms ks) ∙ sym (or_assoc (nat_eq m n) (includes n ms) (includes n ks))
  where
    or_assoc : (a b c : Bool) → ((a || b) || c) ≡ (a || (b || c))
    or_assoc true b c = refl
    or_assoc false b c = refl

-- one element more is before
pub all_so_far : (f : Bound → Facts) (xs : List Bound) (i : ℕ) (e : Bound) → i < length xs → e ≡ get_or xs i e
    → all_before (map f (take i xs)) ≡ true → (f e).before ≡ true → all_before (map f (take (i + 1) xs)) ≡ true
all_so_far f xs i e within is so_far one =
    ap all_before (map_more f xs i e within) ∙ all_more (map f (take i xs)) (f (get_or xs i e)) so_far (ap (λ x. (f x).before) (sym is) ∙ one)

-- one element is not
pub one_is_not : (f : Bound → Facts) (xs : List Bound) (i : ℕ) (e : Bound) → i < length xs → e ≡ get_or xs i e → (f e).before ≡ false → all_before (map f xs) ≡ false
one_is_not f [] i e within is none = elim (none_below within) [ ]
  where
    none_below : i < 0 → ⊥
    none_below h = omega (arith, h)
one_is_not f (x ∷ xs) zero e within is none = ap (λ b. b && all_before (map f xs)) (ap (λ y. (f y).before) (sym is) ∙ none)
one_is_not f (x ∷ xs) (suc i) e within is none = and_right (f x).before (all_before (map f xs)) (one_is_not f xs i e (omega (arith, within)) is none)

-- one side of an `=`: the column at a place, or not, or no column
pub side_here : (place at : ℕ) (column other : Facts) → column.column ≡ Some at → nat_eq at place ≡ true → includes place (side column other) ≡ other.before
side_here place at column other is here = by_other other.before
  where
    by_other : (b : Bool) → includes place (if b then option_to_list column.column else []) ≡ b
    by_other true = ap (λ o. includes place (option_to_list o)) is ∙ ap (λ b. b || false) here
    by_other false = refl

pub side_elsewhere : (place at : ℕ) (column other : Facts) → column.column ≡ Some at → nat_eq at place ≡ false → includes place (side column other) ≡ false
side_elsewhere place at column other is elsewhere = by_other other.before
  where
    by_other : (b : Bool) → includes place (if b then option_to_list column.column else []) ≡ false
    by_other true = ap (λ o. includes place (option_to_list o)) is ∙ ap (λ b. b || false) elsewhere
    by_other false = refl

pub no_side : (place : ℕ) (column other : Facts) → column.column ≡ None → includes place (side column other) ≡ false
no_side place column other none = by_other other.before
  where
    by_other : (b : Bool) → includes place (if b then option_to_list column.column else []) ≡ false
    by_other true = ap (λ o. includes place (option_to_list o)) none
    by_other false = refl
