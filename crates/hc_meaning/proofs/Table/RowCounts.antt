-- How many rows a query finds, and how many there are after an INSERT.
use Rattle.std.proofs.Common.{◌≡◌, refl, arith, ℕ, suc, ◌+◌, ◌≤◌, ℤ, Bool, true, false, cond, List, [], ◌∷◌, length, length-append}
use Rattle.std.specs.Prelude.{filter, int_lt}
use Rattle.std.proofs.lemmas.Int.{ints}
use Rattle.hc_meaning.specs.Database.{Db, with_row}

-- a filter keeps no more than there is
pub at_most : {T : Type 0} (keeps : T → Bool) (xs : List T) → length (filter keeps xs) ≤ length xs
at_most keeps [] = omega arith
at_most keeps (x ∷ xs) =
    let rest = at_most keeps xs in
    elim (keeps x) as (λ b. length (cond b (x ∷ filter keeps xs) (filter keeps xs)) ≤ suc (length xs)) [ true ↦ omega (arith, rest) | false ↦ omega (arith, rest) ]

-- of two filters that do not keep the same row, one row more adds one at most
one_of : (below above : Bool) (row : ℤ × ℤ) (lower upper : Db) (count : ℕ) → (below ≡ true → above ≡ false) → length lower + length upper ≤ count
    → length (cond below (row ∷ lower) lower) + length (cond above (row ∷ upper) upper) ≤ suc count
one_of true true row lower upper count differ few = let bad : true ≡ false = differ refl in cc
one_of true false row lower upper count differ few = omega (arith, few)
one_of false true row lower upper count differ few = omega (arith, few)
one_of false false row lower upper count differ few = omega (arith, few)

-- of two ids at most one is below the other
not_both : (x y : ℤ) → int_lt x y ≡ true → int_lt y x ≡ false
not_both x y less = grind (arith, ints)

-- the rows below an id and those above it are no more than all
parts_are : (db : Db) (id : ℤ) → length (filter (λ row. int_lt row.0 id) db) + length (filter (λ row. int_lt id row.0) db) ≤ length db
parts_are [] id = omega arith
parts_are (row ∷ db) id =
    one_of (int_lt row.0 id) (int_lt id row.0) row (filter (λ r. int_lt r.0 id) db) (filter (λ r. int_lt id r.0) db) (length db) (not_both row.0 id) (parts_are db id)

-- an INSERT adds one row at most
pub one_more : (db : Db) (id v : ℤ) → length (with_row db id v) ≤ suc (length db)
one_more db id v = omega (arith, parts_are db id, length-append (filter (λ row. int_lt row.0 id) db) ((id, v) ∷ filter (λ row. int_lt id row.0) db))
