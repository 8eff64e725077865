-- Rows in order, and a value put in its place.
use Rattle.std.proofs.Common.{◌≡◌, refl, subst, ℤ, Bool, true, false, if◌then◌else◌, [], ◌∷◌, arith, FitsSigned, w64}
use Rattle.std.specs.Prelude.{int_lt, ◌<ℤ◌}
use Rattle.std.proofs.lemmas.Int.{ints}
use Rattle.hc_table.specs.Rows.{Rows, IsBelowEachRow, AreRows, with_value}

pub less : (x y : ℤ) → int_lt x y ≡ true → x <ℤ y
less x y is = omega (arith, ints, is)

same : (x y : ℤ) → int_lt x y ≡ false → int_lt y x ≡ false → x ≡ y
same x y not_less not_more = omega (arith, ints, not_less, not_more)

pub never_both : (x y : ℤ) → x <ℤ y → x ≡ y → ⊥
never_both x y lt e = omega (arith, ints, lt, e)

chain : (x y z : ℤ) → x <ℤ y → y <ℤ z → x <ℤ z
chain x y z lt also = omega (arith, ints, lt, also)

-- what is below an id is below all that the id is below
below_all : (low id : ℤ) (rows : Rows) → low <ℤ id → IsBelowEachRow id rows → IsBelowEachRow low rows
below_all low id [] lt each = tt
below_all low id (row ∷ rows) lt each = (chain low id row.0 lt each.0, below_all low id rows lt each.1)

-- what holds of rows with a value in its place, by where that is
pub placed : (P : Rows → Type 0) (id v : ℤ) (row : ℤ × ℤ) (rows : Rows)
    → (int_lt row.0 id ≡ true → P (row ∷ with_value id v rows))
    → (int_lt id row.0 ≡ true → P ((id, v) ∷ row ∷ rows))
    → (row.0 ≡ id → P ((id, v) ∷ rows))
    → P (with_value id v (row ∷ rows))
placed P id v row rows after before there = by (int_lt row.0 id) (int_lt id row.0) refl refl
  where
    by : (b c : Bool) → int_lt row.0 id ≡ b → int_lt id row.0 ≡ c → P (if b then row ∷ with_value id v rows else (if c then (id, v) ∷ row ∷ rows else (id, v) ∷ rows))
    by true c less_is more_is = after less_is
    by false true less_is more_is = before more_is
    by false false less_is more_is = there (same row.0 id less_is more_is)

-- what is below an id and each row stays below each where the id gets a value
below_with : (low id v : ℤ) (rows : Rows) → low <ℤ id → IsBelowEachRow low rows → IsBelowEachRow low (with_value id v rows)
below_with low id v [] lt each = (lt, tt)
below_with low id v (row ∷ rows) lt each =
    placed (λ (all : Rows). IsBelowEachRow low all) id v row rows
    (λ _. (each.0, below_with low id v rows lt each.1))
    (λ _. (lt, each))
    (λ _. (lt, each.1))

-- rows stay rows
pub are_with : (id v : ℤ) (rows : Rows) → FitsSigned w64 id → FitsSigned w64 v → AreRows rows → AreRows (with_value id v rows)
are_with id v [] id_fits v_fits are = (id_fits, v_fits, tt, tt)
are_with id v (row ∷ rows) id_fits v_fits are =
    placed AreRows id v row rows
    (λ is. (are.0, are.1, below_with row.0 id v rows (less row.0 id is) are.2, are_with id v rows id_fits v_fits are.3))
    (λ is. (id_fits, v_fits, (less id row.0 is, below_all id row.0 rows (less id row.0 is) are.2), are))
    (λ one. (id_fits, v_fits, subst (λ (x : ℤ). IsBelowEachRow x rows) one are.2, are.3))
