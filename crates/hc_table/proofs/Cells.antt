-- The cells of rows: their keys and records, and what is at a key after a value is put.
use Rattle.std.proofs.Common.{◌≡◌, ◌∙◌, refl, sym, ap, subst, ℕ, ℤ, pos, Bool, true, false, cond, Option, Some, None, List, [], ◌∷◌, ◌++◌, ⊎_elim, length, bytes_eq, arith, FitsSigned, w64}
use Rattle.std.specs.Prelude.{◌<ℤ◌}
use Rattle.std.specs.Ordering.{int_eq, is_lt, ordering_then}
use Rattle.std.specs.Cmp.{int_cmp_is}
use Rattle.std.specs.declared.cmp.Ordering.{Ordering}
use Rattle.std.specs.declared.cmp.Ordering.TheVariants.{Less, Equal}
use Rattle.std.proofs.lemmas.Bool.{cases_Bool, true≢false}
use Rattle.std.proofs.lemmas.Option.{none-some, same_Some}
use Rattle.std.proofs.lemmas.Bool.Decides.{Decides-int_eq}
use Rattle.std.proofs.lemmas.Slice.Eq.{bytes_eq-Decides}
use Rattle.hc_value.specs.declared.value.Value.{Value}
use Rattle.hc_value.specs.declared.value.Value.TheVariants.{Null, Int, Text, Blob}
use Rattle.hc_record.specs.Laws.{NoEncodingBeginsAnother}
use Rattle.hc_key.specs.Laws.{ByteOrderIsValueOrder, KeysDiffer}
use Rattle.hc_range.specs.Order.{is_below, IsBelow}
use Rattle.hc_range.specs.Ranges.{InRange}
use Rattle.hc_range.proofs.ByteOrder.{below_irrefl, prefix_below}
use Rattle.hc_core.specs.declared.cells.Cell.{Cell}
use Rattle.hc_core.specs.Versions.{IsBelowEach, AreAscending}
use Rattle.hc_meaning.specs.Runs.Language.{record_at}
use Rattle.hc_table.specs.Rows.{Rows, IsBelowEachRow, AreRows, value_of, with_value, cells_of_rows, row_key, row_range, row_record, record_of}
use Rattle.hc_table.specs.Language.{rows_with}
use Rattle.hc_table.proofs.Placing.{less, never_both, placed}
use Rattle.hc_table.proofs.Short.{row_record_short}

abbrev row_cell : ℤ × ℤ → Cell
row_cell row = record { key = row_key row.0; rec = row_record row.1 }

-- what is at a key after a value is put at an id, by what was there
abbrev pub record_with : ℤ → Option ℤ → List ℕ → Option (List ℕ) → Option (List ℕ)
record_with id None key old = old
record_with id (Some v) key old = cond (bytes_eq (row_key id) key) (Some (row_record v)) old

-- the range of a row's key has it
pub key_in_range : (id : ℤ) → InRange (row_range id) (row_key id)
key_in_range id = (below_irrefl (row_key id), prefix_below (row_key id) [] 0)

-- ---- lists of cells and of values

number : Value → ℤ
number Null = pos 0
number (Int n) = n
number (Text text) = pos 0
number (Blob bytes) = pos 0

first : List Value → ℤ
first [] = pos 0
first (v ∷ values) = number v

second : List Value → ℤ
second [] = pos 0
second (v ∷ values) = first values

first_cell : Cell → List Cell → Cell
first_cell cell [] = cell
first_cell cell (other ∷ cells) = other

other_cells : List Cell → List Cell
other_cells [] = []
other_cells (cell ∷ cells) = cells

first_is : (x : ℤ) → first (Int x ∷ []) ≡ x
unfolding first number
first_is x = refl

first_same : (x y : ℤ) → Int x ∷ [] ≡ Int y ∷ [] → x ≡ y
first_same x y e = sym (first_is x) ∙ ap first e ∙ first_is y

second_is : (x : ℤ) → second (Null ∷ Int x ∷ []) ≡ x
unfolding second first number
second_is x = refl

second_same : (x y : ℤ) → Null ∷ Int x ∷ [] ≡ Null ∷ Int y ∷ [] → x ≡ y
second_same x y e = sym (second_is x) ∙ ap second e ∙ second_is y

heads : (x y : Cell) (xs ys : List Cell) → x ∷ xs ≡ y ∷ ys → x ≡ y
unfolding first_cell
heads x y xs ys e = ap (first_cell x) e

tails : (x y : Cell) (xs ys : List Cell) → x ∷ xs ≡ y ∷ ys → xs ≡ ys
unfolding other_cells
tails x y xs ys e = ap other_cells e

-- of two tests of which at most one passes, either may come first
swapped : {A : Type 0} (here there : Bool) (x y later rest : A) → (here ≡ true → there ≡ true → ⊥) → later ≡ cond here x rest → cond there y later ≡ cond here x (cond there y rest)
swapped true true x y later rest apart e = absurd (apart refl refl)
swapped true false x y later rest apart e = e
swapped false true x y later rest apart e = refl
swapped false false x y later rest apart e = e

-- a test that has failed is not made again
passed_over : {A : Type 0} (here there : Bool) (x y rest : A) → here ≡ there → cond here x rest ≡ cond here x (cond there y rest)
passed_over true there x y rest e = refl
passed_over false true x y rest e = absurd (true≢false (sym e))
passed_over false false x y rest e = refl

-- ---- keys and records

module _ (order : ByteOrderIsValueOrder) (keys : KeysDiffer) (encodings : NoEncodingBeginsAnother) where
  pub same_id : (id other : ℤ) → FitsSigned w64 id → FitsSigned w64 other → row_key id ≡ row_key other → id ≡ other
  same_id id other fits also e = first_same id other (keys 1 1 (Int id ∷ []) (Int other ∷ []) (omega arith) (omega arith) (fits, tt) (also, tt) e).1

  same_record : (v w : ℤ) → FitsSigned w64 v → FitsSigned w64 w → row_record v ≡ row_record w → v ≡ w
  same_record v w fits also e =
      second_same v w (encodings (Null ∷ Int v ∷ []) (Null ∷ Int w ∷ []) [] [] (tt, (fits, tt)) (tt, (also, tt)) (row_record_short v) (row_record_short w) (ap (λ (bytes : List ℕ). bytes ++ []) e)).0

  keys_below : (id other : ℤ) → FitsSigned w64 id → FitsSigned w64 other → id <ℤ other → IsBelow (row_key id) (row_key other)
  unfolding is_below
  keys_below id other fits also lt =
      ap is_lt (order 1 1 (Int id ∷ []) (Int other ∷ []) (omega arith) (omega arith) (fits, tt) (also, tt)
      ∙ ap (λ (o : Ordering). ordering_then o Equal) (sym (int_cmp_is id other Less lt)))

  -- ---- rows as cells

  below_cells : (id : ℤ) (rows : Rows) → FitsSigned w64 id → IsBelowEachRow id rows → AreRows rows → IsBelowEach (row_key id) (cells_of_rows rows)
  below_cells id [] fits each are = tt
  below_cells id (row ∷ rows) fits each are = (keys_below id row.0 fits are.0 each.0, below_cells id rows fits each.1 are.3)

  pub cells_ascend : (rows : Rows) → AreRows rows → AreAscending (cells_of_rows rows)
  cells_ascend [] are = tt
  cells_ascend (row ∷ rows) are = (below_cells row.0 rows are.0 are.2 are.3, cells_ascend rows are.3)

  -- rows with the same cells are the same
  pub same_rows : (a b : Rows) → AreRows a → AreRows b → cells_of_rows a ≡ cells_of_rows b → a ≡ b
  same_rows [] [] are also e = refl
  same_rows [] (y ∷ b) are also e = absurd (omega (arith, ap (λ (cells : List Cell). length cells) e))
  same_rows (x ∷ a) [] are also e = absurd (omega (arith, ap (λ (cells : List Cell). length cells) e))
  same_rows (x ∷ a) (y ∷ b) are also e =
      let cell = heads (row_cell x) (row_cell y) (cells_of_rows a) (cells_of_rows b) e in
      let id = same_id x.0 y.0 are.0 also.0 (ap (λ (c : Cell). c.key) cell) in
      let v = same_record x.1 y.1 are.1 also.1 (ap (λ (c : Cell). c.rec) cell) in
      let rest = same_rows a b are.3 also.3 (tails (row_cell x) (row_cell y) (cells_of_rows a) (cells_of_rows b) e) in
      λ i. (id i, v i) ∷ rest i

  -- whether two rows have one key
  same_tests : (id other : ℤ) → FitsSigned w64 id → FitsSigned w64 other → bytes_eq (row_key id) (row_key other) ≡ int_eq id other
  same_tests id other fits also =
      ⊎_elim
      (λ yes. (bytes_eq-Decides (row_key id) (row_key other)).1 (ap row_key ((Decides-int_eq id other).0 yes)) ∙ sym yes)
      (λ no. ⊎_elim
      (λ one. absurd (true≢false (sym ((Decides-int_eq id other).1 (same_id id other fits also ((bytes_eq-Decides (row_key id) (row_key other)).0 one))) ∙ no)))
      (λ differ. differ ∙ sym no)
      (cases_Bool (bytes_eq (row_key id) (row_key other))))
      (cases_Bool (int_eq id other))

  found_step : (here : Bool) (v : ℤ) (found : Option ℤ) (rest : Option (List ℕ)) → rest ≡ record_of found → cond here (Some (row_record v)) rest ≡ record_of (cond here (Some v) found)
  found_step true v found rest e = refl
  found_step false v found rest e = e

  -- at the key of a row is the record of its value
  pub at_row : (rows : Rows) (id : ℤ) → FitsSigned w64 id → AreRows rows → record_at (cells_of_rows rows) (row_key id) ≡ record_of (value_of rows id)
  at_row [] id fits are = refl
  at_row (row ∷ rows) id fits are =
      ap (λ (b : Bool). cond b (Some (row_record row.1)) (record_at (cells_of_rows rows) (row_key id))) (same_tests row.0 id are.0 fits)
      ∙ found_step (int_eq row.0 id) row.1 (value_of rows id) (record_at (cells_of_rows rows) (row_key id)) (at_row rows id fits are.3)

  -- at each key after a value is put
  at_value : (id v : ℤ) (rows : Rows) (key : List ℕ) → FitsSigned w64 id → AreRows rows
      → record_at (cells_of_rows (with_value id v rows)) key ≡ record_with id (Some v) key (record_at (cells_of_rows rows) key)
  at_value id v [] key fits are = refl
  at_value id v (row ∷ rows) key fits are =
      placed (λ (all : Rows). record_at (cells_of_rows all) key ≡ record_with id (Some v) key (record_at (cells_of_rows (row ∷ rows)) key)) id v row rows
      (λ is. swapped (bytes_eq (row_key id) key) (bytes_eq (row_key row.0) key) (Some (row_record v)) (Some (row_record row.1)) (record_at (cells_of_rows (with_value id v rows)) key) (record_at (cells_of_rows rows) key)
      (λ here there. never_both row.0 id (less row.0 id is)
      (same_id row.0 id are.0 fits ((bytes_eq-Decides (row_key row.0) key).0 there ∙ sym ((bytes_eq-Decides (row_key id) key).0 here))))
      (at_value id v rows key fits are.3))
      (λ is. refl)
      (λ one. passed_over (bytes_eq (row_key id) key) (bytes_eq (row_key row.0) key) (Some (row_record v)) (Some (row_record row.1)) (record_at (cells_of_rows rows) key)
      (ap (λ (x : ℤ). bytes_eq (row_key x) key) (sym one)))

  pub at_with : (id : ℤ) (put : Option ℤ) (rows : Rows) (key : List ℕ) → FitsSigned w64 id → AreRows rows
      → record_at (cells_of_rows (rows_with id put rows)) key ≡ record_with id put key (record_at (cells_of_rows rows) key)
  at_with id None rows key fits are = refl
  at_with id (Some v) rows key fits are = at_value id v rows key fits are

  -- the value that is in a row fits
  pub value_fits : (rows : Rows) (id v : ℤ) → AreRows rows → value_of rows id ≡ Some v → FitsSigned w64 v
  value_fits [] id v are e = absurd (none-some v e)
  value_fits (row ∷ rows) id v are e = by (int_eq row.0 id) (λ found. value_fits rows id v are.3 found) e
    where
      by : (b : Bool) → (value_of rows id ≡ Some v → FitsSigned w64 v) → cond b (Some row.1) (value_of rows id) ≡ Some v → FitsSigned w64 v
      by true later found = subst (λ (x : ℤ). FitsSigned w64 x) (same_Some row.1 v found) are.1
      by false later found = later found

  -- two values with one record are the same
  same_found : (a b : Option ℤ) → ((v : ℤ) → a ≡ Some v → FitsSigned w64 v) → ((v : ℤ) → b ≡ Some v → FitsSigned w64 v) → record_of a ≡ record_of b → a ≡ b
  same_found None None fits also e = refl
  same_found None (Some w) fits also e = absurd (none-some (row_record w) e)
  same_found (Some v) None fits also e = absurd (none-some (row_record v) (sym e))
  same_found (Some v) (Some w) fits also e =
      ap Some (same_record v w (fits v refl) (also w refl) (same_Some (row_record v) (row_record w) e))

  pub same_value : (a b : Rows) (id : ℤ) → FitsSigned w64 id → AreRows a → AreRows b
      → record_at (cells_of_rows a) (row_key id) ≡ record_at (cells_of_rows b) (row_key id) → value_of a id ≡ value_of b id
  same_value a b id fits are also e =
      same_found (value_of a id) (value_of b id) (λ v. value_fits a id v are) (λ v. value_fits b id v also)
      (sym (at_row a id fits are) ∙ e ∙ at_row b id fits also)
