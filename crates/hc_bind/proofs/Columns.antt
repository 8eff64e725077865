-- Columns of a table with their places.
use Rattle.std.proofs.Common.{◌≡◌, ◌∙◌, ℕ, ◌+◌, ◌<◌, List, [], ◌∷◌, ◌++◌, length, get_or, take, drop, refl, ap, sym, suc, Ok, true, false, Bool, arith, length-take}
use Rattle.std.specs.Prelude.{if◌then◌else◌}
use Rattle.std.proofs.lemmas.List.{take_more, map-append}
use Rattle.std.specs.List.{list_any}
use Rattle.std.specs.Prelude.{◌||◌, ◌&&◌, map}
use Rattle.hc_bind.specs.declared.change.Placed.{Placed as Has-place}
use Rattle.hc_bind.specs.Places.{placed_of}
use Rattle.std.proofs.Math.Seq.{drop-cons}
use Rattle.hc_schema.specs.declared.table.Column.{Column}
use Rattle.hc_schema.specs.declared.bound_statement.BoundSet.{BoundSet}
use Rattle.hc_schema.specs.Binding.Names.{same_name}
use Rattle.hc_schema.specs.Binding.Changes.{Placed, column_called, all_placed, all_fit_columns}
use Rattle.hc_schema.specs.declared.typed.Typed.{Typed}
use Rattle.hc_schema.specs.Binding.Classes.{fits}

abbrev pub at : Column → ℕ → Placed
at column place = record { column = column; place = place }

-- one column more
pub all_and_one : (p : ℕ) (xs : List Column) (x : Column) → all_placed p (xs ++ x ∷ []) ≡ all_placed p xs ++ at x (p + length xs) ∷ []
all_and_one p [] x = ap (λ k. at x k ∷ []) (omega arith)
all_and_one p (y ∷ xs) x = ap (λ ps. at y p ∷ ps) (all_and_one (p + 1) xs x ∙ ap (λ k. all_placed (p + 1) xs ++ at x k ∷ []) (omega arith))

pub any_of_places : (p : ℕ → Bool) (xs : List Has-place) → list_any p (map (λ q. q.place) (map placed_of xs)) ≡ list_any (λ x. p x.place) xs
any_of_places p [] = refl
any_of_places p (x ∷ xs) = ap (λ b. p x.place || b) (any_of_places p xs)

pub any_of_sets : (p : ℕ → Bool) (xs : List BoundSet) → list_any p (map (λ set. set.column) xs) ≡ list_any (λ x. p x.column) xs
any_of_sets p [] = refl
any_of_sets p (x ∷ xs) = ap (λ b. p x.column || b) (any_of_sets p xs)

-- one column more, at its place
pub one_placed : (xs : List Column) (i : ℕ) (x : Column) (k : ℕ) → i < length xs → x ≡ get_or xs i x → k ≡ i
    → all_placed 0 (take i xs) ++ at x k ∷ [] ≡ all_placed 0 (take (i + 1) xs)
one_placed xs i x k within is e =
    let front : length (take i xs) ≡ i = length-take i xs ∙ omega (arith, within) in
    ap (λ n. all_placed 0 (take i xs) ++ at x n ∷ []) (omega (arith, e, front))
    ∙ sym (all_and_one 0 (take i xs) x)
    ∙ ap (all_placed 0) (ap (λ y. take i xs ++ y ∷ []) is ∙ sym (take_more xs i x within))

-- the column at a place, and those after it
rest : (xs : List Column) (i : ℕ) (x : Column) → i < length xs → x ≡ get_or xs i x → drop i xs ≡ x ∷ drop (i + 1) xs
rest xs i x within is =
    let next : suc i ≡ i + 1 = omega arith in
    drop-cons xs i x within ∙ ap (λ y. y ∷ drop (suc i) xs) (sym is) ∙ ap (λ k. x ∷ drop k xs) next

-- it has another name
pub not_called : (xs : List Column) (i : ℕ) (x : Column) (name : List ℕ) → i < length xs → x ≡ get_or xs i x → same_name x.name name ≡ false
    → column_called i (drop i xs) name ≡ column_called (i + 1) (drop (i + 1) xs) name
not_called xs i x name within is other =
    ap (λ ys. column_called i ys name) (rest xs i x within is)
    ∙ ap (λ b. if b then Ok (at x i) else column_called (i + 1) (drop (i + 1) xs) name) other

-- it has this name
pub is_called : (xs : List Column) (i : ℕ) (x : Column) (name : List ℕ) → i < length xs → x ≡ get_or xs i x → same_name x.name name ≡ true
    → column_called i (drop i xs) name ≡ Ok (at x i)
is_called xs i x name within is same =
    ap (λ ys. column_called i ys name) (rest xs i x within is)
    ∙ ap (λ b. if b then Ok (at x i) else column_called (i + 1) (drop (i + 1) xs) name) same

-- a value and its column, and those after them
pub fit_more : (ps : List Has-place) (ts : List Typed) (i : ℕ) (p : Has-place) (t : Typed) → i < length ps → i < length ts → t ≡ get_or ts i t
    → all_fit_columns (map placed_of (drop i ps)) (drop i ts)
    ≡ (fits t.class (get_or ps i p).column.now.class && all_fit_columns (map placed_of (drop (i + 1) ps)) (drop (i + 1) ts))
fit_more ps ts i p t at_place at_value is =
    let next : suc i ≡ i + 1 = omega arith in
    ap (λ qs. all_fit_columns (map placed_of qs) (drop i ts)) (drop-cons ps i p at_place)
    ∙ ap (all_fit_columns (placed_of (get_or ps i p) ∷ map placed_of (drop (suc i) ps))) (drop-cons ts i t at_value ∙ ap (λ u. u ∷ drop (suc i) ts) (sym is))
    ∙ ap (λ k. fits t.class (get_or ps i p).column.now.class && all_fit_columns (map placed_of (drop k ps)) (drop k ts)) next

pub none_left : (ps : List Placed) → all_fit_columns ps [] ≡ true
none_left [] = refl
none_left (p ∷ ps) = refl

pub pushed_placed : (columns : List Column) (i : ℕ) (x : Column) (found new : List Has-place) (p : Has-place) → new ≡ found ++ p ∷ []
    → map placed_of found ≡ all_placed 0 (take i columns) → placed_of p ≡ at x i → i < length columns → x ≡ get_or columns i x
    → map placed_of new ≡ all_placed 0 (take (i + 1) columns)
pushed_placed columns i x found new p grown so_far is_placed within is =
    ap (map placed_of) grown ∙ map-append placed_of found (p ∷ []) ∙ ap (λ ps. ps ++ placed_of p ∷ []) so_far
    ∙ ap (λ q. all_placed 0 (take i columns) ++ q ∷ []) is_placed
    ∙ one_placed columns i x i within is refl

pub map_places : (xs : List Has-place) → map (λ q. q.place) (map placed_of xs) ≡ map (λ p. p.place) xs
map_places [] = refl
map_places (x ∷ xs) = ap (λ ks. x.place ∷ ks) (map_places xs)
