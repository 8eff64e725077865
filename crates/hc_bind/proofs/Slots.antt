-- The columns in scope, one by one.
use Rattle.std.proofs.Common.{◌≡◌, ◌∙◌, ℕ, ◌+◌, ◌<◌, List, [], ◌∷◌, ◌++◌, length, get_or, take, drop, map, refl, ap, sym, suc, Err, Some, None, true, false, Bool, arith, cond, append_assoc, Option, length-append, length-take}
use Rattle.std.proofs.lemmas.List.{take_more, take-append-drop, map-append, length-map, append-nil}
use Rattle.std.specs.Prelude.{◌||◌}
use Rattle.std.proofs.lemmas.List.Elements.{filter-append}
use Rattle.std.proofs.lemmas.List.Folds.{list_any-append}
use Rattle.std.proofs.Math.Seq.{drop-cons}
use Rattle.std.proofs.lemmas.Bool.{false≢true}
use Rattle.std.specs.List.{filter, list_any}
use Rattle.std.specs.Option.{option_to_list, is_some}
use Rattle.hc_value.specs.declared.storage.Class.{Class}
use Rattle.hc_schema.specs.declared.table.Column.{Column}
use Rattle.hc_schema.specs.Binding.Faults.{Ambiguous}
use Rattle.hc_schema.specs.Binding.Scopes.{Slot, source_slots, the_one}

abbrev slot_at : List ℕ → Column → ℕ → Slot
slot_at source column place = record { source = source; name = column.name; class = column.class; place = place }

-- one column more
pub slots_and_one : (source : List ℕ) (p : ℕ) (xs : List Column) (x : Column) → source_slots source p (xs ++ x ∷ []) ≡ source_slots source p xs ++ slot_at source x (p + length xs) ∷ []
slots_and_one source p [] x = ap (λ k. slot_at source x k ∷ []) (omega arith)
slots_and_one source p (y ∷ xs) x = ap (λ ps. slot_at source y p ∷ ps) (slots_and_one source (p + 1) xs x ∙ ap (λ k. source_slots source (p + 1) xs ++ slot_at source x k ∷ []) (omega arith))

length_slots : (source : List ℕ) (p : ℕ) (xs : List Column) → length (source_slots source p xs) ≡ length xs
length_slots source p [] = refl
length_slots source p (x ∷ xs) = ap suc (length_slots source (p + 1) xs)

-- a column's slot after those in scope
pub slot_pushed : {S : Type 0} (f : S → Slot) (source : List ℕ) (columns : List Column) (i : ℕ) (x : Column) (old now : List S) (slot : S) → i < length columns → x ≡ get_or columns i x
    → map f now ≡ map f old ++ source_slots source (length old) (take i columns) → f slot ≡ slot_at source x (length now)
    → map f (now ++ slot ∷ []) ≡ map f old ++ source_slots source (length old) (take (i + 1) columns)
slot_pushed f source columns i x old now slot within is so_far same =
    let front : length (take i columns) ≡ i = length-take i columns ∙ omega (arith, within) in
    let n : length now ≡ length old + length (take i columns) =
    sym (length-map now f) ∙ ap length so_far ∙ length-append (map f old) (source_slots source (length old) (take i columns))
    ∙ ap (λ k. k + length (source_slots source (length old) (take i columns))) (length-map old f)
    ∙ ap (λ k. length old + k) (length_slots source (length old) (take i columns)) in
    map-append f now (slot ∷ [])
    ∙ ap (λ ys. ys ++ f slot ∷ []) so_far
    ∙ append_assoc (map f old) (source_slots source (length old) (take i columns)) (f slot ∷ [])
    ∙ ap (λ ys. map f old ++ ys) (
    ap (λ s. source_slots source (length old) (take i columns) ++ s ∷ []) (same ∙ ap (slot_at source x) n)
    ∙ sym (slots_and_one source (length old) (take i columns) x)
    ∙ ap (source_slots source (length old)) (ap (λ y. take i columns ++ y ∷ []) is ∙ sym (take_more columns i x within)))

pub same_slot : (source name other : List ℕ) (class : Class) (p q : ℕ) → name ≡ other → p ≡ q
    → ◌≡◌ {A = Slot} (record { source = source; name = name; class = class; place = p }) (record { source = source; name = other; class = class; place = q })
same_slot source name other class p q n e = ap (λ m. record { source = source; name = m; class = class; place = p }) n ∙ ap (λ k. record { source = source; name = other; class = class; place = k }) e

module _ {X Y : Type 0} (p : Y → Bool) (f : X → Y) where
  split : (xs : List X) (i : ℕ) (d : X) → i < length xs → xs ≡ take i xs ++ (get_or xs i d ∷ drop (suc i) xs)
  split xs i d within = sym (take-append-drop i xs) ∙ ap (λ ys. take i xs ++ ys) (drop-cons xs i d within)

  pub filtered_more : (xs : List X) (i : ℕ) (d : X) → i < length xs
      → filter p (map f (take (i + 1) xs)) ≡ filter p (map f (take i xs)) ++ cond (p (f (get_or xs i d))) (f (get_or xs i d) ∷ []) []
  filtered_more xs i d within =
      ap (λ ys. filter p (map f ys)) (take_more xs i d within)
      ∙ ap (filter p) (map-append f (take i xs) (get_or xs i d ∷ []))
      ∙ filter-append p (map f (take i xs)) (f (get_or xs i d) ∷ [])

  pub passed_more : (xs : List X) (i : ℕ) (d : X) (found : List X) → i < length xs → filter p (map f (take i xs)) ≡ map f found → p (f (get_or xs i d)) ≡ true → found ≡ []
      → filter p (map f (take (i + 1) xs)) ≡ f (get_or xs i d) ∷ []
  passed_more xs i d found within so_far passes none =
      filtered_more xs i d within ∙ ap (λ ys. ys ++ cond (p (f (get_or xs i d))) (f (get_or xs i d) ∷ []) []) (so_far ∙ ap (map f) none)
      ∙ ap (λ b. cond b (f (get_or xs i d) ∷ []) []) passes

  pub failed_more : (xs : List X) (i : ℕ) (d : X) (found : List Y) → i < length xs → filter p (map f (take i xs)) ≡ found → p (f (get_or xs i d)) ≡ false
      → filter p (map f (take (i + 1) xs)) ≡ found
  failed_more xs i d found within so_far fails =
      filtered_more xs i d within ∙ ap (λ ys. ys ++ cond (p (f (get_or xs i d))) (f (get_or xs i d) ∷ []) []) so_far
      ∙ ap (λ b. found ++ cond b (f (get_or xs i d) ∷ []) []) fails ∙ append-nil found

  -- a second that passes
  second : (xs : List X) (i : ℕ) (d : X) (y : Y) → i < length xs → filter p (map f (take i xs)) ≡ y ∷ [] → p (f (get_or xs i d)) ≡ true
      → filter p (map f xs) ≡ y ∷ f (get_or xs i d) ∷ filter p (map f (drop (suc i) xs))
  second xs i d y within one passes =
      ap (λ ys. filter p (map f ys)) (split xs i d within)
      ∙ ap (filter p) (map-append f (take i xs) (get_or xs i d ∷ drop (suc i) xs))
      ∙ filter-append p (map f (take i xs)) (f (get_or xs i d) ∷ map f (drop (suc i) xs))
      ∙ ap (λ ys. ys ++ filter p (f (get_or xs i d) ∷ map f (drop (suc i) xs))) one
      ∙ ap (λ b. y ∷ cond b (f (get_or xs i d) ∷ filter p (map f (drop (suc i) xs))) (filter p (map f (drop (suc i) xs)))) passes

  -- one more, which does not pass
  pub any_more : (xs : List X) (i : ℕ) (d : X) → i < length xs → list_any p (map f (take i xs)) ≡ false → p (f (get_or xs i d)) ≡ false
      → list_any p (map f (take (i + 1) xs)) ≡ false
  any_more xs i d within so_far now =
      ap (λ ys. list_any p (map f ys)) (take_more xs i d within)
      ∙ ap (list_any p) (map-append f (take i xs) (get_or xs i d ∷ []))
      ∙ list_any-append p (map f (take i xs)) (f (get_or xs i d) ∷ [])
      ∙ ap (λ b. b || list_any p (f (get_or xs i d) ∷ [])) so_far
      ∙ ap (λ b. b || false) now

  -- one that passes
  pub any_found : (xs : List X) (i : ℕ) (d : X) → i < length xs → list_any p (map f (take i xs)) ≡ false → p (f (get_or xs i d)) ≡ true
      → list_any p (map f xs) ≡ true
  any_found xs i d within so_far now =
      ap (λ ys. list_any p (map f ys)) (split xs i d within)
      ∙ ap (list_any p) (map-append f (take i xs) (get_or xs i d ∷ drop (suc i) xs))
      ∙ list_any-append p (map f (take i xs)) (f (get_or xs i d) ∷ map f (drop (suc i) xs))
      ∙ ap (λ b. b || list_any p (f (get_or xs i d) ∷ map f (drop (suc i) xs))) so_far
      ∙ ap (λ b. b || list_any p (map f (drop (suc i) xs))) now

-- two columns are meant
pub two_meant : {X : Type 0} (p : Slot → Bool) (f : X → Slot) (name : List ℕ) (xs : List X) (i : ℕ) (d : X) (found : Option X) → i < length xs
    → filter p (map f (take i xs)) ≡ map f (option_to_list found) → is_some found ≡ true → p (f (get_or xs i d)) ≡ true
    → the_one name (filter p (map f xs)) ≡ Err (Ambiguous name)
two_meant p f name xs i d (Some x) within so_far some passes = ap (the_one name) (second p f xs i d (f x) within so_far passes)
two_meant p f name xs i d None within so_far some passes = absurd (false≢true some)
