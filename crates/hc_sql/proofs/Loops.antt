-- Nested loops over whole tables go over their product.
use Rattle.std.proofs.Common.{◌≡◌, ◌∙◌, refl, sym, ap, subst, ℕ, ◌+◌, List, [], ◌∷◌, ◌++◌, length, map, Bool, false, Option, Some, None, Result, Ok, if◌then◌else◌}
use Rattle.std.specs.Prelude.{flat_map}
use Rattle.std.specs.List.{AllByRecursion, filter}
use Rattle.std.specs.Option.{unwrap_or}
use Rattle.std.proofs.lemmas.List.Elements.{filter-append}
use Rattle.hc_range.specs.declared.range.Range.{Range}
use Rattle.hc_value.specs.declared.value.Value.{Value}
use Rattle.hc_ast.specs.declared.bound.Bound.{Bound}
use Rattle.hc_transcript.specs.declared.refusal.Refusal.{Refusal}
use Rattle.hc_transcript.specs.declared.refusal.Refusal.TheVariants.{Overflow}
use Rattle.hc_schema.specs.declared.row.Row.{Row}
use Rattle.hc_schema.specs.declared.table.Table.{Table}
use Rattle.hc_schema.specs.Databases.{Database}
use Rattle.hc_schema.specs.Paths.{path_of}
use Rattle.hc_sql.specs.Work.{Work, give, next, go_on, in_turn, need}
use Rattle.hc_sql.specs.Stored.{rows_in}
use Rattle.hc_sql.specs.Select.{meets, if_met, path_rows, flat, loops, candidates}
use Rattle.hc_sql.specs.PathLaws.{product_after, product, IsDecided, is_met, AreReadWhole}

-- work that comes to a value and leaves the database
abbrev pub Comes : {A : Type 0} → Work A → Database → A → Type 0
Comes work db a = ((work db).result ≡ Ok a) × ((work db).db ≡ db)

pub next_comes : {A B : Type 0} (work : Work A) (more : A → Work B) (db : Database) (a : A) (b : B) → Comes work db a → Comes (more a) db b → Comes (next work more) db b
next_comes {A} {B} work more db a b one other = by (work db).result (work db).db (work db).reads one.0 one.1
  where
    by : (r : Result A Refusal) (d : Database) (reads : List Range) → r ≡ Ok a → d ≡ db
        → ((go_on r d reads more).result ≡ Ok b) × ((go_on r d reads more).db ≡ db)
    by r d reads is same = (
      ap (λ x. (go_on x d reads more).result) is ∙ (ap (λ x. (more a x).result) same ∙ other.0),
      ap (λ x. (go_on x d reads more).db) is ∙ (ap (λ x. (more a x).db) same ∙ other.1),
    )

pub turns_come : {X A : Type 0} (work : X → Work A) (f : X → A) (db : Database) (xs : List X) → AllByRecursion (λ x. Comes (work x) db (f x)) xs
    → Comes (in_turn work xs) db (map f xs)
turns_come work f db [] each = (refl, refl)
turns_come work f db (x ∷ xs) each =
    next_comes (work x) (λ a. next (in_turn work xs) (λ rest. give (a ∷ rest))) db (f x) (f x ∷ map f xs) each.0
    (next_comes (in_turn work xs) (λ rest. give (f x ∷ rest)) db (map f xs) (f x ∷ map f xs) (turns_come work f db xs each.1) (refl, refl))

-- parts of lists
all_split : {A : Type 0} (P : A → Type 0) (xs ys : List A) → AllByRecursion P (xs ++ ys) → AllByRecursion P xs × AllByRecursion P ys
all_split P [] ys each = (tt, each)
all_split P (x ∷ xs) ys each = let rest = all_split P xs ys each.1 in ((each.0, rest.0), rest.1)

all_flat : {X A : Type 0} (P : A → Type 0) (g : X → List A) (xs : List X) → AllByRecursion P (flat_map g xs) → AllByRecursion (λ x. AllByRecursion P (g x)) xs
all_flat P g [] each = tt
all_flat P g (x ∷ xs) each = let parts = all_split P (g x) (flat_map g xs) each in (parts.0, all_flat P g xs parts.1)

flat_filter : {X A : Type 0} (p : A → Bool) (g : X → List A) (xs : List X) → flat (map (λ x. filter p (g x)) xs) ≡ filter p (flat_map g xs)
flat_filter p g [] = refl
flat_filter p g (x ∷ xs) = ap (λ rest. filter p (g x) ++ rest) (flat_filter p g xs) ∙ sym (filter-append p (g x) (flat_map g xs))

all_into : {X : Type 0} (P Q : X → Type 0) (xs : List X) → ((x : X) → P x → Q x) → AllByRecursion P xs → AllByRecursion Q xs
all_into P Q [] into each = tt
all_into P Q (x ∷ xs) into each = (into x each.0, all_into P Q xs into each.1)

module _ (db : Database) (conjuncts : List Bound) where
  decided : (row : List Value) (o : Option Bool) (met : Bool) → o ≡ Some met
      → Comes (next (need Overflow o) (λ b. give (if_met row b))) db (if unwrap_or o false then row ∷ [] else [])
  decided row None met is = absurd (let none : ⊥ = cc in none)
  decided row (Some b) met is = (refl, refl)

  -- after one row of a table: the product, what of it meets the condition, and the loops over the tables after it
  abbrev after : List Table → List Value → Row → List (List Value)
  after tables row r = product_after db tables (row ++ r.values)

  abbrev met_after : List Table → List Value → Row → List (List Value)
  met_after tables row r = filter (is_met conjuncts) (after tables row r)

  abbrev turn : List Table → ℕ → List Value → Row → Work (List (List Value))
  turn tables offset row r = loops conjuncts tables offset (row ++ r.values)

  looped : (tables : List Table) (offset : ℕ) (row : List Value) → AreReadWhole conjuncts tables offset → AllByRecursion (IsDecided conjuncts) (product_after db tables row)
      → Comes (loops conjuncts tables offset row) db (filter (is_met conjuncts) (product_after db tables row))
  looped [] offset row whole each = decided row (meets conjuncts row) each.0.0 each.0.1
  looped (t ∷ tables) offset row whole each =
      next_comes (path_rows t offset conjuncts row (path_of t offset conjuncts))
      (λ rows. next (in_turn (turn tables (offset + length t.columns) row) rows) (λ found. give (flat found))) db
      (rows_in db t.tree) (filter (is_met conjuncts) (product_after db (t ∷ tables) row))
      (subst (λ p. Comes (path_rows t offset conjuncts row p) db (rows_in db t.tree)) (sym whole.0) (refl, refl))
      (next_comes (in_turn (turn tables (offset + length t.columns) row) (rows_in db t.tree)) (λ found. give (flat found)) db
      (map (met_after tables row) (rows_in db t.tree)) (filter (is_met conjuncts) (product_after db (t ∷ tables) row))
      (turns_come (turn tables (offset + length t.columns) row) (met_after tables row) db (rows_in db t.tree)
      (all_into (λ r. AllByRecursion (IsDecided conjuncts) (after tables row r))
      (λ r. Comes (turn tables (offset + length t.columns) row r) db (met_after tables row r)) (rows_in db t.tree)
      (λ r. looped tables (offset + length t.columns) (row ++ r.values) whole.1)
      (all_flat (IsDecided conjuncts) (after tables row) (rows_in db t.tree) each)))
      (ap (λ list. Ok list) (flat_filter (is_met conjuncts) (after tables row) (rows_in db t.tree)), refl))

pub all_looped : (db : Database) (tables : List Table) (conjuncts : List Bound) → AreReadWhole conjuncts tables 0
    → AllByRecursion (IsDecided conjuncts) (product db tables) → (candidates tables conjuncts db).result ≡ Ok (filter (is_met conjuncts) (product db tables))
all_looped db tables conjuncts whole each = (looped db conjuncts tables 0 [] whole each).0
