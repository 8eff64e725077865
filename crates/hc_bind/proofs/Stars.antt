-- The columns that a star is for, and the values of items.
use Rattle.std.proofs.Common.{◌≡◌, ◌∙◌, ℕ, List, [], ◌∷◌, map, refl, ap, sym, Bool, true, false, None, Option, Ok, Err, cond}
use Rattle.std.specs.Prelude.{if◌then◌else◌}
use Rattle.std.specs.List.{filter}
use Rattle.hc_schema.specs.Binding.Faults.{Judged, after, walk}
use Rattle.hc_schema.specs.Binding.Scopes.{Slot, is_of}
use Rattle.hc_schema.specs.Binding.Expressions.{Grouping}
use Rattle.hc_schema.specs.Binding.Queries.{Answer, with_star}
use Rattle.hc_bind.specs.declared.query.Answer.{Answer as Kept}
use Rattle.hc_bind.specs.Settings.{answer_of, star_if}
use Rattle.hc_bind.proofs.Judging.{walk_map}

-- a walk that passes over some elements
walk_filter : {A S : Type 0} (p : A → Bool) (step : S → A → Judged S) (s : S) (xs : List A) → walk (λ m x. if p x then step m x else Ok m) s xs ≡ walk step s (filter p xs)
walk_filter p step s [] = refl
walk_filter p step s (x ∷ xs) =
    elim (p x) as (λ b. after (if b then step s x else Ok s) (λ n. walk (λ m y. if p y then step m y else Ok m) n xs) ≡ walk step s (cond b (x ∷ filter p xs) (filter p xs))) [
      | true ↦ elim (step s x) as (λ j. after j (λ n. walk (λ m y. if p y then step m y else Ok m) n xs) ≡ after j (λ n. walk step n (filter p xs))) [
        | Ok n ↦ walk_filter p step n xs
        | Err fault ↦ refl
      ]
      | false ↦ walk_filter p step s xs
    ]

pub star_walk : {S : Type 0} (f : S → Slot) (g : Option Grouping) (of : Option (List ℕ)) (before : List Answer) (xs : List S)
    → walk (λ m x. star_if g of m (f x)) before xs ≡ walk (with_star g) before (filter (is_of of) (map f xs))
star_walk f g of before xs = sym (walk_map (star_if g of) f before xs) ∙ walk_filter (is_of of) (with_star g) before (map f xs)

-- `*` is for all columns
all_of : (slots : List Slot) → filter (is_of None) slots ≡ slots
all_of [] = refl
all_of (x ∷ xs) = ap (λ ys. x ∷ ys) (all_of xs)

pub star_all : {S : Type 0} (f : S → Slot) (g : Option Grouping) (before : List Answer) (xs : List S)
    → walk (λ m x. star_if g None m (f x)) before xs ≡ walk (with_star g) before (map f xs)
star_all f g before xs = star_walk f g None before xs ∙ ap (walk (with_star g) before) (all_of (map f xs))

pub map_values : (xs : List Kept) → map (λ a. a.value) (map answer_of xs) ≡ map (λ a. a.value) xs
map_values [] = refl
map_values (x ∷ xs) = ap (λ vs. x.value ∷ vs) (map_values xs)
