-- What each element of a list has: in joined lists, in the end of a list, and in what a filter keeps.
use Rattle.std.proofs.Common.{Bool, true, false, cond, List, [], ◌∷◌, ◌++◌}
use Rattle.std.specs.Prelude.{filter}
use Rattle.std.specs.List.{AllByRecursion}

module _ {X : Type 0} (P : X → Type 0) where
  -- what holds in both parts of a list holds in all of it
  pub all_joined : (xs ys : List X) → AllByRecursion P xs → AllByRecursion P ys → AllByRecursion P (xs ++ ys)
  all_joined [] ys front back = back
  all_joined (x ∷ xs) ys front back = (front.0, all_joined xs ys front.1 back)

  -- what holds in a list holds in its end
  pub all_after : (xs ys : List X) → AllByRecursion P (xs ++ ys) → AllByRecursion P ys
  all_after [] ys all = all
  all_after (x ∷ xs) ys all = all_after xs ys all.1

  -- what holds in a list holds in what a filter keeps of it
  pub all_filtered : (keeps : X → Bool) (xs : List X) → AllByRecursion P xs → AllByRecursion P (filter keeps xs)
  all_filtered keeps [] all = tt
  all_filtered keeps (x ∷ xs) all =
      elim (keeps x) as (λ b. AllByRecursion P (cond b (x ∷ filter keeps xs) (filter keeps xs))) [ true ↦ (all.0, all_filtered keeps xs all.1) | false ↦ all_filtered keeps xs all.1 ]
