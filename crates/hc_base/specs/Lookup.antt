-- Look-ups: lists as sets of elements, and functions of a number one of whose answers changes.
use Rattle.std.specs.Prelude.{◌≡◌, ℕ, cond, eqb, List, [], ◌∷◌, ◌⊎◌}

-- x is an element of the list
abbrev pub Among : {A : Type 0} → A → List A → Type 0
Among x [] = ⊥
Among x (y ∷ ys) = (x ≡ y) ⊎ Among x ys

-- f with its answer at i changed to x
unfoldable pub but : {A : Type 0} → (ℕ → A) → ℕ → A → ℕ → A
but f i x j = cond (eqb i j) x (f j)
