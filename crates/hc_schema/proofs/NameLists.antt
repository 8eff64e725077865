-- Names of a list of things, as they are tested one after another.
use Rattle.std.proofs.Common.{◌≡◌, ℕ, List, [], ◌∷◌, map, length, refl, sym, subst, arith}
use Rattle.std.specs.List.{AllByRecursion}
use Rattle.hc_text.specs.Names.{SameName}
use Rattle.hc_schema.specs.Tables.{IsNewName, NamesDiffer}

-- no thing has the name where the name is new to their names, and the other way round
pub new_to : {A : Type 0} (f : A → List ℕ) (name : List ℕ) (xs : List A) → AllByRecursion (λ x. SameName name (f x) → ⊥) xs → IsNewName name (map f xs)
new_to f name [] all = tt
new_to f name (x ∷ xs) all = (all.0, new_to f name xs all.1)

pub new_from : {A : Type 0} (f : A → List ℕ) (name : List ℕ) (xs : List A) → IsNewName name (map f xs) → AllByRecursion (λ x. SameName name (f x) → ⊥) xs
new_from f name [] new = tt
new_from f name (x ∷ xs) new = (new.0, new_from f name xs new.1)

-- the names of all differ where the first one's is new to the others, and theirs differ
pub differ_first : {A : Type 0} (f : A → List ℕ) (all rest : List A) (x : A) → all ≡ x ∷ rest → NamesDiffer (map f all) → AllByRecursion (λ y. SameName (f x) (f y) → ⊥) rest
differ_first f all rest x parts differ =
    let d : NamesDiffer (map f (x ∷ rest)) = subst (λ l. NamesDiffer (map f l)) parts differ in new_from f (f x) rest d.0

pub differ_rest : {A : Type 0} (f : A → List ℕ) (all rest : List A) (x : A) → all ≡ x ∷ rest → NamesDiffer (map f all) → NamesDiffer (map f rest)
differ_rest f all rest x parts differ =
    let d : NamesDiffer (map f (x ∷ rest)) = subst (λ l. NamesDiffer (map f l)) parts differ in d.1

pub differ_all : {A : Type 0} (f : A → List ℕ) (all rest : List A) (x : A) → all ≡ x ∷ rest → AllByRecursion (λ y. SameName (f x) (f y) → ⊥) rest → NamesDiffer (map f rest) → NamesDiffer (map f all)
differ_all f all rest x parts new differ = subst (λ l. NamesDiffer (map f l)) (sym parts) (new_to f (f x) rest new, differ)

-- a list of no elements
pub empty_by_length : {A : Type 0} (xs : List A) → length xs ≡ 0 → xs ≡ []
empty_by_length [] none = refl
empty_by_length (x ∷ xs) none = absurd (omega arith)
