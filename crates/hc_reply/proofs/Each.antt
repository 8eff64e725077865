-- Lists whose elements are gone over one by one.
use Rattle.std.proofs.Common.{◌≡◌, ℕ, zero, suc, ◌+◌, ◌<◌, List, [], ◌∷◌, length, get_or, take, sym, subst, arith}
use Rattle.std.proofs.lemmas.List.{take_more}
use Rattle.std.specs.List.{AllByRecursion}
use Rattle.hc_reply.proofs.States.{all_last}

-- what holds of each element holds of the one at i
pub each_at : {T : Type 0} (P : T → Type 0) (xs : List T) (i : ℕ) (x : T) → x ≡ get_or xs i x → i < length xs → AllByRecursion P xs → P x
each_at P [] i x is lt are = absurd (omega (arith, lt))
each_at P (y ∷ xs) zero x is lt are = subst P (sym is) are.0
each_at P (y ∷ xs) (suc i) x is lt are = each_at P xs i x is (omega (arith, lt)) are.1

-- what holds of the first i elements, and of the next, holds of the first i + 1
pub one_more : {T : Type 0} (P : T → Type 0) (xs : List T) (i : ℕ) (x : T) → x ≡ get_or xs i x → i < length xs → AllByRecursion P (take i xs) → P x → AllByRecursion P (take (i + 1) xs)
one_more P xs i x same lt are is = subst (AllByRecursion P) (sym (take_more xs i x lt)) (all_last P (take i xs) (get_or xs i x) are (subst P same is))
