-- A list's writings, one after the other.
use Rattle.std.proofs.Common.{◌≡◌, ◌∙◌, ℕ, ◌+◌, ◌<◌, List, [], ◌∷◌, ◌++◌, length, get_or, take, map, ap, sym, append_assoc}
use Rattle.std.specs.List.{concat}
use Rattle.std.proofs.lemmas.List.{map_more, append-nil}
use Rattle.std.proofs.lemmas.List.Folds.{concat-append}

pub each_written : {A : Type 0} (f : A → List ℕ) (xs : List A) (i : ℕ) (x : A) (old now new : List ℕ) → i < length xs → x ≡ get_or xs i x
    → now ≡ old ++ concat (map f (take i xs)) → new ≡ now ++ f x → new ≡ old ++ concat (map f (take (i + 1) xs))
each_written f xs i x old now new within is so_far one =
    one ∙ ap (λ ys. ys ++ f x) so_far ∙ append_assoc old (concat (map f (take i xs))) (f x)
    ∙ ap (λ ys. old ++ ys) (
    ap (λ ys. concat (map f (take i xs)) ++ ys) (ap f is ∙ sym (append-nil (f (get_or xs i x))))
    ∙ sym (concat-append (map f (take i xs)) (f (get_or xs i x) ∷ []))
    ∙ ap concat (sym (map_more f xs i x within)))
