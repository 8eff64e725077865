-- Lists that are read one element after another, beside what they stand for.
use Rattle.std.proofs.Common.{◌≡◌, List, [], ◌∷◌, ◌++◌, length, Some, Result, IfOk, refl, sym, ap, subst, ◌∙◌, append_assoc, arith}
use Rattle.std.proofs.lemmas.List.{append-nil}
use Rattle.std.proofs.lemmas.Result.{IfOk-weaker}
use Rattle.std.specs.Option.{unwrap_or}
use Rattle.hc_schema.specs.Tables.{Pairwise}

-- what the first of the rest stands for, and the others
pub record First {A B : Type 0} (R : A → B → Type 0) (x : A) (rest : List A) (ys : List B) : Type 0 where
  pub one : B
  pub others : List B
  pub parts : ys ≡ one ∷ others
  pub related : R x one
  pub pairs : Pairwise R rest others

first_pair : {A B : Type 0} (R : A → B → Type 0) (x : A) (rest : List A) (ys : List B) → Pairwise R (x ∷ rest) ys → First R x rest ys
first_pair R x rest [] pairs = absurd pairs
first_pair R x rest (y ∷ ys) pairs = record { one = y; others = ys; parts = refl; related = pairs.0; pairs = pairs.1 }

pub first_of : {A B : Type 0} (R : A → B → Type 0) (xs : List A) (x : A) (rest : List A) (ys : List B) → xs ≡ x ∷ rest → Pairwise R xs ys → First R x rest ys
first_of R xs x rest ys parts pairs = first_pair R x rest ys (subst (λ l. Pairwise R l ys) parts pairs)

-- nothing is left to stand for where the list has ended
pub none_left : {A B : Type 0} (R : A → B → Type 0) (xs : List A) (ys : List B) → length xs ≡ 0 → Pairwise R xs ys → ys ≡ []
none_left R [] [] none pairs = refl
none_left R [] (y ∷ ys) none pairs = absurd pairs
none_left R (x ∷ xs) ys none pairs = absurd (omega arith)

-- so what was read is all of it
pub read_all : {A B : Type 0} (R : A → B → Type 0) (xs : List A) (all found more : List B) → all ≡ found ++ more → length xs ≡ 0 → Pairwise R xs more → Some found ≡ Some all
read_all R xs all found more parts none pairs =
    ap Some (sym (parts ∙ ap (λ l. found ++ l) (none_left R xs more none pairs) ∙ append-nil found))

-- two values of one option are one
pub some_same : {A : Type 0} (x y : A) → Some x ≡ Some y → x ≡ y
some_same x y same = ap (λ o. unwrap_or o x) same

-- what was found is no longer left
pub read_more : {B : Type 0} (all found new more others : List B) (y z : B) → all ≡ found ++ more → more ≡ y ∷ others → Some z ≡ Some y → new ≡ found ++ z ∷ [] → all ≡ new ++ others
read_more all found new more others y z parts rest same pushed =
    parts
    ∙ ap (λ l. found ++ l) rest
    ∙ ap (λ w. found ++ w ∷ others) (sym (some_same z y same))
    ∙ sym (append_assoc found (z ∷ []) others)
    ∙ ap (λ l. l ++ others) (sym pushed)

-- what follows of the value of a call follows of the same call where it is passed on
pub after_ok : {X Y : Type 0} (r : Result X Y) (P Q : X → Type 0) → IfOk r P → ((x : X) → P x → Q x) → IfOk r Q
after_ok r P Q known weaker = IfOk-weaker r P Q weaker known
