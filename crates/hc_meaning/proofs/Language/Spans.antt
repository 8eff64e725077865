-- A front of bytes that all pass, up to one that does not, is cut off in one way.
use Rattle.std.proofs.Common.{◌≡◌, refl, sym, subst, ℕ, List, [], ◌∷◌, ◌++◌}
use Rattle.std.specs.List.{AllByRecursion}
use Rattle.hc_meaning.specs.Front.{BeginsOutside}

-- where the same bytes begin with two such fronts, the fronts are one, and so are the rests
pub same_span : (P : ℕ → Type 0) (a b x y : List ℕ) → AllByRecursion P a → AllByRecursion P b → BeginsOutside P x → BeginsOutside P y → a ++ x ≡ b ++ y → (a ≡ b) × (x ≡ y)
same_span P [] [] x y in_a in_b out_x out_y e = (refl, e)
same_span P [] (c ∷ b) x y in_a in_b out_x out_y e = absurd ((subst (BeginsOutside P) e out_x) in_b.0)
same_span P (c ∷ a) [] x y in_a in_b out_x out_y e = absurd ((subst (BeginsOutside P) (sym e) out_y) in_a.0)
same_span P (c ∷ a) (d ∷ b) x y in_a in_b out_x out_y e =
    let tails : a ++ x ≡ b ++ y = cc in
    let both : (a ≡ b) × (x ≡ y) = same_span P a b x y in_a.1 in_b.1 out_x out_y tails in
    (cc, both.1)
