-- Numbers that no link reaches, where new ones come to be reached.
use Rattle.std.proofs.Common.{◌≡◌, ◌≢◌, ◌∙◌, refl, sym, subst, arith, ℕ, suc, List, [], ◌∷◌, inl, inr, ⊎_elim}
use Rattle.hc_base.specs.Content.{Content}
use Rattle.hc_base.specs.Lookup.{Among, but}
use Rattle.hc_base.proofs.Lookups.{but-other, but-same, each_but}
use Rattle.hc_shape.specs.Changes.{cut_shape, grown_shape}
use Rattle.hc_shape.specs.Leaves.{with_next}
use Rattle.hc_shape.specs.Shape.{IsReached, IsShape, IsUnreached, Shape}
use Rattle.hc_shape.proofs.Nexts.{among_next, new_there}
use Rattle.hc_shape.proofs.Nodes.{top_there}

pub after_cut : (s : Shape) (k at new m : ℕ) (cut : List ℕ) → IsUnreached s m → m ≢ new → IsUnreached (cut_shape s k at new cut) m
after_cut s k at new m cut unreached differ =
    each_but s.numbers k (with_next at new (s.numbers k)) (λ j ns. Among m ns → ⊥)
    (λ there. ⊎_elim (λ (is : m ≡ new). differ is) (λ (was : Among m (s.numbers k)). unreached k was) (among_next at new m (s.numbers k) there))
    (λ j far there. unreached j there)

pub after_growth : (node : ℕ → Content) (s : Shape) (first second m : ℕ) (cut : List ℕ) → IsShape node s → IsUnreached s m → m ≢ first → m ≢ second
    → IsUnreached (grown_shape s first second cut) m
after_growth node s first second m cut h unreached not_first not_second =
    each_but (but s.numbers (s.level 2) (first ∷ second ∷ [])) (suc (s.level 2)) (2 ∷ []) (λ j ns. Among m ns → ⊥) on_top
    (λ j high. each_but s.numbers (s.level 2) (first ∷ second ∷ []) (λ i ns. Among m ns → ⊥) on_pair (λ i low there. unreached i there) j)
  where
    on_top : Among m (2 ∷ []) → ⊥
    on_top (inl is) = unreached (s.level 2) (subst (λ x. Among x (s.numbers (s.level 2))) (sym is) (top_there node s h))
    on_top (inr none) = none

    on_pair : Among m (first ∷ second ∷ []) → ⊥
    on_pair (inl is) = not_first is
    on_pair (inr (inl is)) = not_second is
    on_pair (inr (inr none)) = none

pub cut_reaches : (s : Shape) (k at new : ℕ) (cut : List ℕ) → Among at (s.numbers k) → IsReached (cut_shape s k at new cut) new
cut_reaches s k at new cut there =
    subst (λ j. Among new (but s.numbers k (with_next at new (s.numbers k)) j)) (sym (but-same s.level new k))
    (subst (λ ns. Among new ns) (sym (but-same s.numbers k (with_next at new (s.numbers k)))) (new_there at new (s.numbers k) there))

module _ (node : ℕ → Content) (s : Shape) (first second : ℕ) (cut : List ℕ) (h : IsShape node s) where
  pair_there : (but (but s.numbers (s.level 2) (first ∷ second ∷ [])) (suc (s.level 2)) (2 ∷ [])) (s.level 2) ≡ first ∷ second ∷ []
  pair_there =
      but-other (but s.numbers (s.level 2) (first ∷ second ∷ [])) (suc (s.level 2)) (s.level 2) (2 ∷ []) (λ e. omega (arith, e))
      ∙ but-same s.numbers (s.level 2) (first ∷ second ∷ [])

  not_top : (n : ℕ) → IsUnreached s n → 2 ≡ n → ⊥
  not_top n unreached is = unreached (s.level 2) (subst (λ x. Among x (s.numbers (s.level 2))) is (top_there node s h))

  on_pair : (n : ℕ) → Among n (first ∷ second ∷ []) → (grown_shape s first second cut).level n ≡ s.level 2 → IsReached (grown_shape s first second cut) n
  on_pair n among level =
      subst (λ j. Among n ((grown_shape s first second cut).numbers j)) (sym level) (subst (λ ns. Among n ns) (sym pair_there) among)

  pub growth_reaches : IsUnreached s first → IsUnreached s second → first ≢ second
      → IsReached (grown_shape s first second cut) first × IsReached (grown_shape s first second cut) second
  growth_reaches unreached_first unreached_second differ = (
    on_pair first (inl refl)
        (but-other (but (but s.level first (s.level 2)) second (s.level 2)) 2 first (suc (s.level 2)) (not_top first unreached_first)
        ∙ but-other (but s.level first (s.level 2)) second first (s.level 2) (λ e. differ (sym e))
        ∙ but-same s.level first (s.level 2)),
    on_pair second (inr (inl refl))
        (but-other (but (but s.level first (s.level 2)) second (s.level 2)) 2 second (suc (s.level 2)) (not_top second unreached_second)
        ∙ but-same (but s.level first (s.level 2)) second (s.level 2)),
  )
