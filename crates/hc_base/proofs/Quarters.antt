-- Four numbers of 16 bits in a word: each is read where it was written.
use Rattle.std.proofs.Common.{◌≡◌, ℕ, zero, suc, ◌/◌, ◌%◌, ◌^◌, ◌<◌, List, [], ◌∷◌, length, get_or, sym, subst, arith}
use Rattle.std.specs.List.{AllByRecursion}
use Rattle.hc_base.specs.Layout.{quarters, quarter}

-- each is below 2 ^ 16
abbrev pub AreSmall : List ℕ → Type 0
AreSmall ps = AllByRecursion (λ p. p < 2 ^ 16) ps

-- number i is number i % 4 of word i / 4
pub quarters-read : (i : ℕ) (ps : List ℕ) → AreSmall ps → i < length ps → quarter (i % 4) (get_or (quarters ps) (i / 4) 0) ≡ get_or ps i 0
quarters-read i [] small within = absurd (omega arith)
quarters-read zero (a ∷ []) small within = omega arith
quarters-read (suc i) (a ∷ []) small within = absurd (omega arith)
quarters-read zero (a ∷ b ∷ []) small within = omega arith
quarters-read (suc zero) (a ∷ b ∷ []) small within = omega arith
quarters-read (suc (suc i)) (a ∷ b ∷ []) small within = absurd (omega arith)
quarters-read zero (a ∷ b ∷ c ∷ []) small within = omega arith
quarters-read (suc zero) (a ∷ b ∷ c ∷ []) small within = omega arith
quarters-read (suc (suc zero)) (a ∷ b ∷ c ∷ []) small within = omega arith
quarters-read (suc (suc (suc i))) (a ∷ b ∷ c ∷ []) small within = absurd (omega arith)
quarters-read zero (a ∷ b ∷ c ∷ d ∷ rest) small within = omega arith
quarters-read (suc zero) (a ∷ b ∷ c ∷ d ∷ rest) small within = omega arith
quarters-read (suc (suc zero)) (a ∷ b ∷ c ∷ d ∷ rest) small within = omega arith
quarters-read (suc (suc (suc zero))) (a ∷ b ∷ c ∷ d ∷ rest) small within = omega arith
quarters-read (suc (suc (suc (suc i)))) (a ∷ b ∷ c ∷ d ∷ rest) small within =
    let word : suc (suc (suc (suc i))) / 4 ≡ suc (i / 4) = omega arith in
    let place : suc (suc (suc (suc i))) % 4 ≡ i % 4 = omega arith in
    let P : ℕ → ℕ → Type 0 = λ k w. quarter k (get_or (quarters (a ∷ b ∷ c ∷ d ∷ rest)) w 0) ≡ get_or rest i 0 in
    subst (λ k. P k (suc (suc (suc (suc i))) / 4)) (sym place) (subst (λ w. P (i % 4) w) (sym word) (quarters-read i rest small.1.1.1.1 (omega arith)))
