-- What may follow a part: it is told by its first byte, and no part begins another.
use Rattle.std.proofs.Common.{◌≡◌, ◌∙◌, ap, ℕ, List, [], ◌∷◌, ◌++◌, refl, sym, subst}
use Rattle.hc_reply.specs.Mismatches.{SameFirst, NoDigit, NoQuote}

-- no text of a part begins another, where what follows each may follow it
abbrev pub IsPrefixFree : {V : Type 0} → (List ℕ → Type 0) → (V → Type 0) → (V → List ℕ) → Type 0
IsPrefixFree {V} Ends Is text =
    (v w : V) (r s : List ℕ) → Is v → Is w → Ends r → Ends s → text v ++ r ≡ text w ++ s → (v ≡ w) × (r ≡ s)

-- whether bytes may follow is told by the first of them
abbrev pub IsToldByFirst : (List ℕ → Type 0) → Type 0
IsToldByFirst Ends = (b : ℕ) (rest other : List ℕ) → Ends (b ∷ rest) → Ends (b ∷ other)

-- bytes that begin with the same one may follow too
pub same_ends : (Ends : List ℕ → Type 0) → IsToldByFirst Ends → (rest other : List ℕ) → SameFirst rest other → Ends rest → Ends other
same_ends Ends told [] [] same ends = ends
same_ends Ends told [] (o ∷ other) same ends = absurd same
same_ends Ends told (r ∷ rest) [] same ends = absurd same
same_ends Ends told (r ∷ rest) (o ∷ other) same ends = subst (λ (b : ℕ). Ends (b ∷ other)) same (told r rest other ends)

-- the same where no digit may follow
pub no_digit_there : (rest other : List ℕ) → SameFirst rest other → NoDigit rest → NoDigit other
no_digit_there = same_ends NoDigit (λ b rest other none. none)

-- the same where no quote may follow
pub no_quote_there : (rest other : List ℕ) → SameFirst rest other → NoQuote rest → NoQuote other
no_quote_there = same_ends NoQuote (λ b rest other none. none)

-- what goes on with the same byte begins with it
pub same_byte : (b : ℕ) (rest other : List ℕ) → SameFirst (b ∷ rest) other → (o : List ℕ) × (other ≡ b ∷ o)
same_byte b rest [] same = absurd same
same_byte b rest (c ∷ other) same = (other, ap (λ (k : ℕ). k ∷ other) (sym same))

-- where bytes go on alike, they begin alike
pub same_after : (front rest other : List ℕ) → SameFirst rest other → SameFirst (front ++ rest) (front ++ other)
same_after [] rest other same = same
same_after (x ∷ front) rest other same = refl

-- where bytes begin with b, what goes on with the same byte does too
pub head_there : (bytes before rest other t : List ℕ) (b : ℕ) → bytes ≡ before ++ rest → bytes ≡ b ∷ t → SameFirst rest other → (o : List ℕ) × (before ++ other ≡ b ∷ o)
head_there bytes before rest other t b splits first same =
    same_byte b t (before ++ other) (subst (λ (l : List ℕ). SameFirst l (before ++ other)) (sym splits ∙ first) (same_after before rest other same))
