-- What words and bytes begin with in common.
use Rattle.std.proofs.Common.{◌≡◌, ◌≢◌, ◌∙◌, ap, ℕ, zero, suc, ◌+◌, ◌-◌, ◌≤◌, ◌⊎◌, inl, inr, if◌then◌else◌, List, [], ◌∷◌, ◌++◌, length, take, drop, refl, sym, subst, arith}
use Rattle.std.proofs.lemmas.Bool.{cases_eq, eq-eqb, ne_eqb}
use Rattle.std.proofs.lemmas.List.{append-nil, drop_all, take-append-drop, take_all, length-drop}
use Rattle.hc_reply.specs.Mismatches.{SameFirst, Anything, IsMismatch}
use Rattle.hc_reply.specs.Words.{IsWord, the_word, common}

-- one byte more in common
pub common_more : (w b : ℕ) (word bytes : List ℕ) → w ≡ b → common (w ∷ word) (b ∷ bytes) ≡ common word bytes + 1
common_more w b word bytes same = ap (λ k. if k then common word bytes + 1 else 0) (eq-eqb w b same)

-- no byte in common
pub common_none : (w b : ℕ) (word bytes : List ℕ) → w ≢ b → common (w ∷ word) (b ∷ bytes) ≡ 0
common_none w b word bytes differ = ap (λ k. if k then common word bytes + 1 else 0) (ne_eqb w b differ)

-- nothing is in common with no bytes
pub none_left : (word bytes : List ℕ) → length word ≡ 0 → 0 ≡ common word bytes
none_left [] bytes none = refl
none_left (w ∷ word) bytes none = absurd (omega (arith, none))

pub none_right : (word bytes : List ℕ) → length bytes ≡ 0 → 0 ≡ common word bytes
none_right [] bytes none = refl
none_right (w ∷ word) [] none = refl
none_right (w ∷ word) (b ∷ bytes) none = absurd (omega (arith, none))

-- the front in common begins the word
pub common_front : (word bytes : List ℕ) → word ≡ take (common word bytes) bytes ++ drop (common word bytes) word
common_front [] bytes = refl
common_front (w ∷ word) [] = refl
common_front (w ∷ word) (b ∷ bytes) = by (cases_eq w b) (common_front word bytes)
  where
    by : (w ≡ b) ⊎ (w ≢ b) → word ≡ take (common word bytes) bytes ++ drop (common word bytes) word
        → w ∷ word ≡ take (common (w ∷ word) (b ∷ bytes)) (b ∷ bytes) ++ drop (common (w ∷ word) (b ∷ bytes)) (w ∷ word)
    by (inl same) more =
        let step : suc (common word bytes) ≡ common (w ∷ word) (b ∷ bytes) = omega (arith, common_more w b word bytes same) in
        subst (λ (n : ℕ). w ∷ word ≡ take n (b ∷ bytes) ++ drop n (w ∷ word)) step (λ i. same i ∷ more i)
    by (inr differ) more =
        subst (λ (n : ℕ). w ∷ word ≡ take n (b ∷ bytes) ++ drop n (w ∷ word)) (sym (common_none w b word bytes differ)) refl

-- a word that is in common with so many bytes at most, and not whole, does not go on as those do
pub misses : (word bytes : List ℕ) (n : ℕ) (more other : List ℕ) → common word bytes ≤ n → common word bytes ≢ length word → SameFirst (drop n bytes) other → word ++ more ≡ take n bytes ++ other → ⊥
misses [] bytes n more other le short same e = short refl
misses (w ∷ word) [] zero more [] le short same e = cc
misses (w ∷ word) [] zero more (o ∷ other) le short same e = same
misses (w ∷ word) [] (suc n) more [] le short same e = cc
misses (w ∷ word) [] (suc n) more (o ∷ other) le short same e = same
misses (w ∷ word) (b ∷ bytes) zero more [] le short same e = same
misses (w ∷ word) (b ∷ bytes) zero more (o ∷ other) le short same e =
    let first : w ≡ o = cc in
    let is : w ≡ b = first ∙ sym same in
    omega (arith, le, common_more w b word bytes is)
misses (w ∷ word) (b ∷ bytes) (suc n) more other le short same e =
    let first : w ≡ b = cc in
    let rest : word ++ more ≡ take n bytes ++ other = cc in
    let longer = common_more w b word bytes first in
    misses word bytes n more other (omega (arith, le, longer)) (λ whole. short (omega (arith, longer, whole))) same rest

-- what is left after n bytes, as a slice
pub left_is : (n : ℕ) (bytes : List ℕ) → take (length bytes - n) (drop n bytes) ≡ drop n bytes
left_is n bytes = take_all (length bytes - n) (drop n bytes) (omega (arith, length-drop n bytes))

-- the bytes before n and those after
pub front_and_left : (n : ℕ) (bytes : List ℕ) → bytes ≡ take n bytes ++ take (length bytes - n) (drop n bytes)
front_and_left n bytes = sym (take-append-drop n bytes) ∙ ap (λ (l : List ℕ). take n bytes ++ l) (sym (left_is n bytes))

-- where the whole word is in common, the bytes begin with it
pub whole_word : (word bytes : List ℕ) (n : ℕ) → n ≡ common word bytes → n ≡ length word → bytes ≡ word ++ take (length bytes - n) (drop n bytes)
whole_word word bytes n is whole =
    let all : word ≡ take n bytes = common_front word bytes ∙ (λ i. take (sym is i) bytes ++ drop (sym is i) word) ∙ ap (λ (l : List ℕ). take n bytes ++ l) (drop_all n word (omega (arith, whole))) ∙ append-nil (take n bytes) in
    front_and_left n bytes ∙ ap (λ (l : List ℕ). l ++ take (length bytes - n) (drop n bytes)) (sym all)

-- a mismatch after the bytes in common, where these are not the whole word
pub mismatch_at_word : (word bytes : List ℕ) (n : ℕ) → n ≡ common word bytes → n ≢ length word → IsMismatch Anything IsWord (the_word word) bytes (take (length bytes - n) (drop n bytes))
mismatch_at_word word bytes n is short = record {
  before = take n bytes;
  splits = front_and_left n bytes;
  value = tt;
  more = drop n word;
  has = tt;
  begins = common_front word bytes ∙ (λ i. take (sym is i) bytes ++ drop (sym is i) word);
  none = λ v more other any ends same e.
      misses word bytes n more other (omega (arith, is)) (λ whole. short (is ∙ whole)) (subst (λ (l : List ℕ). SameFirst l other) (left_is n bytes) same) e;
}
