-- Lists of ranges with the same keys.
use Rattle.std.proofs.Common.{◌≡◌, ◌∙◌, refl, sym, ap, subst, append_assoc, ℕ, zero, suc, ◌<◌, arith, Bool, true, false, List, [], ◌∷◌, ◌++◌, length, get_or, inl, inr, ◌⊎◌, ◌↔◌}
use Rattle.std.specs.List.{Contains}
use Rattle.std.proofs.lemmas.Bool.{true≢false}
use Rattle.std.specs.List.Sorted.{IsPermutation}
use Rattle.std.proofs.lemmas.List.Sorted.{Contains-permutation, IsPermutation-sym}
use Rattle.hc_range.specs.declared.range.Range.{Range}
use Rattle.hc_range.specs.Ranges.{InAny, InRange}
use Rattle.hc_range.proofs.Normal.{InAny-cases, InAny-left, InAny-right}
use Rattle.hc_range.proofs.Searched.{InAny-contains}
use Rattle.hc_reads.specs.Gathered.{HaveSameKeys}

pub same_refl : (ranges : List Range) → HaveSameKeys ranges ranges
same_refl ranges key = (λ a. a, λ a. a)

pub same_trans : (a b c : List Range) → HaveSameKeys a b → HaveSameKeys b c → HaveSameKeys a c
same_trans a b c h g key = (λ x. (g key).0 ((h key).0 x), λ x. (h key).1 ((g key).1 x))

-- the keys of two lists in a row
pub keys_append : (a b : List Range) (key : List ℕ) → InAny (a ++ b) key ↔ (InAny a key ⊎ InAny b key)
keys_append a b key = (InAny-cases a b key, λ h. elim h [ inl x ↦ InAny-left a b key x | inr x ↦ InAny-right a b key x ])

-- and of one more range
pub keys_more : (a : List Range) (range : Range) (key : List ℕ) → InAny (a ++ range ∷ []) key ↔ (InAny a key ⊎ InRange range key)
keys_more a range key = (
  λ h. elim ((keys_append a (range ∷ []) key).0 h) [ inl x ↦ inl x | inr x ↦ elim x [ inl y ↦ inr y | inr none ↦ absurd none ] ],
  λ h. (keys_append a (range ∷ []) key).1 (elim h [ inl x ↦ inl x | inr x ↦ inr (inl x) ]),
)

-- a key of the list lies in a range of the list
found_in : (ranges : List Range) (key : List ℕ) → InAny ranges key → (range : Range) × Contains ranges range × InRange range key
found_in [] key h = absurd h
found_in (range ∷ ranges) key (inl h) = (range, (0, omega arith, refl), h)
found_in (range ∷ ranges) key (inr h) =
    let rest = found_in ranges key h in
    (rest.0, (suc rest.1.0, omega (arith, rest.1.1), rest.1.2), rest.2)

-- in another order the keys are the same
moved_keys : (a b : List Range) → IsPermutation a b → (key : List ℕ) → InAny a key → InAny b key
moved_keys a b h key x =
    let at = found_in a key x in
    InAny-contains b at.0 key (Contains-permutation a b at.0 h at.1) at.2

pub same_moved : (a b : List Range) → IsPermutation a b → HaveSameKeys a b
same_moved a b h key = (moved_keys a b h key, moved_keys b a (IsPermutation-sym a b h) key)

-- two lists in a row, of which each has the same keys as another
pub same_append : (a b c d : List Range) → HaveSameKeys a c → HaveSameKeys b d → HaveSameKeys (a ++ b) (c ++ d)
same_append a b c d h g key = (
  λ x. (keys_append c d key).1 (elim ((keys_append a b key).0 x) [ inl y ↦ inl ((h key).0 y) | inr y ↦ inr ((g key).0 y) ]),
  λ x. (keys_append a b key).1 (elim ((keys_append c d key).0 x) [ inl y ↦ inl ((h key).1 y) | inr y ↦ inr ((g key).1 y) ]),
)

-- a list that is followed by another one, to which a range was added
pub keys_pushed : (log waiting pushed : List Range) (range : Range) (all : List Range) → all ≡ log ++ pushed → pushed ≡ waiting ++ range ∷ []
    → (key : List ℕ) → InAny all key ↔ (InAny (log ++ waiting) key ⊎ InRange range key)
keys_pushed log waiting pushed range all e f key =
    subst (λ (ranges : List Range). InAny ranges key ↔ (InAny (log ++ waiting) key ⊎ InRange range key))
    (sym (e ∙ ap (λ (ranges : List Range). log ++ ranges) f ∙ sym (append_assoc log waiting (range ∷ []))))
    (keys_more (log ++ waiting) range key)

-- of two lists in a row the first lies in a log, and so all does where the second does
pub both_within : (log waiting other first second all : List Range) (b c : Bool) → first ≡ log → second ≡ waiting → log ++ waiting ≡ all
    → (b ≡ true) ↔ ((key : List ℕ) → InAny first key → InAny other key) → b ≡ true → (c ≡ true) ↔ ((key : List ℕ) → InAny second key → InAny other key)
    → (c ≡ true) ↔ ((key : List ℕ) → InAny all key → InAny other key)
both_within log waiting other first second all b c e f is h t g =
    subst (λ (ranges : List Range). (c ≡ true) ↔ ((key : List ℕ) → InAny ranges key → InAny other key)) is (
      λ both key a. elim (InAny-cases log waiting key a) [
        | inl x ↦ h.0 t key (subst (λ (ranges : List Range). InAny ranges key) (sym e) x)
        | inr x ↦ g.0 both key (subst (λ (ranges : List Range). InAny ranges key) (sym f) x)
      ],
      λ within. g.1 (λ key a. within key (InAny-right log waiting key (subst (λ (ranges : List Range). InAny ranges key) f a))),
    )

-- where the first does not, all does not
pub first_without : (log waiting other first all : List Range) (b : Bool) → first ≡ log → log ++ waiting ≡ all
    → (b ≡ true) ↔ ((key : List ℕ) → InAny first key → InAny other key) → b ≡ false → (b ≡ true) ↔ ((key : List ℕ) → InAny all key → InAny other key)
first_without log waiting other first all b e is h f = (
  λ t. absurd (true≢false (sym t ∙ f)),
  λ within. h.1 (λ key a. within key (subst (λ (ranges : List Range). InAny ranges key) is (InAny-left log waiting key (subst (λ (ranges : List Range). InAny ranges key) e a)))),
)

-- ranges that were moved to other places, after others
pub same_after : (log waiting moved : List Range) → IsPermutation waiting moved → HaveSameKeys (log ++ waiting) (log ++ moved)
same_after log waiting moved h = same_append log waiting log moved (same_refl log) (same_moved waiting moved h)

-- and joined with them
pub same_joined : (log waiting moved slice more joined left : List Range) → IsPermutation waiting moved → slice ≡ moved → HaveSameKeys more slice
    → ((key : List ℕ) → InAny joined key ↔ (InAny log key ⊎ InAny more key)) → left ≡ [] → HaveSameKeys (log ++ waiting) (joined ++ left)
same_joined log waiting moved slice more joined left h e same both none key =
    let moves = same_moved waiting moved h key in (
      λ a. (keys_append joined left key).1 (inl ((both key).1 (elim ((keys_append log waiting key).0 a) [
        | inl x ↦ inl x
        | inr x ↦ inr ((same key).1 (subst (λ (r : List Range). InAny r key) (sym e) (moves.0 x)))
      ]))),
      λ a. (keys_append log waiting key).1 (elim ((keys_append joined left key).0 a) [
        | inl x ↦ elim ((both key).0 x) [ inl y ↦ inl y | inr y ↦ inr (moves.1 (subst (λ (r : List Range). InAny r key) e ((same key).0 y))) ]
        | inr x ↦ absurd (subst (λ (r : List Range). InAny r key) none x)
      ]),
    )

-- a range was added to ranges with the same keys
pub added_to_same : (before mid all : List Range) (copy range : Range) → HaveSameKeys before mid → copy ≡ range
    → ((key : List ℕ) → InAny all key ↔ (InAny mid key ⊎ InRange copy key)) → (key : List ℕ) → InAny all key ↔ (InAny before key ⊎ InRange range key)
added_to_same before mid all copy range same e h key = (
  λ a. elim ((h key).0 a) [ inl x ↦ inl ((same key).1 x) | inr x ↦ inr (subst (λ (r : Range). InRange r key) e x) ],
  λ a. (h key).1 (elim a [ inl x ↦ inl ((same key).0 x) | inr x ↦ inr (subst (λ (r : Range). InRange r key) (sym e) x) ]),
)
