-- Two lists that are merged from their ends hold the same keys all the time.
use Rattle.std.proofs.Common.{◌≡◌, ◌∙◌, sym, ap, subst, ℕ, ◌+◌, List, [], ◌∷◌, ◌++◌, length, reverse, inl, inr, ◌⊎◌, ◌↔◌, arith}
use Rattle.std.proofs.lemmas.List.{reverse-append}
use Rattle.hc_range.specs.Merging.{HasTakenOne}
use Rattle.hc_range.specs.Ranges.{InAny, InRange}
use Rattle.hc_range.specs.declared.range.Range.{Range}
use Rattle.hc_range.proofs.Normal.{InAny-cases, InAny-left, InAny-right}

-- a list in the other order holds the same keys
pub reversed : (ranges : List Range) (key : List ℕ) → InAny (reverse ranges) key ↔ InAny ranges key
reversed [] key = (λ h. h, λ h. h)
reversed (range ∷ ranges) key =
    let rest = reversed ranges key in (
      λ h. elim (InAny-cases (reverse ranges) (range ∷ []) key (subst (λ (rs : List Range). InAny rs key) (reverse-append (range ∷ []) ranges) h)) [
        | inl a ↦ inr (rest.0 a)
        | inr b ↦ elim b [ inl c ↦ inl c | inr d ↦ absurd d ]
      ],
      λ h. subst (λ (rs : List Range). InAny rs key) (sym (reverse-append (range ∷ []) ranges)) (elim h [
        | inl a ↦ InAny-right (reverse ranges) (range ∷ []) key (inl a)
        | inr b ↦ InAny-left (reverse ranges) (range ∷ []) key (rest.1 b)
      ]),
    )

-- before the first one is taken
pub none_taken : (out ranges others ranges_reversed others_reversed : List Range) → out ≡ [] → ranges_reversed ≡ reverse ranges → others_reversed ≡ reverse others
    → (key : List ℕ) → (InAny out key ⊎ (InAny ranges_reversed key ⊎ InAny others_reversed key)) ↔ (InAny ranges key ⊎ InAny others key)
none_taken out ranges others ranges_reversed others_reversed none one two key = (
  λ h. elim h [
    | inl a ↦ absurd (subst (λ (rs : List Range). InAny rs key) none a)
    | inr b ↦ elim b [
      | inl c ↦ inl ((reversed ranges key).0 (subst (λ (rs : List Range). InAny rs key) one c))
      | inr d ↦ inr ((reversed others key).0 (subst (λ (rs : List Range). InAny rs key) two d))
    ]
  ],
  λ h. elim h [
    | inl c ↦ inr (inl (subst (λ (rs : List Range). InAny rs key) (sym one) ((reversed ranges key).1 c)))
    | inr d ↦ inr (inr (subst (λ (rs : List Range). InAny rs key) (sym two) ((reversed others key).1 d)))
  ],
)

-- one that was taken, or those that are left, hold the keys of the two lists
last_taken : (range : Range) (before after : List Range) → before ≡ after ++ range ∷ [] → (key : List ℕ) → InAny before key ↔ (InRange range key ⊎ InAny after key)
last_taken range before after e key = (
  λ h. elim (InAny-cases after (range ∷ []) key (subst (λ (rs : List Range). InAny rs key) e h)) [ inl a ↦ inr a | inr b ↦ elim b [ inl c ↦ inl c | inr d ↦ absurd d ] ],
  λ h. subst (λ (rs : List Range). InAny rs key) (sym e) (elim h [ inl a ↦ InAny-right after (range ∷ []) key (inl a) | inr b ↦ InAny-left after (range ∷ []) key b ]),
)

one_taken : (range : Range) (before after others_before others_after : List Range) → HasTakenOne range before after others_before others_after
    → (key : List ℕ) → (InAny before key ⊎ InAny others_before key) ↔ (InRange range key ⊎ (InAny after key ⊎ InAny others_after key))
one_taken range before after others_before others_after (inl h) key =
    let taken = last_taken range before after h.0 key in (
      λ a. elim a [
        | inl b ↦ elim (taken.0 b) [ inl c ↦ inl c | inr d ↦ inr (inl d) ]
        | inr e ↦ inr (inr (subst (λ (rs : List Range). InAny rs key) (sym h.1) e))
      ],
      λ a. elim a [
        | inl c ↦ inl (taken.1 (inl c))
        | inr b ↦ elim b [ inl d ↦ inl (taken.1 (inr d)) | inr e ↦ inr (subst (λ (rs : List Range). InAny rs key) h.1 e) ]
      ],
    )
one_taken range before after others_before others_after (inr h) key =
    let taken = last_taken range others_before others_after h.0 key in (
      λ a. elim a [
        | inr b ↦ elim (taken.0 b) [ inl c ↦ inl c | inr d ↦ inr (inr d) ]
        | inl e ↦ inr (inl (subst (λ (rs : List Range). InAny rs key) (sym h.1) e))
      ],
      λ a. elim a [
        | inl c ↦ inr (taken.1 (inl c))
        | inr b ↦ elim b [ inr d ↦ inr (taken.1 (inr d)) | inl e ↦ inl (subst (λ (rs : List Range). InAny rs key) h.1 e) ]
      ],
    )

-- it was united with what was taken before
pub united_more : (range : Range) (before after others_before others_after out more : List Range) (All : List ℕ → Type 0) → HasTakenOne range before after others_before others_after
    → ((key : List ℕ) → InAny more key ↔ (InAny out key ⊎ InRange range key))
    → ((key : List ℕ) → (InAny out key ⊎ (InAny before key ⊎ InAny others_before key)) ↔ All key)
    → (key : List ℕ) → (InAny more key ⊎ (InAny after key ⊎ InAny others_after key)) ↔ All key
united_more range before after others_before others_after out more All taken added all key =
    let one = one_taken range before after others_before others_after taken key in (
      λ h. (all key).0 (elim h [
        | inl a ↦ elim ((added key).0 a) [ inl b ↦ inl b | inr c ↦ inr (one.1 (inl c)) ]
        | inr d ↦ inr (one.1 (inr d))
      ]),
      λ h. elim ((all key).1 h) [
        | inl a ↦ inl ((added key).1 (inl a))
        | inr b ↦ elim (one.0 b) [ inl c ↦ inl ((added key).1 (inr c)) | inr d ↦ inr d ]
      ],
    )

-- and one is left less
pub one_less : (range : Range) (before after others_before others_after : List Range) → HasTakenOne range before after others_before others_after
    → length before + length others_before ≡ (length after + length others_after) + 1
one_less range before after others_before others_after (inl h) =
    let e : length before ≡ length after + 1 = ap (λ (rs : List Range). length rs) h.0 ∙ pushed after range in
    let f : length others_after ≡ length others_before = ap (λ (rs : List Range). length rs) h.1 in
    omega (arith, e, f)
  where
    pushed : (rs : List Range) (r : Range) → length (rs ++ r ∷ []) ≡ length rs + 1
    pushed [] r = omega arith
    pushed (x ∷ rs) r = omega (arith, pushed rs r)
one_less range before after others_before others_after (inr h) =
    let e : length others_before ≡ length others_after + 1 = ap (λ (rs : List Range). length rs) h.0 ∙ pushed others_after range in
    let f : length after ≡ length before = ap (λ (rs : List Range). length rs) h.1 in
    omega (arith, e, f)
  where
    pushed : (rs : List Range) (r : Range) → length (rs ++ r ∷ []) ≡ length rs + 1
    pushed [] r = omega arith
    pushed (x ∷ rs) r = omega (arith, pushed rs r)
