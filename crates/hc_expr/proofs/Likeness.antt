-- The search for a pattern loses nothing: where the front of a pattern up to a `%` fits first is as good as a later place.
use Rattle.std.proofs.Common.{ℕ, ◌+◌, List, [], ◌∷◌, ◌≡◌, ◌≢◌, inl, inr, Bool, true, false, nat_eq, drop, zero, suc, refl, sym, ap, subst, ◌∙◌, arith}
use Rattle.std.specs.Prelude.{◌||◌}
use Rattle.std.proofs.lemmas.Bool.{and_parts, or_cases, or_left, or_right, and_from, and_left, cond-false, ne_eqb, false_from_ne_true, false≢true}
use Rattle.std.proofs.lemmas.List.{drop-drop}
use Rattle.hc_expr.specs.Like.{is_like, some_rest, first_and_rest, passes, Meets, Reaches}

-- two tests that hold together are one
same_test : (a b : Bool) → (a ≡ true → b ≡ true) → (b ≡ true → a ≡ true) → a ≡ b
same_test true b f g = sym (f refl)
same_test false true f g = g refl
same_test false false f g = refl

-- a first character that passes, and what is left
rest_good : (first : ℕ → Bool) (is_good : List ℕ → Bool) (text : List ℕ) → first_and_rest first is_good text ≡ true → is_good (drop 1 text) ≡ true
rest_good first is_good [] h = elim (false≢true h) [ ]
rest_good first is_good (c ∷ text) h = (and_parts (first c) (is_good text) h).1

-- a rest of a rest is a rest
rest_of_rest : (is_good : List ℕ → Bool) (n : ℕ) (text : List ℕ) → some_rest is_good (drop n text) ≡ true → some_rest is_good text ≡ true
rest_of_rest is_good zero text h = h
rest_of_rest is_good (suc n) [] h = h
rest_of_rest is_good (suc n) (c ∷ text) h = or_right (is_good (c ∷ text)) (some_rest is_good text) (rest_of_rest is_good n text h)

-- the text itself is a rest
pub whole_is_rest : (is_good : List ℕ → Bool) (text : List ℕ) → is_good text ≡ true → some_rest is_good text ≡ true
whole_is_rest is_good [] h = h
whole_is_rest is_good (c ∷ text) h = or_left (is_good (c ∷ text)) (some_rest is_good text) h

-- a rest that is good
some_place : (is_good : List ℕ → Bool) (text : List ℕ) → some_rest is_good text ≡ true → (n : ℕ) × (is_good (drop n text) ≡ true)
some_place is_good [] h = (0, h)
some_place is_good (c ∷ text) h = elim (or_cases (is_good (c ∷ text)) (some_rest is_good text) h) [
  | inl now ↦ (0, now)
  | inr later ↦ let p = some_place is_good text later in (suc p.0, p.1)
]

-- a character of the pattern that is not `%` is for the first character
one_more : (p : ℕ) (pattern text : List ℕ) → p ≢ 37 → is_like (p ∷ pattern) text ≡ first_and_rest (passes p) (is_like pattern) text
one_more p pattern text not_star = cond-false (nat_eq p 37) _ _ (ne_eqb p 37 not_star)

-- at the front nothing is passed
pub meets_at_front : (from text : List ℕ) → Meets from text from text
meets_at_front from text = record {
  passed = 0;
  rest_is = refl;
  shorter = omega arith;
  onward = λ other h. h;
  back = λ h. h;
}

-- one character more is met
pub meets_more : (from text pattern rest : List ℕ) (p c : ℕ) → Meets from text (p ∷ pattern) (c ∷ rest) → p ≢ 37 → passes p c ≡ true → Meets from text pattern rest
meets_more from text pattern rest p c m not_star passed = record {
  passed = m.passed + 1;
  rest_is = ap (drop 1) m.rest_is ∙ drop-drop 1 m.passed text;
  shorter = omega (arith, m.shorter);
  onward = λ other h. subst (λ t. is_like pattern t ≡ true) (drop-drop 1 m.passed other)
      (rest_good (passes p) (is_like pattern) (drop m.passed other) (sym (one_more p pattern (drop m.passed other) not_star) ∙ m.onward other h));
  back = λ h. m.back (one_more p pattern (c ∷ rest) not_star ∙ and_from (passes p c) (is_like pattern rest) passed h);
}

-- the same, of what is cut off both
pub goes_on : (from text after rest pattern others : List ℕ) (p c : ℕ) → after ≡ p ∷ pattern → rest ≡ c ∷ others
    → Meets from text after rest → p ≢ 37 → passes p c ≡ true → Meets from text pattern others
goes_on from text after rest pattern others p c a r m not_star passed =
    meets_more from text pattern others p c (subst (λ t. Meets from text (p ∷ pattern) t) r (subst (λ q. Meets from text q rest) a m)) not_star passed

-- what is like the whole at this text is like what is left at its rest
here : (from text pattern rest : List ℕ) → Meets from text pattern rest → is_like from text ≡ true → is_like pattern rest ≡ true
here from text pattern rest m h = subst (λ t. is_like pattern t ≡ true) (sym m.rest_is) (m.onward text h)

-- both are met to their ends
pub met_whole : (from text : List ℕ) → Meets from text [] [] → is_like from text ≡ true
met_whole from text m = m.back refl

-- the pattern ends, and the text goes on
pub met_too_early : (from text rest : List ℕ) (c : ℕ) → Meets from text [] (c ∷ rest) → is_like from text ≡ false
met_too_early from text rest c m = false_from_ne_true (is_like from text) (λ h. false≢true (here from text [] (c ∷ rest) m h))

-- the text ends before a character of the pattern
pub met_no_more : (from text pattern : List ℕ) (p : ℕ) → Meets from text (p ∷ pattern) [] → p ≢ 37 → is_like from text ≡ false
met_no_more from text pattern p m not_star =
    false_from_ne_true (is_like from text) (λ h. false≢true (sym (one_more p pattern [] not_star) ∙ here from text (p ∷ pattern) [] m h))

-- a character does not pass
pub met_other : (from text pattern rest : List ℕ) (p c : ℕ) → Meets from text (p ∷ pattern) (c ∷ rest) → p ≢ 37 → passes p c ≡ false → is_like from text ≡ false
met_other from text pattern rest p c m not_star fails =
    false_from_ne_true (is_like from text) (λ h. false≢true (sym (one_more p pattern (c ∷ rest) not_star ∙ and_left (passes p c) (is_like pattern rest) fails)
    ∙ here from text (p ∷ pattern) (c ∷ rest) m h))

-- a `%` is reached
pub met_star : (from text pattern rest : List ℕ) → Meets from text (37 ∷ pattern) rest → Reaches from text pattern rest
met_star from text pattern rest m = record {
  passed = m.passed;
  rest_is = m.rest_is;
  shorter = omega (arith, m.shorter);
  onward = m.onward;
  back = m.back;
}

-- where a `%` is reached first, the search may go on from there alone
pub reached : (from text pattern rest : List ℕ) → Reaches from text pattern rest → some_rest (is_like from) text ≡ some_rest (is_like pattern) rest
reached from text pattern rest r = same_test _ _
    (λ h. let place = some_place (is_like from) text h in
    rest_of_rest (is_like pattern) place.0 rest (subst (λ t. some_rest (is_like pattern) t ≡ true)
    (drop-drop r.passed place.0 text ∙ ap (λ n. drop n text) (omega arith) ∙ sym (drop-drop place.0 r.passed text) ∙ ap (drop place.0) (sym r.rest_is))
    (r.onward (drop place.0 text) place.1)))
    (λ h. whole_is_rest (is_like from) text (r.back h))

-- at the front itself, the whole pattern is like where its rest is
pub reached_here : (from text pattern rest : List ℕ) → Reaches from text pattern rest → is_like from text ≡ some_rest (is_like pattern) rest
reached_here from text pattern rest r = same_test _ _
    (λ h. subst (λ t. some_rest (is_like pattern) t ≡ true) (sym r.rest_is) (r.onward text h))
    r.back

-- a text that is not like the pattern, and its rests
pub later_rest : (pattern rest : List ℕ) (c : ℕ) → is_like pattern (c ∷ rest) ≡ false → some_rest (is_like pattern) (c ∷ rest) ≡ some_rest (is_like pattern) rest
later_rest pattern rest c fails = ap (λ b. b || some_rest (is_like pattern) rest) fails
