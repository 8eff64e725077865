-- What marks take of what may come: how much is left after them, or from which one on there is no room.
use Rattle.std.proofs.Common.{◌≡◌, ⊎_elim, ap, ◌∙◌, ℕ, zero, suc, ◌-◌, Bool, true, false, ◌&&◌, not, List, [], ◌∷◌, ◌++◌, Result, Ok, Err, refl, sym, subst, arith}
use Rattle.std.specs.Prelude.{if◌then◌else◌}
use Rattle.std.proofs.lemmas.Bool.{and_parts, not-true}
use Rattle.hc_grammar.specs.Lexemes.{Lexeme}
use Rattle.hc_grammar.specs.Marks.{Label, Plain, Operator, Table, Mark, At, Opens, Closes, Begins, Limits, is_none, is_over, after, fits}
use Rattle.hc_grammar.specs.Grammar.{Grammar, Nothing, One, Word, Level, Both, Depending, Made, Choice, Chain, Phased, Within, Begin, Place}
use Rattle.hc_grammar.specs.Has.{Phrase, Parts, chosen, has}

-- what is left after the marks, or the marks from the one on that is one too many
abbrev pub spend : Limits → Limits → List Mark → Result Limits (List Mark)
spend all left [] = Ok left
spend all left (m ∷ marks) = if is_over left m then Err (m ∷ marks) else spend all (after all left m) marks

-- the same with marks after them
abbrev pub spend_on : Limits → Result Limits (List Mark) → List Mark → Result Limits (List Mark)
spend_on all (Ok left) more = spend all left more
spend_on all (Err over) more = Err (over ++ more)

pub spend-append : (all left : Limits) (xs ys : List Mark) → spend all left (xs ++ ys) ≡ spend_on all (spend all left xs) ys
spend-append all left [] ys = refl
spend-append all left (m ∷ xs) ys = by (is_over left m) (spend-append all (after all left m) xs ys)
  where
    by : (test : Bool) → spend all (after all left m) (xs ++ ys) ≡ spend_on all (spend all (after all left m) xs) ys
        → (if test then Err (m ∷ xs ++ ys) else spend all (after all left m) (xs ++ ys)) ≡ spend_on all (if test then Err (m ∷ xs) else spend all (after all left m) xs) ys
    by true ih = refl
    by false ih = ih

-- marks that fit leave something
pub fits_spend : (all left : Limits) (marks : List Mark) → fits all left marks ≡ true → (after : Limits) × (spend all left marks ≡ Ok after)
fits_spend all left [] h = (left, refl)
fits_spend all left (m ∷ marks) h =
    let p = and_parts (not (is_over left m)) (fits all (after all left m) marks) h in
    let s = fits_spend all (after all left m) marks p.1 in
    (s.0, ap (λ b. if b then Err (m ∷ marks) else spend all (after all left m) marks) (not-true (is_over left m) p.0) ∙ s.1)

-- and marks that leave something fit
pub spend_fits : (all left left_over : Limits) (marks : List Mark) → spend all left marks ≡ Ok left_over → fits all left marks ≡ true
spend_fits all left left_over [] h = refl
spend_fits all left left_over (m ∷ marks) h = by (is_over left m) (λ e. spend_fits all (after all left m) left_over marks e) h
  where
    by : (test : Bool) → (spend all (after all left m) marks ≡ Ok left_over → fits all (after all left m) marks ≡ true) → (if test then Err (m ∷ marks) else spend all (after all left m) marks) ≡ Ok left_over
        → (not test && fits all (after all left m) marks) ≡ true
    by true ih h = absurd (cc)
    by false ih h = ih h

-- the levels that are open are the same after the marks
abbrev pub IsBalanced : Limits → List Mark → Type 0
IsBalanced all marks = (left left_over : Limits) → spend all left marks ≡ Ok left_over → left_over.levels ≡ left.levels

balanced_both : (all : Limits) (xs ys : List Mark) → IsBalanced all xs → IsBalanced all ys → IsBalanced all (xs ++ ys)
balanced_both all xs ys h g left left_over e = by (spend all left xs) refl (sym (spend-append all left xs ys) ∙ e)
  where
    by : (r : Result Limits (List Mark)) → spend all left xs ≡ r → spend_on all r ys ≡ Ok left_over → left_over.levels ≡ left.levels
    by (Ok between) is e = g between left_over e ∙ h left between is
    by (Err over) is e = absurd (cc)

balanced_as : (all : Limits) (marks more : List Mark) → marks ≡ more → IsBalanced all more → IsBalanced all marks
balanced_as all marks more is h = subst (IsBalanced all) (sym is) h

ok_same : (x y : Limits) → (let r : Result Limits (List Mark) = Ok x in r ≡ Ok y) → x ≡ y
ok_same x y e = cc

-- a mark that opens and closes nothing
balanced_mark : (all : Limits) (m : Mark) (marks : List Mark) → ((left : Limits) → (after all left m).levels ≡ left.levels) → IsBalanced all marks → IsBalanced all (m ∷ marks)
balanced_mark all m marks flat h left left_over e = by (is_over left m) e
  where
    by : (test : Bool) → (if test then Err (m ∷ marks) else spend all (after all left m) marks) ≡ Ok left_over → left_over.levels ≡ left.levels
    by true e = absurd (cc)
    by false e = h (after all left m) left_over e ∙ flat left

flat_label : (all : Limits) (label : Label) (t : Lexeme) (left : Limits) → (after all left (At label t)).levels ≡ left.levels
flat_label all Plain t left = refl
flat_label all Operator t left = refl
flat_label all Table t left = refl

balanced_none : (all : Limits) → IsBalanced all []
balanced_none all left left_over e = ap (λ (l : Limits). l.levels) (sym (ok_same left left_over e))

-- a level that is opened and closed
balanced_level : (all : Limits) (t : Lexeme) (marks : List Mark) → IsBalanced all marks → IsBalanced all (Opens t ∷ marks ++ Closes ∷ [])
balanced_level all t marks h left left_over e = by left.levels refl e
  where
    inside : Limits
    inside = record left { levels = left.levels - 1 }

    closed : (n : ℕ) (r : Result Limits (List Mark)) → left.levels ≡ suc n → spend all inside marks ≡ r → spend_on all r (Closes ∷ []) ≡ Ok left_over → left_over.levels ≡ left.levels
    closed n (Ok between) some is e =
        let same : suc between.levels ≡ left_over.levels = ap (λ (l : Limits). l.levels) (ok_same (record between { levels = suc between.levels }) left_over e) in
        let lower : between.levels ≡ left.levels - 1 = h inside between is in
        omega (arith, same, lower, some)
    closed n (Err over) some is e = absurd (cc)

    by : (n : ℕ) → left.levels ≡ n → (if is_none n then Err (Opens t ∷ marks ++ Closes ∷ []) else spend all inside (marks ++ Closes ∷ [])) ≡ Ok left_over → left_over.levels ≡ left.levels
    by zero is e = absurd (cc)
    by (suc n) is e = closed n (spend all inside marks) is refl (sym (spend-append all inside marks (Closes ∷ [])) ∙ e)

balanced_parts : {A B : Type 0} (all : Limits) (Part : B → A → Phrase) (join : B → A → B) (each : (value : B) (x : A) (marks : List Mark) → Part value x marks → IsBalanced all marks)
    (value : B) (parts : List A) (marks : List Mark) → Parts Part join value parts marks → IsBalanced all marks
balanced_parts all Part join each value [] marks h = balanced_as all marks [] h (balanced_none all)
balanced_parts all Part join each value (x ∷ xs) marks h =
    balanced_as all marks (h.0 ++ h.1) h.2 (balanced_both all h.0 h.1 (each value x h.0 h.3) (balanced_parts all Part join each (join value x) xs h.1 h.4))

either : {A : Type 0} (all : Limits) (P Q : A → Phrase) (x : A) (marks : List Mark) (test : Bool) → (P x marks → IsBalanced all marks) → (Q x marks → IsBalanced all marks) → chosen test P Q x marks
    → IsBalanced all marks
either all P Q x marks true one other h = one h
either all P Q x marks false one other h = other h

module _ (all : Limits) (W : (A : Type 0) → Place A → A → Phrase) (placed : (A : Type 0) (place : Place A) (x : A) (marks : List Mark) → W A place x marks → IsBalanced all marks) where
  -- what a grammar has closes each level that it opens
  pub balanced : {A : Type 0} (g : Grammar A) (x : A) (marks : List Mark) → has W g x marks → IsBalanced all marks
  unfolding has
  balanced (Nothing y) x marks h = balanced_as all marks [] h.0 (balanced_none all)
  balanced (One label terminal) x marks h = balanced_as all marks (At label h.0 ∷ []) h.1 (balanced_mark all (At label h.0) [] (flat_label all label h.0) (balanced_none all))
  balanced (Word label kind g) x marks h = balanced_as all marks (At label h.0 ∷ h.1) h.2 (balanced_mark all (At label h.0) h.1 (flat_label all label h.0) (balanced g x h.1 h.4))
  balanced (Level kind g) x marks h = balanced_as all marks (Opens h.0 ∷ h.1 ++ Closes ∷ []) h.2 (balanced_level all h.0 h.1 (balanced g x h.1 h.4))
  balanced (Both f g h) x marks s =
      balanced_as all marks (s.3.0 ++ s.3.1) s.3.2 (balanced_both all s.3.0 s.3.1 (balanced g s.0 s.3.0 s.3.3) (balanced h s.1 s.3.1 s.3.4))
  balanced (Depending f g test h k) x marks s =
      balanced_as all marks (s.3.0 ++ s.3.1) s.3.2
      (balanced_both all s.3.0 s.3.1 (balanced g s.0 s.3.0 s.3.3) (either all (has W h) (has W k) s.1 s.3.1 (test s.0) (balanced h s.1 s.3.1) (balanced k s.1 s.3.1) s.3.4))
  balanced (Made f g) x marks h = balanced g h.0 marks h.2
  balanced (Choice g h) x marks s = ⊎_elim (λ i. balanced g x marks i) (λ i. balanced h x marks i) s
  balanced (Chain g h join) x marks s =
      balanced_as all marks (s.3.0 ++ s.3.1) s.3.2
      (balanced_both all s.3.0 s.3.1 (balanced g s.0 s.3.0 s.3.3) (balanced_parts all (λ value. has W h) join (λ value y m p. balanced h y m p) s.0 s.1 s.3.1 s.3.4))
  balanced (Phased g test h k join) x marks s =
      balanced_as all marks (s.3.0 ++ s.3.1) s.3.2
      (balanced_both all s.3.0 s.3.1 (balanced g s.0 s.3.0 s.3.3)
      (balanced_parts all (λ value. chosen (test value) (has W h) (has W k)) join
      (λ value y m p. either all (has W h) (has W k) y m (test value) (balanced h y m) (balanced k y m) p) s.0 s.1 s.3.1 s.3.4))
  balanced (Within {A} place) x marks h = placed A place x marks h
  balanced (Begin g) x marks h = balanced_as all marks (Begins ∷ h.0) h.1 (balanced_mark all Begins h.0 (λ left. refl) (balanced g x h.0 h.2))
