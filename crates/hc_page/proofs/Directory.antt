-- A place more in the directory.
use Rattle.std.proofs.Common.{◌≡◌, ◌≢◌, ℕ, zero, suc, ◌+◌, ◌-◌, ◌*◌, ◌/◌, ◌%◌, ◌^◌, ◌≤◌, List, [], ◌∷◌, ◌++◌, length, get_or, refl, sym, ap, ◌∙◌, inl, inr, arith, length-append}
use Rattle.std.proofs.lemmas.List.{get_or_append_left, get_or_past}
use Rattle.std.proofs.Math.Seq.{get_or-append_seam}
use Rattle.std.proofs.lemmas.Bool.{cases_lt}
use Rattle.hc_base.specs.Content.{Entry}
use Rattle.hc_base.specs.Layout.{places, all_words, entry_words}
use Rattle.hc_page.specs.Drafts.{four}

-- the place of an entry that is added is after the words of those before it
pub places-more : (at : ℕ) (es : List Entry) (e : Entry) → places at (es ++ (e ∷ [])) ≡ places at es ++ ((at + length (all_words es)) ∷ [])
places-more at [] e = ap (λ n. n ∷ []) (let h : at ≡ at + 0 = omega arith in h)
places-more at (x ∷ es) e =
    let more = length (entry_words x) in
    ap (λ ps. at ∷ ps)
    (places-more (at + more) es e
    ∙ ap (λ n. places (at + more) es ++ (n ∷ []))
    (let h : at + more + length (all_words es) ≡ at + length (entry_words x ++ all_words es) = omega (arith, length-append (entry_words x) (all_words es)) in h))

-- what a list with one more has at each place
one_other : (ps : List ℕ) (p i : ℕ) → i ≢ length ps → get_or (ps ++ (p ∷ [])) i 0 ≡ get_or ps i 0
one_other ps p i other =
    elim (cases_lt i (length ps)) [
      | inl within ↦ get_or_append_left ps (p ∷ []) 0 i within
      | inr past ↦
          get_or_past (ps ++ (p ∷ [])) i 0 (let h : length (ps ++ (p ∷ [])) ≤ i = omega (arith, length-append ps (p ∷ []), other) in h) ∙ sym (get_or_past ps i 0 past)
    ]

one_here : (ps : List ℕ) (p i : ℕ) → i ≡ length ps → get_or (ps ++ (p ∷ [])) i 0 ≡ p
one_here ps p i same = ap (λ n. get_or (ps ++ (p ∷ [])) n 0) same ∙ get_or-append_seam ps p [] 0

-- other words of the directory stay
pub four-other : (ps : List ℕ) (p j : ℕ) → j ≢ length ps / 4 → four (ps ++ (p ∷ [])) j ≡ four ps j
four-other ps p j other =
    omega (arith, one_other ps p (4 * j) (omega arith), one_other ps p (4 * j + 1) (omega arith), one_other ps p (4 * j + 2) (omega arith), one_other ps p (4 * j + 3) (omega arith))

-- and its word gets the place in its quarter
pub four-more : (ps : List ℕ) (p j q : ℕ) → j ≡ length ps / 4 → q ≡ 2 ^ (48 - 16 * (length ps % 4)) → four (ps ++ (p ∷ [])) j ≡ four ps j + p * q
four-more ps p j q here power = by_case (length ps % 4) refl
  where
    by_case : (r : ℕ) → length ps % 4 ≡ r → four (ps ++ (p ∷ [])) j ≡ four ps j + p * q
    by_case zero is =
        let e : q ≡ 2 ^ 48 = power ∙ ap (λ n. 2 ^ (48 - 16 * n)) is in
        rw e (omega (arith, one_here ps p (4 * j) (omega arith), get_or_past ps (4 * j) 0 (omega arith), one_other ps p (4 * j + 1) (omega arith), one_other ps p (4 * j + 2) (omega arith), one_other ps p (4 * j + 3) (omega arith)))
    by_case (suc zero) is =
        let e : q ≡ 2 ^ 32 = power ∙ ap (λ n. 2 ^ (48 - 16 * n)) is in
        rw e (omega (arith, one_other ps p (4 * j) (omega arith), one_here ps p (4 * j + 1) (omega arith), get_or_past ps (4 * j + 1) 0 (omega arith), one_other ps p (4 * j + 2) (omega arith), one_other ps p (4 * j + 3) (omega arith)))
    by_case (suc (suc zero)) is =
        let e : q ≡ 2 ^ 16 = power ∙ ap (λ n. 2 ^ (48 - 16 * n)) is in
        rw e (omega (arith, one_other ps p (4 * j) (omega arith), one_other ps p (4 * j + 1) (omega arith), one_here ps p (4 * j + 2) (omega arith), get_or_past ps (4 * j + 2) 0 (omega arith), one_other ps p (4 * j + 3) (omega arith)))
    by_case (suc (suc (suc r))) is =
        let three : suc (suc (suc r)) ≡ 3 = omega (arith, is) in
        let e : q ≡ 1 = power ∙ ap (λ n. 2 ^ (48 - 16 * n)) (is ∙ three) in
        rw e (omega (arith, one_other ps p (4 * j) (omega arith), one_other ps p (4 * j + 1) (omega arith), one_other ps p (4 * j + 2) (omega arith), one_here ps p (4 * j + 3) (omega (arith, is, three)), get_or_past ps (4 * j + 3) 0 (omega (arith, is, three))))
