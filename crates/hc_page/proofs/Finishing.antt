-- A draft with all its entries, and the number of its words, is a page.
use Rattle.std.proofs.Common.{◌≡◌, ℕ, zero, suc, ◌+◌, ◌-◌, ◌*◌, ◌^◌, ◌<◌, List, [], ◌∷◌, ◌++◌, length, get_or, set, refl, sym, ap, subst, ◌∙◌, inl, inr, arith, append_assoc, length-append, Option, Some, None, get_or-set_other, get_or-set_same, length-set}
use Rattle.std.specs.Prelude.{replicate}
use Rattle.std.proofs.lemmas.List.{get_or_append_left, get_or-append_right, get_or-drop, get_or_past}
use Rattle.std.proofs.lemmas.Bool.{cases_lt}
use Rattle.hc_base.specs.Content.{Content}
use Rattle.hc_base.specs.Layout.{layout, IsPage, quarters, directory_size, places, all_words, used_words, low_words, fence_words, low_at, high_word, high_at, fences_at, entries_at, kind_of, no_high_flag}
use Rattle.hc_base.proofs.Places.{directory_word, drop_to_entries, layout-length, quarters-length, places-length}
use Rattle.hc_page.specs.declared.writer.Draft.{Draft}
use Rattle.hc_page.specs.Drafts.{IsDraft, IsWhole, four, fences, fences_from, entries_from, third_of, low_from, high_part}
use Rattle.hc_page.proofs.HeadWords.{drop_to_fences}
use Rattle.hc_page.proofs.Keys.{same_bytes}
use Rattle.hc_page.proofs.Written.{zeros_are}

-- word j of a directory has four places
pub four-is : (ps : List ℕ) (j : ℕ) → get_or (quarters ps) j 0 ≡ four ps j
four-is [] j = omega arith
four-is (a ∷ []) zero = omega arith
four-is (a ∷ []) (suc j) = omega (arith, get_or_past (a ∷ []) (4 * suc j) 0 (omega arith), get_or_past (a ∷ []) (4 * suc j + 1) 0 (omega arith), get_or_past (a ∷ []) (4 * suc j + 2) 0 (omega arith), get_or_past (a ∷ []) (4 * suc j + 3) 0 (omega arith))
four-is (a ∷ b ∷ []) zero = omega arith
four-is (a ∷ b ∷ []) (suc j) = omega (arith, get_or_past (a ∷ b ∷ []) (4 * suc j) 0 (omega arith), get_or_past (a ∷ b ∷ []) (4 * suc j + 1) 0 (omega arith), get_or_past (a ∷ b ∷ []) (4 * suc j + 2) 0 (omega arith), get_or_past (a ∷ b ∷ []) (4 * suc j + 3) 0 (omega arith))
four-is (a ∷ b ∷ c ∷ []) zero = omega arith
four-is (a ∷ b ∷ c ∷ []) (suc j) = omega (arith, get_or_past (a ∷ b ∷ c ∷ []) (4 * suc j) 0 (omega arith), get_or_past (a ∷ b ∷ c ∷ []) (4 * suc j + 1) 0 (omega arith), get_or_past (a ∷ b ∷ c ∷ []) (4 * suc j + 2) 0 (omega arith), get_or_past (a ∷ b ∷ c ∷ []) (4 * suc j + 3) 0 (omega arith))
four-is (a ∷ b ∷ c ∷ d ∷ rest) zero = omega arith
four-is (a ∷ b ∷ c ∷ d ∷ rest) (suc j) =
    let ps = a ∷ b ∷ c ∷ d ∷ rest in
    let after : (n m : ℕ) → n ≡ suc (suc (suc (suc m))) → get_or ps n 0 ≡ get_or rest m 0 = λ n m is. ap (λ k. get_or ps k 0) is in
    omega (arith, four-is rest j, after (4 * suc j) (4 * j) (omega arith), after (4 * suc j + 1) (4 * j + 1) (omega arith), after (4 * suc j + 2) (4 * j + 2) (omega arith), after (4 * suc j + 3) (4 * j + 3) (omega arith))

-- the third word says the same in the layout's words
third-is : (c : Content) → third_of (length c.entries) c ≡ low_at c.level c * 2 ^ 48 + length c.low * 2 ^ 32 + high_word c c.high
third-is c =
    let size : length (fences c) ≡ length (low_words c.level c.low) + length (fence_words c.high) = length-append (low_words c.level c.low) (fence_words c.high) in
    let low : (level : ℕ) → low_from level (fences_at c) (entries_from (length c.entries) c) ≡ low_at level c = by_level size in
    let high : (h : Option (List ℕ)) → high_part (high_at c) h ≡ high_word c h = by_high in
    omega (arith, low c.level, high c.high)
  where
    by_level : length (fences c) ≡ length (low_words c.level c.low) + length (fence_words c.high) → (level : ℕ) → low_from level (fences_at c) (entries_from (length c.entries) c) ≡ low_at level c
    by_level size zero = refl
    by_level size (suc level) = omega (arith, size)

    by_high : (h : Option (List ℕ)) → high_part (high_at c) h ≡ high_word c h
    by_high None = refl
    by_high (Some h) = refl

-- The layout, word by word.
module _ (draft : Draft) (old new : List ℕ) (c : Content) (whole : IsWhole draft old c) (long : length old ≡ 256)
    (now : new ≡ set old 0 (get_or old 0 0 + draft.used * 2 ^ 16)) where
  is : IsDraft draft old c
  is = whole.0

  total_is : draft.total ≡ length c.entries
  total_is = sym (is.count ∙ whole.1)

  size : length (fences c) ≡ length (low_words c.level c.low) + length (fence_words c.high)
  size = length-append (low_words c.level c.low) (fence_words c.high)

  first_is : draft.first ≡ entries_at c
  first_is = omega (arith, is.first, total_is, size)

  used_is : used_words c ≡ draft.used
  used_is = omega (arith, is.used, first_is)

  stays : (i : ℕ) → 0 < i → get_or new i 0 ≡ get_or old i 0
  stays i more = ap (λ ws. get_or ws i 0) now ∙ get_or-set_other old 0 i (get_or old 0 0 + draft.used * 2 ^ 16) 0 (omega arith)

  in_directory : (j : ℕ) → j < directory_size (length c.entries) → get_or new (4 + j) 0 ≡ get_or (layout c) (4 + j) 0
  in_directory j within =
      stays (4 + j) (omega arith)
      ∙ (is.directory j (omega (arith, total_is, within))
      ∙ (ap (λ n. four (places n c.entries) j) first_is
      ∙ (sym (four-is (places (entries_at c) c.entries) j)
      ∙ sym (directory_word c j (omega (arith, within, quarters-length (places (entries_at c) c.entries), places-length (entries_at c) c.entries))))))

  in_fences : (k : ℕ) → k < length (fences c) → get_or new (fences_at c + k) 0 ≡ get_or (layout c) (fences_at c + k) 0
  in_fences k within =
      let l = low_words c.level c.low in
      let h = fence_words c.high in
      let rest = all_words c.entries ++ replicate (256 - used_words c) 0 in
      stays (fences_at c + k) (omega arith)
      ∙ (ap (λ n. get_or old (fences_from n + k) 0) (sym total_is)
      ∙ (is.fences k within
      ∙ (sym (get_or_append_left (l ++ h) rest 0 k within)
      ∙ (ap (λ ws. get_or ws k 0) (append_assoc l h rest)
      ∙ (ap (λ ws. get_or ws k 0) (sym (drop_to_fences c)) ∙ get_or-drop (fences_at c) (layout c) k 0)))))

  in_entries : (k : ℕ) → get_or new (entries_at c + k) 0 ≡ get_or (layout c) (entries_at c + k) 0
  in_entries k =
      let ws = all_words c.entries in
      let zeros : List ℕ = replicate (256 - used_words c) 0 in
      let filled : get_or ws k 0 ≡ get_or (ws ++ zeros) k 0 =
      elim (cases_lt k (length ws)) [
        | inl within ↦ sym (get_or_append_left ws zeros 0 k within)
        | inr past ↦ get_or_past ws k 0 past ∙ sym (get_or-append_right ws zeros (length ws) k 0 refl past ∙ zeros_are (256 - used_words c) (k - length ws))
      ] in
      stays (entries_at c + k) (omega arith)
      ∙ (ap (λ n. get_or old (n + k) 0) (sym first_is)
      ∙ (is.entries k
      ∙ (filled ∙ (ap (λ vs. get_or vs k 0) (sym (drop_to_entries c)) ∙ get_or-drop (entries_at c) (layout c) k 0))))

  word_by_word : (i : ℕ) → get_or new i 0 ≡ get_or (layout c) i 0
  word_by_word zero =
      ap (λ ws. get_or ws 0 0) now
      ∙ (get_or-set_same old 0 (get_or old 0 0 + draft.used * 2 ^ 16) 0 (omega arith)
      ∙ (let e : get_or old 0 0 + draft.used * 2 ^ 16 ≡ get_or (layout c) 0 0 = omega (arith, is.word_0, total_is, used_is) in e))
  word_by_word (suc zero) = stays 1 (omega arith) ∙ is.word_1
  word_by_word (suc (suc zero)) = stays 2 (omega arith) ∙ (is.word_2 ∙ (ap (λ n. third_of n c) total_is ∙ third-is c))
  word_by_word (suc (suc (suc zero))) = stays 3 (omega arith) ∙ (is.word_3 ∙ sym is.mark)
  word_by_word (suc (suc (suc (suc i)))) =
      let here : suc (suc (suc (suc i))) ≡ 4 + i = omega arith in
      elim (cases_lt i (directory_size (length c.entries))) [
        | inl within ↦ subst (λ n. get_or new n 0 ≡ get_or (layout c) n 0) (sym here) (in_directory i within)
        | inr past ↦
            let k = 4 + i - fences_at c in
            elim (cases_lt k (length (fences c))) [
              | inl within ↦
                  subst (λ n. get_or new n 0 ≡ get_or (layout c) n 0) (let e : fences_at c + k ≡ suc (suc (suc (suc i))) = omega (arith, here, past) in e) (in_fences k within)
              | inr after ↦
                  let m = k - length (fences c) in
                  subst (λ n. get_or new n 0 ≡ get_or (layout c) n 0) (let e : entries_at c + m ≡ suc (suc (suc (suc i))) = omega (arith, here, past, after, size) in e) (in_entries m)
            ]
      ]

  pub finished : IsPage new c
  finished = record {
    content = whole.2;
    fits = omega (arith, used_is, is.fits);
    is = same_bytes new (layout c)
        (ap (λ ws. length ws) now ∙ (length-set old 0 (get_or old 0 0 + draft.used * 2 ^ 16) ∙ (long ∙ sym (layout-length c (omega (arith, used_is, is.fits))))))
        (λ i within. word_by_word i);
  }

-- the first word has room for the number of used words
pub first-small : (draft : Draft) (old : List ℕ) (c : Content) → IsWhole draft old c → get_or old 0 0 + draft.used * 2 ^ 16 < 2 ^ 64
first-small draft old c whole =
    let is : IsDraft draft old c = whole.0 in omega (arith, is.word_0, is.fits, is.first, is.used, is.room, whole.2.level, kind_small c.level, flag_small c.high)
  where
    kind_small : (level : ℕ) → kind_of level < 3
    kind_small zero = omega arith
    kind_small (suc level) = omega arith

    flag_small : (high : Option (List ℕ)) → no_high_flag high < 2
    flag_small None = omega arith
    flag_small (Some high) = omega arith
