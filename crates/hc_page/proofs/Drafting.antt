-- A draft with one entry more.
use Rattle.std.proofs.Common.{◌≡◌, ◌≢◌, ℕ, zero, suc, ◌+◌, ◌-◌, ◌*◌, ◌/◌, ◌%◌, ◌^◌, ◌<◌, ◌≤◌, List, [], ◌∷◌, ◌++◌, length, get_or, set, refl, sym, ap, ◌∙◌, inl, inr, arith, length-append, append-nil, get_or-set_other, get_or-set_same}
use Rattle.std.proofs.lemmas.List.{get_or_append_left, get_or-append_right, get_or_past}
use Rattle.std.proofs.lemmas.Bool.{cases_lt, cases_eq}
use Rattle.hc_base.specs.Content.{Content, Entry}
use Rattle.hc_base.specs.Layout.{places, all_words, entry_words, directory_size}
use Rattle.hc_base.proofs.Places.{places-length, all_words-append}
use Rattle.hc_page.specs.declared.writer.Draft.{Draft}
use Rattle.hc_page.specs.Drafts.{IsDraft, IsWritten, four, fences_from, with_last, longer}
use Rattle.hc_page.proofs.Directory.{places-more, four-other, four-more}

-- the words of one entry more
pub all_words-more : (es : List Entry) (e : Entry) → all_words (es ++ (e ∷ [])) ≡ all_words es ++ entry_words e
all_words-more es e = all_words-append es (e ∷ []) ∙ ap (λ ws. all_words es ++ ws) (append-nil (entry_words e))

-- no place is past the page
pub places-within : (at : ℕ) (es : List Entry) (i : ℕ) → at + length (all_words es) ≤ 256 → get_or (places at es) i 0 ≤ 256
places-within at [] i within = omega arith
places-within at (e ∷ es) zero within = omega arith
places-within at (e ∷ es) (suc i) within = places-within (at + length (entry_words e)) es i (omega (arith, within, length-append (entry_words e) (all_words es)))

-- the word of the directory that gets the next place has room for it
pub directory-small : (draft : Draft) (words : List ℕ) (c : Content) → IsDraft draft words c → draft.count < draft.total → get_or words (4 + draft.count / 4) 0 < 2 ^ 60
directory-small draft words c is more =
    let ps = places draft.first c.entries in
    let j = draft.count / 4 in
    let within : draft.first + length (all_words c.entries) ≤ 256 = omega (arith, is.used, is.fits) in
    let here : get_or words (4 + j) 0 ≡ four ps j = is.directory j (omega arith) in
    omega (arith, here, places-within draft.first c.entries (4 * j) within, places-within draft.first c.entries (4 * j + 1) within, places-within draft.first c.entries (4 * j + 2) within, places-within draft.first c.entries (4 * j + 3) within)

-- where a draft has the next place of the directory
pub place_below : (draft : Draft) (words : List ℕ) (c : Content) → IsDraft draft words c → draft.count < draft.total → 4 + draft.count / 4 < draft.first
place_below draft words c is more = omega (arith, is.first)

-- The place goes into the directory, and the words of the entry after those of the others.
module _ (draft : Draft) (old entered new : List ℕ) (c : Content) (e : Entry)
    (is : IsDraft draft old c) (more : draft.count < draft.total) (room : draft.used + length (entry_words e) ≤ 256) (long : length old ≡ 256)
    (enters : entered ≡ set old (4 + draft.count / 4) (get_or old (4 + draft.count / 4) 0 + draft.used * 2 ^ (48 - 16 * (draft.count % 4))))
    (writes : IsWritten entered new draft.used (entry_words e)) where
  before_first : 4 + draft.count / 4 < draft.first
  before_first = place_below draft old c is more

  count_is : length (places draft.first c.entries) ≡ draft.count
  count_is = places-length draft.first c.entries ∙ is.count

  entered_other : (i : ℕ) → i ≢ 4 + draft.count / 4 → get_or entered i 0 ≡ get_or old i 0
  entered_other i other = ap (λ ws. get_or ws i 0) enters ∙ get_or-set_other old (4 + draft.count / 4) i (get_or old (4 + draft.count / 4) 0 + draft.used * 2 ^ (48 - 16 * (draft.count % 4))) 0 other

  kept : (i : ℕ) → i < draft.used → i ≢ 4 + draft.count / 4 → get_or new i 0 ≡ get_or old i 0
  kept i below other = writes.before i below ∙ entered_other i other

  places_are : places draft.first (c.entries ++ (e ∷ [])) ≡ places draft.first c.entries ++ (draft.used ∷ [])
  places_are = places-more draft.first c.entries e ∙ ap (λ n. places draft.first c.entries ++ (n ∷ [])) (sym is.used)

  directory_is : (j : ℕ) → j < directory_size draft.total → get_or new (4 + j) 0 ≡ four (places draft.first (c.entries ++ (e ∷ []))) j
  directory_is j within =
      elim (cases_eq j (draft.count / 4)) [
        | inl same ↦
            let v = get_or old (4 + draft.count / 4) 0 + draft.used * 2 ^ (48 - 16 * (draft.count % 4)) in
            let at : get_or new (4 + j) 0 ≡ v =
            ap (λ n. get_or new (4 + n) 0) same
            ∙ (writes.before (4 + draft.count / 4) (omega (arith, before_first, is.used))
            ∙ (ap (λ ws. get_or ws (4 + draft.count / 4) 0) enters ∙ get_or-set_same old (4 + draft.count / 4) v 0 (omega (arith, before_first, is.used, is.fits, long)))) in
            let was : get_or old (4 + draft.count / 4) 0 ≡ four (places draft.first c.entries) j =
            ap (λ n. get_or old (4 + n) 0) (sym same) ∙ is.directory j within in
            let power : 2 ^ (48 - 16 * (draft.count % 4)) ≡ 2 ^ (48 - 16 * (length (places draft.first c.entries) % 4)) = ap (λ n. 2 ^ (48 - 16 * (n % 4))) (sym count_is) in
            at
            ∙ (ap (λ n. n + draft.used * 2 ^ (48 - 16 * (draft.count % 4))) was
            ∙ (sym (four-more (places draft.first c.entries) draft.used j (2 ^ (48 - 16 * (draft.count % 4))) (omega (arith, same, count_is)) power)
            ∙ ap (λ ps. four ps j) (sym places_are)))
        | inr other ↦
            kept (4 + j) (omega (arith, is.first, is.used, within)) (omega (arith, other))
            ∙ (is.directory j within
            ∙ (sym (four-other (places draft.first c.entries) draft.used j (let h : j ≢ length (places draft.first c.entries) / 4 = omega (arith, other, count_is) in h))
            ∙ ap (λ ps. four ps j) (sym places_are)))
      ]

  entries_are : (k : ℕ) → get_or new (draft.first + k) 0 ≡ get_or (all_words (c.entries ++ (e ∷ []))) k 0
  entries_are k =
      let old_words = all_words c.entries in
      let mine = entry_words e in
      (elim (cases_lt k (length old_words)) [
        | inl within ↦
            kept (draft.first + k) (omega (arith, is.used, within)) (omega (arith, before_first)) ∙ (is.entries k ∙ sym (get_or_append_left old_words mine 0 k within))
        | inr past ↦
            let n = k - length old_words in
            let place : draft.first + k ≡ draft.used + n = omega (arith, is.used, past) in
            elim (cases_lt n (length mine)) [
              | inl inside ↦
                  ap (λ m. get_or new m 0) place ∙ (writes.here n inside ∙ sym (get_or-append_right old_words mine (length old_words) k 0 refl past))
              | inr after ↦
                  writes.after (draft.first + k) (omega (arith, place, after))
                  ∙ (entered_other (draft.first + k) (omega (arith, before_first))
                  ∙ (is.entries k
                  ∙ (get_or_past old_words k 0 past ∙ sym (get_or_past (old_words ++ mine) k 0 (omega (arith, length-append old_words mine, past, after))))))
            ]
      ])
      ∙ ap (λ ws. get_or ws k 0) (sym (all_words-more c.entries e))

  pub draft_more : IsDraft (longer draft (length (entry_words e))) new (with_last c (e ∷ []))
  draft_more = record {
    count = omega (arith, length-append c.entries (e ∷ []), is.count);
    room = omega arith;
    first = is.first;
    used = omega (arith, is.used, ap (λ ws. length ws) (all_words-more c.entries e), length-append (all_words c.entries) (entry_words e));
    fits = room;
    mark = is.mark;
    word_0 = kept 0 (omega (arith, before_first, is.used)) (omega arith) ∙ is.word_0;
    word_1 = kept 1 (omega (arith, before_first, is.used)) (omega arith) ∙ is.word_1;
    word_2 = kept 2 (omega (arith, before_first, is.used)) (omega arith) ∙ is.word_2;
    word_3 = kept 3 (omega (arith, before_first, is.used)) (omega arith) ∙ is.word_3;
    directory = directory_is;
    fences = λ k within.
        kept (fences_from draft.total + k) (omega (arith, is.first, is.used, within)) (omega (arith, more)) ∙ is.fences k within;
    entries = entries_are;
  }
