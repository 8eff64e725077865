-- How long the parts of a layout are, and where they begin.
use Rattle.std.proofs.Common.{◌≡◌, ℕ, zero, suc, ◌+◌, ◌-◌, ◌/◌, ◌%◌, ◌<◌, ◌≤◌, List, [], ◌∷◌, ◌++◌, length, get_or, take, drop, refl, sym, ap, subst, ◌∙◌, arith, length-append, length-drop, append_assoc}
use Rattle.std.specs.Prelude.{replicate}
use Rattle.std.proofs.lemmas.List.{length-replicate, take-append-drop, get_or-drop, get_or-append-add, get_or_append_left, drop-drop}
use Rattle.std.proofs.Math.Seq.{drop-append-add, drop-append_seam, drop-cons}
use Rattle.hc_base.specs.Content.{Content, Entry}
use Rattle.hc_base.proofs.Quarters.{AreSmall, quarters-read}
use Rattle.hc_base.specs.Layout.{words_within, words_of, quarters, quarter, directory_size, places, all_words, entry_words, used_words, low_words, fence_words, head_words, entries_at, directory, layout, IsPage}

-- eight bytes to a word
words_within-length : (n : ℕ) (bytes : List ℕ) → length bytes ≤ n → length (words_within n bytes) ≡ (length bytes + 7) / 8
words_within-length zero [] within = omega arith
words_within-length zero (b ∷ bytes) within = absurd (omega arith)
words_within-length (suc n) [] within = omega arith
words_within-length (suc n) (b ∷ bytes) within =
    let fewer : length (drop 7 bytes) ≤ n = omega (arith, length-drop 7 bytes) in
    let rest : length (words_within n (drop 7 bytes)) ≡ (length (drop 7 bytes) + 7) / 8 = words_within-length n (drop 7 bytes) fewer in
    omega (arith, rest, length-drop 7 bytes)

pub words_of-length : (bytes : List ℕ) → length (words_of bytes) ≡ (length bytes + 7) / 8
words_of-length bytes = words_within-length (length bytes) bytes (omega arith)

-- four places to a word
pub quarters-length : (ps : List ℕ) → length (quarters ps) ≡ directory_size (length ps)
quarters-length [] = omega arith
quarters-length (a ∷ []) = omega arith
quarters-length (a ∷ b ∷ []) = omega arith
quarters-length (a ∷ b ∷ c ∷ []) = omega arith
quarters-length (a ∷ b ∷ c ∷ d ∷ rest) = omega (arith, quarters-length rest)

-- a place for each entry
pub places-length : (at : ℕ) (entries : List Entry) → length (places at entries) ≡ length entries
places-length at [] = refl
places-length at (entry ∷ entries) = ap suc (places-length (at + length (entry_words entry)) entries)

-- the place of an entry is after the words of those before it
pub places-is : (at i : ℕ) (entries : List Entry) → i < length entries → get_or (places at entries) i 0 ≡ at + length (all_words (take i entries))
places-is at i [] within = absurd (omega arith)
places-is at zero (entry ∷ entries) within = omega arith
places-is at (suc i) (entry ∷ entries) within =
    let rest : get_or (places (at + length (entry_words entry)) entries) i 0 ≡ at + length (entry_words entry) + length (all_words (take i entries)) =
    places-is (at + length (entry_words entry)) i entries (omega arith) in
    omega (arith, rest, length-append (entry_words entry) (all_words (take i entries)))

-- an entry's words begin at its place
abbrev pub place_of : Content → ℕ → ℕ
place_of c i = entries_at c + length (all_words (take i c.entries))

pub all_words-append : (xs ys : List Entry) → all_words (xs ++ ys) ≡ all_words xs ++ all_words ys
all_words-append [] ys = refl
all_words-append (x ∷ xs) ys = ap (λ ws. entry_words x ++ ws) (all_words-append xs ys) ∙ sym (append_assoc (entry_words x) (all_words xs) (all_words ys))

pub layout-length : (c : Content) → used_words c ≤ 256 → length (layout c) ≡ 256
layout-length c fits =
    omega (
      arith,
      quarters-length (places (entries_at c) c.entries),
      places-length (entries_at c) c.entries,
      length-append (directory c) (low_words c.level c.low ++ (fence_words c.high ++ (all_words c.entries ++ replicate (256 - used_words c) 0))),
      length-append (low_words c.level c.low) (fence_words c.high ++ (all_words c.entries ++ replicate (256 - used_words c) 0)),
      length-append (fence_words c.high) (all_words c.entries ++ replicate (256 - used_words c) 0),
      length-append (all_words c.entries) (replicate (256 - used_words c) 0),
      length-replicate {A = ℕ} (256 - used_words c) 0,
    )

-- from the first entry on
pub drop_to_entries : (c : Content) → drop (entries_at c) (layout c) ≡ all_words c.entries ++ replicate (256 - used_words c) 0
drop_to_entries c =
    let d = directory c in
    let l = low_words c.level c.low in
    let h = fence_words c.high in
    let rest = all_words c.entries ++ replicate (256 - used_words c) 0 in
    let size : length d ≡ directory_size (length c.entries) =
    omega (arith, quarters-length (places (entries_at c) c.entries), places-length (entries_at c) c.entries) in
    let at : entries_at c ≡ 4 + (length d + (length l + (length h + 0))) = omega arith in
    ap (λ n. drop n (layout c)) at
    ∙ drop-append-add (head_words c) (d ++ (l ++ (h ++ rest))) (length d + (length l + (length h + 0)))
    ∙ drop-append-add d (l ++ (h ++ rest)) (length l + (length h + 0))
    ∙ drop-append-add l (h ++ rest) (length h + 0)
    ∙ drop-append-add h rest 0

-- the places go up, and stay within the words that are used
places-small : (at : ℕ) (entries : List Entry) (end : ℕ) → at + length (all_words entries) ≤ end → end ≤ 256 → AreSmall (places at entries)
places-small at [] end within fits = tt
places-small at (entry ∷ entries) end within fits =
    let size : length (all_words (entry ∷ entries)) ≡ length (entry_words entry) + length (all_words entries) =
    length-append (entry_words entry) (all_words entries) in
    (omega arith, places-small (at + length (entry_words entry)) entries end (omega arith) fits)

-- number j of the directory's words is word 4 + j
pub directory_word : (c : Content) (j : ℕ) → j < length (directory c) → get_or (layout c) (4 + j) 0 ≡ get_or (directory c) j 0
directory_word c j within =
    get_or-append-add (head_words c) (directory c ++ (low_words c.level c.low ++ (fence_words c.high ++ (all_words c.entries ++ replicate (256 - used_words c) 0)))) j 0
    ∙ get_or_append_left (directory c) (low_words c.level c.low ++ (fence_words c.high ++ (all_words c.entries ++ replicate (256 - used_words c) 0))) 0 j within

-- the place of an entry is read from the directory
pub place-read : (words : List ℕ) (c : Content) (i : ℕ) → IsPage words c → i < length c.entries → quarter (i % 4) (get_or words (4 + i / 4) 0) ≡ place_of c i
place-read words c i page within =
    let count : length (places (entries_at c) c.entries) ≡ length c.entries = places-length (entries_at c) c.entries in
    let size : length (directory c) ≡ directory_size (length c.entries) = quarters-length (places (entries_at c) c.entries) ∙ ap directory_size count in
    let here : i / 4 < length (directory c) = omega arith in
    let P : ℕ → Type 0 = λ w. quarter (i % 4) w ≡ place_of c i in
    subst (λ ws. P (get_or ws (4 + i / 4) 0)) (sym page.is)
    (subst P (sym (directory_word c (i / 4) here))
    (quarters-read i (places (entries_at c) c.entries) (places-small (entries_at c) c.entries (used_words c) (omega arith) page.fits) (omega arith)
    ∙ places-is (entries_at c) i c.entries within))

-- from the place of an entry on are its words and those of the entries after it
pub drop_to_entry : (c : Content) (i : ℕ) → drop (place_of c i) (layout c) ≡ all_words (drop i c.entries) ++ replicate (256 - used_words c) 0
drop_to_entry c i =
    let zeros : List ℕ = replicate (256 - used_words c) 0 in
    let front = all_words (take i c.entries) in
    sym (drop-drop (length front) (entries_at c) (layout c))
    ∙ ap (λ ws. drop (length front) ws) (drop_to_entries c)
    ∙ ap (λ es. drop (length front) (all_words es ++ zeros)) (sym (take-append-drop i c.entries))
    ∙ ap (λ ws. drop (length front) (ws ++ zeros)) (all_words-append (take i c.entries) (drop i c.entries))
    ∙ ap (λ ws. drop (length front) ws) (append_assoc front (all_words (drop i c.entries)) zeros)
    ∙ drop-append_seam front (all_words (drop i c.entries) ++ zeros)

-- word k of an entry is word k from its place on
pub entry_word : (words : List ℕ) (c : Content) (i k : ℕ) (e : Entry)
    → IsPage words c → i < length c.entries → k < length (entry_words (get_or c.entries i e)) → get_or words (place_of c i + k) 0 ≡ get_or (entry_words (get_or c.entries i e)) k 0
entry_word words c i k e page within inside =
    let zeros : List ℕ = replicate (256 - used_words c) 0 in
    let this = get_or c.entries i e in
    let after = all_words (drop (suc i) c.entries) in
    ap (λ ws. get_or ws (place_of c i + k) 0) page.is
    ∙ sym (get_or-drop (place_of c i) (layout c) k 0)
    ∙ ap (λ ws. get_or ws k 0) (drop_to_entry c i)
    ∙ ap (λ es. get_or (all_words es ++ zeros) k 0) (drop-cons c.entries i e within)
    ∙ ap (λ ws. get_or ws k 0) (append_assoc (entry_words this) after zeros)
    ∙ get_or_append_left (entry_words this) (after ++ zeros) 0 k inside
