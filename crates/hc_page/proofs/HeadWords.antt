-- Where a page's fences are.
use Rattle.std.proofs.Common.{◌≡◌, ℕ, zero, suc, ◌+◌, ◌-◌, ◌*◌, ◌/◌, ◌%◌, ◌^◌, ◌<◌, ◌≤◌, List, [], ◌∷◌, ◌++◌, length, drop, get_or, refl, sym, ap, subst, ◌∙◌, arith, Option, Some, None, length-append, append-nil}
use Rattle.std.specs.Prelude.{replicate}
use Rattle.std.proofs.lemmas.List.{get_or-drop, get_or_append_left, length-map, length-replicate}
use Rattle.std.proofs.Math.Seq.{drop-append-add}
use Rattle.hc_base.specs.Content.{Content, IsFence, BeginsAt, OfSome, keys}
use Rattle.hc_base.specs.Words.{IsNumber}
use Rattle.hc_base.specs.declared.numbers.Logical.{Logical}
use Rattle.hc_base.specs.Layout.{word, words_of, layout, IsPage, used_words, entries_at, high_at, fences_at, low_at, high_word, low_words, fence_words, directory, head_words, directory_size, places, all_words, right_number, no_high_flag}
use Rattle.hc_base.proofs.ByteWords.{words_of-read}
use Rattle.hc_base.proofs.Places.{quarters-length, places-length, place_of, words_of-length}
use Rattle.hc_base.proofs.KeyOrder.{AreBytes}
use Rattle.hc_page.proofs.Entries.{small_at, entry_read, entry_there, key_at, bytes_after}
use Rattle.hc_page.specs.Reading.{IsKeyAt, entry_head}

-- the words of some bytes that are at a place are those of a key there
pub key_from_words : (words : List ℕ) (at : ℕ) (bytes after : List ℕ) → AreBytes bytes → drop at words ≡ words_of bytes ++ after → IsKeyAt words at (length bytes) bytes
key_from_words words at bytes after of is = record {
  len_is = refl;
  after = [];
  are_bytes = λ i. subst (λ bs. get_or bs i 0 < 256) (sym (append-nil bytes)) (of i);
  words_are = λ j short.
      let there : j < length (words_of bytes) = omega (arith, words_of-length bytes) in
      sym (get_or-drop at words j 0)
      ∙ (ap (λ ws. get_or ws j 0) is
      ∙ (get_or_append_left (words_of bytes) after 0 j there
      ∙ (words_of-read j bytes short
      ∙ ap (λ bs. word 8 (drop (8 * j) bs)) (sym (append-nil bytes)))));
}

directory-length : (c : Content) → length (directory c) ≡ directory_size (length c.entries)
directory-length c = omega (arith, quarters-length (places (entries_at c) c.entries), places-length (entries_at c) c.entries)

-- from the fences on
pub drop_to_fences : (c : Content) → drop (fences_at c) (layout c)
    ≡ low_words c.level c.low ++ (fence_words c.high ++ (all_words c.entries ++ replicate (256 - used_words c) 0))
drop_to_fences c =
    let rest = low_words c.level c.low ++ (fence_words c.high ++ (all_words c.entries ++ replicate (256 - used_words c) 0)) in
    ap (λ n. drop n (layout c)) (let e : fences_at c ≡ 4 + (length (directory c) + 0) = omega (arith, directory-length c) in e)
    ∙ (drop-append-add (head_words c) (directory c ++ rest) (length (directory c) + 0)
    ∙ drop-append-add (directory c) rest 0)

-- a page has 256 words
pub page_long : (words : List ℕ) (c : Content) → IsPage words c → length words ≡ 256
page_long words c page =
    let zeros = replicate (256 - used_words c) 0 in
    let entries = all_words c.entries ++ zeros in
    let high = fence_words c.high ++ entries in
    let low = low_words c.level c.low ++ high in
    ap (λ ws. length ws) page.is
    ∙ (let e : length (layout c) ≡ 256 = omega (arith, page.fits, directory-length c, length-append (head_words c) (directory c ++ low), length-append (directory c) low, length-append (low_words c.level c.low) high, length-append (fence_words c.high) entries, length-append (all_words c.entries) zeros, length-replicate {A = ℕ} (256 - used_words c) 0) in e)

drop_to_high : (c : Content) → drop (high_at c) (layout c) ≡ fence_words c.high ++ (all_words c.entries ++ replicate (256 - used_words c) 0)
drop_to_high c =
    let rest = fence_words c.high ++ (all_words c.entries ++ replicate (256 - used_words c) 0) in
    ap (λ n. drop n (layout c)) (let e : high_at c ≡ 4 + (length (directory c) + (length (low_words c.level c.low) + 0)) = omega (arith, directory-length c) in e)
    ∙ (drop-append-add (head_words c) (directory c ++ (low_words c.level c.low ++ rest)) (length (directory c) + (length (low_words c.level c.low) + 0))
    ∙ (drop-append-add (directory c) (low_words c.level c.low ++ rest) (length (low_words c.level c.low) + 0)
    ∙ drop-append-add (low_words c.level c.low) rest 0))

-- an inner page has a first key, and it is its low fence
first_key : (level : ℕ) (low : List ℕ) (ks : List (List ℕ)) → BeginsAt (suc level) low ks → (0 < length ks) × (low ≡ get_or ks 0 [])
first_key level low [] begins = absurd begins
first_key level low (k ∷ ks) begins = (omega arith, begins)

-- the low fence of a leaf is written out, and that of an inner page is its first key
pub low_read : (words : List ℕ) (c : Content) → IsPage words c → IsKeyAt words (low_at c.level c) (length c.low) c.low
low_read words c page = by_level c.level refl
  where
    by_level : (level : ℕ) → c.level ≡ level → IsKeyAt words (low_at level c) (length c.low) c.low
    by_level zero leaf =
        key_from_words words (fences_at c) c.low (fence_words c.high ++ (all_words c.entries ++ replicate (256 - used_words c) 0)) (λ i. small_at c.low i page.content.low.1)
        (ap (λ ws. drop (fences_at c) ws) page.is ∙ (drop_to_fences c ∙ ap (λ l. low_words l c.low ++ (fence_words c.high ++ (all_words c.entries ++ replicate (256 - used_words c) 0))) leaf))
    by_level (suc level) inner =
        let begins : BeginsAt (suc level) c.low (keys c.entries) = subst (λ l. BeginsAt l c.low (keys c.entries)) inner page.content.begins in
        let first = first_key level c.low (keys c.entries) begins in
        let there = entry_there c.entries 0 (omega (arith, first.0, length-map c.entries (λ entry. entry.key))) in
        let low : c.low ≡ there.0.key = first.1 ∙ key_at c.entries 0 there.0 there.1 in
        let at : place_of c 0 + entry_head c.level ≡ entries_at c + 1 =
        ap (λ l. place_of c 0 + entry_head l) inner ∙ (let e : entries_at c + 0 + 1 ≡ entries_at c + 1 = omega arith in e) in
        subst (λ bytes. IsKeyAt words (entries_at c + 1) (length bytes) bytes) (sym low)
        (subst (λ n. IsKeyAt words n (length there.0.key) there.0.key) at (entry_read words c 0 there.0 page there.1).key)

-- the high fence, where there is one
pub high_read : (words : List ℕ) (c : Content) (high : List ℕ) → IsPage words c → c.high ≡ Some high → IsKeyAt words (high_at c) (length high) high
high_read words c high page is =
    let rest = all_words c.entries ++ replicate (256 - used_words c) 0 in
    let fence : IsFence high = subst (λ h. OfSome IsFence h) is page.content.high in
    key_from_words words (high_at c) high rest (λ i. small_at high i fence.1)
    (ap (λ ws. drop (high_at c) ws) page.is ∙ (drop_to_high c ∙ ap (λ h. fence_words h ++ rest) is))

-- what words 0 to 2 say of the fences and of the right number
pub record IsHeadRead (words : List ℕ) (c : Content) : Type 0 where
  pub low_place : get_or words 2 0 / 2 ^ 48 ≡ low_at c.level c
  pub low_length : get_or words 2 0 / 2 ^ 32 % 2 ^ 16 ≡ length c.low
  pub high : (h : List ℕ) → c.high ≡ Some h → (get_or words 2 0 / 2 ^ 16 % 2 ^ 16 ≡ high_at c) × (get_or words 2 0 % 2 ^ 16 ≡ length h)
  pub no_high : get_or words 0 0 % 2 ^ 16 ≡ no_high_flag c.high
  pub right : get_or words 1 0 % 2 ^ 32 ≡ right_number c.right
  pub own : get_or words 1 0 / 2 ^ 32 ≡ c.own.0
  pub low_fits : low_at c.level c * 8 + length c.low ≤ 2048
  pub high_fits : (h : List ℕ) → c.high ≡ Some h → high_at c * 8 + length h ≤ 2048

third_word : (words : List ℕ) (c : Content) → IsPage words c → get_or words 2 0 ≡ low_at c.level c * 2 ^ 48 + length c.low * 2 ^ 32 + high_word c c.high
third_word words c page = ap (λ ws. get_or ws 2 0) page.is

second_word : (words : List ℕ) (c : Content) → IsPage words c → get_or words 1 0 ≡ c.own.0 * 2 ^ 32 + right_number c.right
second_word words c page = ap (λ ws. get_or ws 1 0) page.is

low_within : (words : List ℕ) (c : Content) → IsPage words c → low_at c.level c * 8 + length c.low ≤ 2048
low_within words c page = by_level c.level refl
  where
    by_level : (level : ℕ) → c.level ≡ level → low_at level c * 8 + length c.low ≤ 2048
    by_level zero leaf =
        let size : length (low_words c.level c.low) ≡ (length c.low + 7) / 8 = ap (λ l. length (low_words l c.low)) leaf ∙ words_of-length c.low in
        omega (arith, page.fits, size)
    by_level (suc level) inner =
        let begins : BeginsAt (suc level) c.low (keys c.entries) = subst (λ l. BeginsAt l c.low (keys c.entries)) inner page.content.begins in
        let first = first_key level c.low (keys c.entries) begins in
        let there = entry_there c.entries 0 (omega (arith, first.0, length-map c.entries (λ entry. entry.key))) in
        let low : c.low ≡ there.0.key = first.1 ∙ key_at c.entries 0 there.0 there.1 in
        let r = entry_read words c 0 there.0 page there.1 in
        omega (arith, r.within, r.long, ap entry_head inner, ap (λ bs. length bs) low, words_of-length (there.0.key ++ bytes_after there.0.held), length-append there.0.key (bytes_after there.0.held))

high_within : (words : List ℕ) (c : Content) (h : List ℕ) → IsPage words c → c.high ≡ Some h → high_at c * 8 + length h ≤ 2048
high_within words c h page is =
    let size : length (fence_words c.high) ≡ (length h + 7) / 8 = ap (λ f. length (fence_words f)) is ∙ words_of-length h in
    omega (arith, page.fits, size)

high_word-small : (words : List ℕ) (c : Content) (high : Option (List ℕ)) → IsPage words c → c.high ≡ high → high_word c high < 2 ^ 32
high_word-small words c None page is = omega arith
high_word-small words c (Some h) page is = omega (arith, high_within words c h page is)

right-small : (right : Option Logical) → OfSome (λ number. IsNumber number.0) right → right_number right < 2 ^ 32
right-small None of = omega arith
right-small (Some number) of = of.1

flag-small : (high : Option (List ℕ)) → no_high_flag high < 2
flag-small None = omega arith
flag-small (Some high) = omega arith

pub head_read : (words : List ℕ) (c : Content) → IsPage words c → IsHeadRead words c
head_read words c page =
    let low = low_within words c page in
    let fence = page.content.low.0 in
    let small = high_word-small words c c.high page refl in
    let third = third_word words c page in
    let second = second_word words c page in
    let few = right-small c.right page.content.right in
    record {
      low_place = omega (arith, third, small, low, fence);
      low_length = omega (arith, third, small, low, fence);
      high = λ h is.
          let size = high_within words c h page is in
          let word : high_word c c.high ≡ high_at c * 2 ^ 16 + length h = ap (high_word c) is in
          let low_part : get_or words 2 0 % 2 ^ 32 ≡ high_at c * 2 ^ 16 + length h = omega (arith, third, small, low, fence, word) in
          let fits : length h < 2 ^ 16 = omega (arith, size) in
          (omega (arith, low_part, size, fits), omega (arith, low_part, size, fits));
      no_high = omega (arith, ap (λ ws. get_or ws 0 0) page.is, flag-small c.high);
      right = omega (arith, second, few);
      own = omega (arith, second, few);
      low_fits = low;
      high_fits = λ h is. high_within words c h page is;
    }
