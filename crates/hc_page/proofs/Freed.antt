-- How many words a put takes and frees.
use Rattle.std.proofs.Common.{◌≡◌, ℕ, ◌+◌, ◌-◌, ◌/◌, ◌<◌, List, [], ◌∷◌, ◌++◌, length, take, drop, get_or, sym, ap, ◌∙◌, arith, length-append, length-drop, length-take-le, Option}
use Rattle.hc_base.specs.declared.numbers.Tid.{Tid}
use Rattle.hc_base.specs.declared.page.Older.{Older}
use Rattle.hc_base.specs.Content.{Content, Entry, Version}
use Rattle.hc_base.specs.Layout.{used_words, all_words, entry_words, directory_size, record_bytes}
use Rattle.hc_base.proofs.Places.{words_of-length}
use Rattle.hc_page.specs.Puts.{IsAround, with_entries, with_entry}
use Rattle.hc_page.proofs.Entries.{all_words-split}
use Rattle.hc_page.proofs.Putting.{put_is, parts_are, between}
use Rattle.hc_page.proofs.Ranges.{take_one}
use Rattle.std.proofs.lemmas.List.{get_or-drop}

-- the words that are used after a put, and those that it frees
pub put_used : (c : Content) (e : Entry) (b a : ℕ) → IsAround c.entries e.key b a
    → used_words (with_entry c e) + directory_size (length c.entries) + length (all_words (between c.entries b a)) ≡ used_words c + length (entry_words e) + directory_size (b + 1 + (length c.entries - a))
put_used c e b a around =
    let es = c.entries in
    let same : used_words (with_entry c e) ≡ used_words (with_entries c (take b es ++ (e ∷ drop a es))) = ap (λ zs. used_words (with_entries c zs)) (put_is es e b a around) in
    let whole : length (all_words es) ≡ length (all_words (take b es)) + (length (all_words (between es b a)) + length (all_words (drop a es))) =
    ap (λ zs. length (all_words zs)) (sym (parts_are es b a around.order))
    ∙ (all_words-split (take b es) (between es b a ++ drop a es) ∙ ap (λ n. length (all_words (take b es)) + n) (all_words-split (between es b a) (drop a es))) in
    let count : length (take b es ++ (e ∷ drop a es)) ≡ b + 1 + (length es - a) =
    omega (arith, length-append (take b es) (e ∷ drop a es), length-take-le b es (omega (arith, around.in_list, around.order)), length-drop a es) in
    let words : length (all_words (take b es ++ (e ∷ drop a es))) ≡ length (all_words (take b es)) + (length (entry_words e) + length (all_words (drop a es))) =
    all_words-split (take b es) (e ∷ drop a es) ∙ ap (λ n. length (all_words (take b es)) + n) (length-append (entry_words e) (all_words (drop a es))) in
    omega (arith, same, whole, count, words)

-- the words of an entry of a leaf
pub version_size : (key : List ℕ) (tid : Tid) (rec : Option (List ℕ)) (older : Option Older) (rec_len : ℕ) → length (record_bytes rec) ≡ rec_len
    → length (entry_words (record { key = key; held = Version tid rec older })) ≡ 2 + (length key + rec_len + 7) / 8
version_size key tid rec older rec_len is = omega (arith, words_of-length (key ++ record_bytes rec), length-append key (record_bytes rec), is)

-- so an entry fits where it does by these numbers
pub fits_by : (c : Content) (e : Entry) (b a n used len freed total : ℕ) → IsAround c.entries e.key b a → n ≡ length c.entries → used ≡ used_words c → len ≡ length (entry_words e)
    → freed ≡ length (all_words (between c.entries b a)) → total ≡ b + 1 + (n - a)
    → used_words (with_entry c e) + (n + 3) / 4 + freed ≡ used + len + (total + 3) / 4
fits_by c e b a n used len freed total around n_is used_is len_is freed_is total_is =
    let count : b + 1 + (length c.entries - a) ≡ total = omega (arith, n_is, total_is) in
    let sizes : directory_size (b + 1 + (length c.entries - a)) ≡ (total + 3) / 4 = ap directory_size count in
    let old : directory_size (length c.entries) ≡ (n + 3) / 4 = ap directory_size (sym n_is) in
    let all = put_used c e b a around in
    cut (used_words (with_entry c e)) (directory_size (length c.entries)) (length (all_words (between c.entries b a))) (used_words c) (length (entry_words e)) (directory_size (b + 1 + (length c.entries - a)))
    ((n + 3) / 4) freed used len ((total + 3) / 4) all old freed_is used_is len_is sizes
  where
    cut : (x d f u l t dn fn un ln tn : ℕ) → x + d + f ≡ u + l + t → d ≡ dn → fn ≡ f → un ≡ u → ln ≡ l → t ≡ tn → x + dn + fn ≡ un + ln + tn
    cut x d f u l t dn fn un ln tn all one two three four five = omega arith

-- one entry
pub one_between : (es : List Entry) (b a : ℕ) (x : Entry) → a ≡ b + 1 → b < length es → get_or es b x ≡ x → between es b a ≡ x ∷ []
one_between es b a x next within is =
    ap (λ n. take n (drop b es)) (let z : a - b ≡ 0 + 1 = omega (arith, next) in z)
    ∙ take_one (drop b es) 0 x (omega (arith, length-drop b es)) (get_or-drop b es 0 x ∙ (ap (λ n. get_or es n x) (let z : b + 0 ≡ b = omega arith in z) ∙ is))
