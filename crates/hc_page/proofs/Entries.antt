-- What a page's words say of its content: its level, the number of its entries, and each entry's place, key and record.
use Rattle.std.proofs.Common.{◌/◌}
use Rattle.std.proofs.Common.{◌%◌}
use Rattle.std.proofs.Common.{slice_index, ◌≡◌, ℕ, zero, suc, ◌+◌, ◌-◌, ◌*◌, ◌^◌, ◌<◌, ◌≤◌, List, [], ◌∷◌, ◌++◌, length, take, drop, get_or, refl, sym, ap, subst, ◌∙◌, inl, inr, arith, length-append, Option, Some, None, append-nil}
use Rattle.std.specs.List.{All}
use Rattle.std.proofs.lemmas.List.{get_or_append_left, get_or-append_right, get_or_past, get_or-drop, get_or-map, take-append-drop}
use Rattle.std.proofs.lemmas.Option.{get_or_from_slice_get, slice_get_past, slice_get-get_or}
use Rattle.std.proofs.Math.Seq.{drop-cons}
use Rattle.std.proofs.lemmas.List.Elements.{All-get_or}
use Rattle.std.proofs.lemmas.Bool.{cases_lt}
use Rattle.std.specs.List.{slice_get}
use Rattle.hc_base.specs.Content.{Content, Entry, Held, Version, Child, IsEntryOf, keys}
use Rattle.hc_base.specs.Layout.{word, IsPage, used_words, all_words, entry_words, held_words, words_of, record_bytes, kind_of, no_high_flag}
use Rattle.hc_base.proofs.ByteWords.{words_of-read}
use Rattle.hc_base.proofs.Places.{place_of, place-read, entry_word, words_of-length}
use Rattle.hc_base.proofs.KeyOrder.{AreBytes}
use Rattle.hc_page.proofs.Keys.{key_digit}
use Rattle.hc_page.specs.Reading.{byte_in, digit, level_in, count_in, place_in, entry_head, key_length, IsKeyAt, HasEntry}

-- a page has at most 1,008 entries, since each has a place of 16 bits
pub few_entries : (words : List ℕ) (c : Content) → IsPage words c → length c.entries ≤ 1008
few_entries words c page = omega (arith, page.fits)

kind_small : (level : ℕ) → kind_of level < 3
kind_small zero = omega arith
kind_small (suc level) = omega arith

flag_small : (high : Option (List ℕ)) → no_high_flag high < 2
flag_small None = omega arith
flag_small (Some high) = omega arith

first_word : (words : List ℕ) (c : Content) → IsPage words c
    → get_or words 0 0 ≡ kind_of c.level * 2 ^ 56 + c.level * 2 ^ 48 + length c.entries * 2 ^ 32 + used_words c * 2 ^ 16 + no_high_flag c.high
first_word words c page = ap (λ ws. get_or ws 0 0) page.is

pub level_is : (words : List ℕ) (c : Content) → IsPage words c → level_in words ≡ c.level
level_is words c page =
    omega (arith, first_word words c page, few_entries words c page, page.fits, page.content.level, kind_small c.level, flag_small c.high)

pub count_is : (words : List ℕ) (c : Content) → IsPage words c → count_in words ≡ length c.entries
count_is words c page =
    omega (arith, first_word words c page, few_entries words c page, page.fits, page.content.level, kind_small c.level, flag_small c.high)

pub used_is : (words : List ℕ) (c : Content) → IsPage words c → get_or words 0 0 / 2 ^ 16 % 2 ^ 16 ≡ used_words c
used_is words c page =
    omega (arith, first_word words c page, few_entries words c page, page.fits, page.content.level, kind_small c.level, flag_small c.high)

pub place_is : (words : List ℕ) (c : Content) (i : ℕ) → IsPage words c → i < length c.entries → place_in words i ≡ place_of c i
place_is words c i page within = place-read words c i page within

-- the length of an entry's key is in its first word
head_says : (level : ℕ) (key : List ℕ) (held : Held) → IsEntryOf level (record { key = key; held = held }) → key_length level (get_or (held_words key held) 0 0) ≡ length key
head_says zero key (Version tid None older) of = omega (arith, of.0.0, of.1.0)
head_says zero key (Version tid (Some rec) older) of = omega (arith, of.0.0, of.0.1.0, of.1.0)
head_says zero key (Child number) of = absurd of.0
head_says (suc level) key (Version tid rec older) of = absurd of.0
head_says (suc level) key (Child number) of = omega (arith, of.0.0, of.1.0)

-- the bytes after an entry's key
abbrev pub bytes_after : Held → List ℕ
bytes_after (Version tid rec older) = record_bytes rec
bytes_after (Child number) = []

-- the words of an entry from its key on
entry_rest : (level : ℕ) (key : List ℕ) (held : Held) → IsEntryOf level (record { key = key; held = held })
    → drop (entry_head level) (held_words key held) ≡ words_of (key ++ bytes_after held)
entry_rest zero key (Version tid rec older) of = refl
entry_rest zero key (Child number) of = absurd of.0
entry_rest (suc level) key (Version tid rec older) of = absurd of.0
entry_rest (suc level) key (Child number) of = ap (λ bytes. words_of bytes) (sym (append-nil key))

-- the bytes of a key and of a record are bytes
pub small_at : (bytes : List ℕ) (i : ℕ) → All (λ byte. byte < 2 ^ 8) bytes → get_or bytes i 0 < 256
small_at bytes i all =
    elim (cases_lt i (length bytes)) [
      | inl within ↦ All-get_or (λ byte. byte < 2 ^ 8) bytes i 0 within all
      | inr past ↦ subst (λ b. b < 256) (sym (get_or_past bytes i 0 past)) (omega arith)
    ]

pub small_both : (xs ys : List ℕ) → AreBytes xs → AreBytes ys → AreBytes (xs ++ ys)
small_both xs ys of_xs of_ys i =
    elim (cases_lt i (length xs)) [
      | inl within ↦ subst (λ b. b < 256) (sym (get_or_append_left xs ys 0 i within)) (of_xs i)
      | inr past ↦ subst (λ b. b < 256) (sym (get_or-append_right xs ys (length xs) i 0 refl past)) (of_ys (i - length xs))
    ]

no_bytes : AreBytes []
no_bytes i = omega arith

key_bytes_small : (level : ℕ) (key : List ℕ) (held : Held) → IsEntryOf level (record { key = key; held = held }) → AreBytes (key ++ bytes_after held)
key_bytes_small zero key (Version tid None older) of = small_both key [] (λ i. small_at key i of.1.1) no_bytes
key_bytes_small zero key (Version tid (Some rec) older) of = small_both key rec (λ i. small_at key i of.1.1) (λ i. small_at rec i of.0.1.1)
key_bytes_small zero key (Child number) of = absurd of.0
key_bytes_small (suc level) key (Version tid rec older) of = absurd of.0
key_bytes_small (suc level) key (Child number) of = small_both key [] (λ i. small_at key i of.1.1) no_bytes

-- an entry has its head and the words of its bytes
entry_long : (level : ℕ) (key : List ℕ) (held : Held) → IsEntryOf level (record { key = key; held = held })
    → length (held_words key held) ≡ entry_head level + length (words_of (key ++ bytes_after held))
entry_long zero key (Version tid rec older) of = omega arith
entry_long zero key (Child number) of = absurd of.0
entry_long (suc level) key (Version tid rec older) of = absurd of.0
entry_long (suc level) key (Child number) of = ap (λ bytes. suc (length (words_of bytes))) (sym (append-nil key)) ∙ (let e : suc (length (words_of (key ++ []))) ≡ 1 + length (words_of (key ++ [])) = omega arith in e)

first_there : (level : ℕ) (e : Entry) → IsEntryOf level e → 0 < length (entry_words e)
first_there level e of = omega (arith, entry_long level e.key e.held of, head_positive level)
  where
    head_positive : (level : ℕ) → 0 < entry_head level
    head_positive zero = omega arith
    head_positive (suc level) = omega arith

pub slice_get_inside : (xs : List Entry) (i : ℕ) (x : Entry) → slice_get xs i ≡ Some x → i < length xs
slice_get_inside xs i x at =
    elim (cases_lt i (length xs)) [
      | inl within ↦ within
      | inr past ↦ absurd (none_some x (sym (slice_get_past xs i past) ∙ at))
    ]
  where
    none_some : (x : Entry) → None ≡ Some x → ⊥
    none_some x e = cc

pub all_words-split : (xs ys : List Entry) → length (all_words (xs ++ ys)) ≡ length (all_words xs) + length (all_words ys)
all_words-split [] ys = omega arith
all_words-split (x ∷ xs) ys =
    omega (arith, all_words-split xs ys, length-append (entry_words x) (all_words xs), length-append (entry_words x) (all_words (xs ++ ys)))

-- all bytes of an entry, as a key with no bytes after it
whole_key : (words : List ℕ) (at : ℕ) (all : List ℕ) → AreBytes all → ((j : ℕ) → 8 * j < length all → get_or words (at + j) 0 ≡ word 8 (drop (8 * j) all)) → IsKeyAt words at (length all) all
whole_key words at all small each = record {
  len_is = refl;
  after = [];
  are_bytes = λ i. subst (λ bs. get_or bs i 0 < 256) (sym (append-nil all)) (small i);
  words_are = λ j more. each j more ∙ ap (λ bs. word 8 (drop (8 * j) bs)) (sym (append-nil all));
}

-- What is known of entry i of a page: its place is in the directory, its first word tells the length of its key, and its
-- key's bytes begin after its head.
pub record IsEntryRead (words : List ℕ) (c : Content) (i : ℕ) (e : Entry) : Type 0 where
  pub place : place_in words i ≡ place_of c i
  pub within : place_of c i + length (entry_words e) ≤ 256
  pub words_are : (k : ℕ) → k < length (entry_words e) → get_or words (place_of c i + k) 0 ≡ get_or (entry_words e) k 0
  pub is_of : IsEntryOf c.level e
  pub key_len : key_length c.level (get_or words (place_of c i) 0) ≡ length e.key
  pub long : length (entry_words e) ≡ entry_head c.level + length (words_of (e.key ++ bytes_after e.held))
  pub key : IsKeyAt words (place_of c i + entry_head c.level) (length e.key) e.key
  pub bytes : (k : ℕ) → k < length (e.key ++ bytes_after e.held) → byte_in words ((place_of c i + entry_head c.level) * 8 + k) ≡ get_or (e.key ++ bytes_after e.held) k 0

pub entry_read : (words : List ℕ) (c : Content) (i : ℕ) (e : Entry) → IsPage words c → slice_get c.entries i ≡ Some e → IsEntryRead words c i e
entry_read words c i e page at =
    let inside : i < length c.entries = slice_get_inside c.entries i e at in
    let this : get_or c.entries i e ≡ e = get_or_from_slice_get c.entries i e e at in
    let of : IsEntryOf c.level e = subst (λ x. IsEntryOf c.level x) this (All-get_or (IsEntryOf c.level) c.entries i e inside page.content.entries) in
    let read : (k : ℕ) → k < length (entry_words e) → get_or words (place_of c i + k) 0 ≡ get_or (entry_words e) k 0 =
    subst (λ x. (k : ℕ) → k < length (entry_words x) → get_or words (place_of c i + k) 0 ≡ get_or (entry_words x) k 0) this
    (λ k small. entry_word words c i k e page inside small) in
    let long : length (entry_words e) ≡ entry_head c.level + length (words_of (e.key ++ bytes_after e.held)) = entry_long c.level e.key e.held of in
    let front : length (all_words c.entries) ≡ length (all_words (take i c.entries)) + length (all_words (drop i c.entries)) =
    ap (λ es. length (all_words es)) (sym (take-append-drop i c.entries)) ∙ all_words-split (take i c.entries) (drop i c.entries) in
    let mine : length (all_words (drop i c.entries)) ≡ length (entry_words e) + length (all_words (drop (suc i) c.entries)) =
    ap (λ es. length (all_words es)) (drop-cons c.entries i e inside ∙ ap (λ x. x ∷ drop (suc i) c.entries) this) ∙ length-append (entry_words e) (all_words (drop (suc i) c.entries)) in
    let h = entry_head c.level in
    let all = e.key ++ bytes_after e.held in
    let small = key_bytes_small c.level e.key e.held of in
    let word_there : (j : ℕ) → 8 * j < length all → get_or words (place_of c i + h + j) 0 ≡ word 8 (drop (8 * j) all) =
    λ j more.
    let there : h + j < length (entry_words e) = omega (arith, long, words_of-length all) in
    ap (λ n. get_or words n 0) (let z : place_of c i + h + j ≡ place_of c i + (h + j) = omega arith in z)
    ∙ (read (h + j) there
    ∙ (sym (get_or-drop h (entry_words e) j 0)
    ∙ (ap (λ ws. get_or ws j 0) (entry_rest c.level e.key e.held of)
    ∙ words_of-read j all more))) in
    record {
      place = place_is words c i page inside;
      within = omega (arith, page.fits, front, mine);
      words_are = read;
      is_of = of;
      key_len = ap (key_length c.level) (ap (λ n. get_or words n 0) (let z : place_of c i ≡ place_of c i + 0 = omega arith in z) ∙ read 0 (first_there c.level e of)) ∙ head_says c.level e.key e.held of;
      long = long;
      key = record {
        len_is = refl;
        after = bytes_after e.held;
        are_bytes = small;
        words_are = λ j short. word_there j (omega (arith, length-append e.key (bytes_after e.held)));
      };
      bytes = λ k within.
          ap (λ n. digit (slice_index words n) (((place_of c i + h) * 8 + k) % 8)) (let z : ((place_of c i + h) * 8 + k) / 8 ≡ place_of c i + h + k / 8 = omega arith in z)
          ∙ (ap (λ m. digit (slice_index words (place_of c i + h + k / 8)) m) (let z : ((place_of c i + h) * 8 + k) % 8 ≡ k % 8 = omega arith in z)
          ∙ key_digit words (place_of c i + h) (length all) k all (whole_key words (place_of c i + h) all small word_there) within);
    }

-- the level of a page is one
pub same_level : (words : List ℕ) (c d : Content) → IsPage words c → IsPage words d → c.level ≡ d.level
same_level words c d one other = sym (level_is words c one) ∙ level_is words d other

-- where the words of an entry's key are
pub record IsKeyRead (words : List ℕ) (level slot : ℕ) : Type 0 where
  pub place : place_in words slot < 256
  pub fits : (place_in words slot + entry_head level) * 8 + key_length level (get_or words (place_in words slot) 0) ≤ 2048
  pub key : (c : Content) (e : Entry) → IsPage words c → slice_get c.entries slot ≡ Some e
      → IsKeyAt words (place_in words slot + entry_head level) (key_length level (get_or words (place_in words slot) 0)) e.key

pub key_read : (words : List ℕ) (level slot : ℕ) → HasEntry words level slot → IsKeyRead words level slot
key_read words level slot has =
    let c = has.0 in
    let e = has.1 in
    let r = entry_read words c slot e has.2 has.4 in
    let at : place_in words slot ≡ place_of c slot = r.place in
    let len : key_length level (get_or words (place_in words slot) 0) ≡ length e.key =
    ap (λ p. key_length level (get_or words p 0)) at ∙ (ap (λ l. key_length l (get_or words (place_of c slot) 0)) (sym has.3) ∙ r.key_len) in
    let positive : 0 < length (entry_words e) = first_there c.level e r.is_of in
    record {
      place = omega (arith, r.within, at, positive);
      fits = omega (arith, at, len, r.within, r.long, ap entry_head has.3, words_of-length (e.key ++ bytes_after e.held), length-append e.key (bytes_after e.held));
      key = λ d x page there.
          let q = entry_read words d slot x page there in
          let same : d.level ≡ level = same_level words d c page has.2 ∙ has.3 in
          let its_len : key_length level (get_or words (place_in words slot) 0) ≡ length x.key =
          ap (λ p. key_length level (get_or words p 0)) q.place ∙ (ap (λ l. key_length l (get_or words (place_of d slot) 0)) (sym same) ∙ q.key_len) in
          let its_at : place_in words slot + entry_head level ≡ place_of d slot + entry_head d.level =
          ap (λ p. p + entry_head level) q.place ∙ ap (λ l. place_of d slot + entry_head l) (sym same) in
          subst (λ n. IsKeyAt words n (key_length level (get_or words (place_in words slot) 0)) x.key) (sym its_at)
          (subst (λ n. IsKeyAt words (place_of d slot + entry_head d.level) n x.key) (sym its_len) q.key);
    }

-- an entry within the list is there
pub entry_there : (es : List Entry) (i : ℕ) → i < length es → (e : Entry) × (slice_get es i ≡ Some e)
entry_there [] i within = absurd (omega arith)
entry_there (e ∷ es) i within = (get_or (e ∷ es) i e, slice_get-get_or (e ∷ es) i e within)

-- the key of entry i is key i
pub key_at : (es : List Entry) (i : ℕ) (e : Entry) → slice_get es i ≡ Some e → get_or (keys es) i [] ≡ e.key
key_at es i e there =
    let inside : i < length es = slice_get_inside es i e there in
    get_or-map (λ entry. entry.key) es i e [] inside ∙ ap (λ x. x.key) (get_or_from_slice_get es i e e there)
