-- How many words an entry of a page has.
use Rattle.std.proofs.Common.{◌≡◌, ℕ, zero, suc, ◌+◌, ◌/◌, ◌%◌, ◌^◌, ◌<◌, ◌≤◌, List, [], ◌++◌, length, take, drop, get_or, ap, ◌∙◌, arith, Some, None, length-append, length-drop, length-take-le}
use Rattle.std.specs.List.{slice_get}
use Rattle.std.specs.Option.{option_copied}
use Rattle.std.proofs.lemmas.List.{get_or-take, get_or-drop}
use Rattle.hc_base.specs.Content.{Content, Entry, Held, Version, Child, IsEntryOf}
use Rattle.hc_base.specs.Layout.{IsPage, entry_words, held_words, record_bytes}
use Rattle.hc_base.proofs.Places.{place_of, words_of-length}
use Rattle.hc_page.specs.declared.writer.NewEntry.{NewEntry}
use Rattle.hc_page.specs.Drafts.{entry_of}
use Rattle.hc_page.specs.Reading.{place_in, level_in, entry_head, entry_size}
use Rattle.hc_page.proofs.Entries.{entry_read, level_is}
use Rattle.hc_page.proofs.Keys.{same_bytes}

-- an entry's first word tells its size
pub size_said : (level : ℕ) (key : List ℕ) (held : Held) → IsEntryOf level (record { key = key; held = held })
    → entry_size level (get_or (held_words key held) 0 0) ≡ length (held_words key held)
size_said zero key (Version tid None older) of =
    let w = get_or (held_words key (Version tid None older)) 0 0 in
    let k : w / 2 ^ 20 % 2 ^ 12 ≡ length key = omega (arith, of.0.0, of.1.0) in
    let r : w / 2 ^ 8 % 2 ^ 12 ≡ 0 = omega (arith, of.0.0, of.1.0) in
    omega (arith, k, r, words_of-length (key ++ []), length-append key [])
size_said zero key (Version tid (Some rec) older) of =
    let w = get_or (held_words key (Version tid (Some rec) older)) 0 0 in
    let k : w / 2 ^ 20 % 2 ^ 12 ≡ length key = omega (arith, of.0.0, of.0.1.0, of.1.0) in
    let r : w / 2 ^ 8 % 2 ^ 12 ≡ length rec = omega (arith, of.0.0, of.0.1.0, of.1.0) in
    omega (arith, k, r, words_of-length (key ++ rec), length-append key rec)
size_said zero key (Child number) of = absurd of.0
size_said (suc level) key (Version tid rec older) of = absurd of.0
size_said (suc level) key (Child number) of =
    let w = get_or (held_words key (Child number)) 0 0 in
    let k : w / 2 ^ 16 % 2 ^ 16 ≡ length key = omega (arith, of.0.0, of.1.0) in
    omega (arith, k, words_of-length key)

-- the words of a new entry of a leaf
pub new_size : (new : NewEntry) (record_now : List ℕ) → record_now ≡ record_bytes (option_copied new.rec) → length (entry_words (entry_of new)) ≡ 2 + (length new.key.now + length record_now + 7) / 8
new_size new record_now is =
    let rb = record_bytes (option_copied new.rec) in
    omega (arith, words_of-length (new.key.now ++ rb), length-append new.key.now rb, ap (λ bs. length bs) is)

-- the words of an entry, read where the page has it
pub record IsWordsRead (words : List ℕ) (slot : ℕ) (e : Entry) : Type 0 where
  pub room : place_in words slot + entry_size (level_in words) (get_or words (place_in words slot) 0) ≤ 256
  pub some : place_in words slot < 256
  pub size : entry_size (level_in words) (get_or words (place_in words slot) 0) ≡ length (entry_words e)
  pub are : length words ≡ 256 → take (entry_size (level_in words) (get_or words (place_in words slot) 0)) (drop (place_in words slot) words) ≡ entry_words e

pub words_read : (words : List ℕ) (d : Content) (slot : ℕ) (e : Entry) → IsPage words d → slice_get d.entries slot ≡ Some e → IsWordsRead words slot e
words_read words d slot e page there =
    let r = entry_read words d slot e page there in
    let p = place_in words slot in
    let at : p ≡ place_of d slot = r.place in
    let some : 0 < length (entry_words e) = omega (arith, r.long, head_positive d.level) in
    let first : get_or words p 0 ≡ get_or (entry_words e) 0 0 =
    ap (λ n. get_or words n 0) (let z : p ≡ place_of d slot + 0 = omega (arith, at) in z) ∙ r.words_are 0 some in
    let size : entry_size (level_in words) (get_or words p 0) ≡ length (entry_words e) =
    ap (λ l. entry_size l (get_or words p 0)) (level_is words d page) ∙ (ap (λ w. entry_size d.level w) first ∙ size_said d.level e.key e.held r.is_of) in
    let n = entry_size (level_in words) (get_or words p 0) in
    record {
      room = omega (arith, size, at, r.within);
      some = omega (arith, some, at, r.within);
      size = size;
      are = λ long.
          let fits : n ≤ length (drop p words) = omega (arith, length-drop p words, long, size, at, r.within) in
          let len : length (take n (drop p words)) ≡ n = length-take-le n (drop p words) fits in
          same_bytes (take n (drop p words)) (entry_words e) (len ∙ size)
          (λ i inside.
          get_or-take n (drop p words) i 0 (omega (arith, len))
          ∙ (get_or-drop p words i 0
          ∙ (ap (λ m. get_or words (m + i) 0) at ∙ r.words_are i (omega (arith, len, size)))));
    }
  where
    head_positive : (level : ℕ) → 0 < entry_head level
    head_positive zero = omega arith
    head_positive (suc level) = omega arith

-- the same of a place, a level and a size that are read from the words
pub copied_is : (words : List ℕ) (slot place level len : ℕ) (e : Entry) → IsWordsRead words slot e → length words ≡ 256
    → level ≡ level_in words → place ≡ place_in words slot → len ≡ entry_size level (get_or words place 0)
    → (len ≡ length (entry_words e)) × (take len (drop place words) ≡ entry_words e) × (place + len ≤ 256)
copied_is words slot place level len e r long level_is place_is len_is =
    let same : len ≡ entry_size (level_in words) (get_or words (place_in words slot) 0) =
    len_is ∙ (ap (λ l. entry_size l (get_or words place 0)) level_is ∙ ap (λ p. entry_size (level_in words) (get_or words p 0)) place_is) in (
      same ∙ r.size,
      ap (λ n. take n (drop place words)) same ∙ (ap (λ p. take (entry_size (level_in words) (get_or words (place_in words slot) 0)) (drop p words)) place_is ∙ r.are long),
      omega (arith, same, place_is, r.room),
    )
