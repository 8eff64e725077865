-- What the words of an entry tell.
use Rattle.std.proofs.Common.{◌≡◌, ℕ, zero, suc, ◌+◌, ◌*◌, ◌/◌, ◌%◌, ◌^◌, ◌<◌, ◌≤◌, List, ◌++◌, length, get_or, refl, sym, ap, subst, ◌∙◌, arith, Option, Some, None, length-append, nat_eq, eq-eqb, false, ◌==◌, if◌then◌else◌}
use Rattle.std.proofs.lemmas.Bool.Decides.{nat_tests}
use Rattle.std.specs.List.{slice_get}
use Rattle.std.proofs.lemmas.List.{get_or_append_left, get_or-append-add}
use Rattle.hc_base.specs.declared.numbers.Tid.{Tid}
use Rattle.hc_base.specs.declared.page.Older.{Older}
use Rattle.hc_base.specs.Content.{Content, Entry, Held, Version, Child, IsEntryOf, IsOlder, OfSome}
use Rattle.hc_base.specs.Layout.{IsPage, held_words, record_bytes, older_word, words_of}
use Rattle.hc_base.proofs.Places.{place_of, words_of-length}
use Rattle.hc_page.specs.declared.entry_at.EntryAt.{EntryAt}
use Rattle.hc_page.specs.Entries.{Tells, is_tombstone}
use Rattle.hc_page.specs.Reading.{byte_in, place_in, older_in, entry_head}
use Rattle.hc_page.proofs.Entries.{entry_read, bytes_after}

-- what the words tell of an entry at a place
abbrev pub told : List ℕ → ℕ → EntryAt
told words at = record {
  tid = record { 0 = get_or words at 0 / 2 ^ 32 };
  key_at = (at + 2) * 8;
  key_len = get_or words at 0 / 2 ^ 20 % 2 ^ 12;
  rec_at = (at + 2) * 8 + get_or words at 0 / 2 ^ 20 % 2 ^ 12;
  rec_len = get_or words at 0 / 2 ^ 8 % 2 ^ 12;
  tombstone = nat_eq (get_or words at 0 % 2) 1;
  older = older_in (get_or words (at + 1) 0);
}

-- the word of an older version tells it
older-read : (older : Option Older) → OfSome IsOlder older → older_in (older_word older) ≡ older
older-read None of = refl
older-read (Some older) of =
    let w = older.page.0 * 2 ^ 32 + older.slot * 2 ^ 16 in
    let page : w / 2 ^ 32 ≡ older.page.0 = omega (arith, of.1) in
    let slot : w / 2 ^ 16 % 2 ^ 16 ≡ older.slot = omega (arith, of.1) in
    let some : (w / 2 ^ 32 == 0) ≡ false = grind (arith, nat_tests, page, of.0.0) in
    ap (λ b. if b then None else Some (record { page = record { 0 = w / 2 ^ 32 }; slot = w / 2 ^ 16 % 2 ^ 16 })) some
    ∙ (λ i. Some (record { page = record { 0 = page i }; slot = slot i }))

head_tells : (tid : Tid) (key : List ℕ) (rec : Option (List ℕ)) (older : Option Older) (word : ℕ) → IsEntryOf 0 (record { key = key; held = Version tid rec older })
    → word ≡ get_or (held_words key (Version tid rec older)) 0 0
    → (word / 2 ^ 32 ≡ tid.0) × (word / 2 ^ 20 % 2 ^ 12 ≡ length key) × (word / 2 ^ 8 % 2 ^ 12 ≡ length (record_bytes rec)) × (nat_eq (word % 2) 1 ≡ is_tombstone rec)
head_tells tid key None older word of is = (omega (arith, is, of.0.0, of.1.0), omega (arith, is, of.0.0, of.1.0), omega (arith, is, of.0.0, of.1.0), eq-eqb (word % 2) 1 (omega (arith, is)))
head_tells tid key (Some rec) older word of is = (omega (arith, is, of.0.0, of.0.1.0, of.1.0), omega (arith, is, of.0.0, of.0.1.0, of.1.0), omega (arith, is, of.0.0, of.0.1.0, of.1.0), even (word % 2) (omega (arith, is)))
  where
    even : (n : ℕ) → n ≡ 0 → nat_eq n 1 ≡ false
    even n zero_is = subst (λ m. nat_eq m 1 ≡ false) (sym zero_is) refl

-- The bytes of an entry of a leaf: its key and, after it, its record.
pub record IsVersionRead (words : List ℕ) (at : ℕ) (e : Entry) : Type 0 where
  pub room : at + 2 ≤ 256
  pub fits : (at + 2) * 8 + get_or words at 0 / 2 ^ 20 % 2 ^ 12 + get_or words at 0 / 2 ^ 8 % 2 ^ 12 ≤ 2048
  pub tells : Tells words (told words at) e

pub version_read : (words : List ℕ) (c : Content) (slot : ℕ) (e : Entry) → IsPage words c → c.level ≡ 0 → slice_get c.entries slot ≡ Some e
    → IsVersionRead words (place_in words slot) e
version_read words c slot e page leaf there =
    let r = entry_read words c slot e page there in
    subst (λ at. IsVersionRead words at e) (sym r.place)
    (by_held e.key e.held
    (subst (λ l. IsEntryOf l e) leaf r.is_of) r.within r.words_are
    (λ k within. subst (λ l. byte_in words ((place_of c slot + entry_head l) * 8 + k) ≡ get_or (e.key ++ bytes_after e.held) k 0) leaf (r.bytes k within)))
  where
    by_held : (key : List ℕ) (held : Held) → IsEntryOf 0 (record { key = key; held = held })
        → place_of c slot + length (held_words key held) ≤ 256
        → ((k : ℕ) → k < length (held_words key held) → get_or words (place_of c slot + k) 0 ≡ get_or (held_words key held) k 0)
        → ((k : ℕ) → k < length (key ++ bytes_after held) → byte_in words ((place_of c slot + 2) * 8 + k) ≡ get_or (key ++ bytes_after held) k 0)
        → IsVersionRead words (place_of c slot) (record { key = key; held = held })
    by_held key (Child number) of within are bytes = absurd of.0
    by_held key (Version tid rec older) of within are bytes =
        let at = place_of c slot in
        let head : get_or words at 0 ≡ get_or (held_words key (Version tid rec older)) 0 0 =
        ap (λ n. get_or words n 0) (let z : at ≡ at + 0 = omega arith in z) ∙ are 0 (omega arith) in
        let says = head_tells tid key rec older (get_or words at 0) of head in
        let second : get_or words (at + 1) 0 ≡ older_word older = are 1 (omega arith) in
        let size : length (words_of (key ++ record_bytes rec)) ≡ (length (key ++ record_bytes rec) + 7) / 8 = words_of-length (key ++ record_bytes rec) in
        record {
          room = omega (arith, within);
          fits = omega (arith, within, says.1, says.2, size, length-append key (record_bytes rec));
          tells = (
            (λ i. record { 0 = says.0 i }),
            (
              sym says.1,
              λ k small. bytes k (omega (arith, says.1, length-append key (record_bytes rec))) ∙ get_or_append_left key (record_bytes rec) 0 k (omega (arith, says.1)),
            ),
            (
              sym says.2,
              λ k small.
                  ap (λ n. byte_in words n) (let e : (at + 2) * 8 + get_or words at 0 / 2 ^ 20 % 2 ^ 12 + k ≡ (at + 2) * 8 + (length key + k) = omega (arith, says.1) in e)
                  ∙ (bytes (length key + k) (omega (arith, says.2, length-append key (record_bytes rec))) ∙ get_or-append-add key (record_bytes rec) k 0),
            ),
            says.3,
            ap older_in second ∙ older-read older of.0.2,
          );
        }

-- An entry of an inner page: its first word tells the child.
pub record IsChildRead (words : List ℕ) (at : ℕ) (e : Entry) : Type 0 where
  pub room : at < 256
  pub tells : e.held ≡ Child (record { 0 = get_or words at 0 / 2 ^ 32 })

pub child_read : (words : List ℕ) (c : Content) (slot : ℕ) (e : Entry) → IsPage words c → 0 < c.level → slice_get c.entries slot ≡ Some e
    → IsChildRead words (place_in words slot) e
child_read words c slot e page inner there =
    let r = entry_read words c slot e page there in
    subst (λ at. IsChildRead words at e) (sym r.place) (by_held c.level e.key e.held inner r.is_of r.within r.words_are)
  where
    by_held : (level : ℕ) (key : List ℕ) (held : Held) → 0 < level → IsEntryOf level (record { key = key; held = held })
        → place_of c slot + length (held_words key held) ≤ 256
        → ((k : ℕ) → k < length (held_words key held) → get_or words (place_of c slot + k) 0 ≡ get_or (held_words key held) k 0)
        → IsChildRead words (place_of c slot) (record { key = key; held = held })
    by_held zero key held positive of within are = absurd (omega arith)
    by_held (suc level) key (Version tid rec older) positive of within are = absurd of.0
    by_held (suc level) key (Child number) positive of within are =
        let at = place_of c slot in
        let head : get_or words at 0 ≡ number.0 * 2 ^ 32 + length key * 2 ^ 16 =
        ap (λ n. get_or words n 0) (let z : at ≡ at + 0 = omega arith in z) ∙ are 0 (omega arith) in
        let says : number.0 ≡ get_or words at 0 / 2 ^ 32 = omega (arith, head, of.1.0) in
        record { room = omega (arith, within); tells = λ i. Child (record { 0 = says i }) }
