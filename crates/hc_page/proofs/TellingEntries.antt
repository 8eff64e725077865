-- What words tell of an entry.
use Rattle.std.proofs.Common.{◌≡◌, ℕ, zero, suc, ◌+◌, ◌*◌, ◌/◌, ◌%◌, ◌^◌, ◌<◌, ◌≤◌, List, take, drop, get_or, refl, sym, ap, subst, ◌∙◌, arith, Option, Some, None, Bool, true, false, cond, nat_eq, slice_index, length-drop, length-take-le}
use Rattle.std.specs.List.{slice_get}
use Rattle.std.specs.Option.{unwrap_or}
use Rattle.std.proofs.lemmas.List.{get_or-take, get_or-drop}
use Rattle.std.proofs.lemmas.List.Elements.{All-from_get_or}
use Rattle.hc_base.specs.declared.numbers.Tid.{Tid}
use Rattle.hc_base.specs.declared.page.Older.{Older}
use Rattle.hc_base.specs.Content.{Content, Entry, Held, Version, Child, IsBytes, IsChild, IsEntryOf, OfSome}
use Rattle.hc_base.specs.Layout.{IsPage, record_bytes}
use Rattle.hc_page.specs.Entries.{AreAt, is_tombstone}
use Rattle.hc_page.specs.Reading.{digit, place_in, key_length, older_in}
use Rattle.hc_page.specs.Told.{AreBytesOf, TellsBytes}
use Rattle.hc_page.proofs.Entries.{entry_read, key_read, bytes_after}
use Rattle.hc_page.proofs.Keys.{same_bytes}
use Rattle.hc_page.proofs.TellingHead.{key_bytes_at}
use Rattle.hc_page.proofs.Versions.{IsVersionRead, version_read, child_read}

-- what is told is the one
pub told_one : (xs ys : List ℕ) → Some xs ≡ Some ys → xs ≡ ys
told_one xs ys same = ap (λ o. unwrap_or o xs) same

-- a part of all bytes
pub part_at : (words bytes : List ℕ) (at len : ℕ) → AreBytesOf words bytes → at + len ≤ 2048 → AreAt words at len (take len (drop at bytes))
part_at words bytes at len of fits = (
  length-take-le len (drop at bytes) (omega (arith, length-drop at bytes, of.long)),
  λ k small.
      sym (of.each (at + k) (omega arith)) ∙ sym (get_or-take len (drop at bytes) k 0 small ∙ get_or-drop at bytes k 0),
)

-- one byte string is at one place
pub one_part : (words : List ℕ) (at len : ℕ) (xs ys : List ℕ) → AreAt words at len xs → AreAt words at len ys → xs ≡ ys
one_part words at len xs ys one other =
    same_bytes xs ys (one.0 ∙ sym other.0) (λ i within. sym (one.1 i (omega (arith, within, one.0))) ∙ other.1 i (omega (arith, within, one.0)))

-- what is at a place are bytes
pub part_bytes : (words : List ℕ) (at len most : ℕ) (bytes : List ℕ) → AreAt words at len bytes → len ≤ most → IsBytes most bytes
part_bytes words at len most bytes are fits = (
  omega (arith, are.0),
  All-from_get_or (λ byte. byte < 2 ^ 8) bytes 0 (λ i within. subst (λ b. b < 2 ^ 8) (are.1 i (omega (arith, are.0))) (byte_small (slice_index words ((at + i) / 8)) ((at + i) % 8))),
)
  where
    byte_small : (word k : ℕ) → digit word k < 2 ^ 8
    byte_small word k = omega arith

abbrev pub entry_so : List ℕ → Tid → Option (List ℕ) → Option Older → Entry
entry_so key tid r o = record { key = key; held = Version tid r o }

-- key and record of an entry of a leaf are told
module _ (words : List ℕ) (at : ℕ) where
  pub version_key : (e : Entry) (told : Option (List ℕ)) (key_len : ℕ) → IsVersionRead words at e → key_len ≡ get_or words at 0 / 2 ^ 20 % 2 ^ 12
      → TellsBytes words ((at + 2) * 8) key_len told → told ≡ Some e.key
  version_key e told key_len read len_is tells = by_held e.key e.held read
    where
      by_held : (key : List ℕ) (held : Held) → IsVersionRead words at (record { key = key; held = held }) → told ≡ Some key
      by_held key (Version tid rec older) r = tells.is key (subst (λ n. AreAt words ((at + 2) * 8) n key) (sym len_is) r.tells.1) (omega (arith, r.fits, len_is))
      by_held key (Child number) r = absurd r.tells

  pub version_record : (e : Entry) (told : Option (List ℕ)) (key_len rec_len : ℕ) → IsVersionRead words at e
      → key_len ≡ get_or words at 0 / 2 ^ 20 % 2 ^ 12 → rec_len ≡ get_or words at 0 / 2 ^ 8 % 2 ^ 12
      → TellsBytes words ((at + 2) * 8 + key_len) rec_len told → told ≡ Some (bytes_after e.held)
  version_record e told key_len rec_len read key_is rec_is tells = by_held e.key e.held read
    where
      by_held : (key : List ℕ) (held : Held) → IsVersionRead words at (record { key = key; held = held }) → told ≡ Some (bytes_after held)
      by_held key (Version tid rec older) r =
          tells.is (record_bytes rec)
          (subst (λ n. AreAt words ((at + 2) * 8 + n) rec_len (record_bytes rec)) (sym key_is)
          (subst (λ n. AreAt words ((at + 2) * 8 + get_or words at 0 / 2 ^ 20 % 2 ^ 12) n (record_bytes rec)) (sym rec_is) r.tells.2))
          (omega (arith, r.fits, key_is, rec_is))
      by_held key (Child number) r = absurd r.tells

  -- so the entry is
  pub version_is : (e : Entry) (tid : Tid) (key rec : List ℕ) (r : Option (List ℕ)) (o : Option Older) → IsVersionRead words at e → tid.0 ≡ get_or words at 0 / 2 ^ 32 → key ≡ e.key → rec ≡ bytes_after e.held
      → r ≡ cond (nat_eq (get_or words at 0 % 2) 1) None (Some rec) → o ≡ older_in (get_or words (at + 1) 0) → entry_so key tid r o ≡ e
  version_is e tid key rec r o read tid_is key_is rec_is record_is older_is = by_held e.key e.held read key_is rec_is
    where
      record_same : (b : Option (List ℕ)) → nat_eq (get_or words at 0 % 2) 1 ≡ is_tombstone b → rec ≡ record_bytes b → r ≡ b
      record_same None flag same = record_is ∙ ap (λ t. cond t None (Some rec)) flag
      record_same (Some b) flag same = record_is ∙ (ap (λ t. cond t None (Some rec)) flag ∙ ap Some same)

      by_held : (k : List ℕ) (held : Held) → IsVersionRead words at (record { key = k; held = held }) → key ≡ k → rec ≡ bytes_after held
          → entry_so key tid r o ≡ record { key = k; held = held }
      by_held k (Version id b older) read key_same rec_same =
          let t : tid ≡ id = (λ i. record { 0 = tid_is i }) ∙ read.tells.0 in
          let o_is : o ≡ older = older_is ∙ read.tells.4 in
          let b_is : r ≡ b = record_same b read.tells.3 rec_same in
          λ i. record { key = key_same i; held = Version (t i) (b_is i) (o_is i) }
      by_held k (Child number) read key_same rec_same = absurd read.tells

-- an entry of a page, read where its place is
pub version_there : (words : List ℕ) (c : Content) (slot : ℕ) (e : Entry) (at : ℕ) → IsPage words c → c.level ≡ 0 → slice_get c.entries slot ≡ Some e → at ≡ place_in words slot → IsVersionRead words at e
version_there words c slot e at page leaf there is = subst (λ n. IsVersionRead words n e) (sym is) (version_read words c slot e page leaf there)

-- a record that is there is bytes
pub record_within : (tombstone : Bool) (rec : List ℕ) (r : Option (List ℕ)) → r ≡ cond tombstone None (Some rec) → IsBytes 4095 rec → OfSome (IsBytes 4095) r
record_within true rec r is of = subst (λ o. OfSome (IsBytes 4095) o) (sym is) tt
record_within false rec r is of = subst (λ o. OfSome (IsBytes 4095) o) (sym is) of

-- what is known of an entry of an inner page
pub record IsChildKnown (words : List ℕ) (at : ℕ) (e : Entry) : Type 0 where
  pub some : at < 256
  pub child : e.held ≡ Child (record { 0 = get_or words at 0 / 2 ^ 32 })
  pub number : 0 < get_or words at 0 / 2 ^ 32
  pub short : key_length 1 (get_or words at 0) ≤ 463
  pub key : AreAt words ((at + 1) * 8) (key_length 1 (get_or words at 0)) e.key
  pub fits : (at + 1) * 8 + key_length 1 (get_or words at 0) ≤ 2048

pub child_known : (words : List ℕ) (c : Content) (slot : ℕ) (e : Entry) (at : ℕ) → IsPage words c → 0 < c.level → slice_get c.entries slot ≡ Some e → at ≡ place_in words slot → IsChildKnown words at e
child_known words c slot e at page inner there is =
    subst (λ n. IsChildKnown words n e) (sym is)
    (by_level c.level refl (subst (λ l. IsEntryOf l e) refl (entry_read words c slot e page there).is_of))
  where
    by_level : (level : ℕ) → c.level ≡ level → IsEntryOf level e → IsChildKnown words (place_in words slot) e
    by_level zero leaf of = absurd (omega (arith, leaf, inner))
    by_level (suc level) is of =
        let read = child_read words c slot e page inner there in
        let key = key_read words (suc level) slot (c, e, page, is, there) in
        let its = key.key c e page there in
        record {
          some = read.room;
          child = read.tells;
          number = (subst (λ held. IsChild held) read.tells of.0).0;
          short = omega (arith, its.len_is, of.1.0);
          key = key_bytes_at words (place_in words slot + 1) (key_length 1 (get_or words (place_in words slot) 0)) e.key its;
          fits = key.fits;
        }

-- so its key is told
pub child_key : (words : List ℕ) (at : ℕ) (e : Entry) (told : Option (List ℕ)) (key_len : ℕ) → IsChildKnown words at e → key_len ≡ key_length 1 (get_or words at 0)
    → TellsBytes words ((at + 1) * 8) key_len told → told ≡ Some e.key
child_key words at e told key_len known len_is tells =
    tells.is e.key (subst (λ n. AreAt words ((at + 1) * 8) n e.key) (sym len_is) known.key) (omega (arith, known.fits, len_is))
