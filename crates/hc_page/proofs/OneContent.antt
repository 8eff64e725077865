-- Words are the layout of one content only: all that a content has is read from them.
use Rattle.std.proofs.Common.{◌≡◌, ℕ, zero, suc, ◌+◌, ◌<◌, List, [], ◌∷◌, length, get_or, refl, sym, ap, subst, ◌∙◌, arith, Option, Some, None}
use Rattle.std.specs.List.{slice_get}
use Rattle.hc_base.specs.declared.numbers.Logical.{Logical}
use Rattle.hc_base.specs.Words.{IsNumber}
use Rattle.hc_base.specs.Content.{Content, Entry, Held, Version, Child, OfSome}
use Rattle.hc_base.specs.Layout.{IsPage, low_at, high_at, right_number, no_high_flag, record_bytes}
use Rattle.hc_base.proofs.Places.{place_of}
use Rattle.hc_page.specs.Reading.{IsKeyAt, place_in, key_length, entry_head}
use Rattle.hc_page.specs.declared.entry_at.EntryAt.{EntryAt}
use Rattle.hc_page.specs.Entries.{AreAt, TellsHeld, is_tombstone}
use Rattle.hc_page.proofs.Entries.{entry_read, same_level, count_is}
use Rattle.hc_page.proofs.HeadWords.{head_read, low_read, high_read}
use Rattle.hc_page.proofs.Keys.{key_digit, same_bytes}
use Rattle.hc_page.proofs.Versions.{version_read, child_read, told}

-- one key is at one place
key_same : (words : List ℕ) (at to len more : ℕ) (xs ys : List ℕ) → at ≡ to → len ≡ more → IsKeyAt words at len xs → IsKeyAt words to more ys → xs ≡ ys
key_same words at to len more xs ys places lengths one other =
    let two : IsKeyAt words at len ys = subst (λ n. IsKeyAt words n len ys) (sym places) (subst (λ n. IsKeyAt words to n ys) (sym lengths) other) in
    same_bytes xs ys (one.len_is ∙ sym two.len_is)
    (λ i within. sym (key_digit words at len i xs one (omega (arith, within, one.len_is))) ∙ key_digit words at len i ys two (omega (arith, within, one.len_is)))

-- one byte string is at one place
bytes_same : (words : List ℕ) (at len : ℕ) (xs ys : List ℕ) → AreAt words at len xs → AreAt words at len ys → xs ≡ ys
bytes_same words at len xs ys one other =
    same_bytes xs ys (one.0 ∙ sym other.0) (λ i within. sym (one.1 i (omega (arith, within, one.0))) ∙ other.1 i (omega (arith, within, one.0)))

-- a record is its bytes, and whether it is there
record_same : (r s : Option (List ℕ)) → is_tombstone r ≡ is_tombstone s → record_bytes r ≡ record_bytes s → r ≡ s
record_same None None flags bytes = refl
record_same None (Some s) flags bytes = cc
record_same (Some r) None flags bytes = cc
record_same (Some r) (Some s) flags bytes = ap Some bytes

-- what has the same number is the same
pub right_same : (a b : Option Logical) → OfSome (λ number. IsNumber number.0) a → OfSome (λ number. IsNumber number.0) b → right_number a ≡ right_number b → a ≡ b
right_same None None of_a of_b same = refl
right_same None (Some b) of_a of_b same = absurd (omega (arith, of_b, same))
right_same (Some a) None of_a of_b same = absurd (omega (arith, of_a, same))
right_same (Some a) (Some b) of_a of_b same = λ i. Some (record { 0 = same i })

-- what is told of an entry of a leaf is all that it has
held_same : (words : List ℕ) (told : EntryAt) (key other : List ℕ) (h g : Held) → TellsHeld words told key h → TellsHeld words told other g → h ≡ g
held_same words told key other (Version tid rec older) (Version id record_2 link) one two =
    let t : tid ≡ id = sym one.0 ∙ two.0 in
    let r : rec ≡ record_2 = record_same rec record_2 (sym one.3 ∙ two.3) (bytes_same words told.rec_at told.rec_len (record_bytes rec) (record_bytes record_2) one.2 two.2) in
    let o : older ≡ link = sym one.4 ∙ two.4 in λ i. Version (t i) (r i) (o i)
held_same words told key other (Version tid rec older) (Child n) one two = absurd two
held_same words told key other (Child n) (Version tid rec older) one two = absurd one
held_same words told key other (Child n) (Child m) one two = absurd one

-- entries of one number are one entry
entry_same : (words : List ℕ) (c d : Content) (i : ℕ) (e f : Entry) → IsPage words c → IsPage words d → slice_get c.entries i ≡ Some e → slice_get d.entries i ≡ Some f → e ≡ f
entry_same words c d i e f one other at to =
    let r = entry_read words c i e one at in
    let s = entry_read words d i f other to in
    let levels : c.level ≡ d.level = same_level words c d one other in
    let places : place_of c i ≡ place_of d i = sym r.place ∙ s.place in
    let long : length e.key ≡ length f.key =
    sym r.key_len ∙ (ap (λ p. key_length c.level (get_or words p 0)) places ∙ (ap (λ l. key_length l (get_or words (place_of d i) 0)) levels ∙ s.key_len)) in
    let keys_same : e.key ≡ f.key =
    key_same words (place_of c i + entry_head c.level) (place_of d i + entry_head d.level) (length e.key) (length f.key) e.key f.key
    (ap (λ p. p + entry_head c.level) places ∙ ap (λ l. place_of d i + entry_head l) levels) long r.key s.key in
    let held : e.held ≡ f.held = by_level c.level refl in
    λ j. record { key = keys_same j; held = held j }
  where
    by_level : (level : ℕ) → c.level ≡ level → e.held ≡ f.held
    by_level zero is =
        let mine = version_read words c i e one is at in
        let its = version_read words d i f other (same_level words d c other one ∙ is) to in
        held_same words (told words (place_in words i)) e.key f.key e.held f.held mine.tells its.tells
    by_level (suc level) is =
        let inner : 0 < c.level = omega (arith, is) in
        let mine = child_read words c i e one inner at in
        let its = child_read words d i f other (omega (arith, inner, same_level words d c other one)) to in mine.tells ∙ sym its.tells

-- lists with the same entries are one
entries_same : (xs ys : List Entry) → length xs ≡ length ys → ((i : ℕ) (x y : Entry) → slice_get xs i ≡ Some x → slice_get ys i ≡ Some y → x ≡ y) → xs ≡ ys
entries_same [] [] long each = refl
entries_same [] (y ∷ ys) long each = absurd (omega arith)
entries_same (x ∷ xs) [] long each = absurd (omega arith)
entries_same (x ∷ xs) (y ∷ ys) long each =
    let first : x ≡ y = each 0 x y refl refl in
    let rest : xs ≡ ys = entries_same xs ys (omega arith) (λ i a b one other. each (suc i) a b one other) in λ i. first i ∷ rest i

high_same : (words : List ℕ) (c d : Content) → IsPage words c → IsPage words d → c.high ≡ d.high
high_same words c d one other =
    let r = head_read words c one in
    let s = head_read words d other in
    let flags : no_high_flag c.high ≡ no_high_flag d.high = sym r.no_high ∙ s.no_high in
    by_case c.high d.high refl refl flags
  where
    by_case : (g h : Option (List ℕ)) → c.high ≡ g → d.high ≡ h → no_high_flag c.high ≡ no_high_flag d.high → c.high ≡ d.high
    by_case None None mine its flags = mine ∙ sym its
    by_case None (Some h) mine its flags = absurd (omega (arith, flags, ap no_high_flag mine, ap no_high_flag its))
    by_case (Some g) None mine its flags = absurd (omega (arith, flags, ap no_high_flag mine, ap no_high_flag its))
    by_case (Some g) (Some h) mine its flags =
        let r = head_read words c one in
        let s = head_read words d other in
        let at = r.high g mine in
        let to = s.high h its in
        let same : g ≡ h =
        key_same words (high_at c) (high_at d) (length g) (length h) g h (sym at.0 ∙ to.0) (sym at.1 ∙ to.1) (high_read words c g one mine) (high_read words d h other its) in
        mine ∙ (ap Some same ∙ sym its)

pub one_content : (words : List ℕ) (c d : Content) → IsPage words c → IsPage words d → c ≡ d
one_content words c d one other =
    let r = head_read words c one in
    let s = head_read words d other in
    let level : c.level ≡ d.level = same_level words c d one other in
    let own : c.own.0 ≡ d.own.0 = sym r.own ∙ s.own in
    let right : c.right ≡ d.right = right_same c.right d.right one.content.right other.content.right (sym r.right ∙ s.right) in
    let low : c.low ≡ d.low =
    key_same words (low_at c.level c) (low_at d.level d) (length c.low) (length d.low) c.low d.low (sym r.low_place ∙ s.low_place) (sym r.low_length ∙ s.low_length) (low_read words c one) (low_read words d other) in
    let high : c.high ≡ d.high = high_same words c d one other in
    let mark : c.mark ≡ d.mark = one.content.mark ∙ sym other.content.mark in
    let entries : c.entries ≡ d.entries =
    entries_same c.entries d.entries (sym (count_is words c one) ∙ count_is words d other) (λ i e f at to. entry_same words c d i e f one other at to) in
    λ i. record { level = level i; own = record { 0 = own i }; right = right i; low = low i; high = high i; mark = mark i; entries = entries i }
