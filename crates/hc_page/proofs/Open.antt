-- What is needed of a leaf without fences.
use Rattle.std.proofs.Common.{◌≡◌, ℕ, ◌^◌, ◌<◌, ◌≤◌, List, [], ◌∷◌, length, get_or, refl, sym, subst, ◌∙◌, arith, Some, None, Fits, w8}
use Rattle.std.specs.List.{All, slice_get}
use Rattle.std.proofs.lemmas.List.Elements.{All-cons, All-get_or, All-from_get_or}
use Rattle.hc_range.specs.Order.{IsAtMost, IsBelow}
use Rattle.hc_range.proofs.ByteOrder.{empty_least}
use Rattle.hc_base.specs.Content.{Content, Entry, Version, Child, IsContent, IsEntryOf, IsWithin, IsBytes, IsBelowEnd, keys}
use Rattle.hc_base.specs.Layout.{IsPage, used_words}
use Rattle.hc_page.specs.declared.search.Found.TheVariants.{At}
use Rattle.hc_page.specs.Finding.{IsFound}
use Rattle.hc_page.specs.Puts.{CanPut, with_entry, without_entry}
use Rattle.hc_page.specs.Open.{IsOpen}
use Rattle.hc_page.proofs.Entries.{entry_there, key_at}
use Rattle.hc_page.proofs.Putting.{around_at}
use Rattle.std.proofs.lemmas.Option.{get_or_from_slice_get}

abbrev pub empty_leaf : Content
empty_leaf = record { level = 0; own = record { 0 = 1 }; right = None; low = []; high = None; mark = 0; entries = [] }

none_of : (P : ℕ → Type 0) → All P []
none_of P = All-from_get_or P [] 0 (λ i within. absurd (omega arith))

pub empty_content : IsContent empty_leaf
empty_content = record {
  level = omega arith;
  own = (omega arith, omega arith);
  right = tt;
  low = (omega arith, none_of (λ byte. byte < 2 ^ 8));
  high = tt;
  mark = refl;
  entries = All-from_get_or (IsEntryOf 0) [] (record { key = []; held = Version (record { 0 = 1 }) None None }) (λ i within. absurd (omega arith));
  ascending = tt;
  within = All-from_get_or (IsWithin [] None) [] [] (λ i within. absurd (omega arith));
  begins = tt;
}

-- an inner page of number 2 and level 1 whose one entry has page 1 for all keys, as the first one of a tree is
abbrev pub first_inner_page : Content
first_inner_page = record { level = 1; own = record { 0 = 2 }; right = None; low = []; high = None; mark = 0; entries = (record { key = []; held = Child (record { 0 = 1 }) }) ∷ [] }

pub inner_content : IsContent first_inner_page
inner_content = record {
  level = omega arith;
  own = (omega arith, omega arith);
  right = tt;
  low = (omega arith, none_of (λ byte. byte < 2 ^ 8));
  high = tt;
  mark = refl;
  entries = All-cons (IsEntryOf 1) (record { key = []; held = Child (record { 0 = 1 }) }) [] ((omega arith, omega arith), (omega arith, none_of (λ byte. byte < 2 ^ 8)))
      (All-from_get_or (IsEntryOf 1) [] (record { key = []; held = Child (record { 0 = 1 }) }) (λ i within. absurd (omega arith)));
  ascending = (All-from_get_or (λ other. IsBelow [] other) [] [] (λ i within. absurd (omega arith)), tt);
  within = All-cons (IsWithin [] None) [] [] (empty_least [], tt) (All-from_get_or (IsWithin [] None) [] [] (λ i within. absurd (omega arith)));
  begins = refl;
}

-- bytes of a key or a record are such as an entry has
pub bytes_are : (bytes : List ℕ) → length bytes ≤ 4095 → ((i : ℕ) → Fits w8 (get_or bytes i 0)) → IsBytes 4095 bytes
bytes_are bytes short fits = (short, All-from_get_or (λ byte. byte < 2 ^ 8) bytes 0 (λ i within. omega (arith, fits i)))

-- any entry is within no fences
pub can_put : (words : List ℕ) (e : Entry) (c : Content) → IsOpen words c → IsEntryOf 0 e → used_words (with_entry c e) ≤ 256 → CanPut words e c
can_put words e c open_leaf of room = record {
  page = open_leaf.page;
  leaf = open_leaf.leaf;
  entry = of;
  within = (subst (λ low. IsAtMost low e.key) (sym open_leaf.low) (empty_least e.key), subst (λ high. IsBelowEnd e.key high) (sym open_leaf.high) tt);
  fits = room;
}

-- and leaves the leaf without fences
pub put_open : (words out : List ℕ) (e : Entry) (c : Content) → IsOpen words c → IsPage out (with_entry c e) → IsOpen out (with_entry c e)
put_open words out e c open_leaf page = record { page = page; leaf = open_leaf.leaf; low = open_leaf.low; high = open_leaf.high }

pub take_open : (words out : List ℕ) (slot : ℕ) (c : Content) → IsOpen words c → IsPage out (without_entry c slot) → IsOpen out (without_entry c slot)
take_open words out slot c open_leaf page = record { page = page; leaf = open_leaf.leaf; low = open_leaf.low; high = open_leaf.high }

-- an entry that is found is there
pub found_there : (words : List ℕ) (c : Content) (key : List ℕ) (slot : ℕ) → IsOpen words c → IsFound (keys c.entries) key (At slot)
    → (e : Entry) × (slice_get c.entries slot ≡ Some e) × (e.key ≡ key) × IsEntryOf 0 e
found_there words c key slot open_leaf found =
    let around = around_at c.entries key slot open_leaf.page.content.ascending found in
    let there = entry_there c.entries slot (omega (arith, around.in_list)) in (
      there.0,
      there.1,
      sym (key_at c.entries slot there.0 there.1) ∙ around.same (omega arith),
      subst (λ e. IsEntryOf 0 e) (get_or_from_slice_get c.entries slot there.0 there.0 there.1)
          (All-get_or (IsEntryOf 0) c.entries slot there.0 (omega (arith, around.in_list)) (subst (λ l. All (IsEntryOf l) c.entries) open_leaf.leaf open_leaf.page.content.entries)),
    )
