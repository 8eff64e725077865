-- What is needed of leaves of small entries, and of inner pages.
use Rattle.std.proofs.Common.{◌≡◌, ◌∙◌, refl, sym, ap, subst, ℕ, zero, suc, ◌<◌, ◌≤◌, ◌^◌, List, [], ◌∷◌, ◌++◌, length, get_or, arith, length-append, Option, Some, Fits, w8}
use Rattle.std.specs.List.{All, filter, slice_get}
use Rattle.std.proofs.lemmas.List.Elements.{All-append, All-cons, All-filter, All-from_get_or, All-head}
use Rattle.hc_range.specs.Order.{IsBelow, is_below}
use Rattle.hc_base.specs.declared.numbers.Logical.{Logical}
use Rattle.hc_base.specs.Content.{BeginsAt, Child, Content, Entry, IsContent, IsEntryOf, IsFence, IsWithin, OfSome, keys}
use Rattle.hc_base.specs.Layout.{fence_words, low_words}
use Rattle.hc_base.proofs.Places.{words_of-length}
use Rattle.hc_page.specs.declared.search.Found.TheVariants.{At}
use Rattle.hc_page.specs.declared.writer.Draft.{Draft}
use Rattle.hc_page.specs.declared.writer.Head.{Head}
use Rattle.hc_page.specs.Drafts.{HasRoom, IsDraft, IsWhole, child_of, entries_from, started, with_last}
use Rattle.hc_page.specs.Finding.{IsFound}
use Rattle.hc_page.specs.Puts.{put_entry, with_entries}
use Rattle.hc_shape.specs.Halves.{IsSmall}
use Rattle.hc_page.proofs.Entries.{entry_there}
use Rattle.hc_page.proofs.Putting.{around_at}
use Rattle.hc_split.proofs.Parting.{high_small, low_small}
use Rattle.hc_split.specs.Plans.{AreGrown, AreHalvedInner, ArePutHalved, HasPosted}
use Rattle.hc_test_pages.specs.SmallPages.{HasInner, HasLeaf}

-- an entry that is found is there
pub found_entry : (c : Content) (key : List ℕ) (slot : ℕ) → IsContent c → IsFound (keys c.entries) key (At slot) → (e : Entry) × (slice_get c.entries slot ≡ Some e)
found_entry c key slot content found = entry_there c.entries slot (omega (arith, (around_at c.entries key slot content.ascending found).in_list))

-- bytes of a fence
pub fence_is : (bytes : List ℕ) → length bytes ≤ 463 → ((i : ℕ) → Fits w8 (get_or bytes i 0)) → IsFence bytes
fence_is bytes short fits = (short, All-from_get_or (λ byte. byte < 2 ^ 8) bytes 0 (λ i within. omega (arith, fits i)))

-- fences leave room for an entry
pub fences_small : (c : Content) → IsFence c.low → OfSome IsFence c.high → length (low_words c.level c.low ++ fence_words c.high) ≤ 116
fences_small c low high = omega (arith, low_small c.level c.low low.0, high_small c.high high, length-append (low_words c.level c.low) (fence_words c.high))

pub leaf_room : (c : Content) → IsContent c → entries_from 0 c ≤ 256
leaf_room c is = omega (arith, fences_small c is.low is.high)

inner_entry : (level : ℕ) (e : Entry) → 0 < level → IsEntryOf level e → IsEntryOf 1 e
inner_entry zero e some of = absurd (omega (arith, some))
inner_entry (suc level) e some of = of

-- an inner page of one child
module _ (head : Head) (first : Logical) (inner : 0 < head.level) (is : IsContent (with_entries (started head) (child_of head.low.now first ∷ []))) where
  pub room : entries_from 1 (started head) ≤ 256
  room = omega (arith, fences_small (started head) is.low is.high)

  pub entry : IsEntryOf 1 (child_of head.low.now first)
  entry = inner_entry head.level (child_of head.low.now first) inner (All-head (IsEntryOf head.level) (child_of head.low.now first) [] is.entries)

  pub entry_room : (draft : Draft) (words : List ℕ) → draft.total ≡ 1 → IsDraft draft words (started head) → HasRoom draft words (child_of head.low.now first)
  entry_room draft words total drafted = (
    started head,
    drafted,
    omega (arith, drafted.count, total),
    omega (arith, drafted.used, drafted.first, ap (λ n. entries_from n (started head)) total, fences_small (started head) is.low is.high, words_of-length head.low.now, is.low.0),
  )

  pub whole : (draft : Draft) (words : List ℕ) → draft.total ≡ 1 → IsDraft draft words (with_last (started head) (child_of head.low.now first ∷ []))
      → IsWhole draft words (with_entries (started head) (child_of head.low.now first ∷ []))
  whole draft words total drafted = (drafted, omega (arith, drafted.count, total), is)

-- entries stay small where a small one is put
pub small_put : (e : Entry) (es : List Entry) → IsSmall e → All IsSmall es → All IsSmall (put_entry e es)
small_put e es own small =
    All-append IsSmall (filter (λ x. is_below x.key e.key) es) (e ∷ filter (λ x. is_below e.key x.key) es)
    (All-filter (λ x. is_below x.key e.key) IsSmall es small)
    (All-cons IsSmall e (filter (λ x. is_below e.key x.key) es) own (All-filter (λ x. is_below e.key x.key) IsSmall es small))

-- both halves of a leaf are leaves
pub leaf_halves : (c : Content) (e : Entry) (fresh : Logical) (left right : List ℕ) → ArePutHalved c e fresh left right → HasLeaf left × HasLeaf right
leaf_halves c e fresh left right h = (
  (h.0, record { page = h.2; leaf = ap (λ (d : Content). d.level) h.4.sides.left_is ∙ h.4.leaf }),
  (h.1, record { page = h.3; leaf = ap (λ (d : Content). d.level) h.4.sides.right_is ∙ h.4.leaf }),
)

-- and those of an inner page are inner pages
pub inner_halves : (c : Content) (key : List ℕ) (child fresh : Logical) (left right : List ℕ) → AreHalvedInner c key child fresh left right → HasInner left × HasInner right
inner_halves c key child fresh left right h = (
  (h.0, record { page = h.2; inner = subst (λ n. 0 < n) (sym (ap (λ (d : Content). d.level) h.4.sides.left_is)) h.4.inner }),
  (h.1, record { page = h.3; inner = subst (λ n. 0 < n) (sym (ap (λ (d : Content). d.level) h.4.sides.right_is)) h.4.inner }),
)

pub inner_posted : (c : Content) (key : List ℕ) (child : Logical) (out : List ℕ) → HasPosted c key child out → HasInner out
inner_posted c key child out h = (h.0, record { page = h.1; inner = subst (λ n. 0 < n) (sym (ap (λ (d : Content). d.level) h.2.is)) h.2.inner })

pub inner_grown : (c : Content) (key : List ℕ) (child a b : Logical) (left right out : List ℕ) → AreGrown c key child a b left right out → HasInner left × HasInner right × HasInner out
inner_grown c key child a b left right out h = (
  (h.0, record { page = h.3; inner = subst (λ n. 0 < n) (sym (ap (λ (d : Content). d.level) h.6.halved.sides.left_is)) h.6.halved.inner }),
  (h.1, record { page = h.4; inner = subst (λ n. 0 < n) (sym (ap (λ (d : Content). d.level) h.6.halved.sides.right_is)) h.6.halved.inner }),
  (h.2, record { page = h.5; inner = subst (λ n. 0 < n) (sym (ap (λ (d : Content). d.level) h.6.is)) (omega arith) }),
)

none_of : {A : Type 0} (P : A → Type 0) → A → All P []
none_of P x = All-from_get_or P [] x (λ i within. absurd (omega arith))

-- an inner page whose one child has the keys from its low fence on
pub one_child : (level own child : ℕ) (right : Option Logical) (low : List ℕ) (high : Option (List ℕ))
    → (0 < level) × (level < 2 ^ 8) → (0 < own) × (own < 2 ^ 32) → (0 < child) × (child < 2 ^ 32) → OfSome (λ number. (0 < number.0) × (number.0 < 2 ^ 32)) right
    → IsFence low → OfSome IsFence high → IsWithin low high low
    → IsContent (record {
      level = level;
      own = record { 0 = own };
      right = right;
      low = low;
      high = high;
      mark = 0;
      entries = (record { key = low; held = Child (record { 0 = child }) }) ∷ [];
    })
one_child level own child right low high levels owns children rights fence end within = record {
  level = levels.1;
  own = owns;
  right = rights;
  low = fence;
  high = end;
  mark = refl;
  entries = All-cons (IsEntryOf level) (record { key = low; held = Child (record { 0 = child }) }) [] (of level levels.0) (none_of (IsEntryOf level) (record { key = low; held = Child (record { 0 = child }) }));
  ascending = (none_of (λ other. IsBelow low other) low, tt);
  within = All-cons (IsWithin low high) low [] within (none_of (IsWithin low high) low);
  begins = begins level levels.0;
}
  where
    of : (n : ℕ) → 0 < n → IsEntryOf n (record { key = low; held = Child (record { 0 = child }) })
    of zero some = absurd (omega (arith, some))
    of (suc n) some = (children, fence)

    begins : (n : ℕ) → 0 < n → BeginsAt n low (low ∷ [])
    begins zero some = absurd (omega (arith, some))
    begins (suc n) some = refl
