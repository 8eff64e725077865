-- The shape after each step but a growth.
use Rattle.std.proofs.Common.{◌≡◌, ◌≢◌, refl, sym, ap, ◌∙◌, subst, ℕ, suc, Bool, true, false, cond, List, ◌++◌, Option, Some, inl, inr, ⊎_elim, arith}
use Rattle.std.proofs.lemmas.Bool.{cases_eq}
use Rattle.hc_range.specs.Order.{is_below}
use Rattle.hc_base.specs.declared.numbers.Logical.{Logical}
use Rattle.hc_base.specs.Content.{Content, Entry}
use Rattle.hc_base.specs.Lookup.{Among, but}
use Rattle.hc_base.proofs.Lookups.{but-other, but-same}
use Rattle.hc_page.specs.Drafts.{child_of}
use Rattle.hc_page.specs.Puts.{put_entry, with_entries}
use Rattle.hc_shape.specs.Changes.{cut_shape, Halves, HalvesInner, IsChildAt, Posts, Puts, Unputs}
use Rattle.hc_shape.specs.Halves.{least_in_half}
use Rattle.hc_shape.specs.Leaves.{moved, number_of, with_next}
use Rattle.hc_shape.specs.Plans.{KeepsHead}
use Rattle.hc_shape.specs.Shape.{AreEntriesAt, entry_of, IsNode, IsShape, IsUnreached, leaf_of, Names, Shape}
use Rattle.hc_shape.specs.Versions.{but_key, version_of}
use Rattle.hc_shape.proofs.Counting.{put_no_shorter, some_right}
use Rattle.hc_shape.proofs.Cuts.{can, Cuts}
use Rattle.hc_shape.proofs.Fences.{moved_other, moved_own, number_low, other_key, own_entry, same_entries}
use Rattle.hc_shape.proofs.Leaves.{moves}
use Rattle.hc_shape.proofs.Members.{all_among, each_all, in_first, in_second, of_change, of_left, of_right, put_among, small_of}
use Rattle.hc_shape.proofs.Nodes.{node_with, one_level, replaced, same_pages}
use Rattle.hc_shape.proofs.Versions.{but_key-other}

-- a page that no link reaches
pub mapped_shape : (node : ℕ → Content) (s : Shape) (n : ℕ) (c : Content) → IsShape node s → IsUnreached s n → IsShape (but node n c) s
mapped_shape node s n c h unreached =
    same_pages node s h (but node n c) (λ k m there. but-other node n m c (λ e. unreached k (subst (λ x. Among x (s.numbers k)) (sym e) there)))

pub mapped_entries : (node : ℕ → Content) (s : Shape) (n : ℕ) (c : Content) → IsShape node s → IsUnreached s n → (key : List ℕ) → entry_of (but node n c) s key ≡ entry_of node s key
mapped_entries node s n c h unreached =
    same_entries node s h (but node n c) s (λ key. refl) (λ m there. but-other node n m c (λ e. unreached 0 (subst (λ x. Among x (s.numbers 0)) (sym e) there)))

-- a leaf with one key changed
pub put_shape : (node : ℕ → Content) (s : Shape) (n : ℕ) (e : Entry) (new : Content) → Puts node s n e new → IsShape (but node n new) s
put_shape node s n e new h =
    let page = h.shape.nodes 0 n h.leaf in
    replaced node s h.shape 0 n new h.leaf
    (node_with s s 0 n (node n) page new h.put.head h.content
    (small_of (node n).entries new.entries (Some e) (of_change (node n).entries new.entries e.key (Some e) h.put.put h.content.ascending) h.small page.entries)
    (λ inner less. absurd (omega (arith, inner)))
    )

pub unput_shape : (node : ℕ → Content) (s : Shape) (n : ℕ) (key : List ℕ) (older : Option Entry) (new : Content) → Unputs node s n key older new → IsShape (but node n new) s
unput_shape node s n key older new h =
    let page = h.shape.nodes 0 n h.leaf in
    replaced node s h.shape 0 n new h.leaf
    (node_with s s 0 n (node n) page new h.unput.head h.content
    (small_of (node n).entries new.entries older (of_change (node n).entries new.entries key older h.unput.unput h.content.ascending) h.small page.entries)
    (λ inner less. absurd (omega (arith, inner)))
    )

-- the children of an inner page and one more name numbers one level down
module _ (node : ℕ → Content) (s : Shape) (h : IsShape node s) (k n : ℕ) (key : List ℕ) (child : Logical) (there : Among n (s.numbers (suc k))) (is_child : IsChildAt s k key child) where
  names_put : (x : Entry) → Among x (put_entry (child_of key child) (node n).entries) → Names s k x.key x.held
  names_put x among =
      ⊎_elim (λ (is : x ≡ child_of key child). subst (λ (y : Entry). Names s k y.key y.held) (sym is) (is_child.there, is_child.low))
      (λ (old : Among x (node n).entries). all_among (λ (y : Entry). Names s k y.key y.held) (node n).entries x (h.nodes (suc k) n there).entries old)
      (put_among (child_of key child) (node n).entries x among)

  pub names_all : (es : List Entry) → ((x : Entry) → Among x es → Among x (put_entry (child_of key child) (node n).entries)) → AreEntriesAt s (suc k) es
  names_all es within = each_all (λ (y : Entry). Names s k y.key y.held) es (λ x among. names_put x (within x among))

  -- leaves are no inner pages
  pub no_leaf : (m : ℕ) → Among m (s.numbers 0) → n ≢ m
  no_leaf m leaf is = absurd (omega (arith, one_level node s h (suc k) 0 m (subst (λ x. Among x (s.numbers (suc k))) is there) leaf))

module _ (node : ℕ → Content) (s : Shape) (k n : ℕ) (key : List ℕ) (child : Logical) (new : Content) (h : Posts node s k n key child new) where
  entries_are : new.entries ≡ put_entry (child_of key child) (node n).entries
  entries_are = ap (λ (c : Content). c.entries) h.posted.is

  head : KeepsHead (node n) new
  head = h.posted.is ∙ sym (ap (λ es. with_entries (node n) es) entries_are)

  pub post_shape : IsShape (but node n new) s
  post_shape =
      let page = h.shape.nodes (suc k) n h.inner in
      replaced node s h.shape (suc k) n new h.inner
      (node_with s s (suc k) n (node n) page new head h.content
      (names_all node s h.shape k n key child h.inner h.is_child new.entries (λ x among. subst (λ es. Among x es) entries_are among))
      (λ inner less. omega (arith, page.two inner less, put_no_shorter (child_of key child) (node n).entries new.entries entries_are page.content.ascending))
      )

  pub post_entries : (at : List ℕ) → entry_of (but node n new) s at ≡ entry_of node s at
  post_entries =
      same_entries node s h.shape (but node n new) s (λ at. refl)
      (λ m leaf. but-other node n m new (no_leaf node s h.shape k n key child h.inner h.is_child m leaf))

-- a leaf is cut in two
module _ (node : ℕ → Content) (s : Shape) (n : ℕ) (e : Entry) (fresh : Logical) (left right : Content) (h : Halves node s n e fresh left right) where
  page : IsNode s 0 n (node n)
  page = h.shape.nodes 0 n h.leaf

  least : least_in_half (node n).level ≡ 1
  least = ap least_in_half h.halved.leaf

  pub halved_cuts : Cuts node s 0 n fresh left right
  halved_cuts = record {
    shape = h.shape;
    there = h.leaf;
    below = h.shape.inner;
    unreached = h.unreached;
    mapped = h.mapped;
    sides = h.halved.sides;
    left_content = h.left_content;
    right_content = h.right_content;
    left_entries =
        small_of (node n).entries left.entries (Some e)
        (of_left (node n).entries left.entries right.entries right.low e h.halved.put h.left_content.ascending) h.small page.entries;
    right_entries =
        small_of (node n).entries right.entries (Some e)
        (of_right (node n).entries left.entries right.entries right.low e h.halved.put h.right_content.ascending) h.small page.entries;
    some = (
      omega (arith, least, h.halved.cut.place.0),
      some_right (node n).entries left.entries right.entries right.low e h.halved.put page.content.ascending h.left_content.ascending
          (omega (arith, least, h.halved.cut.place.1)),
    );
    two = λ inner. absurd (omega (arith, inner));
  }

  abbrev t : Shape
  t = cut_shape s 0 n fresh.0 right.low

  pub halved_leaf : (key : List ℕ) → leaf_of t key ≡ moved n fresh.0 right.low key (leaf_of s key)
  halved_leaf key =
      ap (λ ns. number_of t.low key ns) (but-same s.numbers 0 (with_next n fresh.0 (s.numbers 0)))
      ∙ moves s.low (s.numbers 0) n fresh.0 right.low (can node s 0 n fresh left right halved_cuts) key

  has : List ℕ → ℕ → Option Entry
  has key x = version_of (but node n left x).entries key

  -- what the two halves have for a key
  sides_have : (key : List ℕ) (b : Bool) → is_below key right.low ≡ b → version_of (but node n left (cond b n fresh.0)).entries key ≡ version_of (cond b left.entries right.entries) key
  sides_have key true below = ap (λ (c : Content). version_of c.entries key) (but-same node n left)
  sides_have key false from =
      ap (λ (c : Content). version_of c.entries key)
      (but-other node n fresh.0 left (λ e. h.unreached 0 (subst (λ x. Among x (s.numbers 0)) e h.leaf)) ∙ h.mapped)

  pub halved_entries : (key : List ℕ) → entry_of (but node n left) t key ≡ but_key (entry_of node s) e.key (Some e) key
  halved_entries key =
      ap (λ x. version_of (but node n left x).entries key) (halved_leaf key)
      ∙ elim (cases_eq (leaf_of s key) n) [
        | inl is ↦
            own_entry node s h.shape n e.key key (Some e) (version_of (but node n left (moved n fresh.0 right.low key (leaf_of s key))).entries key) is
            (ap (λ x. version_of (but node n left (moved n fresh.0 right.low key x)).entries key) is
            ∙ ap (λ x. version_of (but node n left x).entries key) (moved_own n fresh.0 right.low key (is_below key right.low) refl)
            ∙ sides_have key (is_below key right.low) refl ∙ h.halved.put.put key
            )
        | inr differ ↦
            ap (λ x. version_of (but node n left x).entries key) (moved_other n fresh.0 right.low key (leaf_of s key) differ)
            ∙ ap (λ (c : Content). version_of c.entries key) (but-other node n (leaf_of s key) left (λ e. differ (sym e)))
            ∙ sym (but_key-other (entry_of node s) e.key (Some e) key (other_key node s h.shape n e.key key h.leaf h.within differ))
      ]

-- an inner page is cut in two
module _ (node : ℕ → Content) (s : Shape) (k n : ℕ) (key : List ℕ) (child fresh : Logical) (left right : Content) (h : HalvesInner node s k n key child fresh left right) where
  on_all : (x : Entry) → Among x (left.entries ++ right.entries) → Among x (put_entry (child_of key child) (node n).entries)
  on_all x among = subst (λ es. Among x es) h.halved.all among

  pub inner_cuts : Cuts node s (suc k) n fresh left right
  inner_cuts = record {
    shape = h.shape;
    there = h.inner;
    below = h.below;
    unreached = h.unreached;
    mapped = h.mapped;
    sides = h.halved.sides;
    left_content = h.left_content;
    right_content = h.right_content;
    left_entries =
        names_all node s h.shape k n key child h.inner h.is_child left.entries (λ x among. on_all x (in_first left.entries right.entries x among));
    right_entries =
        names_all node s h.shape k n key child h.inner h.is_child right.entries (λ x among. on_all x (in_second left.entries right.entries x among));
    some = (omega (arith, h.halved.two.0), omega (arith, h.halved.two.1));
    two = λ inner. h.halved.two;
  }

  pub inner_entries : (at : List ℕ) → entry_of (but node n left) (cut_shape s (suc k) n fresh.0 right.low) at ≡ entry_of node s at
  inner_entries =
      same_entries node s h.shape (but node n left) (cut_shape s (suc k) n fresh.0 right.low)
      (λ at. ap (λ ns. number_of (but s.low fresh.0 right.low) at ns) (but-other s.numbers (suc k) 0 (with_next n fresh.0 (s.numbers (suc k))) (λ e. absurd (omega (arith, e))))
      ∙ number_low s.low (but s.low fresh.0 right.low) at (s.numbers 0)
      (λ m leaf. but-other s.low fresh.0 m right.low (λ e. h.unreached 0 (subst (λ x. Among x (s.numbers 0)) (sym e) leaf))))
      (λ m leaf. but-other node n m left (no_leaf node s h.shape k n key child h.inner h.is_child m leaf))
