-- Made: the pages are what the plan's relation says.
use Rattle.std.proofs.Common.{◌≡◌, refl, sym, subst, ℕ, zero, suc, ◌<◌, ◌≤◌, List, [], ◌∷◌, length, arith}
use Rattle.std.specs.List.{All}
use Rattle.std.proofs.lemmas.List.Elements.{All-cons, All-head, All-nil, All-tail}
use Rattle.hc_base.proofs.Places.{words_of-length}
use Rattle.hc_base.specs.declared.numbers.Logical.{Logical}
use Rattle.hc_base.specs.Content.{Ascends, Child, Content, Entry, Held, IsEntryOf, Version, keys}
use Rattle.hc_base.specs.Layout.{held_words, used_words}
use Rattle.hc_base.specs.Words.{IsNumber}
use Rattle.hc_page.specs.Drafts.{child_of}
use Rattle.hc_page.specs.Puts.{put_entry, with_entry}
use Rattle.hc_shape.specs.Halves.{IsSmall, left_half, right_half}
use Rattle.hc_shape.proofs.Plans.{halved_inner, put_halved}
use Rattle.hc_split.specs.declared.joined.Added.{Added}
use Rattle.hc_split.specs.declared.joined.Joined.{Joined}
use Rattle.hc_split.specs.Joined.{IsJoined, WillJoin, entry_added}
use Rattle.hc_split.specs.Parts.{AreParts, CanPart, owned}
use Rattle.hc_split.specs.Plans.{AreHalvedInner, ArePutHalved, IsFullLeaf, IsParent}

-- a page whose entries are more than fit can be cut
pub can_part : (joined : Joined) (added : Added) (own fresh : Logical) (c : Content) → IsJoined joined c → joined.added ≡ added → IsNumber own.0 → IsNumber fresh.0
    → 256 < used_words (with_entry c (entry_added added)) → CanPart joined own fresh c
can_part joined added own fresh c is same own_is fresh_is over = record {
  joined_is = is;
  own_is = own_is;
  fresh_is = fresh_is;
  over = subst (λ a. 256 < used_words (with_entry c (entry_added a))) (sym same) over;
}

-- with the page's own number
pub parts_here : (c : Content) (own fresh : Logical) (a b : Added) (left right : List ℕ) → own ≡ c.own → a ≡ b → AreParts (owned c own) (entry_added a) fresh left right
    → AreParts c (entry_added b) fresh left right
parts_here c own fresh a b left right own_is same p =
    subst (λ o. AreParts (owned c o) (entry_added b) fresh left right) own_is (subst (λ x. AreParts (owned c own) (entry_added x) fresh left right) same p)

pub leaf_made : (c : Content) (e : Entry) (fresh : Logical) (left right : List ℕ) → c.level ≡ 0 → Ascends (keys (put_entry e c.entries)) → AreParts c e fresh left right
    → ArePutHalved c e fresh left right
leaf_made c e fresh left right leaf up p = (
  left_half c fresh (put_entry e c.entries) p.at,
  right_half c fresh (put_entry e c.entries) p.at,
  p.left_page,
  p.right_page,
  put_halved c e fresh p.at leaf up p.cut,
)

pub inner_made : (c : Content) (key : List ℕ) (child fresh : Logical) (left right : List ℕ) → 0 < c.level → AreParts c (child_of key child) fresh left right
    → AreHalvedInner c key child fresh left right
inner_made c key child fresh left right inner p = (
  left_half c fresh (put_entry (child_of key child) c.entries) p.at,
  right_half c fresh (put_entry (child_of key child) c.entries) p.at,
  p.left_page,
  p.right_page,
  halved_inner c key child fresh p.at inner p.cut,
)

-- a new entry of a full leaf can come to it
pub will_join : (words : List ℕ) (e : Entry) (c : Content) → IsFullLeaf words e c → WillJoin words e c
will_join words e c full = record {
  page = full.page;
  entry = subst (λ l. IsEntryOf l e) (sym full.leaf) full.entry;
  within = full.within;
  new_small = full.new_small;
  small = full.small;
}

-- each entry of an inner page is small
inner_small : (level : ℕ) (e : Entry) → IsEntryOf (suc level) e → IsSmall e
inner_small level e of = by_held e.key e.held of
  where
    by_held : (key : List ℕ) (held : Held) → IsEntryOf (suc level) (record { key = key; held = held }) → (length (held_words key held) ≤ 60) × (length key ≤ 463)
    by_held key (Version tid rec older) of = absurd of.0
    by_held key (Child number) of = (omega (arith, words_of-length key, of.1.0), of.1.0)

all_inner : (level : ℕ) (es : List Entry) → All (IsEntryOf (suc level)) es → All IsSmall es
all_inner level [] all = All-nil IsSmall
all_inner level (e ∷ es) all =
    All-cons IsSmall e es (inner_small level e (All-head (IsEntryOf (suc level)) e es all)) (all_inner level es (All-tail (IsEntryOf (suc level)) e es all))

-- and so a child can come to an inner page
will_join_at : (level : ℕ) (words key : List ℕ) (child : Logical) (c : Content) → c.level ≡ level → IsParent words key child c → WillJoin words (child_of key child) c
will_join_at zero words key child c is parent = absurd (omega (arith, is, parent.inner))
will_join_at (suc level) words key child c is parent = record {
  page = parent.page;
  entry = subst (λ l. IsEntryOf l (child_of key child)) (sym is) parent.entry;
  within = parent.within;
  new_small = inner_small level (child_of key child) parent.entry;
  small = all_inner level c.entries (subst (λ l. All (IsEntryOf l) c.entries) is parent.page.content.entries);
}

pub child_joins : (words key : List ℕ) (child : Logical) (c : Content) → IsParent words key child c → WillJoin words (child_of key child) c
child_joins words key child c parent = will_join_at c.level words key child c refl parent
