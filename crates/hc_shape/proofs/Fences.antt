-- The number that has a key is the one whose page has the key within its fences; and what a change makes of the entries of keys.
use Rattle.std.proofs.Common.{◌≡◌, ◌≢◌, refl, sym, ap, ◌∙◌, subst, ℕ, ◌≤◌, Bool, true, false, cond, List, [], ◌∷◌, Option, inl, inr, arith}
use Rattle.std.proofs.lemmas.Bool.{cases_Bool, cases_eq, eq-eqb, ne_eqb}
use Rattle.hc_range.specs.Order.{is_below, IsAtMost}
use Rattle.hc_base.specs.Content.{Content, Entry, IsBelowEnd, IsWithin}
use Rattle.hc_base.specs.Lookup.{Among, but}
use Rattle.hc_base.proofs.Lookups.{but-other, but-same}
use Rattle.hc_shape.specs.Leaves.{moved, number_in, number_of}
use Rattle.hc_shape.specs.Shape.{entry_of, IsShape, leaf_of, number_at, Shape}
use Rattle.hc_shape.specs.Versions.{but_key, HasUnput, is_same_key, version_of}
use Rattle.hc_shape.proofs.Leaves.{own_number}
use Rattle.hc_shape.proofs.Nexts.{beyond, holds_of}
use Rattle.hc_shape.proofs.Nodes.{lows}
use Rattle.hc_shape.proofs.Versions.{but_key-other, same_is_one}

-- a change of one key over two functions that agree there
same_but : {A : Type 0} (f g : List ℕ → A) (at : List ℕ) (o : A) (key : List ℕ) → f key ≡ g key → but_key f at o key ≡ but_key g at o key
unfolding but_key
same_but f g at o key same = ap (λ x. cond (is_same_key at key) o x) same

-- low fences that agree give each key the same number
number_in_low : (low after : ℕ → List ℕ) (key : List ℕ) (here : ℕ) (more : List ℕ) → ((m : ℕ) → Among m more → after m ≡ low m) → number_in after key here more ≡ number_in low key here more
number_in_low low after key here [] same = refl
number_in_low low after key here (m ∷ later) same =
    ap (λ l. cond (is_below key l) here (number_in after key m later)) (same m (inl refl))
    ∙ ap (λ x. cond (is_below key (low m)) here x) (number_in_low low after key m later (λ i there. same i (inr there)))

pub number_low : (low after : ℕ → List ℕ) (key : List ℕ) (ns : List ℕ) → ((m : ℕ) → Among m ns → after m ≡ low m) → number_of after key ns ≡ number_of low key ns
number_low low after key [] same = refl
number_low low after key (here ∷ more) same = number_in_low low after key here more (λ m there. same m (inr there))

-- where a number is cut, its keys from the cut on move, and those of others do not
pub moved_own : (n new : ℕ) (cut key : List ℕ) (b : Bool) → is_below key cut ≡ b → moved n new cut key n ≡ cond b n new
moved_own n new cut key true below = rw (eq-eqb n n refl) (rw below refl)
moved_own n new cut key false from = rw (eq-eqb n n refl) (rw from refl)

pub moved_other : (n new : ℕ) (cut key : List ℕ) (m : ℕ) → m ≢ n → moved n new cut key m ≡ m
moved_other n new cut key m differ = rw (ne_eqb m n differ) refl

module _ (node : ℕ → Content) (s : Shape) (h : IsShape node s) where
  -- the page of a key's number has the key within its fences
  pub within_number : (k : ℕ) → k ≤ s.level 2 → (key : List ℕ)
      → Among (number_at s k key) (s.numbers k) × IsWithin (node (number_at s k key)).low (node (number_at s k key)).high key
  within_number k within key =
      let holds = holds_of s.low key (s.numbers k) (h.parts k within) in
      let page = h.nodes k (number_at s k key) holds.0 in (
        holds.0,
        (subst (λ l. IsAtMost l key) (sym page.low) holds.1.0, subst (λ end. IsBelowEnd key end) (sym page.high) holds.1.1),
      )

  -- and no other page has
  pub number_within : (k n : ℕ) (key : List ℕ) → Among n (s.numbers k) → IsWithin (node n).low (node n).high key → number_at s k key ≡ n
  number_within k n key there inside =
      let page = h.nodes k n there in
      own_number s.low (s.numbers k) key n (lows node s h k n there) there (subst (λ l. IsAtMost l key) page.low inside.0)
      (beyond s.low key n (s.numbers k) (lows node s h k n there) there (subst (λ end. IsBelowEnd key end) page.high inside.1))

  -- a key of another leaf is another key than one of this leaf
  pub other_key : (n : ℕ) (at key : List ℕ) → Among n (s.numbers 0) → IsWithin (node n).low (node n).high at → leaf_of s key ≢ n → is_same_key at key ≡ false
  other_key n at key leaf inside differ =
      elim (cases_Bool (is_same_key at key)) [
        | inl same ↦ absurd (differ (subst (λ k. leaf_of s k ≡ n) ((same_is_one at key).0 same) (number_within 0 n at leaf inside)))
        | inr other ↦ other
      ]

  -- What a leaf has for a key of its own, the key has.
  pub own_entry : (n : ℕ) (at key : List ℕ) (o v : Option Entry) → leaf_of s key ≡ n → v ≡ but_key (version_of (node n).entries) at o key → v ≡ but_key (entry_of node s) at o key
  own_entry n at key o v is change =
      change ∙ same_but (version_of (node n).entries) (entry_of node s) at o key (sym (ap (λ x. version_of (node x).entries key) is))

  -- One leaf's page is replaced by one that changes one key.
  pub one_key : (n : ℕ) (new : Content) (at : List ℕ) (o : Option Entry) → Among n (s.numbers 0) → IsWithin (node n).low (node n).high at
      → HasUnput (node n).entries new.entries at o → (key : List ℕ) → entry_of (but node n new) s key ≡ but_key (entry_of node s) at o key
  one_key n new at o leaf inside change key =
      elim (cases_eq (leaf_of s key) n) [
        | inl is ↦
            own_entry n at key o (entry_of (but node n new) s key) is
            (ap (λ x. version_of (but node n new x).entries key) is ∙ ap (λ (c : Content). version_of c.entries key) (but-same node n new) ∙ change key)
        | inr differ ↦
            ap (λ (c : Content). version_of c.entries key) (but-other node n (leaf_of s key) new (λ e. differ (sym e)))
            ∙ sym (but_key-other (entry_of node s) at o key (other_key n at key leaf inside differ))
      ]

  -- A change that leaves the pages of leaves, and the leaf of each key, leaves each key's entry.
  pub same_entries : (after : ℕ → Content) (t : Shape) → ((key : List ℕ) → leaf_of t key ≡ leaf_of s key) → ((n : ℕ) → Among n (s.numbers 0) → after n ≡ node n)
      → (key : List ℕ) → entry_of after t key ≡ entry_of node s key
  same_entries after t leaf same key =
      ap (λ x. version_of (after x).entries key) (leaf key)
      ∙ ap (λ (c : Content). version_of c.entries key) (same (leaf_of s key) (within_number 0 (omega arith) key).0)
