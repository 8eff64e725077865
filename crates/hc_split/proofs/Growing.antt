-- Growing: the top over its two halves.
use Rattle.std.proofs.Common.{◌≡◌, refl, sym, ap, subst, ◌∙◌, ℕ, zero, suc, ◌+◌, ◌<◌, List, [], ◌∷◌, Option, Some, arith}
use Rattle.std.specs.List.{All}
use Rattle.std.proofs.lemmas.List.Elements.{All-cons, All-head, All-nil}
use Rattle.hc_range.specs.Order.{IsBelow}
use Rattle.hc_range.proofs.ByteOrder.{below_flip}
use Rattle.hc_base.specs.declared.numbers.Logical.{Logical}
use Rattle.hc_base.specs.Content.{BeginsAt, Content, IsContent, IsEntryOf, IsWithin, keys}
use Rattle.hc_base.specs.Layout.{IsPage}
use Rattle.hc_base.specs.Words.{IsNumber}
use Rattle.hc_page.specs.declared.writer.Head.{Head}
use Rattle.hc_page.specs.Drafts.{child_of, started}
use Rattle.hc_page.specs.Puts.{put_entry, with_entries}
use Rattle.hc_shape.specs.Halves.{cut_at, left_half, right_half}
use Rattle.hc_shape.proofs.Plans.{halved_inner}
use Rattle.hc_split.specs.Parts.{AreParts, owned}
use Rattle.hc_split.specs.Plans.{AreGrown, IsFullTop}

-- the low fence of an inner page is between the fences that its keys are between
first_within : (level : ℕ) (low from : List ℕ) (high : Option (List ℕ)) (ks : List (List ℕ)) → 0 < level → BeginsAt level low ks → All (IsWithin from high) ks → IsWithin from high low
first_within zero low from high ks some begins all = absurd (omega (arith, some))
first_within (suc level) low from high [] some begins all = absurd begins
first_within (suc level) low from high (k ∷ ks) some begins all = subst (IsWithin from high) (sym begins) (All-head (IsWithin from high) k ks all)

module _ (words : List ℕ) (key : List ℕ) (child a b : Logical) (c : Content) (full : IsFullTop words key child c) (of_a : IsNumber a.0) (of_b : IsNumber b.0)
    (left right : List ℕ) (p : AreParts (owned c a) (child_of key child) b left right) where
  abbrev pub cut_key : List ℕ
  cut_key = cut_at (put_entry (child_of key child) c.entries) p.at

  -- the higher top
  abbrev pub top : Content
  top = record c { level = suc c.level; entries = child_of c.low a ∷ child_of cut_key b ∷ [] }

  below : IsBelow c.low cut_key
  below =
      (first_within c.level c.low c.low (Some cut_key) (keys (left_half (owned c a) b (put_entry (child_of key child) c.entries) p.at).entries) full.full.parent.inner p.left_page.content.begins
      p.left_page.content.within).1

  low_within : IsWithin c.low c.high c.low
  low_within =
      let is = full.full.parent.page.content in first_within c.level c.low c.low c.high (keys c.entries) full.full.parent.inner is.begins is.within

  cut_within : IsWithin cut_key c.high cut_key
  cut_within =
      first_within c.level cut_key cut_key c.high (keys (right_half (owned c a) b (put_entry (child_of key child) c.entries) p.at).entries) full.full.parent.inner p.right_page.content.begins
      p.right_page.content.within

  pub content : IsContent top
  content =
      let is = full.full.parent.page.content in
      record {
        level = omega (arith, full.level);
        own = is.own;
        right = is.right;
        low = is.low;
        high = is.high;
        mark = is.mark;
        entries =
            All-cons (IsEntryOf (suc c.level)) (child_of c.low a) (child_of cut_key b ∷ []) (of_a, is.low)
            (All-cons (IsEntryOf (suc c.level)) (child_of cut_key b) [] (of_b, p.right_page.content.low) (All-nil (IsEntryOf (suc c.level))));
        ascending = (
          All-cons (λ other. IsBelow c.low other) cut_key [] below (All-nil (λ other. IsBelow c.low other)),
          (All-nil (λ other. IsBelow cut_key other), tt),
        );
        within =
            All-cons (IsWithin c.low c.high) c.low (cut_key ∷ []) low_within
            (All-cons (IsWithin c.low c.high) cut_key [] (below_flip c.low cut_key below, cut_within.1) (All-nil (IsWithin c.low c.high)));
        begins = refl;
      }

  module _ (head : Head) (k : List ℕ) (head_is : started head ≡ record c { level = c.level + 1; entries = [] }) (key_is : k ≡ cut_key) where
    pub top_is : with_entries (started head) (child_of head.low.now a ∷ child_of k b ∷ []) ≡ top
    top_is =
        ap (λ h. with_entries h (child_of h.low a ∷ child_of k b ∷ [])) head_is
        ∙ (ap (λ x. record c { level = c.level + 1; entries = child_of c.low a ∷ child_of x b ∷ [] }) key_is
        ∙ ap (λ n. record c { level = n; entries = child_of c.low a ∷ child_of cut_key b ∷ [] }) (let one : c.level + 1 ≡ suc c.level = omega arith in one))

    pub inner : 0 < head.level
    inner = omega (arith, ap (λ h. h.level) head_is)

    pub is_content : IsContent (with_entries (started head) (child_of head.low.now a ∷ child_of k b ∷ []))
    is_content = subst (λ x. IsContent x) (sym top_is) content

    pub made : (out : List ℕ) → IsPage out (with_entries (started head) (child_of head.low.now a ∷ child_of k b ∷ [])) → AreGrown c key child a b left right out
    made out page = (
      left_half (owned c a) b (put_entry (child_of key child) c.entries) p.at,
      right_half (owned c a) b (put_entry (child_of key child) c.entries) p.at,
      top,
      p.left_page,
      p.right_page,
      subst (λ x. IsPage out x) top_is page,
      record { halved = halved_inner (owned c a) key child b p.at full.full.parent.inner p.cut; is = refl },
    )
