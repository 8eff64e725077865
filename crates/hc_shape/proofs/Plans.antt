-- The halves at the cut are what the relations of the plans say.
use Rattle.std.proofs.Common.{◌≡◌, refl, sym, ap, subst, ℕ, zero, suc, ◌<◌, List, length, take, drop, arith, length-drop, length-take-le}
use Rattle.std.proofs.lemmas.List.{take-append-drop}
use Rattle.hc_range.specs.Order.{IsAtMost, IsBelow}
use Rattle.hc_base.specs.declared.numbers.Logical.{Logical}
use Rattle.hc_base.specs.Content.{Ascends, Content, Entry, keys}
use Rattle.hc_page.specs.Drafts.{child_of}
use Rattle.hc_page.specs.Puts.{put_entry}
use Rattle.hc_page.proofs.Changed.{of_keys}
use Rattle.hc_shape.specs.Halves.{IsCut, cut_at, least_in_half, left_half, right_half}
use Rattle.hc_shape.specs.Plans.{IsHalvedInner, IsPutHalved}
use Rattle.hc_shape.proofs.HalfContents.{below_cut, from_cut}
use Rattle.hc_shape.proofs.Versions.{cut_of_one}

least_some : (level : ℕ) → 0 < least_in_half level
least_some zero = omega arith
least_some (suc level) = omega arith

two_inner : (level : ℕ) → 0 < level → least_in_half level ≡ 2
two_inner zero some = absurd (omega (arith, some))
two_inner (suc level) some = refl

module _ (c : Content) (fresh : Logical) (es : List Entry) (k : ℕ) (cut : IsCut c fresh es k) where
  pub within : k < length es
  within = omega (arith, cut.place.1, least_some c.level)

  pub long : length (take k es) ≡ k
  long = length-take-le k es (omega (arith, within))

  cut_again : IsCut c fresh es (length (take k es))
  cut_again = subst (λ n. IsCut c fresh es n) (sym long) cut

pub put_halved : (c : Content) (e : Entry) (fresh : Logical) (k : ℕ) → c.level ≡ 0 → Ascends (keys (put_entry e c.entries)) → IsCut c fresh (put_entry e c.entries) k
    → IsPutHalved c e fresh (left_half c fresh (put_entry e c.entries) k) (right_half c fresh (put_entry e c.entries) k)
put_halved c e fresh k leaf up cut =
    let es = put_entry e c.entries in
    record {
      leaf = leaf;
      sides = record { left_is = refl; right_is = refl };
      put =
          cut_of_one c.entries (take k es) (drop k es) (cut_at es k) e
          (of_keys (λ key. IsBelow key (cut_at es k)) e (take k es) (below_cut k es up (within c fresh es k cut)))
          (of_keys (λ key. IsAtMost (cut_at es k) key) e (drop k es) (from_cut k es up)) (take-append-drop k es);
      cut = cut_again c fresh es k cut;
      fence = ap (cut_at es) (sym (long c fresh es k cut));
    }

pub halved_inner : (c : Content) (key : List ℕ) (child fresh : Logical) (k : ℕ) → 0 < c.level → IsCut c fresh (put_entry (child_of key child) c.entries) k
    → IsHalvedInner c key child fresh (left_half c fresh (put_entry (child_of key child) c.entries) k) (right_half c fresh (put_entry (child_of key child) c.entries) k)
halved_inner c key child fresh k inner cut =
    let es = put_entry (child_of key child) c.entries in
    record {
      inner = inner;
      sides = record { left_is = refl; right_is = refl };
      all = take-append-drop k es;
      two = (
        omega (arith, cut.place.0, two_inner c.level inner, long c fresh es k cut),
        omega (arith, cut.place.1, two_inner c.level inner, length-drop k es),
      );
      cut = cut_again c fresh es k cut;
    }
