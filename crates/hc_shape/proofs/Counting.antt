-- Ascending lists of keys: how they are joined, and how long they are.
use Rattle.std.proofs.Common.{◌≡◌, refl, sym, ap, ◌∙◌, subst, ℕ, ◌<◌, ◌≤◌, Bool, true, false, cond, List, [], ◌∷◌, ◌++◌, length, inl, inr, ⊎_elim, arith}
use Rattle.std.specs.List.{filter}
use Rattle.std.proofs.lemmas.Bool.{cond_both, true≢false}
use Rattle.std.proofs.lemmas.List.{length-map}
use Rattle.hc_range.specs.Order.{is_below, IsBelow}
use Rattle.hc_range.proofs.ByteOrder.{below_irrefl, below_trans}
use Rattle.hc_base.specs.Content.{Ascends, Entry, keys}
use Rattle.hc_base.specs.Lookup.{Among}
use Rattle.hc_page.specs.Puts.{put_entry}
use Rattle.hc_shape.specs.Versions.{HasPutHalved}
use Rattle.hc_shape.proofs.Members.{all_among, among_both, among_cond, among_filter, each_all, entry_among, key_among, put_has, version_among}
use Rattle.hc_shape.proofs.Versions.{own_version, put_of_one}

-- nothing is below itself
pub not_itself : (a b : List ℕ) → a ≡ b → IsBelow a b → ⊥
not_itself a b is less = true≢false (sym less ∙ subst (λ x. is_below a x ≡ false) is (below_irrefl a))

-- An ascending list whose elements all are in another ascending list is no longer than that.
pub no_longer : (xs ys : List (List ℕ)) → Ascends xs → Ascends ys → ((x : List ℕ) → Among x xs → Among x ys) → length xs ≤ length ys
no_longer [] ys ux uy each = omega arith
no_longer (x ∷ xs) [] ux uy each = absurd (each x (inl refl))
no_longer (x ∷ xs) (y ∷ ys) ux uy each =
    ⊎_elim (λ (is : x ≡ y). omega (arith, no_longer xs ys ux.1 uy.1 (λ z there. rest_after is z there (each z (inr there)))))
    (λ (later : Among x ys). omega (arith, no_longer (x ∷ xs) ys ux uy.1 (λ z there. all_after later z there (each z there))))
    (each x (inl refl))
  where
    above : (z : List ℕ) → Among z xs → IsBelow x z
    above z there = all_among (λ other. IsBelow x other) xs z ux.0 there

    rest_after : x ≡ y → (z : List ℕ) → Among z xs → Among z (y ∷ ys) → Among z ys
    rest_after is z there (inl same) = absurd (not_itself x z (is ∙ sym same) (above z there))
    rest_after is z there (inr found) = found

    all_after : Among x ys → (z : List ℕ) → Among z (x ∷ xs) → Among z (y ∷ ys) → Among z ys
    all_after later z there (inr found) = found
    all_after later z (inl is) (inl same) = absurd (not_itself y x (sym same ∙ is) (all_among (λ other. IsBelow y other) ys x uy.0 later))
    all_after later z (inr there) (inl same) =
        absurd (not_itself y z (sym same) (below_trans y x z (all_among (λ other. IsBelow y other) ys x uy.0 later) (above z there)))

-- two ascending lists, the one below the other, ascend together
pub ascends_both : (xs ys : List (List ℕ)) → Ascends xs → Ascends ys → ((x y : List ℕ) → Among x xs → Among y ys → IsBelow x y) → Ascends (xs ++ ys)
ascends_both [] ys ux uy apart = uy
ascends_both (x ∷ xs) ys ux uy apart = (
  each_all (λ other. IsBelow x other) (xs ++ ys)
      (λ z there. ⊎_elim (λ (first : Among z xs). all_among (λ other. IsBelow x other) xs z ux.0 first) (λ (second : Among z ys). apart x z (inl refl) second)
      (among_both xs ys z there)),
  ascends_both xs ys ux.1 uy (λ a b p q. apart a b (inr p) q),
)

pub keys_both : (xs ys : List Entry) → keys (xs ++ ys) ≡ keys xs ++ keys ys
keys_both [] ys = refl
keys_both (x ∷ xs) ys = ap (λ ks. x.key ∷ ks) (keys_both xs ys)

-- the keys of a filter
filter_keys : (p : Entry → Bool) (es : List Entry) (key : List ℕ) → Among key (keys (filter p es)) → (x : Entry) × Among x (filter p es) × (x.key ≡ key)
filter_keys p es key there = entry_among (filter p es) key there

ascends_filter : (p : Entry → Bool) (es : List Entry) → Ascends (keys es) → Ascends (keys (filter p es))
ascends_filter p [] up = up
ascends_filter p (x ∷ es) up =
    cond_both (p x) (x ∷ filter p es) (filter p es) (λ ys. Ascends (keys ys))
    (λ kept. (
      each_all (λ other. IsBelow x.key other) (keys (filter p es))
          (λ k there. let y = filter_keys p es k there in
          all_among (λ other. IsBelow x.key other) (keys es) k up.0 (subst (λ z. Among z (keys es)) y.2 (key_among es y.0 (among_filter p es y.0 y.1)))),
      ascends_filter p es up.1,
    ))
    (λ gone. ascends_filter p es up.1)

-- what passes a filter meets it
passes : (p : Entry → Bool) (es : List Entry) (x : Entry) → Among x (filter p es) → p x ≡ true
passes p [] x there = absurd there
passes p (e ∷ es) x there =
    by_test (p e) refl (λ later. passes p es x later) there
  where
    by_test : (b : Bool) → p e ≡ b → (Among x (filter p es) → p x ≡ true) → Among x (cond b (e ∷ filter p es) (filter p es)) → p x ≡ true
    by_test true own on (inl is) = subst (λ y. p y ≡ true) (sym is) own
    by_test true own on (inr later) = on later
    by_test false own on later = on later

module _ (e : Entry) (es : List Entry) where
  abbrev lesser : List Entry
  lesser = filter (λ y. is_below y.key e.key) es

  abbrev greater : List Entry
  greater = filter (λ y. is_below e.key y.key) es

  above : (k : List ℕ) → Among k (keys greater) → IsBelow e.key k
  above k there =
      let y = filter_keys (λ y. is_below e.key y.key) es k there in subst (λ z. IsBelow e.key z) y.2 (passes (λ y. is_below e.key y.key) es y.0 y.1)

  below : (k : List ℕ) → Among k (keys lesser) → IsBelow k e.key
  below k there =
      let y = filter_keys (λ y. is_below y.key e.key) es k there in subst (λ z. IsBelow z e.key) y.2 (passes (λ y. is_below y.key e.key) es y.0 y.1)

  apart : (x y : List ℕ) → IsBelow x e.key → Among y (e.key ∷ keys greater) → IsBelow x y
  apart x y less (inl is) = subst (λ z. IsBelow x z) (sym is) less
  apart x y less (inr later) = below_trans x e.key y less (above y later)

  -- entries with one put ascend
  pub ascends_put : Ascends (keys es) → Ascends (keys (put_entry e es))
  ascends_put up =
      subst (λ ks. Ascends ks) (sym (keys_both lesser (e ∷ greater)))
      (ascends_both (keys lesser) (e.key ∷ keys greater) (ascends_filter (λ y. is_below y.key e.key) es up)
      (each_all (λ other. IsBelow e.key other) (keys greater) above, ascends_filter (λ y. is_below e.key y.key) es up)
      (λ x y p q. apart x y (below x p) q))

-- entries with one put are no fewer than before
pub put_no_shorter : (e : Entry) (es new : List Entry) → new ≡ put_entry e es → Ascends (keys es) → length es ≤ length new
put_no_shorter e es new is up =
    omega (
      arith,
      length-map es (λ (entry : Entry). entry.key),
      length-map (put_entry e es) (λ (entry : Entry). entry.key),
      ap (λ (xs : List Entry). length xs) is,
      no_longer (keys es) (keys (put_entry e es)) up (ascends_put e es up) (λ k there. put_has e es k there),
    )

-- where the left half of a put has not all entries, the right one has some
pub some_right : (old left right : List Entry) (cut : List ℕ) (e : Entry) → HasPutHalved old left right cut e → Ascends (keys old) → Ascends (keys left)
    → length left < length (put_entry e old) → 0 < length right
some_right old left (r ∷ right) cut e h up ul less = omega arith
some_right old left [] cut e h up ul less =
    absurd (
    omega (
      arith,
      less,
      length-map left (λ (entry : Entry). entry.key),
      length-map (put_entry e old) (λ (entry : Entry). entry.key),
      no_longer (keys (put_entry e old)) (keys left) (ascends_put e old up) ul on_left,
    )
    )
  where
    here : (x : Entry) → Among x (put_entry e old) → Among x left
    here x there =
        ⊎_elim (λ (first : Among x left). first) (λ (none : Among x []). absurd none)
        (among_cond (is_below x.key cut) left [] x
        (version_among (cond (is_below x.key cut) left []) x.key x (h.put x.key ∙ sym (put_of_one old e x.key) ∙ own_version (put_entry e old) x (ascends_put e old up) there))
        )

    on_left : (k : List ℕ) → Among k (keys (put_entry e old)) → Among k (keys left)
    on_left k there = let x = entry_among (put_entry e old) k there in subst (λ z. Among z (keys left)) x.2 (key_among left x.0 (here x.0 x.1))
