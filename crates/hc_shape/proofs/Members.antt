-- What is in a list after a filter, a put, an unput and a halving.
use Rattle.std.proofs.Common.{◌≡◌, refl, sym, ap, ◌∙◌, subst, ℕ, Bool, true, false, cond, List, [], ◌∷◌, ◌++◌, Option, Some, None, inl, inr, ◌⊎◌, ⊎_elim}
use Rattle.std.specs.List.{All, filter}
use Rattle.std.proofs.lemmas.Bool.{cond_both}
use Rattle.std.proofs.lemmas.List.Elements.{All-cons, All-head, All-nil, All-tail}
use Rattle.hc_range.specs.Order.{is_below, IsAtMost, IsBelow}
use Rattle.hc_range.proofs.ByteOrder.{order_total}
use Rattle.hc_base.specs.Content.{Ascends, Entry, keys, OfSome}
use Rattle.hc_base.specs.Lookup.{Among}
use Rattle.hc_page.specs.Puts.{put_entry}
use Rattle.hc_shape.specs.Halves.{IsSmall}
use Rattle.hc_shape.specs.Versions.{but_key, HasPutHalved, HasUnput, is_same_key, version_of}
use Rattle.hc_shape.proofs.Versions.{own_version}

-- two options with something in them are the same where these are
pub some_is : {A : Type 0} (x y : A) → Some x ≡ Some y → x ≡ y
some_is x y e = cc

-- what is in one of two lists, by a test
pub among_cond : {A : Type 0} (b : Bool) (xs ys : List A) (x : A) → Among x (cond b xs ys) → Among x xs ⊎ Among x ys
among_cond true xs ys x there = inl there
among_cond false xs ys x there = inr there

-- what holds of all holds of each, and the other way
pub all_among : {A : Type 0} (P : A → Type 0) (xs : List A) (x : A) → All P xs → Among x xs → P x
all_among P [] x all there = absurd there
all_among P (y ∷ ys) x all (inl is) = subst P (sym is) (All-head P y ys all)
all_among P (y ∷ ys) x all (inr later) = all_among P ys x (All-tail P y ys all) later

pub each_all : {A : Type 0} (P : A → Type 0) (xs : List A) → ((x : A) → Among x xs → P x) → All P xs
each_all P [] each = All-nil P
each_all P (x ∷ xs) each = All-cons P x xs (each x (inl refl)) (each_all P xs (λ y there. each y (inr there)))

-- what is in two lists together
pub among_both : {A : Type 0} (xs ys : List A) (x : A) → Among x (xs ++ ys) → Among x xs ⊎ Among x ys
among_both [] ys x there = inr there
among_both (y ∷ xs) ys x (inl is) = inl (inl is)
among_both (y ∷ xs) ys x (inr later) = ⊎_elim (λ (first : Among x xs). inl (inr first)) (λ (second : Among x ys). inr second) (among_both xs ys x later)

pub in_first : {A : Type 0} (xs ys : List A) (x : A) → Among x xs → Among x (xs ++ ys)
in_first [] ys x there = absurd there
in_first (y ∷ xs) ys x (inl is) = inl is
in_first (y ∷ xs) ys x (inr later) = inr (in_first xs ys x later)

pub in_second : {A : Type 0} (xs ys : List A) (x : A) → Among x ys → Among x (xs ++ ys)
in_second [] ys x there = there
in_second (y ∷ xs) ys x there = inr (in_second xs ys x there)

-- with one more in front
on_tail : {A : Type 0} (e x : A) (xs ys : List A) → (Among x xs → Among x ys) → Among x (e ∷ xs) → Among x (e ∷ ys)
on_tail e x xs ys on (inl is) = inl is
on_tail e x xs ys on (inr later) = inr (on later)

-- a filter adds nothing, and keeps what passes
pub among_filter : (p : Entry → Bool) (es : List Entry) (x : Entry) → Among x (filter p es) → Among x es
among_filter p [] x there = there
among_filter p (e ∷ es) x there =
    ⊎_elim (λ (kept : Among x (e ∷ filter p es)). on_tail e x (filter p es) es (λ later. among_filter p es x later) kept)
    (λ (later : Among x (filter p es)). inr (among_filter p es x later)) (among_cond (p e) (e ∷ filter p es) (filter p es) x there)

pub filter_has : (p : Entry → Bool) (es : List Entry) (x : Entry) → p x ≡ true → Among x es → Among x (filter p es)
filter_has p [] x passes there = there
filter_has p (e ∷ es) x passes (inl is) =
    subst (λ b. Among x (cond b (e ∷ filter p es) (filter p es))) (sym (subst (λ y. p y ≡ true) is passes)) (inl is)
filter_has p (e ∷ es) x passes (inr later) =
    cond_both (p e) (e ∷ filter p es) (filter p es) (λ ys. Among x ys) (λ kept. inr (filter_has p es x passes later)) (λ gone. filter_has p es x passes later)

-- keys of entries
pub key_among : (es : List Entry) (x : Entry) → Among x es → Among x.key (keys es)
key_among [] x there = absurd there
key_among (e ∷ es) x (inl is) = inl (ap (λ (y : Entry). y.key) is)
key_among (e ∷ es) x (inr later) = inr (key_among es x later)

pub entry_among : (es : List Entry) (key : List ℕ) → Among key (keys es) → (x : Entry) × Among x es × (x.key ≡ key)
entry_among [] key there = absurd there
entry_among (e ∷ es) key (inl is) = (e, inl refl, sym is)
entry_among (e ∷ es) key (inr later) = let x = entry_among es key later in (x.0, inr x.1, x.2)

-- after a put: the entry and old ones, and each old key
pub put_among : (e : Entry) (es : List Entry) (x : Entry) → Among x (put_entry e es) → (x ≡ e) ⊎ Among x es
put_among e es x there =
    ⊎_elim (λ (lesser : Among x (filter (λ y. is_below y.key e.key) es)). inr (among_filter (λ y. is_below y.key e.key) es x lesser))
    (λ (rest : Among x (e ∷ filter (λ y. is_below e.key y.key) es)). own_or_greater rest)
    (among_both (filter (λ y. is_below y.key e.key) es) (e ∷ filter (λ y. is_below e.key y.key) es) x there)
  where
    own_or_greater : Among x (e ∷ filter (λ y. is_below e.key y.key) es) → (x ≡ e) ⊎ Among x es
    own_or_greater (inl is) = inl is
    own_or_greater (inr later) = inr (among_filter (λ y. is_below e.key y.key) es x later)

module _ (e : Entry) (es : List Entry) (key : List ℕ) where
  abbrev lesser : List Entry
  lesser = filter (λ y. is_below y.key e.key) es

  abbrev greater : List Entry
  greater = filter (λ y. is_below e.key y.key) es

  found : (y : Entry) → Among y (put_entry e es) → y.key ≡ key → Among key (keys (put_entry e es))
  found y among is = subst (λ k. Among k (keys (put_entry e es))) is (key_among (put_entry e es) y among)

  pub put_has : Among key (keys es) → Among key (keys (put_entry e es))
  put_has there =
      let x = entry_among es key there in
      elim (order_total x.0.key e.key) [
        | inl less ↦ found x.0 (in_first lesser (e ∷ greater) x.0 (filter_has (λ y. is_below y.key e.key) es x.0 less x.1)) x.2
        | inr rest ↦ elim rest [
          | inl is ↦ found e (in_second lesser (e ∷ greater) e (inl refl)) (sym is ∙ x.2)
          | inr more ↦ found x.0 (in_second lesser (e ∷ greater) x.0 (inr (filter_has (λ y. is_below e.key y.key) es x.0 more x.1))) x.2
        ]
      ]

-- the version of a key is one of the entries
either_is : (b : Bool) (o v : Option Entry) (x : Entry) → cond b o v ≡ Some x → (o ≡ Some x) ⊎ (v ≡ Some x)
either_is true o v x h = inl h
either_is false o v x h = inr h

pub version_among : (es : List Entry) (key : List ℕ) (x : Entry) → version_of es key ≡ Some x → Among x es
version_among [] key x h = absurd (none h)
  where
    none : None ≡ Some x → ⊥
    none e = cc
version_among (e ∷ es) key x h =
    ⊎_elim (λ (is : Some e ≡ Some x). inl (sym (some_is e x is))) (λ (later : version_of es key ≡ Some x). inr (version_among es key x later))
    (either_is (is_same_key e.key key) (Some e) (version_of es key) x h)

but_among : (es : List Entry) (at : List ℕ) (o : Option Entry) (key : List ℕ) (x : Entry) → but_key (version_of es) at o key ≡ Some x → (o ≡ Some x) ⊎ Among x es
unfolding but_key
but_among es at o key x h =
    ⊎_elim (λ (own : o ≡ Some x). inl own) (λ (old : version_of es key ≡ Some x). inr (version_among es key x old))
    (either_is (is_same_key at key) o (version_of es key) x h)

-- so each entry of a leaf after a change of one key is the new one of that key, or an old one
pub of_change : (old new : List Entry) (at : List ℕ) (o : Option Entry) → HasUnput old new at o → Ascends (keys new) → (x : Entry) → Among x new → (o ≡ Some x) ⊎ Among x old
of_change old new at o change up x there = but_among old at o x.key x (sym (change x.key) ∙ own_version new x up there)

-- and each entry of the halves
module _ (old left right : List Entry) (cut : List ℕ) (e : Entry) (h : HasPutHalved old left right cut e) where
  side : (b : Bool) (x : Entry) → is_below x.key cut ≡ b → version_of (cond b left right) x.key ≡ Some x → (Some e ≡ Some x) ⊎ Among x old
  side b x is own = but_among old e.key (Some e) x.key x (sym (subst (λ c. version_of (cond c left right) x.key ≡ but_key (version_of old) e.key (Some e) x.key) is (h.put x.key)) ∙ own)

  pub of_left : Ascends (keys left) → (x : Entry) → Among x left → (Some e ≡ Some x) ⊎ Among x old
  of_left up x there = side true x (all_among (λ y. IsBelow y.key cut) left x h.below there) (own_version left x up there)

  pub of_right : Ascends (keys right) → (x : Entry) → Among x right → (Some e ≡ Some x) ⊎ Among x old
  of_right up x there = side false x (all_among (λ y. IsAtMost cut y.key) right x h.from there) (own_version right x up there)

-- small entries stay small
pub small_of : (old new : List Entry) (o : Option Entry) → ((x : Entry) → Among x new → (o ≡ Some x) ⊎ Among x old) → OfSome IsSmall o → All IsSmall old → All IsSmall new
small_of old new o from own small =
    each_all IsSmall new
    (λ x there. ⊎_elim (λ (is : o ≡ Some x). subst (λ p. OfSome IsSmall p) is own) (λ (was : Among x old). all_among IsSmall old x small was) (from x there))
