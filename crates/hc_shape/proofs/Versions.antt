-- What a put, a cut and an unput change of the versions of keys.
use Rattle.std.proofs.Common.{◌≡◌, ◌↔◌, refl, sym, ap, ◌∙◌, subst, ℕ, Bool, true, false, cond, ◌||◌, not, List, [], ◌∷◌, ◌++◌, Option, Some, None, inl, inr}
use Rattle.std.specs.List.{All, filter}
use Rattle.std.proofs.lemmas.Bool.{cases_Bool, true≢false}
use Rattle.std.proofs.lemmas.List.Elements.{All-head, All-tail}
use Rattle.hc_range.specs.Order.{is_below, IsAtMost, IsBelow}
use Rattle.hc_range.proofs.ByteOrder.{below_irrefl, below_flip, below_at_most, same_from_neither, order_total}
use Rattle.hc_base.specs.Content.{Ascends, Entry, keys}
use Rattle.hc_base.specs.Lookup.{Among}
use Rattle.hc_page.specs.Puts.{put_entry}
use Rattle.hc_shape.specs.Versions.{but_key, HasPut, HasPutHalved, HasUnput, is_same_key, version_of}

key_itself : (a : List ℕ) → is_same_key a a ≡ true
unfolding is_same_key
key_itself a = rw below_irrefl refl

key_below : (a b : List ℕ) → is_below a b ≡ true → is_same_key a b ≡ false
unfolding is_same_key
key_below a b h = rw h refl

key_above : (a b : List ℕ) → is_below b a ≡ true → is_same_key a b ≡ false
unfolding is_same_key
key_above a b h = rw (below_flip b a h) (rw h refl)

key_same : (a b : List ℕ) → is_same_key a b ≡ true → a ≡ b
unfolding is_same_key
key_same a b h =
    elim (cases_Bool (is_below a b)) [
      | inl less ↦ absurd (true≢false (sym h ∙ ap (λ x. not (x || is_below b a)) less))
      | inr not_less ↦ elim (cases_Bool (is_below b a)) [
        | inl more ↦ absurd (true≢false (sym h ∙ ap (λ x. not (x || is_below b a)) not_less ∙ ap not more))
        | inr not_more ↦ same_from_neither a b not_less not_more
      ]
    ]

pub but_key-other : {A : Type 0} (f : List ℕ → A) (at : List ℕ) (x : A) (key : List ℕ) → is_same_key at key ≡ false → but_key f at x key ≡ f key
unfolding but_key
but_key-other f at x key h = ap (λ b. cond b x (f key)) h

but_key-same : {A : Type 0} (f : List ℕ → A) (at : List ℕ) (x : A) (key : List ℕ) → is_same_key at key ≡ true → but_key f at x key ≡ x
unfolding but_key
but_key-same f at x key h = ap (λ b. cond b x (f key)) h

-- the first, or else the second
abbrev or_else : Option Entry → Option Entry → Option Entry
or_else None other = other
or_else (Some e) other = Some e

or_none : (o : Option Entry) → or_else o None ≡ o
or_none None = refl
or_none (Some e) = refl

-- of two lists one after the other, the first that has the key
in_both : (xs ys : List Entry) (key : List ℕ) → version_of (xs ++ ys) key ≡ or_else (version_of xs key) (version_of ys key)
in_both [] ys key = refl
in_both (x ∷ xs) ys key =
    elim (cases_Bool (is_same_key x.key key)) [ inl same ↦ rw same refl | inr other ↦ rw other (in_both xs ys key) ]

-- a list in which no entry has the key
absent : (key : List ℕ) (P : Entry → Type 0) → ((x : Entry) → P x → is_same_key x.key key ≡ false) → (xs : List Entry) → All P xs → version_of xs key ≡ None
absent key P apart [] all = refl
absent key P apart (x ∷ xs) all = rw (apart x (All-head P x xs all)) (absent key P apart xs (All-tail P x xs all))

-- a filter that keeps the entries of a key, and one that drops them
kept : (p : Entry → Bool) (key : List ℕ) → ((x : Entry) → is_same_key x.key key ≡ true → p x ≡ true) → (es : List Entry) → version_of (filter p es) key ≡ version_of es key
kept p key keeps [] = refl
kept p key keeps (x ∷ es) =
    elim (cases_Bool (is_same_key x.key key)) [
      | inl same ↦ rw (keeps x same) (rw same refl)
      | inr other ↦ elim (cases_Bool (p x)) [ inl passes ↦ rw passes (rw other (kept p key keeps es)) | inr fails ↦ rw fails (rw other (kept p key keeps es)) ]
    ]

dropped : (p : Entry → Bool) (key : List ℕ) → ((x : Entry) → is_same_key x.key key ≡ true → p x ≡ false) → (es : List Entry) → version_of (filter p es) key ≡ None
dropped p key drops [] = refl
dropped p key drops (x ∷ es) =
    elim (cases_Bool (p x)) [
      | inl passes ↦ elim (cases_Bool (is_same_key x.key key)) [
        | inl same ↦ absurd (true≢false (sym passes ∙ drops x same))
        | inr other ↦ rw passes (rw other (dropped p key drops es))
      ]
      | inr fails ↦ rw fails (dropped p key drops es)
    ]

module _ (es : List Entry) (e : Entry) (key : List ℕ) where
  abbrev lesser : Entry → Bool
  lesser x = is_below x.key e.key

  abbrev greater : Entry → Bool
  greater x = is_below e.key x.key

  -- what holds of the key holds of the key of each entry of it
  of_key : (P : List ℕ → Type 0) → P key → (x : Entry) → is_same_key x.key key ≡ true → P x.key
  of_key P h x same = subst P (sym (key_same x.key key same)) h

  parts : (l : Option Entry) (b : Bool) (g : Option Entry) → version_of (filter lesser es) key ≡ l → is_same_key e.key key ≡ b → version_of (filter greater es) key ≡ g
      → version_of (put_entry e es) key ≡ or_else l (cond b (Some e) g)
  parts l b g is_l is_b is_g = in_both (filter lesser es) (e ∷ filter greater es) key ∙ rw (is_l, is_b, is_g) refl

  below : is_below key e.key ≡ true → version_of (put_entry e es) key ≡ but_key (version_of es) e.key (Some e) key
  below less =
      let other : is_same_key e.key key ≡ false = key_above e.key key less in
      parts (version_of es key) false None (kept lesser key (of_key (λ k. is_below k e.key ≡ true) less) es) other
      (dropped greater key (of_key (λ k. is_below e.key k ≡ false) (below_flip key e.key less)) es)
      ∙ or_none (version_of es key) ∙ sym (but_key-other (version_of es) e.key (Some e) key other)

  own : e.key ≡ key → version_of (put_entry e es) key ≡ but_key (version_of es) e.key (Some e) key
  own is =
      let same : is_same_key e.key key ≡ true = subst (λ k. is_same_key e.key k ≡ true) is (key_itself e.key) in
      parts None true (version_of (filter greater es) key)
      (dropped lesser key (of_key (λ k. is_below k e.key ≡ false) (subst (λ k. is_below k e.key ≡ false) is (below_irrefl e.key))) es) same refl
      ∙ sym (but_key-same (version_of es) e.key (Some e) key same)

  above : is_below e.key key ≡ true → version_of (put_entry e es) key ≡ but_key (version_of es) e.key (Some e) key
  above more =
      let other : is_same_key e.key key ≡ false = key_below e.key key more in
      parts None false (version_of es key) (dropped lesser key (of_key (λ k. is_below k e.key ≡ false) (below_flip e.key key more)) es) other
      (kept greater key (of_key (λ k. is_below e.key k ≡ true) more) es)
      ∙ sym (but_key-other (version_of es) e.key (Some e) key other)

pub put_of_one : (es : List Entry) (e : Entry) → HasPut es (put_entry e es) e
put_of_one es e key =
    elim (order_total e.key key) [
      | inl more ↦ above es e key more
      | inr rest ↦ elim rest [ inl is ↦ own es e key is | inr less ↦ below es e key less ]
    ]

-- a list that is cut where its keys pass the cut
parted : (left right : List Entry) (cut key : List ℕ) → All (λ x. IsBelow x.key cut) left → All (λ x. IsAtMost cut x.key) right
    → version_of (cond (is_below key cut) left right) key ≡ version_of (left ++ right) key
parted left right cut key lefts rights =
    elim (cases_Bool (is_below key cut)) [
      | inl below ↦
          let none : version_of right key ≡ None =
          absent key (λ x. IsAtMost cut x.key) (λ x at_most. key_above x.key key (below_at_most key cut x.key below at_most)) right rights in
          rw below (sym (in_both left right key ∙ rw none (or_none (version_of left key))))
      | inr from ↦
          let none : version_of left key ≡ None =
          absent key (λ x. IsBelow x.key cut) (λ x less. key_below x.key key (below_at_most x.key cut key less from)) left lefts in
          rw from (sym (in_both left right key ∙ rw none refl))
    ]

pub cut_of_one : (old left right : List Entry) (cut : List ℕ) (e : Entry) → All (λ x. IsBelow x.key cut) left → All (λ x. IsAtMost cut x.key) right
    → left ++ right ≡ put_entry e old → HasPutHalved old left right cut e
cut_of_one old left right cut e lefts rights is = record {
  below = lefts;
  from = rights;
  put = λ key. parted left right cut key lefts rights ∙ ap (λ xs. version_of xs key) is ∙ put_of_one old e key;
}

pub unput_of_one : (before after : List Entry) (e : Entry) → All (λ x. IsBelow x.key e.key) before → All (λ x. IsBelow e.key x.key) after
    → HasUnput (before ++ (e ∷ after)) (before ++ after) e.key None
unput_of_one before after e befores afters key =
    elim (cases_Bool (is_same_key e.key key)) [
      | inl same ↦
          let is : e.key ≡ key = key_same e.key key same in
          let none_before : version_of before key ≡ None =
          absent key (λ x. IsBelow x.key e.key) (λ x less. key_below x.key key (subst (λ k. is_below x.key k ≡ true) is less)) before befores in
          let none_after : version_of after key ≡ None =
          absent key (λ x. IsBelow e.key x.key) (λ x more. key_above x.key key (subst (λ k. is_below k x.key ≡ true) is more)) after afters in
          in_both before after key ∙ rw (none_before, none_after) refl
          ∙ sym (but_key-same (version_of (before ++ (e ∷ after))) e.key None key same)
      | inr other ↦
          in_both before after key ∙ sym (in_both before (e ∷ after) key ∙ rw other refl)
          ∙ sym (but_key-other (version_of (before ++ (e ∷ after))) e.key None key other)
    ]

pub same_is_one : (a b : List ℕ) → (is_same_key a b ≡ true) ↔ (a ≡ b)
same_is_one a b = (key_same a b, λ one. subst (λ k. is_same_key a k ≡ true) one (key_itself a))

-- each later key is above
above_first : (k : List ℕ) (es : List Entry) (e : Entry) → All (λ other. IsBelow k other) (keys es) → Among e es → IsBelow k e.key
above_first k [] e all there = absurd there
above_first k (x ∷ es) e all (inl is) = subst (λ y. IsBelow k y.key) (sym is) (All-head (λ other. IsBelow k other) x.key (keys es) all)
above_first k (x ∷ es) e all (inr later) = above_first k es e (All-tail (λ other. IsBelow k other) x.key (keys es) all) later

pub own_version : (es : List Entry) (e : Entry) → Ascends (keys es) → Among e es → version_of es e.key ≡ Some e
own_version [] e up there = absurd there
own_version (x ∷ es) e up (inl is) = subst (λ y. version_of (x ∷ es) y.key ≡ Some y) (sym is) (rw key_itself refl)
own_version (x ∷ es) e up (inr later) = rw (key_below x.key e.key (above_first x.key es e up.0 later)) (own_version es e up.1 later)
