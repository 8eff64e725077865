-- How page states go on: a page is taken or given back.
use Rattle.std.proofs.Common.{◌≡◌, ◌≢◌, ◌∙◌, refl, sym, ap, subst, inl, inr, ⊎_elim, ℕ, ◌^◌, ◌<◌, Option, List, [], ◌∷◌, cond, eq-eqb, ne_eqb, arith}
use Rattle.std.proofs.lemmas.Bool.{cases_eq}
use Rattle.hc_base.specs.Lookup.{Among, but}
use Rattle.hc_base.proofs.Lookups.{but-same, but-other, each_but}
use Rattle.hc_base.specs.Words.{IsPageWord, page_word, map_word}
use Rattle.hc_base.specs.Layout.{HasContent}
use Rattle.hc_base.specs.declared.numbers.Tid.{Tid}
use Rattle.hc_base.specs.declared.page_word.PageWord.TheVariants as word
use Rattle.hc_base.specs.declared.map_word.MapWord.TheVariants as mapped
use Rattle.hc_rule.specs.declared.view.Role.{Role}
use Rattle.hc_rule.specs.declared.view.Role.TheVariants.{Connection}
use Rattle.hc_rule.specs.declared.view.Row.{Row}
use Rattle.hc_rule.specs.declared.view.Claim.{Claim}
use Rattle.hc_rule.specs.Hands.{row_of, without_page}
use Rattle.hc_rule.specs.Kinds.TakePage.{claim_of}
use Rattle.hc_rule.specs.States.{State, Free, Owned, Ready, Named, Replaced, Pending, Limbo, form_of, IsKept, IsOwnedBy, HasClaimed, IsStated}
use Rattle.hc_rule.specs.Reach.{IsReached}

-- the word 0 is that of a free page alone
pub free_is : (s : State) → page_word (form_of s) ≡ 0 → s ≡ Free
free_is Free is = refl
free_is (Owned seat next) is = absurd (omega (arith, is))
free_is (Ready seat number) is = absurd (omega (arith, is))
free_is (Named number) is = absurd (omega (arith, is))
free_is (Replaced seat number) is = absurd (omega (arith, is))
free_is (Pending seat next) is = absurd (omega (arith, is))
free_is (Limbo stamp) is = absurd (omega (arith, is))

-- an owned page is its owner's
pub is_owned : (s : State) (conn next : ℕ) → s ≡ Owned conn next → IsOwnedBy conn s
is_owned s conn next is = subst (λ x. IsOwnedBy conn x) (sym is) refl

-- a free page is in no hand, is not kept and has no name
pub free_not_owned : (conn : ℕ) (s : State) → s ≡ Free → IsOwnedBy conn s → ⊥
free_not_owned conn s free held = subst (λ x. IsOwnedBy conn x) free held

not_kept : (s : State) → s ≡ Free → IsKept s → ⊥
not_kept s free kept = subst (λ x. IsKept x) free kept

-- an owned page is neither kept nor named
pub owned_not_kept : (conn : ℕ) (s : State) → IsOwnedBy conn s → IsKept s → ⊥
owned_not_kept conn Free held kept = held
owned_not_kept conn (Owned seat next) held kept = kept
owned_not_kept conn (Ready seat number) held kept = held
owned_not_kept conn (Named number) held kept = held
owned_not_kept conn (Replaced seat number) held kept = held
owned_not_kept conn (Pending seat next) held kept = held
owned_not_kept conn (Limbo stamp) held kept = held

pub owned_not_named : (conn l : ℕ) (s : State) → IsOwnedBy conn s → s ≡ Named l → ⊥
owned_not_named conn l s held named = subst (λ x. IsOwnedBy conn x) named held

free_not_named : (l : ℕ) (s : State) → s ≡ Free → s ≡ Named l → ⊥
free_not_named l s free named = subst (λ x. IsKept x) free (subst (λ x. IsKept x) (sym named) tt)

-- one connection owns a page
one_owner : (a b : ℕ) (s : State) → IsOwnedBy a s → IsOwnedBy b s → a ≡ b
one_owner a b Free one other = absurd one
one_owner a b (Owned seat next) one other = sym one ∙ other
one_owner a b (Ready seat number) one other = absurd one
one_owner a b (Named number) one other = absurd one
one_owner a b (Replaced seat number) one other = absurd one
one_owner a b (Pending seat next) one other = absurd one
one_owner a b (Limbo stamp) one other = absurd one

-- a seat takes a free page
module _ (state : ℕ → State) (page map : ℕ → ℕ) (role : ℕ → Role) (hand : ℕ → List Row) (claims : ℕ → List Claim)
    (h : IsStated state page map role hand claims) (id p conn next : ℕ) (own : Option Tid) (words : List ℕ)
    (free : state p ≡ Free) (mine : role id ≡ Connection conn) (small : conn < 2 ^ 8) (short : next < 2 ^ 32) where
  abbrev after : ℕ → State
  after = but state p (Owned conn next)

  abbrev hands : ℕ → List Row
  hands = but hand id (row_of p next words ∷ hand id)

  same_state : (q : ℕ) → p ≢ q → after q ≡ state q
  same_state q differ = but-other state p q (Owned conn next) differ

  -- what was in a hand is there still, and what was claimed
  still : (i : ℕ) (x : Row) → Among x (hand i) → Among x (hands i)
  still i x there = each_but hand id (row_of p next words ∷ hand id) (λ j xs. Among x (hand j) → Among x xs) (λ was. inr was) (λ j differ was. was) i there

  still_claimed : (i q : ℕ) → HasClaimed q (claims i) → HasClaimed q (but claims id (claim_of own p ∷ claims id) i)
  still_claimed i q has = each_but claims id (claim_of own p ∷ claims id) (λ j xs. HasClaimed q (claims j) → HasClaimed q xs) (λ was. (was.0, inr was.1, was.2)) (λ j differ was. was) i has

  pub stated_take : IsStated (but state p (Owned conn next)) (but page p (page_word (word.Owned conn next))) map role (but hand id (row_of p next words ∷ hand id)) (but claims id (claim_of own p ∷ claims id))
  stated_take = record {
    form = each_but state p (Owned conn next) (λ q s. IsPageWord (form_of s)) (small, short) (λ q differ. h.form q);
    word = λ q.
        ⊎_elim
        (λ (same : p ≡ q). subst (λ n. but page p (page_word (word.Owned conn next)) n ≡ page_word (form_of (after n))) same
        (but-same page p (page_word (word.Owned conn next)) ∙ sym (ap (λ s. page_word (form_of s)) (but-same state p (Owned conn next)))))
        (λ differ. but-other page p q (page_word (word.Owned conn next)) differ ∙ (h.word q ∙ sym (ap (λ s. page_word (form_of s)) (same_state q differ))))
        (cases_eq p q);
    named = λ q l. each_but state p (Owned conn next) (λ n s. s ≡ Named l → map l ≡ map_word (mapped.Page (record { 0 = n })))
        (λ is. absurd (owned_not_named conn l (Owned conn next) refl is)) (λ n differ is. h.named n l is) q;
    names = λ q l is.
        ⊎_elim
        (λ (same : p ≡ q). absurd (free_not_named l (state q) (subst (λ n. state n ≡ Free) same free) (h.names q l is)))
        (λ differ. same_state q differ ∙ h.names q l is)
        (cases_eq p q);
    held = λ i x. each_but hand id (row_of p next words ∷ hand id) (λ j xs. Among x xs → (c : ℕ) × (role j ≡ Connection c) × (after x.page.0 ≡ Owned c x.next))
        (λ there. ⊎_elim
        (λ (new : x ≡ row_of p next words). (conn, mine, subst (λ (z : Row). after z.page.0 ≡ Owned conn z.next) (sym new) (but-same state p (Owned conn next))))
        (λ old. stays id x old)
        there)
        (λ j differ there. stays j x there)
        i;
    holder = λ q c. each_but state p (Owned conn next) (λ n s. IsOwnedBy c s → (i : ℕ) × (x : Row) × (role i ≡ Connection c) × Among x (hands i) × (x.page.0 ≡ n))
        (λ is. (id, row_of p next words, subst (λ k. role id ≡ Connection k) is mine, subst (λ xs. Among (row_of p next words) xs) (sym (but-same hand id (row_of p next words ∷ hand id))) (inl refl), refl))
        (λ n differ is. let was = h.holder n c is in (was.0, was.1, was.2, still was.0 was.1 was.3, was.4))
        q;
    claimed = λ q. each_but state p (Owned conn next) (λ n s. 2 < n → s ≢ Free → (i : ℕ) × HasClaimed n (but claims id (claim_of own p ∷ claims id) i))
        (λ far taken. (id, subst (λ xs. HasClaimed p xs) (sym (but-same claims id (claim_of own p ∷ claims id))) (claim_of own p, inl refl, refl)))
        (λ n differ far taken. let was = h.claimed n far taken in (was.0, still_claimed was.0 n was.1))
        q;
  }
    where
      stays : (j : ℕ) (x : Row) → Among x (hand j) → (c : ℕ) × (role j ≡ Connection c) × (after x.page.0 ≡ Owned c x.next)
      stays j x there =
          let was = h.held j x there in (
            was.0,
            was.1,
            ⊎_elim
                (λ (same : p ≡ x.page.0). absurd (free_not_owned was.0 (state x.page.0) (subst (λ n. state n ≡ Free) same free) (is_owned (state x.page.0) was.0 x.next was.2)))
                (λ differ. same_state x.page.0 differ ∙ was.2)
                (cases_eq p x.page.0),
          )

  -- and what may be reached is as it was
  pub reached_take : (rows : ℕ → List ℕ) (loaded : ℕ → List Row) → IsReached state rows loaded hand → rows p ≡ words → IsReached (but state p (Owned conn next)) rows loaded (but hand id (row_of p next words ∷ hand id))
  reached_take rows loaded r as_found = record {
    stays = λ i x there.
        let was = r.stays i x there in (
          ⊎_elim
              (λ (same : p ≡ x.page.0). absurd (not_kept (state x.page.0) (subst (λ n. state n ≡ Free) same free) was.0))
              (λ differ. subst (λ s. IsKept s) (sym (same_state x.page.0 differ)) was.0)
              (cases_eq p x.page.0),
          was.1,
        );
    written = λ i x. each_but hand id (row_of p next words ∷ hand id) (λ j xs. Among x xs → rows x.page.0 ≡ x.words)
        (λ there. ⊎_elim (λ (new : x ≡ row_of p next words). subst (λ (z : Row). rows z.page.0 ≡ z.words) (sym new) as_found) (λ old. r.written id x old) there)
        (λ j differ there. r.written j x there)
        i;
    content = each_but state p (Owned conn next) (λ q s. IsKept s → HasContent (rows q)) (λ none. absurd none) (λ q differ kept. r.content q kept);
  }

-- what is left of a hand was there, and is another page
among_left : (p : ℕ) (x : Row) (xs : List Row) → Among x (without_page p xs) → Among x xs × (p ≢ x.page.0)
among_left p x [] there = absurd there
among_left p x (z ∷ zs) there =
    ⊎_elim
    (λ (same : z.page.0 ≡ p). let was = among_left p x zs (subst (λ b. Among x (cond b (without_page p zs) (z ∷ without_page p zs))) (eq-eqb z.page.0 p same) there) in (inr was.0, was.1))
    (λ (differ : z.page.0 ≢ p). ⊎_elim
    (λ (is : x ≡ z). (inl is, λ same. differ (sym (same ∙ ap (λ (w : Row). w.page.0) is))))
    (λ later. let was = among_left p x zs later in (inr was.0, was.1))
    (subst (λ b. Among x (cond b (without_page p zs) (z ∷ without_page p zs))) (ne_eqb z.page.0 p differ) there))
    (cases_eq z.page.0 p)

-- another page is left
pub left_among : (p : ℕ) (x : Row) (xs : List Row) → Among x xs → p ≢ x.page.0 → Among x (without_page p xs)
left_among p x [] there differ = absurd there
left_among p x (z ∷ zs) there differ =
    ⊎_elim
    (λ (same : z.page.0 ≡ p). subst (λ b. Among x (cond b (without_page p zs) (z ∷ without_page p zs))) (sym (eq-eqb z.page.0 p same))
    (⊎_elim (λ (is : x ≡ z). absurd (differ (sym (ap (λ (w : Row). w.page.0) is ∙ same)))) (λ later. left_among p x zs later differ) there))
    (λ (other : z.page.0 ≢ p). subst (λ b. Among x (cond b (without_page p zs) (z ∷ without_page p zs))) (sym (ne_eqb z.page.0 p other))
    (⊎_elim (λ (is : x ≡ z). inl is) (λ later. inr (left_among p x zs later differ)) there))
    (cases_eq z.page.0 p)

-- a seat gives a page back
module _ (state : ℕ → State) (page map : ℕ → ℕ) (role : ℕ → Role) (hand : ℕ → List Row) (claims : ℕ → List Claim)
    (h : IsStated state page map role hand claims) (id p conn : ℕ) (owned : IsOwnedBy conn (state p)) (mine : role id ≡ Connection conn)
    (apart : (i j c : ℕ) → role i ≡ Connection c → role j ≡ Connection c → i ≡ j) where
  -- no other seat has it
  pub elsewhere : (i : ℕ) (x : Row) → id ≢ i → Among x (hand i) → p ≢ x.page.0
  elsewhere i x differ there same =
      let was = h.held i x there in
      let who : conn ≡ was.0 = one_owner conn was.0 (state x.page.0) (subst (λ n. IsOwnedBy conn (state n)) same owned) (is_owned (state x.page.0) was.0 x.next was.2) in
      differ (apart id i was.0 (subst (λ c. role id ≡ Connection c) who mine) was.1)

  stays_owned : (c : ℕ) (x : Row) → p ≢ x.page.0 → state x.page.0 ≡ Owned c x.next → but state p Free x.page.0 ≡ Owned c x.next
  stays_owned c x differ is = but-other state p x.page.0 Free differ ∙ is

  pub stated_free : IsStated (but state p Free) (but page p (page_word word.Free)) map role (but hand id (without_page p (hand id))) claims
  stated_free = record {
    form = each_but state p Free (λ q s. IsPageWord (form_of s)) tt (λ q differ. h.form q);
    word = λ q.
        ⊎_elim
        (λ (same : p ≡ q). subst (λ n. but page p (page_word word.Free) n ≡ page_word (form_of (but state p Free n))) same
        (but-same page p (page_word word.Free) ∙ sym (ap (λ s. page_word (form_of s)) (but-same state p Free))))
        (λ differ. but-other page p q (page_word word.Free) differ ∙ (h.word q ∙ sym (ap (λ s. page_word (form_of s)) (but-other state p q Free differ))))
        (cases_eq p q);
    named = λ q l. each_but state p Free (λ n s. s ≡ Named l → map l ≡ map_word (mapped.Page (record { 0 = n })))
        (λ is. absurd (free_not_named l Free refl is)) (λ n differ is. h.named n l is) q;
    names = λ q l is.
        ⊎_elim
        (λ (same : p ≡ q). absurd (owned_not_named conn l (state q) (subst (λ n. IsOwnedBy conn (state n)) same owned) (h.names q l is)))
        (λ differ. but-other state p q Free differ ∙ h.names q l is)
        (cases_eq p q);
    held = λ i x.
        ⊎_elim
        (λ (same : id ≡ i). subst (λ j. Among x (but hand id (without_page p (hand id)) j) → (c : ℕ) × (role j ≡ Connection c) × (but state p Free x.page.0 ≡ Owned c x.next)) same
        (λ there.
        let left = among_left p x (hand id) (subst (Among x) (but-same hand id (without_page p (hand id))) there) in
        let was = h.held id x left.0 in (was.0, was.1, stays_owned was.0 x left.1 was.2)))
        (λ differ there.
        let old = subst (Among x) (but-other hand id i (without_page p (hand id)) differ) there in
        let was = h.held i x old in (was.0, was.1, stays_owned was.0 x (elsewhere i x differ old) was.2))
        (cases_eq id i);
    holder = λ q c. each_but state p Free (λ n s. IsOwnedBy c s → (i : ℕ) × (x : Row) × (role i ≡ Connection c) × Among x (but hand id (without_page p (hand id)) i) × (x.page.0 ≡ n))
        (λ none. absurd none)
        (λ n differ is.
        let was = h.holder n c is in (
          was.0,
          was.1,
          was.2,
          each_but hand id (without_page p (hand id)) (λ j xs. Among was.1 (hand j) → Among was.1 xs) (λ there. left_among p was.1 (hand id) there (λ same. differ (same ∙ was.4))) (λ j other there. there) was.0 was.3,
          was.4,
        ))
        q;
    claimed = λ q. each_but state p Free (λ n s. 2 < n → s ≢ Free → (i : ℕ) × HasClaimed n (claims i)) (λ far taken. absurd (taken refl)) (λ n differ far taken. h.claimed n far taken) q;
  }

  pub reached_free : (rows : ℕ → List ℕ) (loaded : ℕ → List Row) → IsReached state rows loaded hand → IsReached (but state p Free) rows loaded (but hand id (without_page p (hand id)))
  reached_free rows loaded r = record {
    stays = λ i x there.
        let was = r.stays i x there in
        (each_but state p Free (λ n s. IsKept (state n) → IsKept s) (λ kept. absurd (owned_not_kept conn (state p) owned kept)) (λ n differ kept. kept) x.page.0 was.0, was.1);
    written = λ i x. each_but hand id (without_page p (hand id)) (λ j xs. Among x xs → rows x.page.0 ≡ x.words)
        (λ there. r.written id x (among_left p x (hand id) there).0) (λ j differ there. r.written j x there) i;
    content = each_but state p Free (λ q s. IsKept s → HasContent (rows q)) (λ none. absurd none) (λ q differ kept. r.content q kept);
  }

-- Other seats are there, and each that was a connection's still is it; nothing is in another hand.
pub stated_seats : (state : ℕ → State) (page map : ℕ → ℕ) (role role_2 : ℕ → Role) (hand hand_2 : ℕ → List Row) (claims claims_2 : ℕ → List Claim)
    → ((i c : ℕ) → role i ≡ Connection c → role_2 i ≡ Connection c) → ((i : ℕ) (x : Row) → Among x (hand_2 i) → Among x (hand i)) → ((i : ℕ) (x : Row) → Among x (hand i) → Among x (hand_2 i))
    → ((i q : ℕ) → HasClaimed q (claims i) → HasClaimed q (claims_2 i)) → IsStated state page map role hand claims → IsStated state page map role_2 hand_2 claims_2
stated_seats state page map role role_2 hand hand_2 claims claims_2 roles back there claimed h = record {
  form = h.form;
  word = h.word;
  named = h.named;
  names = h.names;
  held = λ i x in_hand. let was = h.held i x (back i x in_hand) in (was.0, roles i was.0 was.1, was.2);
  holder = λ q c is. let was = h.holder q c is in (was.0, was.1, roles was.0 c was.2, there was.0 was.1 was.3, was.4);
  claimed = λ q far taken. let was = h.claimed q far taken in (was.0, claimed was.0 q was.1);
}

pub reached_seats : (state : ℕ → State) (row : ℕ → List ℕ) (loaded loaded_2 hand hand_2 : ℕ → List Row)
    → ((i : ℕ) (x : Row) → Among x (loaded_2 i) → Among x (loaded i)) → ((i : ℕ) (x : Row) → Among x (hand_2 i) → Among x (hand i)) → IsReached state row loaded hand → IsReached state row loaded_2 hand_2
reached_seats state row loaded loaded_2 hand hand_2 loads back h = record {
  stays = λ i x there. h.stays i x (loads i x there);
  written = λ i x there. h.written i x (back i x there);
  content = h.content;
}
