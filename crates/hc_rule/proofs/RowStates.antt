-- How a row that a seat owns goes on: a word of it is stored, or its page names another next one.
use Rattle.std.proofs.Common.{◌≡◌, ◌≢◌, ◌∙◌, refl, sym, ap, subst, inl, inr, ◌⊎◌, ⊎_elim, ℕ, ◌^◌, ◌<◌, List, [], ◌∷◌, cond, eqb, eq-eqb, ne_eqb, set}
use Rattle.std.proofs.lemmas.Bool.{cases_eq}
use Rattle.hc_base.specs.Layout.{HasContent}
use Rattle.hc_base.specs.Lookup.{Among, but}
use Rattle.hc_base.proofs.Lookups.{but-same, but-other, each_but}
use Rattle.hc_base.specs.Words.{IsPageWord, page_word, map_word}
use Rattle.hc_base.specs.declared.page_word.PageWord.TheVariants as word
use Rattle.hc_base.specs.declared.map_word.MapWord.TheVariants as mapped
use Rattle.hc_rule.specs.declared.view.Role.{Role}
use Rattle.hc_rule.specs.declared.view.Role.TheVariants.{Connection}
use Rattle.hc_rule.specs.declared.view.Row.{Row}
use Rattle.hc_rule.specs.declared.view.Claim.{Claim}
use Rattle.hc_rule.specs.Hands.{changed, set_next, set_word}
use Rattle.hc_rule.specs.States.{State, Free, Owned, Named, form_of, IsKept, IsOwnedBy, HasClaimed, IsStated}
use Rattle.hc_rule.specs.Reach.{IsReached}
use Rattle.hc_rule.proofs.PageStates.{elsewhere, owned_not_kept, owned_not_named, free_not_owned}

-- what a row was before those of the page were changed
Was : ℕ → (Row → Row) → Row → Row → Type 0
Was p f x z = (z.page.0 ≡ x.page.0) × (((p ≡ z.page.0) × (x ≡ f z)) ⊎ ((p ≢ z.page.0) × (x ≡ z)))

-- the change leaves each row its page
module _ (p : ℕ) (f : Row → Row) (page_stays : (z : Row) → (f z).page.0 ≡ z.page.0) where
  row_was : (z x : Row) → x ≡ cond (eqb z.page.0 p) (f z) z → Was p f x z
  unfolding Was
  row_was z x is =
      ⊎_elim
      (λ (same : z.page.0 ≡ p).
      let now : x ≡ f z = is ∙ ap (λ b. cond b (f z) z) (eq-eqb z.page.0 p same) in
      (sym (ap (λ (r : Row). r.page.0) now ∙ page_stays z), inl (sym same, now)))
      (λ (differ : z.page.0 ≢ p).
      let now : x ≡ z = is ∙ ap (λ b. cond b (f z) z) (ne_eqb z.page.0 p differ) in
      (sym (ap (λ (r : Row). r.page.0) now), inr (λ same. differ (sym same), now)))
      (cases_eq z.page.0 p)

  among_before : (x : Row) (xs : List Row) → Among x (changed p f xs) → (z : Row) × Among z xs × Was p f x z
  among_before x [] there = absurd there
  among_before x (z ∷ zs) there =
      ⊎_elim
      (λ (is : x ≡ cond (eqb z.page.0 p) (f z) z). (z, inl refl, row_was z x is))
      (λ later. let was = among_before x zs later in (was.0, inr was.1, was.2))
      there

  pub among_after : (z : Row) (xs : List Row) → Among z xs → (x : Row) × Among x (changed p f xs) × (x.page.0 ≡ z.page.0)
  unfolding Was
  among_after z [] there = absurd there
  among_after z (y ∷ ys) there =
      ⊎_elim
      (λ (is : z ≡ y). (cond (eqb y.page.0 p) (f y) y, inl refl, sym (row_was y (cond (eqb y.page.0 p) (f y) y) refl).0 ∙ ap (λ (r : Row). r.page.0) (sym is)))
      (λ later. let was = among_after z ys later in (was.0, inr was.1, was.2))
      there

module _ (state : ℕ → State) (page map : ℕ → ℕ) (role : ℕ → Role) (hand : ℕ → List Row) (claims : ℕ → List Claim)
    (h : IsStated state page map role hand claims) (id p conn : ℕ) (owned : IsOwnedBy conn (state p)) (mine : role id ≡ Connection conn)
    (apart : (i j c : ℕ) → role i ≡ Connection c → role j ≡ Connection c → i ≡ j) where
  -- each row is one of the seat's that was changed, or one as it was, which is of another page
  module _ (f : Row → Row) (page_stays : (z : Row) → (f z).page.0 ≡ z.page.0) where
    each_row : (P : ℕ → Row → Type 0) → ((z : Row) → Among z (hand id) → p ≡ z.page.0 → P id (f z)) → ((i : ℕ) (x : Row) → Among x (hand i) → p ≢ x.page.0 → P i x)
        → (i : ℕ) (x : Row) → Among x (but hand id (changed p f (hand id)) i) → P i x
    unfolding Was
    each_row P here others i x =
        ⊎_elim
        (λ (same : id ≡ i). subst (λ j. Among x (but hand id (changed p f (hand id)) j) → P j x) same
        (λ there. in_hand (among_before p f page_stays x (hand id) (subst (Among x) (but-same hand id (changed p f (hand id))) there))))
        (λ differ there.
        let old = subst (Among x) (but-other hand id i (changed p f (hand id)) differ) there in
        others i x old (elsewhere state page map role hand claims h id p conn owned mine apart i x differ old))
        (cases_eq id i)
      where
        in_hand : ((z : Row) × Among z (hand id) × Was p f x z) → P id x
        in_hand was =
            ⊎_elim
            (λ (is : (p ≡ was.0.page.0) × (x ≡ f was.0)). subst (P id) (sym is.1) (here was.0 was.1 is.0))
            (λ (is : (p ≢ was.0.page.0) × (x ≡ was.0)). subst (P id) (sym is.1) (others id was.0 was.1 is.0))
            was.2.1

    still_there : (q c : ℕ) → IsOwnedBy c (state q) → (i : ℕ) × (x : Row) × (role i ≡ Connection c) × Among x (but hand id (changed p f (hand id)) i) × (x.page.0 ≡ q)
    still_there q c is =
        let was = h.holder q c is in
        let now = each_but hand id (changed p f (hand id)) (λ j xs. Among was.1 (hand j) → (x : Row) × Among x xs × (x.page.0 ≡ was.1.page.0)) (among_after p f page_stays was.1 (hand id)) (λ j differ there. (was.1, there, refl)) was.0 was.3 in
        (was.0, now.0, was.2, now.1, now.2 ∙ was.4)

  -- a word of the row is stored
  module _ (word n : ℕ) where
    pub stated_row : IsStated state page map role (but hand id (changed p (set_word word n) (hand id))) claims
    stated_row = record {
      form = h.form;
      word = h.word;
      named = h.named;
      names = h.names;
      held = each_row (set_word word n) (λ z. refl) (λ i x. (c : ℕ) × (role i ≡ Connection c) × (state x.page.0 ≡ Owned c x.next)) (λ z there same. h.held id z there) (λ i x there differ. h.held i x there);
      holder = still_there (set_word word n) (λ z. refl);
      claimed = h.claimed;
    }

    pub reached_row : (rows : ℕ → List ℕ) (loaded : ℕ → List Row) → IsReached state rows loaded hand → IsReached state (but rows p (set (rows p) word n)) loaded (but hand id (changed p (set_word word n) (hand id)))
    reached_row rows loaded r = record {
      stays = λ i x there.
          let was = r.stays i x there in
          (was.0, but-other rows p x.page.0 (set (rows p) word n) (λ same. owned_not_kept conn (state x.page.0) (subst (λ q. IsOwnedBy conn (state q)) same owned) was.0) ∙ was.1);
      written = each_row (set_word word n) (λ z. refl) (λ i x. but rows p (set (rows p) word n) x.page.0 ≡ x.words)
          (λ z there same. subst (λ q. but rows p (set (rows p) word n) q ≡ set z.words word n) same (but-same rows p (set (rows p) word n) ∙ ap (λ ws. set ws word n) (ap rows same ∙ r.written id z there)))
          (λ i x there differ. but-other rows p x.page.0 (set (rows p) word n) differ ∙ r.written i x there);
      content = λ q kept. subst (λ ws. HasContent ws) (sym (but-other rows p q (set (rows p) word n) (λ same. owned_not_kept conn (state q) (subst (λ k. IsOwnedBy conn (state k)) same owned) kept))) (r.content q kept);
    }

  -- the page names another next one
  module _ (next : ℕ) (small : conn < 2 ^ 8) (short : next < 2 ^ 32) where
    pub stated_next : IsStated (but state p (Owned conn next)) (but page p (page_word (word.Owned conn next))) map role (but hand id (changed p (set_next next) (hand id))) claims
    stated_next = record {
      form = each_but state p (Owned conn next) (λ q s. IsPageWord (form_of s)) (small, short) (λ q differ. h.form q);
      word = λ q.
          ⊎_elim
          (λ (same : p ≡ q). subst (λ n. but page p (page_word (word.Owned conn next)) n ≡ page_word (form_of (but state p (Owned conn next) n))) same
          (but-same page p (page_word (word.Owned conn next)) ∙ sym (ap (λ s. page_word (form_of s)) (but-same state p (Owned conn next)))))
          (λ differ. but-other page p q (page_word (word.Owned conn next)) differ ∙ (h.word q ∙ sym (ap (λ s. page_word (form_of s)) (but-other state p q (Owned conn next) differ))))
          (cases_eq p q);
      named = λ q l. each_but state p (Owned conn next) (λ n s. s ≡ Named l → map l ≡ map_word (mapped.Page (record { 0 = n })))
          (λ is. absurd (owned_not_named conn l (Owned conn next) refl is)) (λ n differ is. h.named n l is) q;
      names = λ q l is.
          ⊎_elim
          (λ (same : p ≡ q). absurd (owned_not_named conn l (state q) (subst (λ n. IsOwnedBy conn (state n)) same owned) (h.names q l is)))
          (λ differ. but-other state p q (Owned conn next) differ ∙ h.names q l is)
          (cases_eq p q);
      held = each_row (set_next next) (λ z. refl) (λ i x. (c : ℕ) × (role i ≡ Connection c) × (but state p (Owned conn next) x.page.0 ≡ Owned c x.next))
          (λ z there same. (conn, mine, subst (λ q. but state p (Owned conn next) q ≡ Owned conn next) same (but-same state p (Owned conn next))))
          (λ i x there differ. let was = h.held i x there in (was.0, was.1, but-other state p x.page.0 (Owned conn next) differ ∙ was.2));
      holder = λ q c. each_but state p (Owned conn next) (λ n s. IsOwnedBy c s → (i : ℕ) × (x : Row) × (role i ≡ Connection c) × Among x (but hand id (changed p (set_next next) (hand id)) i) × (x.page.0 ≡ n))
          (λ is. still_there (set_next next) (λ z. refl) p c (subst (λ k. IsOwnedBy k (state p)) is owned)) (λ n differ is. still_there (set_next next) (λ z. refl) n c is) q;
      claimed = λ q. each_but state p (Owned conn next) (λ n s. 2 < n → s ≢ Free → (i : ℕ) × HasClaimed n (claims i))
          (λ far taken. h.claimed p far (λ free. free_not_owned conn (state p) free owned)) (λ n differ far taken. h.claimed n far taken) q;
    }

    pub reached_next : (rows : ℕ → List ℕ) (loaded : ℕ → List Row) → IsReached state rows loaded hand → IsReached (but state p (Owned conn next)) rows loaded (but hand id (changed p (set_next next) (hand id)))
    reached_next rows loaded r = record {
      stays = λ i x there.
          let was = r.stays i x there in
          (each_but state p (Owned conn next) (λ n s. IsKept (state n) → IsKept s) (λ kept. absurd (owned_not_kept conn (state p) owned kept)) (λ n differ kept. kept) x.page.0 was.0, was.1);
      written = each_row (set_next next) (λ z. refl) (λ i x. rows x.page.0 ≡ x.words) (λ z there same. r.written id z there) (λ i x there differ. r.written i x there);
      content = each_but state p (Owned conn next) (λ q s. IsKept s → HasContent (rows q)) (λ none. absurd none) (λ q differ kept. r.content q kept);
    }
