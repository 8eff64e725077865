-- The rule holds of a new table.
use Rattle.std.proofs.Common.{◌≡◌, ◌≢◌, ◌∙◌, refl, sym, ap, subst, ⊎_elim, inl, inr, ◌⊎◌, ℕ, zero, suc, ◌<◌, List, [], ◌∷◌, arith}
use Rattle.std.proofs.lemmas.Bool.{cases_eq}
use Rattle.hc_base.specs.Layout.{HasContent}
use Rattle.hc_base.specs.Lookup.{Among, but}
use Rattle.hc_base.proofs.Lookups.{but-same, but-other}
use Rattle.hc_base.specs.Words.{IsPageWord, page_word}
use Rattle.hc_base.specs.declared.tid_word.TidWord.TheVariants as tid
use Rattle.hc_rows.specs.declared.layout.Layout.{Layout}
use Rattle.hc_rows.specs.Regions.{rows}
use Rattle.hc_rule.specs.declared.view.View.{View}
use Rattle.hc_rule.specs.declared.view.Role.{Role}
use Rattle.hc_rule.specs.declared.view.Row.{Row}
use Rattle.hc_rule.specs.declared.view.Role.TheVariants.{Dealer, Connection, Nobody}
use Rattle.hc_rule.specs.Views.{knowledge_of, known, nobody, first_view}
use Rattle.hc_rule.specs.States.{State, Free, Owned, Ready, Named, Replaced, Pending, Limbo, form_of, IsKept, IsOwnedBy, HasClaimed, IsStated}
use Rattle.hc_rule.specs.Reach.{IsReached}
use Rattle.hc_rule.specs.Seats.{IsDealt}
use Rattle.hc_rule.specs.Recorded.{IsRecorded}
use Rattle.hc_rule.specs.Rule.{Holds}
use Rattle.hc_rule.specs.Start.{mapped, names, first_leaf, first_inner, IsFirst}
use Rattle.hc_rule.proofs.Along.{stated_along, reached_along, recorded_along}
use Rattle.hc_rule.proofs.Roles.{not_both, not_nobody, no_dealer}

-- a page is the first, the second or free
start_is : (p : ℕ) → ((p ≡ 1) × (but (but (λ q. Free) 1 (Named 1)) 2 (Named 2) p ≡ Named 1)) ⊎ (((p ≡ 2) × (but (but (λ q. Free) 1 (Named 1)) 2 (Named 2) p ≡ Named 2)) ⊎ ((2 ≢ p) × (1 ≢ p) × (but (but (λ q. Free) 1 (Named 1)) 2 (Named 2) p ≡ Free)))
start_is p =
    ⊎_elim
    (λ (two : 2 ≡ p). inr (inl (sym two, subst (λ q. but (but (λ q. Free) 1 (Named 1)) 2 (Named 2) q ≡ Named 2) two (but-same (but (λ q. Free) 1 (Named 1)) 2 (Named 2)))))
    (λ (not_two : 2 ≢ p). ⊎_elim
    (λ (one : 1 ≡ p). inl (sym one, but-other (but (λ q. Free) 1 (Named 1)) 2 p (Named 2) not_two ∙ subst (λ q. but (λ q. Free) 1 (Named 1) q ≡ Named 1) one (but-same (λ q. Free) 1 (Named 1))))
    (λ (not_one : 1 ≢ p). inr (inr (not_two, not_one, but-other (but (λ q. Free) 1 (Named 1)) 2 p (Named 2) not_two ∙ but-other (λ q. Free) 1 p (Named 1) not_one)))
    (cases_eq 1 p))
    (cases_eq 2 p)

-- the same of the words, whatever they are
words_is : (a b p : ℕ) → ((p ≡ 1) × (but (but (λ q. 0) 1 a) 2 b p ≡ a)) ⊎ (((p ≡ 2) × (but (but (λ q. 0) 1 a) 2 b p ≡ b)) ⊎ ((2 ≢ p) × (1 ≢ p) × (but (but (λ q. 0) 1 a) 2 b p ≡ 0)))
words_is a b p =
    ⊎_elim
    (λ (two : 2 ≡ p). inr (inl (sym two, subst (λ q. but (but (λ q. 0) 1 a) 2 b q ≡ b) two (but-same (but (λ q. 0) 1 a) 2 b))))
    (λ (not_two : 2 ≢ p). ⊎_elim
    (λ (one : 1 ≡ p). inl (sym one, but-other (but (λ q. 0) 1 a) 2 p b not_two ∙ subst (λ q. but (λ q. 0) 1 a q ≡ a) one (but-same (λ q. 0) 1 a)))
    (λ (not_one : 1 ≢ p). inr (inr (not_two, not_one, but-other (but (λ q. 0) 1 a) 2 p b not_two ∙ but-other (λ q. 0) 1 p a not_one)))
    (cases_eq 1 p))
    (cases_eq 2 p)

abbrev number_named : State → ℕ
number_named Free = 0
number_named (Owned seat next) = 0
number_named (Ready seat number) = 0
number_named (Named l) = l
number_named (Replaced seat number) = 0
number_named (Pending seat next) = 0
number_named (Limbo stamp) = 0

free_has_no_name : (l : ℕ) → Free ≡ Named l → ⊥
free_has_no_name l same = subst (λ s. IsKept s) (sym same) tt

-- the first seat has nothing, and there is no other
only : {A : Type 0} (f : View → A) (a : A) → f first_view ≡ a → f nobody ≡ a → (i : ℕ) → known f (first_view ∷ []) i ≡ a
unfolding known
only f a first none zero = first
only f a first none (suc i) = none

-- the first seat deals, and there is no other
role_is : (i : ℕ) → ((i ≡ 0) × (known (λ v. v.role) (first_view ∷ []) i ≡ Dealer 0)) ⊎ (known (λ v. v.role) (first_view ∷ []) i ≡ Nobody)
unfolding known
role_is zero = inl (refl, refl)
role_is (suc i) = inr refl

dealer_is : (i n : ℕ) → known (λ v. v.role) (first_view ∷ []) i ≡ Dealer n → i ≡ 0
dealer_is i n is =
    elim (role_is i) [
      | inl first ↦ first.0
      | inr none ↦ absurd (no_dealer n (sym none ∙ is))
    ]

no_connection : (i c : ℕ) → known (λ v. v.role) (first_view ∷ []) i ≡ Connection c → ⊥
no_connection i c is =
    elim (role_is i) [
      | inl first ↦ not_both 0 c (sym first.1 ∙ is)
      | inr none ↦ not_nobody c (sym none ∙ is)
    ]

first_dealt : (seats : ℕ) → IsDealt seats (known (λ v. v.role) (first_view ∷ []))
first_dealt seats = record {
  one_dealer = λ i j m n one other. dealer_is i m one ∙ sym (dealer_is j n other);
  dealt = λ i j n c one other. absurd (no_connection j c other);
  one_seat = λ i j c one other. absurd (no_connection i c one);
  there = λ i c one. absurd (no_connection i c one);
}

-- the word of each page is the form of its state
first_word : (p : ℕ) → but (but (λ q. 0) 1 (mapped 1)) 2 (mapped 2) p ≡ page_word (form_of (but (but (λ q. Free) 1 (Named 1)) 2 (Named 2) p))
first_word p =
    elim (start_is p) [
      | inl one ↦ word_of p (Named 1) one.1 (elim (words_is (mapped 1) (mapped 2) p) [
        | inl is ↦ is.1
        | inr other ↦ elim other [
          | inl two ↦ absurd (omega (arith, one.0, two.0))
          | inr none ↦ absurd (none.1 (sym one.0))
        ]
      ])
      | inr rest ↦ elim rest [
        | inl two ↦ word_of p (Named 2) two.1 (elim (words_is (mapped 1) (mapped 2) p) [
          | inl is ↦ absurd (omega (arith, is.0, two.0))
          | inr other ↦ elim other [
            | inl is ↦ is.1
            | inr none ↦ absurd (none.0 (sym two.0))
          ]
        ])
        | inr free ↦ word_of p Free free.2 (elim (words_is (mapped 1) (mapped 2) p) [
          | inl is ↦ absurd (free.1 (sym is.0))
          | inr other ↦ elim other [
            | inl is ↦ absurd (free.0 (sym is.0))
            | inr none ↦ none.2
          ]
        ])
      ]
    ]
  where
    word_of : (p : ℕ) (s : State) → but (but (λ q. Free) 1 (Named 1)) 2 (Named 2) p ≡ s → but (but (λ q. 0) 1 (mapped 1)) 2 (mapped 2) p ≡ page_word (form_of s)
        → but (but (λ q. 0) 1 (mapped 1)) 2 (mapped 2) p ≡ page_word (form_of (but (but (λ q. Free) 1 (Named 1)) 2 (Named 2) p))
    word_of p s state word = word ∙ sym (ap (λ x. page_word (form_of x)) state)

-- the state of each page, for what holds of each of the three
each_start : (P : ℕ → State → Type 0) → P 1 (Named 1) → P 2 (Named 2) → ((p : ℕ) → 2 ≢ p → 1 ≢ p → P p Free) → (p : ℕ) → P p (but (but (λ q. Free) 1 (Named 1)) 2 (Named 2) p)
each_start P one two free p =
    elim (start_is p) [
      | inl is ↦ subst (P p) (sym is.1) (subst (λ q. P q (Named 1)) (sym is.0) one)
      | inr rest ↦ elim rest [
        | inl is ↦ subst (P p) (sym is.1) (subst (λ q. P q (Named 2)) (sym is.0) two)
        | inr is ↦ subst (P p) (sym is.2) (free p is.0 is.1)
      ]
    ]

first_stated : IsStated (but (but (λ p. Free) 1 (Named 1)) 2 (Named 2)) (but (but (λ p. 0) 1 (mapped 1)) 2 (mapped 2)) (but (but (λ l. 0) 1 (names 1)) 2 (names 2)) (known (λ v. v.role) (first_view ∷ [])) (λ i. []) (λ i. [])
first_stated = record {
  form = each_start (λ p s. IsPageWord (form_of s)) (omega arith, omega arith) (omega arith, omega arith) (λ p not_two not_one. tt);
  word = first_word;
  named = λ p l. each_start (λ q s. s ≡ Named l → but (but (λ k. 0) 1 (names 1)) 2 (names 2) l ≡ names q)
      (λ is. subst (λ k. but (but (λ k. 0) 1 (names 1)) 2 (names 2) k ≡ names 1) (ap number_named is) (but-other (but (λ k. 0) 1 (names 1)) 2 1 (names 2) (λ same. absurd (omega (arith, same))) ∙ but-same (λ k. 0) 1 (names 1)))
      (λ is. subst (λ k. but (but (λ k. 0) 1 (names 1)) 2 (names 2) k ≡ names 2) (ap number_named is) (but-same (but (λ k. 0) 1 (names 1)) 2 (names 2)))
      (λ q not_two not_one is. absurd (free_has_no_name l is))
      p;
  names = λ p l is.
      elim (words_is (names 1) (names 2) l) [
        | inl one ↦ subst (λ q. but (but (λ q. Free) 1 (Named 1)) 2 (Named 2) q ≡ Named l) (page_is 1 p (sym one.1 ∙ is)) (but-other (but (λ q. Free) 1 (Named 1)) 2 1 (Named 2) (λ same. absurd (omega (arith, same))) ∙ (but-same (λ q. Free) 1 (Named 1) ∙ ap Named (sym one.0)))
        | inr rest ↦ elim rest [
          | inl two ↦ subst (λ q. but (but (λ q. Free) 1 (Named 1)) 2 (Named 2) q ≡ Named l) (page_is 2 p (sym two.1 ∙ is)) (but-same (but (λ q. Free) 1 (Named 1)) 2 (Named 2) ∙ ap Named (sym two.0))
          | inr none ↦ absurd (let zero_is : 0 ≡ names p = sym none.2 ∙ is in omega (arith, zero_is))
        ]
      ];
  held = λ i x there. absurd there;
  holder = λ p c. each_start (λ q s. IsOwnedBy c s → (i : ℕ) × (x : Row) × (known (λ v. v.role) (first_view ∷ []) i ≡ Connection c) × Among x [] × (x.page.0 ≡ q)) (λ none. absurd none) (λ none. absurd none) (λ q not_two not_one none. absurd none) p;
  claimed = λ p. each_start (λ q s. 2 < q → s ≢ Free → (i : ℕ) × HasClaimed q []) (λ far taken. absurd (omega (arith, far))) (λ far taken. absurd (omega (arith, far))) (λ q not_two not_one far taken. absurd (taken refl)) p;
}
  where
    page_is : (a b : ℕ) → names a ≡ names b → a ≡ b
    page_is a b same = omega (arith, same)

first_reached : (row : ℕ → List ℕ) → HasContent (row 1) → HasContent (row 2) → IsReached (but (but (λ p. Free) 1 (Named 1)) 2 (Named 2)) row (λ i. []) (λ i. [])
first_reached row leaf inner = record {
  stays = λ i x there. absurd there;
  written = λ i x there. absurd there;
  content = each_start (λ q s. IsKept s → HasContent (row q)) (λ kept. leaf) (λ kept. inner) (λ q not_two not_one none. absurd none);
}

-- no transaction was begun, and nobody knows of one
first_recorded : (last : ℕ) (role : ℕ → Role) → IsRecorded last (λ conn. 0) (λ id. 0) (λ c. 0) role (λ i. knowledge_of nobody)
first_recorded last role = record {
  size = 0;
  drawn = 0;
  account = λ conn. [];
  form = λ id. tid.Empty;
  accounts = record { own = λ i conn is. refl; told = λ i x there. absurd there; none = λ i n conn is above. refl; entries = λ conn. tt };
  logged = record {
    empty = λ c above. refl;
    sound = record {
      distinct = λ c d c_below. absurd (omega (arith, c_below));
      entries = λ c below. absurd (omega (arith, below));
      decided = λ i t c there. absurd there;
      ids = λ i j t u there. absurd there;
      in_order = λ i. tt;
      each = λ i t there. absurd there;
    };
    drawn_within = λ i t there. absurd there;
    each_drawn = λ id some within. absurd (omega (arith, some, within));
    room = omega arith;
  };
  staged = record { word = λ i conn is. refl; form = λ i conn is. tt; stage = λ i conn is. tt; none = λ i n conn is above. refl };
  worded = record { word = λ id. refl; fits = λ id. tt; none = λ id above. refl; shows = λ j t there. absurd there };
  own = record { id = λ i conn is. refl; word = λ i conn is. refl };
  seen = record { within = λ i. omega arith; words = λ i x there. absurd there; places = λ i x there. absurd there };
}

pub start_holds : (y : Layout) (words : List ℕ) → IsFirst y words → Holds y words (first_view ∷ [])
start_holds y words first =
    let pages : known (λ v. v.pages) (first_view ∷ []) ≡ (λ i. []) = (λ t i. only (λ v. v.pages) [] refl refl i t) in
    let claims : known (λ v. v.claimed) (first_view ∷ []) ≡ (λ i. []) = (λ t i. only (λ v. v.claimed) [] refl refl i t) in
    let loads : known (λ v. v.loaded) (first_view ∷ []) ≡ (λ i. []) = (λ t i. only (λ v. v.loaded) [] refl refl i t) in
    record {
      layout = first.layout;
      sized = first.sized;
      dealt = first_dealt y.seats;
      state = but (but (λ p. Free) 1 (Named 1)) 2 (Named 2);
      stated = stated_along (but (but (λ p. Free) 1 (Named 1)) 2 (Named 2)) _ _ _ _ _ _ _ _ _ _ first.pages first.maps refl pages claims first_stated;
      held = record { registered = λ i row there. absurd (subst (λ f. Among row (f i)) pages there) };
      reached = reached_along (but (but (λ p. Free) 1 (Named 1)) 2 (Named 2)) _ _ _ _ _ _ refl loads pages (first_reached (rows y words) (first_leaf, first.leaf) (first_inner, first.inner));
      recorded =
          recorded_along y.transactions _ _ _ _ _ _ _ _ _ _ first.others.seat first.others.tid first.others.log refl
          (λ t i. only knowledge_of (knowledge_of nobody) refl refl i t) (first_recorded y.transactions (known (λ v. v.role) (first_view ∷ [])));
    }
