-- The dealing of a seat keeps the rule.
use Rattle.std.proofs.Common.{◌≡◌, ◌≢◌, ◌∙◌, refl, sym, ap, subst, ⊎_elim, inl, inr, ◌⊎◌, ℕ, ◌+◌, ◌<◌, List, [], ◌∷◌, ◌++◌, length, set, arith}
use Rattle.std.proofs.lemmas.Bool.{cases_eq}
use mathlib.Core.Option.{some}
use lib.ListN.{get_elem?}
use Rattle.hc_base.specs.Lookup.{Among, but}
use Rattle.hc_base.proofs.Lookups.{but-same, but-other, each_but}
use Rattle.hc_rows.specs.declared.layout.Layout.{Layout}
use Rattle.hc_rows.specs.Regions.{page_words, map_words, rows}
use Rattle.atomic_table.specs.Table.{State as TableState, Splits}
use Rattle.hc_rule.specs.declared.view.View.{View}
use Rattle.hc_rule.specs.declared.view.Row.{Row}
use Rattle.hc_rule.specs.declared.view.Claim.{Claim}
use Rattle.hc_rule.specs.declared.view.Role.{Role}
use Rattle.hc_rule.specs.declared.view.Role.TheVariants.{Dealer, Connection, Nobody}
use Rattle.hc_rule.specs.Views.{Knowledge, knowledge_of, nobody, known}
use Rattle.hc_rule.specs.States.{HasClaimed}
use Rattle.hc_rule.specs.Seats.{IsDealt}
use Rattle.hc_base.specs.Words.{IsSeatWord, seat_word}
use Rattle.hc_core.specs.Account.{IsIdle, txns}
use Rattle.hc_core.specs.declared.account.Entry.{Entry}
use Rattle.hc_rule.specs.Stages.{IsStage}
use Rattle.hc_rule.specs.TidWords.{IsOpenId, open_id}
use Rattle.hc_rule.specs.Recorded.{IsRecorded}
use Rattle.hc_rule.specs.Rule.{Holds}
use Rattle.hc_rule.specs.Kinds.Deal.{dealt_by, dealer_after, seat_dealt}
use Rattle.hc_rule.proofs.Along.{stated_along, reached_along, recorded_along}
use Rattle.hc_rule.proofs.Holding.{holders_along}
use Rattle.hc_rule.proofs.Roles.{number_of, not_both, not_nobody}
use Rattle.hc_rule.proofs.PageStates.{stated_seats, reached_seats}
use Rattle.hc_rule.proofs.Views.{known_is, known_kept, known_more, known_split, nobody_past}

-- who sits where, after it
module _ (seats : ℕ) (role : ℕ → Role) (h : IsDealt seats role) (id m n : ℕ) (dealer : role id ≡ Dealer n) (none : role m ≡ Nobody) (room : n < seats) where
  -- what a seat is, by cases: the new one, the dealer, or as before
  seat_is : (i : ℕ) → ((m ≡ i) × (but (but role id (Dealer (n + 1))) m (Connection n) i ≡ Connection n))
      ⊎ (((id ≡ i) × (but (but role id (Dealer (n + 1))) m (Connection n) i ≡ Dealer (n + 1))) ⊎ ((m ≢ i) × (id ≢ i) × (but (but role id (Dealer (n + 1))) m (Connection n) i ≡ role i)))
  seat_is i =
      ⊎_elim
      (λ (new : m ≡ i). inl (new, subst (λ j. but (but role id (Dealer (n + 1))) m (Connection n) j ≡ Connection n) new (but-same (but role id (Dealer (n + 1))) m (Connection n))))
      (λ (old : m ≢ i). ⊎_elim
      (λ (same : id ≡ i). inr (inl (same, but-other (but role id (Dealer (n + 1))) m i (Connection n) old ∙ subst (λ j. but role id (Dealer (n + 1)) j ≡ Dealer (n + 1)) same (but-same role id (Dealer (n + 1))))))
      (λ (other : id ≢ i). inr (inr (old, other, but-other (but role id (Dealer (n + 1))) m i (Connection n) old ∙ but-other role id i (Dealer (n + 1)) other)))
      (cases_eq id i))
      (cases_eq m i)

  -- a connection's seat stays it
  pub stays_connection : (i c : ℕ) → role i ≡ Connection c → but (but role id (Dealer (n + 1))) m (Connection n) i ≡ Connection c
  stays_connection i c is =
      elim (seat_is i) [
        | inl new ↦ absurd (not_nobody c (sym none ∙ (ap role new.0 ∙ is)))
        | inr old ↦
            elim old [
              | inl same ↦ absurd (not_both n c (sym dealer ∙ (ap role same.0 ∙ is)))
              | inr other ↦ other.2 ∙ is
            ]
      ]

  -- the dealer is the one that was
  dealer_is : (i k : ℕ) → but (but role id (Dealer (n + 1))) m (Connection n) i ≡ Dealer k → (id ≡ i) × (k ≡ n + 1)
  dealer_is i k is =
      elim (seat_is i) [
        | inl new ↦ absurd (not_both k n (sym is ∙ new.1))
        | inr old ↦
            elim old [
              | inl same ↦ (same.0, ap number_of (sym is ∙ same.1))
              | inr other ↦ absurd (other.1 (h.one_dealer id i n k dealer (sym other.2 ∙ is)))
            ]
      ]

  -- a connection's seat is the new one or one that was
  connection_is : (i c : ℕ) → but (but role id (Dealer (n + 1))) m (Connection n) i ≡ Connection c → ((m ≡ i) × (c ≡ n)) ⊎ ((m ≢ i) × (role i ≡ Connection c))
  connection_is i c is =
      elim (seat_is i) [
        | inl new ↦ inl (new.0, ap number_of (sym is ∙ new.1))
        | inr old ↦
            elim old [
              | inl same ↦ absurd (not_both (n + 1) c (sym same.1 ∙ is))
              | inr other ↦ inr (other.0, sym other.2 ∙ is)
            ]
      ]

  pub dealt_more : IsDealt seats (but (but role id (Dealer (n + 1))) m (Connection n))
  dealt_more = record {
    one_dealer = λ i j k l one other. sym (dealer_is i k one).0 ∙ (dealer_is j l other).0;
    dealt = λ i j k c one other.
        let d = dealer_is i k one in
        elim (connection_is j c other) [
          | inl new ↦ omega (arith, d.1, new.1)
          | inr old ↦ let less = h.dealt id j n c dealer old.1 in omega (arith, d.1, less)
        ];
    one_seat = λ i j c one other.
        elim (connection_is i c one) [
          | inl new ↦
              elim (connection_is j c other) [
                | inl also ↦ sym new.0 ∙ also.0
                | inr old ↦ absurd (let less = h.dealt id j n c dealer old.1 in omega (arith, less, new.1))
              ]
          | inr was ↦
              elim (connection_is j c other) [
                | inl new ↦ absurd (let less = h.dealt id i n c dealer was.1 in omega (arith, less, new.1))
                | inr old ↦ h.one_seat i j c was.1 old.1
              ]
        ];
    there = λ i c one.
        elim (connection_is i c one) [
          | inl new ↦ omega (arith, new.1, room)
          | inr old ↦ h.there i c old.1
        ];
  }

  -- what holds of the new seat and of each that was holds of each
  module _ (know : ℕ → Knowledge) (blank : know m ≡ knowledge_of nobody) where
    each_seat : (P : ℕ → Knowledge → Type 0) → P n (knowledge_of nobody) → ((i c : ℕ) → role i ≡ Connection c → P c (know i))
        → (i c : ℕ) → but (but role id (Dealer (n + 1))) m (Connection n) i ≡ Connection c → P c (know i)
    each_seat P new others i c is =
        elim (connection_is i c is) [
          | inl at ↦ subst (λ d. P d (know i)) (sym at.1) (subst (λ k. P n k) (sym (ap know (sym at.0) ∙ blank)) new)
          | inr old ↦ others i c old.1
        ]

    -- the new connection has begun nothing
    pub recorded_dealt : (last : ℕ) (seat tid log : ℕ → ℕ) → IsRecorded last seat tid log role know → IsRecorded last seat tid log (but (but role id (Dealer (n + 1))) m (Connection n)) know
    recorded_dealt last seat tid log r =
        let empty : r.account n ≡ [] = r.accounts.none id n n dealer (omega arith) in
        let idle : open_id (txns (r.account n)) ≡ 0 = ap (λ (a : List Entry). open_id (txns a)) empty in
        record {
          size = r.size;
          drawn = r.drawn;
          account = r.account;
          form = r.form;
          accounts = record {
            own = each_seat (λ c k. k.account ≡ r.account c) (sym empty) r.accounts.own;
            told = r.accounts.told;
            none = λ i k c is above. let d = dealer_is i k is in r.accounts.none id n c dealer (omega (arith, d.1, above));
            entries = r.accounts.entries;
          };
          logged = r.logged;
          staged = record {
            word = each_seat (λ c k. seat c ≡ seat_word k.stage) (r.staged.none id n n dealer (omega arith)) r.staged.word;
            form = each_seat (λ c k. IsSeatWord k.stage) tt r.staged.form;
            stage = each_seat (λ c k. IsStage k.stage (txns (r.account c))) (subst (λ (a : List Entry). IsIdle (txns a)) (sym empty) tt) r.staged.stage;
            none = λ i k c is above. let d = dealer_is i k is in r.staged.none id n c dealer (omega (arith, d.1, above));
          };
          worded = r.worded;
          own = record {
            id = each_seat (λ c k. IsOpenId (open_id (txns (r.account c))) k.own) idle r.own.id;
            word = each_seat (λ c k. r.form (open_id (txns (r.account c))) ≡ k.word) (ap r.form idle ∙ r.worded.none 0 (λ some. omega (arith, some))) r.own.word;
          };
          seen = r.seen;
        }

-- a list of the dealer that stays, and an empty one for the new seat
split_back : (hand : ℕ → List Row) (id m : ℕ) (i : ℕ) (x : Row) → Among x (but (but hand id (hand id)) m [] i) → Among x (hand i)
split_back hand id m i x there =
    each_but (but hand id (hand id)) m [] (λ j xs. Among x xs → Among x (hand j)) (λ none. absurd none)
    (λ j differ is. each_but hand id (hand id) (λ k xs. Among x xs → Among x (hand k)) (λ was. was) (λ k other was. was) j is) i there

split_there : (hand : ℕ → List Row) (id m : ℕ) → hand m ≡ [] → (i : ℕ) (x : Row) → Among x (hand i) → Among x (but (but hand id (hand id)) m [] i)
split_there hand id m none i x there =
    each_but (but hand id (hand id)) m [] (λ j xs. Among x (hand j) → Among x xs) (λ is. subst (Among x) none is)
    (λ j differ is. each_but hand id (hand id) (λ k xs. Among x (hand k) → Among x xs) (λ was. was) (λ k other was. was) j is) i there

split_claims : (claims : ℕ → List Claim) (id m : ℕ) → claims m ≡ [] → (i q : ℕ) → HasClaimed q (claims i) → HasClaimed q (but (but claims id (claims id)) m [] i)
split_claims claims id m none i q has =
    each_but (but claims id (claims id)) m [] (λ j xs. HasClaimed q (claims j) → HasClaimed q xs) (λ is. subst (HasClaimed q) none is)
    (λ j differ is. each_but claims id (claims id) (λ k xs. HasClaimed q (claims k) → HasClaimed q xs) (λ was. was) (λ k other was. was) j is) i has

pub deal_kept : (y : Layout) (words : List ℕ) (views : List View) (id n : ℕ) (v : View) → get_elem? views id ≡ some v → v.role ≡ Dealer n → n < y.seats → Holds y words views
    → Holds y words (set views id (dealer_after v) ++ (seat_dealt v ∷ []))
deal_kept y words views id n v at dealer room h =
    let m = length views in
    let role = known (λ x. x.role) views in
    let hand = known (λ x. x.pages) views in
    let claims = known (λ x. x.claimed) views in
    let loaded = known (λ x. x.loaded) views in
    let dealer_is : known (λ x. x.role) views id ≡ Dealer n = known_is (λ x. x.role) views id v at ∙ dealer in
    let none : known (λ x. x.role) views (length views) ≡ Nobody = nobody_past (λ x. x.role) views in
    let by : dealt_by v.role ≡ n = ap dealt_by dealer in
    let roles : known (λ x. x.role) (set views id (dealer_after v) ++ (seat_dealt v ∷ [])) ≡ but (but (known (λ x. x.role) views) id (Dealer (n + 1))) (length views) (Connection n) =
    known_split (λ x. x.role) views id v (dealer_after v) (seat_dealt v) at ∙ ap (λ k. but (but (known (λ x. x.role) views) id (Dealer (k + 1))) (length views) (Connection k)) by in
    let hands : known (λ x. x.pages) (set views id (dealer_after v) ++ (seat_dealt v ∷ [])) ≡ but (but (known (λ x. x.pages) views) id (known (λ x. x.pages) views id)) (length views) [] =
    known_split (λ x. x.pages) views id v (dealer_after v) (seat_dealt v) at ∙ ap (λ xs. but (but (known (λ x. x.pages) views) id xs) (length views) []) (sym (known_is (λ x. x.pages) views id v at)) in
    let claimed : known (λ x. x.claimed) (set views id (dealer_after v) ++ (seat_dealt v ∷ [])) ≡ but (but (known (λ x. x.claimed) views) id (known (λ x. x.claimed) views id)) (length views) [] =
    known_split (λ x. x.claimed) views id v (dealer_after v) (seat_dealt v) at ∙ ap (λ xs. but (but (known (λ x. x.claimed) views) id xs) (length views) []) (sym (known_is (λ x. x.claimed) views id v at)) in
    let loads : known (λ x. x.loaded) (set views id (dealer_after v) ++ (seat_dealt v ∷ [])) ≡ but (but (known (λ x. x.loaded) views) id (known (λ x. x.loaded) views id)) (length views) [] =
    known_split (λ x. x.loaded) views id v (dealer_after v) (seat_dealt v) at ∙ ap (λ xs. but (but (known (λ x. x.loaded) views) id xs) (length views) []) (sym (known_is (λ x. x.loaded) views id v at)) in
    let stages : known (λ x. x.stage) (set views id (dealer_after v) ++ (seat_dealt v ∷ [])) ≡ known (λ x. x.stage) views =
    known_more (λ x. x.stage) (set views id (dealer_after v)) (seat_dealt v) refl ∙ known_kept (λ x. x.stage) views id v (dealer_after v) at refl in
    let hand_is : known (λ x. x.pages) (set views id (dealer_after v) ++ (seat_dealt v ∷ [])) ≡ known (λ x. x.pages) views =
    known_more (λ x. x.pages) (set views id (dealer_after v)) (seat_dealt v) refl ∙ known_kept (λ x. x.pages) views id v (dealer_after v) at refl in
    let knows : known knowledge_of (set views id (dealer_after v) ++ (seat_dealt v ∷ [])) ≡ known knowledge_of views =
    known_more knowledge_of (set views id (dealer_after v)) (seat_dealt v) refl ∙ known_kept knowledge_of views id v (dealer_after v) at refl in
    record {
      layout = h.layout;
      sized = h.sized;
      dealt = subst (λ f. IsDealt y.seats f) (sym roles) (dealt_more y.seats role h.dealt id m n dealer_is none room);
      state = h.state;
      stated =
          stated_along h.state _ _ _ _ _ _ _ _ _ _ refl refl roles hands claimed
          (stated_seats h.state (page_words y words) (map_words y words) role _ hand _ claims _ (stays_connection y.seats role h.dealt id m n dealer_is none room) (split_back hand id m)
          (split_there hand id m (nobody_past (λ x. x.pages) views)) (split_claims claims id m (nobody_past (λ x. x.claimed) views)) h.stated);
      held = holders_along _ _ _ _ stages hand_is h.held;
      reached =
          reached_along h.state _ _ _ _ _ _ refl loads hands
          (reached_seats h.state (rows y words) loaded _ hand _ (split_back loaded id m) (split_back hand id m) h.reached);
      recorded =
          recorded_along y.transactions _ _ _ _ _ _ _ _ _ _ refl refl refl roles knows
          (recorded_dealt y.seats role h.dealt id m n dealer_is none room (known knowledge_of views) (nobody_past knowledge_of views) y.transactions _ _ _ h.recorded);
    }

pub deal_splits : (y : Layout) (id n : ℕ) (v : View) → v.role ≡ Dealer n → n < y.seats → Splits (λ (s : TableState Unit View). Holds y s.words s.views) id v (dealer_after v) (seat_dealt v)
deal_splits y id n v dealer room s h at = deal_kept y s.words s.views id n v at dealer room h
