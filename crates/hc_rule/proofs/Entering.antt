-- How accounts and the log go on where an entry comes into one connection's account: each part, of what it reads.
use Rattle.std.proofs.Common.{◌≡◌, ◌≢◌, ◌∙◌, sym, ap, subst, ⊎_elim, inl, inr, ◌⊎◌, ℕ, ◌<◌, ◌≤◌, List, ◌∷◌, arith}
use Rattle.std.proofs.lemmas.Bool.{cases_eq}
use Rattle.hc_base.specs.Lookup.{Among, but}
use Rattle.hc_base.specs.Words.{IsSeatWord, seat_word}
use Rattle.hc_base.specs.declared.tid_word.TidWord.{TidWord}
use Rattle.hc_base.specs.declared.tid_word.TidWord.TheVariants as tid
use Rattle.hc_base.proofs.Lookups.{but-is, but-same, but-other, each_but}
use Rattle.hc_core.specs.Account.{Txn, AreOf, IsOf, txns, after_entry}
use Rattle.hc_core.specs.declared.account.Entry.{Entry}
use Rattle.hc_rule.specs.declared.view.Role.{Role}
use Rattle.hc_rule.specs.declared.view.Role.TheVariants.{Dealer, Connection}
use Rattle.hc_rule.specs.declared.view.Told.{Told}
use Rattle.hc_rule.specs.declared.view.SeenWord.{SeenWord}
use Rattle.hc_rule.specs.declared.view.SeenPlace.{SeenPlace}
use Rattle.hc_rule.specs.Views.{Knowledge}
use Rattle.hc_rule.specs.Seats.{IsDealt}
use Rattle.hc_rule.specs.Accounts.{AreAccounts, HasBegun}
use Rattle.hc_rule.specs.CommitLog.{IsLogged}
use Rattle.hc_rule.specs.Stages.{IsStage, AreStaged}
use Rattle.hc_rule.specs.TidWords.{AreWorded, AreOwn, IsOpenId, open_id}
use Rattle.hc_rule.specs.Seen.{AreSeen, IsAbove, IsTxn, Stays, IsSeenWord, IsSeenPlace}
use Rattle.hc_rule.specs.Recorded.{IsRecorded, txns_of}
use Rattle.hc_rule.specs.Kinds.TidWord.{IsRolledBack}
use Rattle.hc_rule.proofs.Roles.{same_number}

-- a transaction that has drawn its id is u now: it is committed as it was, or now, above all that were, and its word did not
-- say that it was rolled back
abbrev pub Goes : ℕ → TidWord → Txn → Txn → Type 0
Goes size form t u = (u.id ≡ t.id) × (u.ord ≡ t.ord) × ((u.place ≡ t.place) ⊎ ((t.place ≡ 0) × (size < u.place) × (IsRolledBack form → ⊥)))

abbrev pub AllGo : ℕ → (ℕ → TidWord) → (ℕ → List Txn) → (ℕ → List Txn) → Type 0
AllGo size form of of_2 = (j : ℕ) (t : Txn) → Among t (of j) → t.id ≢ 0 → (u : Txn) × Among u (of_2 j) × Goes size (form t.id) t u

-- words that say rolled back stay
abbrev pub StayRolledBack : (ℕ → TidWord) → (ℕ → TidWord) → Type 0
StayRolledBack form form_2 = (id : ℕ) → IsRolledBack (form id) → form_2 id ≡ form id

above_on : (seen size : ℕ) (f : TidWord) (t u : Txn) → seen ≤ size → Goes size f t u → IsAbove seen t → IsAbove seen u
above_on seen size f t u within goes above placed =
    ⊎_elim
    (λ (same : u.place ≡ t.place). let was = above (λ none. placed (same ∙ none)) in omega (arith, was, same))
    (λ new. omega (arith, within, new.1))
    goes.2

-- what was seen of a transaction stays true
module _ (size : ℕ) (form form_2 : ℕ → TidWord) (of of_2 : ℕ → List Txn) (go : AllGo size form of of_2) (stay : StayRolledBack form form_2) (id seen : ℕ) (some : id ≢ 0) (within : seen ≤ size) where
  txn_on : (conn ord : ℕ) (P Q : Txn → Type 0) → ((t u : Txn) → t.id ≡ id → Goes size (form t.id) t u → P t → Q u) → IsTxn of id conn ord P → IsTxn of_2 id conn ord Q
  txn_on conn ord P Q on was =
      let g = go conn was.0 was.1 (λ none. some (sym was.2 ∙ none)) in
      (g.0, g.1, g.2.0 ∙ was.2, g.2.1 ∙ was.3, on was.0 g.0 was.2 g.2 was.4)

  pub stays_on : (w : TidWord) → Stays form of id seen w → Stays form_2 of_2 id seen w
  stays_on tid.Empty was = absurd was
  stays_on (tid.Live conn ord) was = txn_on conn ord (λ t. IsAbove seen t) (λ t. IsAbove seen t) (λ t u same g above. above_on seen size (form t.id) t u within g above) was
  stays_on (tid.Validating conn ord c) was = txn_on conn ord (λ t. IsAbove seen t ⊎ (t.place ≡ c.0)) (λ t. IsAbove seen t ⊎ (t.place ≡ c.0))
      (λ t u same g either. ⊎_elim
      (λ (above : IsAbove seen t). inl (above_on seen size (form t.id) t u within g above))
      (λ (at : t.place ≡ c.0). ⊎_elim (λ (stayed : u.place ≡ t.place). inr (stayed ∙ at)) (λ new. inl (λ placed. omega (arith, within, new.1))) g.2)
      either)
      was
  stays_on (tid.Committed conn ord c) was = txn_on conn ord (λ t. (t.place ≡ c.0) × (c.0 ≢ 0)) (λ t. (t.place ≡ c.0) × (c.0 ≢ 0))
      (λ t u same g at. (⊎_elim (λ (stayed : u.place ≡ t.place). stayed ∙ at.0) (λ new. absurd (at.1 (sym at.0 ∙ new.0))) g.2, at.1))
      was
  stays_on (tid.RolledBack conn ord) was = (
    txn_on conn ord (λ t. t.place ≡ 0) (λ t. t.place ≡ 0)
        (λ t u same g none. ⊎_elim (λ (stayed : u.place ≡ t.place). stayed ∙ none) (λ new. absurd (new.2 (subst (λ f. IsRolledBack f) (sym (ap form same ∙ was.1)) tt))) g.2)
        was.0,
    stay id (subst (λ f. IsRolledBack f) (sym was.1) tt) ∙ was.1,
  )

-- what all seats saw stays true; one of them learns more
pub seen_on : (log log_2 : ℕ → ℕ) (size size_2 : ℕ) (form form_2 : ℕ → TidWord) (of of_2 : ℕ → List Txn) (know : ℕ → Knowledge) (i : ℕ) (k : Knowledge)
    → AreSeen log size form of know → size ≤ size_2 → AllGo size form of of_2 → StayRolledBack form form_2 → ((c : ℕ) → log c ≢ 0 → log_2 c ≡ log c)
    → k.seen ≤ size_2 → ((x : SeenWord) → Among x k.words → Among x (know i).words ⊎ IsSeenWord size_2 form_2 of_2 x)
    → ((x : SeenPlace) → Among x k.places → Among x (know i).places ⊎ IsSeenPlace log_2 x)
    → AreSeen log_2 size_2 form_2 of_2 (but know i k)
seen_on log log_2 size size_2 form form_2 of of_2 know i k h longer go stay taken within new_words new_places = record {
  within = each_but know i k (λ n q. q.seen ≤ size_2) within (λ n differ. let was = h.within n in omega (arith, was, longer));
  words = λ j x. each_but know i k (λ n q. Among x q.words → IsSeenWord size_2 form_2 of_2 x)
      (λ there. ⊎_elim (λ old. word_on x (h.words i x old)) (λ new. new) (new_words x there)) (λ n differ there. word_on x (h.words n x there)) j;
  places = λ j x. each_but know i k (λ n q. Among x q.places → IsSeenPlace log_2 x)
      (λ there. ⊎_elim (λ old. place_on x (h.places i x old)) (λ new. new) (new_places x there)) (λ n differ there. place_on x (h.places n x there)) j;
}
  where
    word_on : (x : SeenWord) → IsSeenWord size form of x → IsSeenWord size_2 form_2 of_2 x
    word_on x was = (was.0, let w = was.1 in omega (arith, w, longer), stays_on size form form_2 of of_2 go stay x.tid.0 x.seen.0 was.0 was.1 x.word was.2)

    place_on : (x : SeenPlace) → IsSeenPlace log x → IsSeenPlace log_2 x
    place_on x was = (taken x.cid.0 (λ none. was.1 (sym was.0 ∙ none)) ∙ was.0, was.1)

module _ (seats : ℕ) (role : ℕ → Role) (d : IsDealt seats role) (i conn : ℕ) (mine : role i ≡ Connection conn) (know : ℕ → Knowledge) (k : Knowledge) where
  -- what holds of the connection with what its seat knows now, and of each other one, holds of each
  pub each_owner : (P : ℕ → Knowledge → Type 0) → P conn k → ((n c : ℕ) → conn ≢ c → role n ≡ Connection c → P c (know n)) → (j c : ℕ) → role j ≡ Connection c → P c (but know i k j)
  each_owner P here others j c =
      each_but know i k (λ n q. role n ≡ Connection c → P c q)
      (λ is. subst (λ e. P e k) (same_number conn c (sym mine ∙ is)) here)
      (λ n differ is. others n c (λ same. differ (d.one_seat i n c (mine ∙ ap Connection same) is)) is)
      j

  -- no connection without a seat is this one
  other_than : (j n c : ℕ) → role j ≡ Dealer n → n ≤ c → conn ≢ c
  other_than j n c dealer above same = let below = d.dealt j i n conn dealer mine in omega (arith, below, above, same)

  pub accounts_entered : (account : ℕ → List Entry) (e : Entry) → AreAccounts role know account → IsOf conn e → k.account ≡ e ∷ (know i).account → k.told ≡ (know i).told
      → AreAccounts role (but know i k) (but account conn (e ∷ account conn))
  accounts_entered account e h own entered told = record {
    own = each_owner (λ c q. q.account ≡ but account conn (e ∷ account conn) c)
        (entered ∙ (ap (λ es. e ∷ es) (h.own i conn mine) ∙ sym (but-same account conn (e ∷ account conn))))
        (λ n c differ is. h.own n c is ∙ sym (but-other account conn c (e ∷ account conn) differ));
    told = λ j x. each_but know i k (λ n q. Among x q.told → HasBegun (but account conn (e ∷ account conn)) x)
        (λ there. begun_on x (h.told i x (subst (Among x) told there))) (λ n differ there. begun_on x (h.told n x there)) j;
    none = λ j n c dealer above. but-other account conn c (e ∷ account conn) (other_than j n c dealer above) ∙ h.none j n c dealer above;
    entries = each_but account conn (e ∷ account conn) (λ c es. AreOf c es) (own, h.entries conn) (λ c differ. h.entries c);
  }
    where
      begun_on : (x : Told) → HasBegun account x → HasBegun (but account conn (e ∷ account conn)) x
      begun_on x was =
          ⊎_elim
          (λ (same : conn ≡ x.conn). (e ∷ was.0, subst (λ c. but account conn (e ∷ account conn) c ≡ e ∷ account c) same (but-same account conn (e ∷ account conn)) ∙ ap (λ es. e ∷ es) was.1))
          (λ differ. (was.0, but-other account conn x.conn (e ∷ account conn) differ ∙ was.1))
          (cases_eq conn x.conn)

  pub staged_changed : (word word_2 : ℕ → ℕ) (of of_2 : ℕ → List Txn) → AreStaged word role know of → ((c : ℕ) → conn ≢ c → word_2 c ≡ word c) → ((c : ℕ) → conn ≢ c → of_2 c ≡ of c)
      → word_2 conn ≡ seat_word k.stage → IsSeatWord k.stage → IsStage k.stage (of_2 conn) → AreStaged word_2 role (but know i k) of_2
  staged_changed word word_2 of of_2 h words ofs is form stage = record {
    word = each_owner (λ c q. word_2 c ≡ seat_word q.stage) is (λ n c differ at. words c differ ∙ h.word n c at);
    form = each_owner (λ c q. IsSeatWord q.stage) form (λ n c differ at. h.form n c at);
    stage = each_owner (λ c q. IsStage q.stage (of_2 c)) stage (λ n c differ at. subst (IsStage (know n).stage) (sym (ofs c differ)) (h.stage n c at));
    none = λ j n c dealer above. words c (other_than j n c dealer above) ∙ h.none j n c dealer above;
  }

  pub own_changed : (form form_2 : ℕ → TidWord) (of of_2 : ℕ → List Txn) → AreOwn role know form of → ((c : ℕ) → conn ≢ c → of_2 c ≡ of c) → ((c : ℕ) → conn ≢ c → form_2 (open_id (of c)) ≡ form (open_id (of c)))
      → IsOpenId (open_id (of_2 conn)) k.own → form_2 (open_id (of_2 conn)) ≡ k.word → AreOwn role (but know i k) form_2 of_2
  own_changed form form_2 of of_2 h ofs forms id word = record {
    id = each_owner (λ c q. IsOpenId (open_id (of_2 c)) q.own) id (λ n c differ at. subst (λ ts. IsOpenId (open_id ts) (know n).own) (sym (ofs c differ)) (h.id n c at));
    word = each_owner (λ c q. form_2 (open_id (of_2 c)) ≡ q.word) word (λ n c differ at. ap (λ ts. form_2 (open_id ts)) (ofs c differ) ∙ (forms c differ ∙ h.word n c at));
  }

-- the transactions of accounts one of which has an entry more
pub txns_entered : (account : ℕ → List Entry) (conn : ℕ) (e : Entry) (ts : List Txn) → after_entry e (txns (account conn)) ≡ ts → txns_of (but account conn (e ∷ account conn)) ≡ but (txns_of account) conn ts
txns_entered account conn e ts now = λ t c.
    but-is (txns_of account) (txns_of (but account conn (e ∷ account conn))) conn ts
    (ap txns (but-same account conn (e ∷ account conn)) ∙ now)
    (λ j differ. ap txns (but-other account conn j (e ∷ account conn) differ))
    c t

-- all parts, where an entry came into an account
module _ (last seats : ℕ) (seat tid_words log : ℕ → ℕ) (role : ℕ → Role) (know : ℕ → Knowledge) (h : IsRecorded last seat tid_words log role know) (d : IsDealt seats role)
    (i conn : ℕ) (mine : role i ≡ Connection conn) (k : Knowledge) (e : Entry) (ts : List Txn)
    (is_of : IsOf conn e) (now : after_entry e (txns (h.account conn)) ≡ ts) (entered : k.account ≡ e ∷ (know i).account) (told : k.told ≡ (know i).told) where
  abbrev pub of_after : ℕ → List Txn
  of_after = but (txns_of h.account) conn ts

  pub recorded_entered : (seat_2 tid_2 log_2 : ℕ → ℕ) (size drawn : ℕ) (form : ℕ → TidWord) → IsLogged last log_2 size drawn of_after → AreStaged seat_2 role (but know i k) of_after
      → AreWorded tid_2 form drawn of_after → AreOwn role (but know i k) form of_after → AreSeen log_2 size form of_after (but know i k)
      → IsRecorded last seat_2 tid_2 log_2 role (but know i k)
  recorded_entered seat_2 tid_2 log_2 size drawn form logged staged worded own seen =
      let same = sym (txns_entered h.account conn e ts now) in
      record {
        size = size;
        drawn = drawn;
        account = but h.account conn (e ∷ h.account conn);
        form = form;
        accounts = accounts_entered seats role d i conn mine know k h.account e h.accounts is_of entered told;
        logged = subst (IsLogged last log_2 size drawn) same logged;
        staged = subst (AreStaged seat_2 role (but know i k)) same staged;
        worded = subst (AreWorded tid_2 form drawn) same worded;
        own = subst (AreOwn role (but know i k) form) same own;
        seen = subst (λ of. AreSeen log_2 size form of (but know i k)) same seen;
      }
