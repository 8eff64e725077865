-- A load of the word of an id, the exchange that draws one, and a store of the own id's word keep the rule.
use Rattle.std.proofs.Common.{◌≡◌, ◌≢◌, ◌∙◌, refl, sym, ap, subst, ⊎_elim, inl, inr, ◌⊎◌, ℕ, ◌+◌, ◌<◌, ◌≤◌, ◌^◌, eqb, eq-eqb, ne_eqb, Some, List, [], ◌∷◌, get_or, set, length-set, arith}
use Rattle.std.proofs.lemmas.Bool.{cases_eq, cases_lt, cases_Bool}
use Rattle.std.proofs.lemmas.List.{set-get_or}
use mathlib.Core.Option.{some}
use lib.ListN.{get_elem?}
use prog.Atomic.{either}
use Rattle.atomic_table.specs.Table.{State as TableState, Me, keeps, Allows}
use Rattle.hc_base.specs.Lookup.{Among, but}
use Rattle.hc_base.specs.Words.{IsTidWord, tid_word, IsSeatWord, seat_word}
use Rattle.hc_base.specs.declared.tid_word.TidWord.{TidWord}
use Rattle.hc_base.specs.declared.tid_word.TidWord.TheVariants as tid
use Rattle.hc_base.proofs.Lookups.{but-same, but-other, each_but, each_old, each_either, new_here, rest_here, others_here, old_there}
use Rattle.hc_base.proofs.OneWord.{tid_one}
use Rattle.hc_core.specs.Account.{Txn, txns, WhenOpen, after_entry}
use Rattle.hc_core.specs.Diary.{entry_of}
use Rattle.hc_core.specs.declared.account.Entry.{Entry}
use Rattle.hc_core.specs.declared.event.Event.TheVariants.{Draw}
use Rattle.hc_core.specs.declared.outcome.Outcome.TheVariants.{Drew}
use Rattle.hc_core.proofs.Kept.Draw.{kept_draw}
use Rattle.hc_core.proofs.Ordered.{one_id}
use Rattle.hc_rows.specs.declared.layout.Layout.{Layout}
use Rattle.hc_rows.specs.Places.{HasTid, tid_at}
use Rattle.hc_rows.specs.Regions.{seat_words, tid_words, log_words}
use Rattle.hc_rows.proofs.Steps.{words_are, at_tid}
use Rattle.hc_rule.specs.declared.view.View.{View}
use Rattle.hc_rule.specs.declared.view.Role.{Role}
use Rattle.hc_rule.specs.declared.view.Role.TheVariants.{Connection}
use Rattle.hc_rule.specs.Views.{Knowledge, knowledge_of, known, bare}
use Rattle.hc_rule.specs.Seats.{IsDealt}
use Rattle.hc_rule.specs.Stages.{IsStage}
use Rattle.hc_rule.specs.TidWords.{Shows, open_id, IsOpenId}
use Rattle.hc_rule.specs.Seen.{IsAbove, IsTxn, Stays, IsSeenWord}
use Rattle.hc_rule.specs.Recorded.{IsRecorded, txns_of}
use Rattle.hc_rule.specs.Rule.{Holds}
use Rattle.hc_rule.specs.Kinds.LoadLog.{own_txns}
use Rattle.hc_rule.specs.Kinds.TidWord.{with_seen, saw, LoadsTid, FollowsSeen, Drawing, MayDraw, drew, DrawsTid, DrewTid, IsRolledBack, MaySay, TidStore, MayStoreTid, said, StoresTid}
use Rattle.hc_rule.proofs.Along.{holds_with, held_along, recorded_along}
use Rattle.hc_rule.proofs.Entering.{Goes, seen_on, staged_changed, own_changed, recorded_entered}
use Rattle.hc_rule.proofs.LogSteps.{newest_of, running_id}
use Rattle.hc_rule.proofs.OwnSeat.{account_is, seen_within, words_old, places_old, own_same, stage_is}
use Rattle.hc_rule.proofs.Recording.{accounts_learned, staged_learned, recorded_learned}
use Rattle.hc_rule.proofs.Kept.LoadLog.{LeavesRest, knowledge_kept}
use Rattle.hc_rule.proofs.Views.{known_is, known_kept, known_set}

-- the word 0 is that of no id
no_word : (f : TidWord) → IsTidWord f → tid_word f ≡ 0 → f ≡ tid.Empty
no_word f fits none = tid_one f tid.Empty fits tt none

-- the word is not empty
abbrev IsFilled : TidWord → Type 0
IsFilled tid.Empty = ⊥
IsFilled (tid.Live conn ord) = Unit {0}
IsFilled (tid.Validating conn ord c) = Unit {0}
IsFilled (tid.Committed conn ord c) = Unit {0}
IsFilled (tid.RolledBack conn ord) = Unit {0}

-- a transaction whose word was found has the id and is what the word says
found_is : (form : ℕ → TidWord) (of : ℕ → List Txn) (j : ℕ) (t : Txn) (id seen : ℕ) → Among t (of j) → t.id ≡ id → (f : TidWord) → form id ≡ f → IsTidWord f → Shows j t f → Stays form of id seen f
found_is form of j t id seen there is tid.Empty at fits shows = absurd shows
found_is form of j t id seen there is (tid.Live conn ord) at fits shows =
    (t, subst (λ c. Among t (of c)) (sym shows.0.0) there, is, sym shows.0.1, λ placed. absurd (placed shows.1))
found_is form of j t id seen there is (tid.Validating conn ord c) at fits shows = (
  t,
  subst (λ c. Among t (of c)) (sym shows.0.0) there,
  is,
  sym shows.0.1,
  ⊎_elim (λ (none : t.place ≡ 0). inl (λ placed. absurd (placed none))) (λ (placed : t.place ≡ c.0). inr placed) shows.1,
)
found_is form of j t id seen there is (tid.Committed conn ord c) at fits shows =
    (t, subst (λ c. Among t (of c)) (sym shows.0.0) there, is, sym shows.0.1, (shows.1, λ none. omega (arith, none, fits.1)))
found_is form of j t id seen there is (tid.RolledBack conn ord) at fits shows =
    ((t, subst (λ c. Among t (of c)) (sym shows.0.0) there, is, sym shows.0.1, shows.1), at)

module _ (last seats : ℕ) (seat_at tid_at log : ℕ → ℕ) (role : ℕ → Role) (know : ℕ → Knowledge) (h : IsRecorded last seat_at tid_at log role know) (d : IsDealt seats role)
    (i conn : ℕ) (mine : role i ≡ Connection conn) (v : View) (is : know i ≡ knowledge_of v) where
  -- an id whose word is not empty was drawn
  drawn_is : (id : ℕ) → (h.form id ≡ tid.Empty → ⊥) → (0 < id) × (id ≤ h.drawn)
  drawn_is id taken =
      elim (cases_lt h.drawn id) [
        | inl past ↦ absurd (taken (h.worded.none id (λ positive. past)))
        | inr within ↦
            elim (cases_lt 0 id) [
              | inl positive ↦ (positive, within)
              | inr none ↦ absurd (taken (h.worded.none id (λ positive. absurd (omega (arith, none, positive)))))
            ]
      ]

  -- what is found of an id is true
  seen_is : (id : ℕ) → (h.form id ≡ tid.Empty → ⊥) → IsSeenWord h.size h.form (txns_of h.account) (record { tid = record { 0 = id }; word = h.form id; seen = v.seen })
  seen_is id taken =
      let drawn = drawn_is id taken in
      let e = h.logged.each_drawn id drawn.0 drawn.1 in
      let shows : Shows e.0 e.1 (h.form id) = subst (λ n. Shows e.0 e.1 (h.form n)) e.3 (h.worded.shows e.0 e.1 e.2 (λ none. omega (arith, none, e.3, drawn.0))) in (
        λ none. omega (arith, none, drawn.0),
        seen_within last seats seat_at tid_at log role know h d i conn mine v is,
        found_is h.form (txns_of h.account) e.0 e.1 id v.seen.0 e.2 e.3 (h.form id) refl (h.worded.fits id) shows,
      )

  noted : (id : ℕ) (f : TidWord) → f ≡ h.form id → (f ≡ tid.Empty → ⊥) → IsRecorded last seat_at tid_at log role (but know i (knowledge_of (with_seen id f v)))
  noted id f is_form taken = recorded_learned last seat_at tid_at log role know h i (knowledge_of (with_seen id f v))
      (λ c held. own_same last seats seat_at tid_at log role know h d i conn mine v is (knowledge_of (with_seen id f v)) refl refl refl refl)
      (record {
        told = λ x there. h.accounts.told i x (subst (λ (k : Knowledge). Among x k.told) (sym is) there);
        within = seen_within last seats seat_at tid_at log role know h d i conn mine v is;
        words = λ x there.
            ⊎_elim
            (λ (new : x ≡ record { tid = record { 0 = id }; word = f; seen = v.seen }).
            subst (IsSeenWord h.size h.form (txns_of h.account)) (sym new)
            (subst (λ g. IsSeenWord h.size h.form (txns_of h.account) (record { tid = record { 0 = id }; word = g; seen = v.seen })) (sym is_form) (seen_is id (λ none. taken (is_form ∙ none)))))
            (λ old. h.seen.words i x (words_old last seats seat_at tid_at log role know h d i conn mine v is x old))
            there;
        places = λ x there. h.seen.places i x (places_old last seats seat_at tid_at log role know h d i conn mine v is x there);
      })

  -- nothing is learned
  same_view : IsRecorded last seat_at tid_at log role (but know i (knowledge_of v))
  same_view = recorded_learned last seat_at tid_at log role know h i (knowledge_of v)
      (λ c held. own_same last seats seat_at tid_at log role know h d i conn mine v is (knowledge_of v) refl refl refl refl)
      (record {
        told = λ x there. h.accounts.told i x (subst (λ (k : Knowledge). Among x k.told) (sym is) there);
        within = seen_within last seats seat_at tid_at log role know h d i conn mine v is;
        words = λ x there. h.seen.words i x (words_old last seats seat_at tid_at log role know h d i conn mine v is x there);
        places = λ x there. h.seen.places i x (places_old last seats seat_at tid_at log role know h d i conn mine v is x there);
      })

  -- the seat notes the word that it found
  pub recorded_saw : (place id : ℕ) (f : TidWord) → f ≡ h.form id → IsRecorded last seat_at tid_at log role (but know i (knowledge_of (saw place id f v)))
  recorded_saw place id tid.Empty is_form = same_view
  recorded_saw place id (tid.Live c o) is_form = noted id (tid.Live c o) is_form (λ none. subst IsFilled none tt)
  recorded_saw place id (tid.Validating c o n) is_form = noted id (tid.Validating c o n) is_form (λ none. subst IsFilled none tt)
  recorded_saw place id (tid.Committed c o n) is_form = noted id (tid.Committed c o n) is_form (λ none. subst IsFilled none tt)
  recorded_saw place id (tid.RolledBack c o) is_form = noted id (tid.RolledBack c o) is_form (λ none. subst IsFilled none tt)

-- what a transaction may say shows it
may_show : (conn : ℕ) (t : Txn) (w : TidWord) → MaySay conn w t → Shows conn t w
may_show conn t tid.Empty may = absurd may
may_show conn t (tid.Live c o) may = absurd may
may_show conn t (tid.Validating c o n) may = ((may.0, may.1), inl may.2)
may_show conn t (tid.Committed c o n) may = ((may.0, may.1), may.2)
may_show conn t (tid.RolledBack c o) may = ((may.0, may.1), may.2)

-- words one of which changes are those of the forms one of which changes
words_but : (word : ℕ → ℕ) (form : ℕ → TidWord) (id : ℕ) (w : TidWord) → ((n : ℕ) → word n ≡ tid_word (form n)) → (n : ℕ) → but word id (tid_word w) n ≡ tid_word (but form id w n)
words_but word form id w is n =
    ⊎_elim
    (λ (same : id ≡ n). subst (λ k. but word id (tid_word w) k ≡ tid_word (but form id w k)) same (but-same word id (tid_word w) ∙ sym (ap tid_word (but-same form id w))))
    (λ differ. but-other word id n (tid_word w) differ ∙ (is n ∙ sym (ap tid_word (but-other form id n w differ))))
    (cases_eq id n)

-- an open id is that of a transaction
open_there : (ts : List Txn) → open_id ts ≢ 0 → (t : Txn) × Among t ts × (t.id ≡ open_id ts)
open_there [] drew = absurd (drew refl)
open_there (t ∷ ts) drew =
    elim (cases_Bool t.ended) [
      | inl ended ↦ absurd (drew (rw ended refl))
      | inr running ↦ (t, inl refl, sym (running_id t ts running))
    ]

module _ (last seats : ℕ) (seat_at tid_at log : ℕ → ℕ) (role : ℕ → Role) (know : ℕ → Knowledge) (h : IsRecorded last seat_at tid_at log role know) (d : IsDealt seats role)
    (i conn : ℕ) (mine : role i ≡ Connection conn) (v : View) (is : know i ≡ knowledge_of v) where
  -- the form of its own id's word is the one that it knows
  pub own_form : h.form (open_id (txns (h.account conn))) ≡ v.word
  own_form = h.own.word i conn mine ∙ ap (λ (k : Knowledge). k.word) is

  pub own_id : (id : ℕ) → v.own ≡ Some (record { 0 = id }) → (open_id (txns (h.account conn)) ≡ id) × (id ≢ 0)
  own_id id own = subst (λ o. IsOpenId (open_id (txns (h.account conn))) o) (ap (λ (k : Knowledge). k.own) is ∙ own) (h.own.id i conn mine)

  -- the seat stores the word of its own id
  pub recorded_said : (id : ℕ) (w : TidWord) → v.own ≡ Some (record { 0 = id }) → WhenOpen (own_txns v) (MaySay conn w) → (IsRolledBack v.word → ⊥) → IsTidWord w
      → IsRecorded last seat_at (but tid_at id (tid_word w)) log role (but know i (knowledge_of (said w v)))
  recorded_said id w own says stays form =
      let o = newest_of (txns (h.account conn)) (MaySay conn w) (subst (λ (a : List Entry). WhenOpen (txns a) (MaySay conn w)) (sym (account_is last seats seat_at tid_at log role know h d i conn mine v is)) says) in
      let mine_id = own_id id own in
      let t_id : o.t.id ≡ id = sym (ap open_id o.is ∙ running_id o.t o.rest o.running) ∙ mine_id.0 in
      let t_there : Among o.t (txns_of h.account conn) = old_there (txns_of h.account) conn o.t o.rest o.is in
      let drew : o.t.id ≢ 0 = (λ none. mine_id.1 (sym t_id ∙ none)) in
      let was : h.form id ≡ v.word = sym (ap h.form mine_id.0) ∙ own_form in
      let within = h.logged.drawn_within conn o.t t_there in
      let k = knowledge_of (said w v) in
      record {
        size = h.size;
        drawn = h.drawn;
        account = h.account;
        form = but h.form id w;
        accounts = accounts_learned role know i k h.account (λ c held. sym (ap (λ (x : Knowledge). x.account) is)) (λ x there. h.accounts.told i x (subst (λ (q : Knowledge). Among x q.told) (sym is) there)) h.accounts;
        logged = h.logged;
        staged = staged_learned role know i k seat_at (txns_of h.account) (λ c held. sym (ap (λ (x : Knowledge). x.stage) is)) h.staged;
        worded = record {
          word = words_but tid_at h.form id w h.worded.word;
          fits = each_but h.form id w (λ n f. IsTidWord f) form (λ n differ. h.worded.fits n);
          none = λ n past. but-other h.form id n w (λ same. absurd (let above = past (omega (arith, same, mine_id.1)) in omega (arith, above, same, within, t_id))) ∙ h.worded.none n past;
          shows = λ j u there drawn.
              ⊎_elim
              (λ (same : id ≡ u.id).
              let one = one_id h.logged.sound conn j o.t u t_there there drew (t_id ∙ same) in
              subst (λ f. Shows j u f) (sym (subst (λ n. but h.form id w n ≡ w) same (but-same h.form id w)))
              (subst (λ c. Shows c u w) one.0 (subst (λ x. Shows conn x w) one.1 (may_show conn o.t w o.holds))))
              (λ differ. subst (λ f. Shows j u f) (sym (but-other h.form id u.id w differ)) (h.worded.shows j u there drawn))
              (cases_eq id u.id);
        };
        own = own_changed seats role d i conn mine know k h.form (but h.form id w) (txns_of h.account) (txns_of h.account) h.own (λ c differ. refl)
            (λ c differ. but-other h.form id (open_id (txns (h.account c))) w (λ same.
            let u = open_there (txns (h.account c)) (λ none. mine_id.1 (same ∙ none)) in
            differ (h.logged.sound.ids conn c o.t u.0 t_there u.1 drew (t_id ∙ (same ∙ sym u.2)))))
            (subst (λ q. IsOpenId (open_id (txns (h.account conn))) q) (ap (λ (x : Knowledge). x.own) is) (h.own.id i conn mine))
            (ap (but h.form id w) mine_id.0 ∙ but-same h.form id w);
        seen = seen_on log log h.size h.size h.form (but h.form id w) (txns_of h.account) (txns_of h.account) know i k h.seen (omega arith)
            (λ j u there drawn. (u, there, (refl, refl, inl refl)))
            (λ n rolled. but-other h.form id n w (λ same. stays (subst IsRolledBack (ap h.form (sym same) ∙ was) rolled)))
            (λ c taken. refl) (subst (λ (q : Knowledge). q.seen ≤ h.size) is (h.seen.within i))
            (λ x there. inl (subst (λ (q : Knowledge). Among x q.words) (sym is) there)) (λ x there. inl (subst (λ (q : Knowledge). Among x q.places) (sym is) there));
      }

  -- the id before one that may be drawn was drawn
  before_drawn : (id : ℕ) → FollowsSeen id v.words → id ≤ h.drawn + 1
  before_drawn id follows =
      ⊎_elim
      (λ (first : id ≡ 1). omega (arith, first))
      (λ seen.
      let fact = h.seen.words i seen.0 (words_old last seats seat_at tid_at log role know h d i conn mine v is seen.0 seen.1) in
      let drawn = stays_drawn seen.0.tid.0 seen.0.seen.0 seen.0.word fact.2 in
      omega (arith, drawn, seen.2))
      follows
    where
      txn_drawn : (n c o : ℕ) (P : Txn → Type 0) → IsTxn (txns_of h.account) n c o P → n ≤ h.drawn
      txn_drawn n c o P there = let within = h.logged.drawn_within c there.0 there.1 in omega (arith, within, there.2)

      stays_drawn : (n seen : ℕ) (w : TidWord) → Stays h.form (txns_of h.account) n seen w → n ≤ h.drawn
      stays_drawn n seen tid.Empty stays = absurd stays
      stays_drawn n seen (tid.Live c o) stays = txn_drawn n c o (λ t. IsAbove seen t) stays
      stays_drawn n seen (tid.Validating c o p) stays = txn_drawn n c o (λ t. IsAbove seen t ⊎ (t.place ≡ p.0)) stays
      stays_drawn n seen (tid.Committed c o p) stays = txn_drawn n c o (λ t. (t.place ≡ p.0) × (p.0 ≢ 0)) stays
      stays_drawn n seen (tid.RolledBack c o) stays = txn_drawn n c o (λ t. t.place ≡ 0) stays.0

  -- an id whose word is empty is past those that were drawn
  empty_past : (id : ℕ) → 0 < id → h.form id ≡ tid.Empty → h.drawn < id
  empty_past id positive none =
      elim (cases_lt h.drawn id) [
        | inl past ↦ past
        | inr within ↦
            let e = h.logged.each_drawn id positive within in
            absurd (subst (Shows e.0 e.1) (ap h.form e.3 ∙ none) (h.worded.shows e.0 e.1 e.2 (λ zero_id. omega (arith, zero_id, e.3, positive))))
      ]

  -- no open id is past those that were drawn
  open_within : (c : ℕ) → open_id (txns (h.account c)) ≤ h.drawn
  open_within c =
      ⊎_elim
      (λ (none : open_id (txns (h.account c)) ≡ 0). omega (arith, none))
      (λ drawn. let u = open_there (txns (h.account c)) drawn in let within = h.logged.drawn_within c u.0 u.1 in omega (arith, within, u.2))
      (cases_eq (open_id (txns (h.account c))) 0)

  -- the id is drawn
  pub recorded_drew : (id ord : ℕ) → (0 < id) × (id ≤ last) → conn < 2 ^ 7 → MayDraw (record { conn = conn; id = id; ord = ord }) v → tid_at id ≡ 0
      → IsRecorded last seat_at (but tid_at id (tid_word (tid.Live conn ord))) log role (but know i (knowledge_of (drew (record { conn = conn; id = id; ord = ord }) v)))
  recorded_drew id ord there small may free =
      let of = txns_of h.account in
      let acc = account_is last seats seat_at tid_at log role know h d i conn mine v is in
      let o = newest_of (txns (h.account conn)) (λ t. t.id ≡ 0) (subst (λ (a : List Entry). WhenOpen (txns a) (λ t. t.id ≡ 0)) (sym (account_is last seats seat_at tid_at log role know h d i conn mine v is)) may.undrawn) in
      let e : Entry = entry_of (Draw conn ord) (Drew (record { 0 = id })) in
      let new : Txn = record o.t { id = id; ord = ord } in
      let k = knowledge_of (drew (record { conn = conn; id = id; ord = ord }) v) in
      let f : TidWord = tid.Live conn ord in
      let blank : h.form id ≡ tid.Empty = no_word (h.form id) (h.worded.fits id) (sym (h.worded.word id) ∙ free) in
      let past = empty_past id there.0 blank in
      let next = before_drawn id may.follows in
      let t_there : Among o.t (txns_of h.account conn) = old_there (txns_of h.account) conn o.t o.rest o.is in
      let undecided : o.t.place ≡ 0 = ((h.logged.sound.each conn o.t t_there).numbers.undrawn o.holds).0 in
      let fresh : (j : ℕ) (u : Txn) → Among u (txns_of h.account j) → u.id ≢ id = (λ j u u_there same. let within = h.logged.drawn_within j u u_there in omega (arith, within, past, same)) in
      let stage = stage_is last seats seat_at tid_at log role know h d i conn mine v is in
      let reads : WhenOpen (o.t ∷ o.rest) (λ t. t.snapshot ≡ may.snapshot.0) = subst (λ ts. WhenOpen ts (λ t. t.snapshot ≡ may.snapshot.0)) o.is (subst (λ s. IsStage s (txns (h.account conn))) may.reads stage) in
      let of_2 = but (txns_of h.account) conn (new ∷ o.rest) in
      recorded_entered last seats seat_at tid_at log role know h d i conn mine k e (new ∷ o.rest) refl (ap (λ xs. after_entry e xs) o.is)
      (ap (λ es. e ∷ es) (sym (ap (λ (x : Knowledge). x.account) is))) (sym (ap (λ (x : Knowledge). x.told) is))
      seat_at (but tid_at id (tid_word (tid.Live conn ord))) log h.size id (but h.form id (tid.Live conn ord))
      (record {
        empty = h.logged.empty;
        sound = kept_draw h.logged.sound conn o.t o.rest o.is id ord o.holds (λ none. omega (arith, none, there.0)) fresh
            (λ u u_there. may.above u (subst (λ (a : List Entry). Among u (txns a)) acc u_there));
        drawn_within = each_either (txns_of h.account) conn o.t o.rest o.is new (λ j u. u.id ≤ id) (omega arith) (λ j u u_there. let within = h.logged.drawn_within j u u_there in omega (arith, within, past));
        each_drawn = λ n positive within.
            elim (cases_lt n id) [
              | inl old ↦
                  let w = h.logged.each_drawn n positive (omega (arith, old, next)) in
                  each_old (txns_of h.account) conn o.t o.rest o.is (λ j u. u.id ≡ n → (q : ℕ) × (x : Txn) × Among x (but (txns_of h.account) conn (new ∷ o.rest) q) × (x.id ≡ n))
                  (λ same. absurd (omega (arith, same, o.holds, positive)))
                  (λ u u_there same. (conn, u, rest_here (txns_of h.account) conn new o.rest u u_there, same))
                  (λ j u differ u_there same. (j, u, others_here (txns_of h.account) conn new o.rest j u differ u_there, same))
                  w.0 w.1 w.2 w.3
              | inr last_one ↦ (conn, new, new_here (txns_of h.account) conn new o.rest, omega (arith, within, last_one))
            ];
        room = there.1;
      })
      (staged_changed seats role d i conn mine know k seat_at seat_at (txns_of h.account) (but (txns_of h.account) conn (new ∷ o.rest)) h.staged (λ c differ. refl) (λ c differ. but-other (txns_of h.account) conn c (new ∷ o.rest) differ)
      (h.staged.word i conn mine ∙ ap (λ (x : Knowledge). seat_word x.stage) is) (subst (λ (x : Knowledge). IsSeatWord x.stage) is (h.staged.form i conn mine))
      (subst (λ s. IsStage s (but (txns_of h.account) conn (new ∷ o.rest) conn)) (sym may.reads) (subst (λ ts. WhenOpen ts (λ t. t.snapshot ≡ may.snapshot.0)) (sym (but-same (txns_of h.account) conn (new ∷ o.rest))) reads)))
      (record {
        word = words_but tid_at h.form id (tid.Live conn ord) h.worded.word;
        fits = each_but h.form id (tid.Live conn ord) (λ n g. IsTidWord g) (small, may.ord.0, may.ord.1) (λ n differ. h.worded.fits n);
        none = λ n above. but-other h.form id n (tid.Live conn ord) (λ same. absurd (let more = above (omega (arith, same, there.0)) in omega (arith, more, same))) ∙ h.worded.none n (λ positive. let more = above positive in omega (arith, more, past));
        shows = each_either (txns_of h.account) conn o.t o.rest o.is new (λ j u. u.id ≢ 0 → Shows j u (but h.form id (tid.Live conn ord) u.id))
            (λ drawn. subst (Shows conn new) (sym (but-same h.form id (tid.Live conn ord))) ((refl, refl), undecided))
            (λ j u u_there drawn. subst (Shows j u) (sym (but-other h.form id u.id (tid.Live conn ord) (λ same. fresh j u u_there (sym same)))) (h.worded.shows j u u_there drawn));
      })
      (own_changed seats role d i conn mine know k h.form (but h.form id (tid.Live conn ord)) (txns_of h.account) (but (txns_of h.account) conn (new ∷ o.rest)) h.own (λ c differ. but-other (txns_of h.account) conn c (new ∷ o.rest) differ)
      (λ c differ. but-other h.form id (open_id (txns (h.account c))) (tid.Live conn ord) (λ same. let within = open_within c in omega (arith, within, past, same)))
      (ap open_id (but-same (txns_of h.account) conn (new ∷ o.rest)) ∙ running_id new o.rest o.running, λ none. omega (arith, none, there.0))
      (ap (but h.form id (tid.Live conn ord)) (ap open_id (but-same (txns_of h.account) conn (new ∷ o.rest)) ∙ running_id new o.rest o.running) ∙ but-same h.form id (tid.Live conn ord)))
      (seen_on log log h.size h.size h.form (but h.form id (tid.Live conn ord)) (txns_of h.account) (but (txns_of h.account) conn (new ∷ o.rest)) know i k h.seen (omega arith)
      (each_old (txns_of h.account) conn o.t o.rest o.is (λ j u. u.id ≢ 0 → (x : Txn) × Among x (but (txns_of h.account) conn (new ∷ o.rest) j) × Goes h.size (h.form u.id) u x)
      (λ drawn. absurd (drawn o.holds))
      (λ u u_there drawn. (u, rest_here (txns_of h.account) conn new o.rest u u_there, (refl, refl, inl refl)))
      (λ j u differ u_there drawn. (u, others_here (txns_of h.account) conn new o.rest j u differ u_there, (refl, refl, inl refl))))
      (λ n rolled. but-other h.form id n (tid.Live conn ord) (λ same. subst IsRolledBack (ap h.form (sym same) ∙ blank) rolled))
      (λ c taken. refl) (subst (λ (q : Knowledge). q.seen ≤ h.size) is (h.seen.within i))
      (λ x x_there. inl (subst (λ (q : Knowledge). Among x q.words) (sym is) x_there)) (λ x x_there. inl (subst (λ (q : Knowledge). Among x q.places) (sym is) x_there)))

-- the word that a step on it finds
load_is : (y : Layout) (words : List ℕ) (views : List View) (h : Holds y words views) (t : ℕ) → HasTid y t → tid_word (h.recorded.form t) ≡ get_or words (tid_at y t) 0
load_is y words views h t there = sym (h.recorded.worded.word t) ∙ words_are (tid_at y) 1 (y.transactions + 1) words t there.0 (omega (arith, there))

leaves_rest : (place id : ℕ) (f : TidWord) (v : View) → LeavesRest v (saw place id f v)
leaves_rest place id tid.Empty v = (refl, refl, refl, refl, refl)
leaves_rest place id (tid.Live c o) v = (refl, refl, refl, refl, refl)
leaves_rest place id (tid.Validating c o n) v = (refl, refl, refl, refl, refl)
leaves_rest place id (tid.Committed c o n) v = (refl, refl, refl, refl, refl)
leaves_rest place id (tid.RolledBack c o) v = (refl, refl, refl, refl, refl)

-- the rule where the seat notes what it found
saw_kept : (y : Layout) (words : List ℕ) (views : List View) (h : Holds y words views) (id place t conn : ℕ) (v : View) → get_elem? views id ≡ some v → v.role ≡ Connection conn → Holds y words (set views id (saw place t (h.recorded.form t) v))
saw_kept y words views h id place t conn v at mine =
    knowledge_kept y words views id v (saw place t (h.recorded.form t) v) at h (leaves_rest place t (h.recorded.form t) v)
    (recorded_saw y.transactions y.seats (seat_words y words) (tid_words y words) (log_words y words) (known (λ x. x.role) views) (known knowledge_of views) h.recorded h.dealt id conn
    (known_is (λ x. x.role) views id v at ∙ mine) v (known_is knowledge_of views id v at) place t (h.recorded.form t) refl)

-- a load of the word of an id
pub load_tid_allows : (y : Layout) (slots id t conn : ℕ) (v : View) → HasTid y t → v.role ≡ Connection conn
    → Allows (λ (s : TableState Unit View). Holds y s.words s.views) slots id (bare v) (tid_at y t) (λ n. n) (λ n after. LoadsTid (tid_at y t) t v n after)
load_tid_allows y slots id t conn v there mine s h len at below =
    let is = load_is y s.words s.views h t there in
    (saw (tid_at y t) t (h.recorded.form t) v, keeps, tt, subst (λ ws. Holds y ws (set s.views id (saw (tid_at y t) t (h.recorded.form t) v))) (sym (set-get_or s.words (tid_at y t) 0)) (saw_kept y s.words s.views h id (tid_at y t) t conn v at mine), (h.recorded.form t, h.recorded.worded.fits t, is, refl))

-- the rule where the word of an id is another one, and of the views what one seat knows of transactions
word_kept : (y : Layout) (words : List ℕ) (views : List View) (id t n : ℕ) (v w : View) → Holds y words views → get_elem? views id ≡ some v → HasTid y t → LeavesRest v w
    → IsRecorded y.transactions (seat_words y words) (but (tid_words y words) t n) (log_words y words) (known (λ x. x.role) views) (but (known knowledge_of views) id (knowledge_of w))
    → Holds y (set words (tid_at y t) n) (set views id w)
word_kept y words views id t n v w h at there leaves recorded =
    let step = at_tid y words t n h.sized there in
    let roles = known_kept (λ x. x.role) views id v w at leaves.0 in
    holds_with y words _ views (set views id w) h (length-set words (tid_at y t) n) step.page step.map step.row
    roles (known_kept (λ x. x.pages) views id v w at leaves.1) (known_kept (λ x. x.claimed) views id v w at leaves.2) (known_kept (λ x. x.loaded) views id v w at leaves.3)
    (held_along views (set views id w) (known_kept (λ x. x.stage) views id v w at leaves.4) (known_kept (λ x. x.pages) views id v w at leaves.1) h.held)
    (recorded_along y.transactions _ _ _ _ _ _ _ _ _ _ step.seat step.tid step.log roles (known_set knowledge_of views id v w at) recorded)

-- the exchange that draws an id
pub draw_allows : (y : Layout) (slots id : ℕ) (d : Drawing) (v : View) → HasTid y d.id → v.role ≡ Connection d.conn → MayDraw d v
    → Allows (λ (s : TableState Unit View). Holds y s.words s.views) slots id (bare v) (tid_at y d.id) (λ n. either (eqb n 0) (tid_word (tid.Live d.conn d.ord)) n) (λ n after. DrawsTid (tid_at y d.id) d v n after)
draw_allows y slots id d v there mine may s h len at below =
    let place = tid_at y d.id in
    let n = get_or s.words (tid_at y d.id) 0 in
    let is = load_is y s.words s.views h d.id there in
    let mine_is : known (λ x. x.role) s.views id ≡ Connection d.conn = known_is (λ x. x.role) s.views id v at ∙ mine in
    ⊎_elim
    (λ (hit : get_or s.words (tid_at y d.id) 0 ≡ 0). (
      drew d v,
      keeps,
      tt,
      subst (λ b. Holds y (set s.words (tid_at y d.id) (either b (tid_word (tid.Live d.conn d.ord)) (get_or s.words (tid_at y d.id) 0))) (set s.views id (drew d v))) (sym (eq-eqb (get_or s.words (tid_at y d.id) 0) 0 hit))
          (word_kept y s.words s.views id d.id (tid_word (tid.Live d.conn d.ord)) v (drew d v) h at there (refl, refl, refl, refl, refl)
          (recorded_drew y.transactions y.seats (seat_words y s.words) (tid_words y s.words) (log_words y s.words) (known (λ x. x.role) s.views) (known knowledge_of s.views) h.recorded h.dealt id d.conn mine_is v (known_is knowledge_of s.views id v at)
          d.id d.ord there (let seats = h.dealt.there id d.conn mine_is in let few = h.layout.seats in omega (arith, seats, few)) may (h.recorded.worded.word d.id ∙ (is ∙ hit)))),
      inl (hit, refl),
    ))
    (λ (miss : get_or s.words (tid_at y d.id) 0 ≢ 0). (
      saw (tid_at y d.id) d.id (h.recorded.form d.id) v,
      keeps,
      tt,
      subst (λ b. Holds y (set s.words (tid_at y d.id) (either b (tid_word (tid.Live d.conn d.ord)) (get_or s.words (tid_at y d.id) 0))) (set s.views id (saw (tid_at y d.id) d.id (h.recorded.form d.id) v))) (sym (ne_eqb (get_or s.words (tid_at y d.id) 0) 0 miss))
          (subst (λ ws. Holds y ws (set s.views id (saw (tid_at y d.id) d.id (h.recorded.form d.id) v))) (sym (set-get_or s.words (tid_at y d.id) 0)) (saw_kept y s.words s.views h id (tid_at y d.id) d.id d.conn v at mine)),
      inr (miss, (h.recorded.form d.id, h.recorded.worded.fits d.id, is, refl)),
    ))
    (cases_eq (get_or s.words (tid_at y d.id) 0) 0)

-- the store of the own id's word
pub store_tid_allows : (y : Layout) (slots id : ℕ) (t : TidStore) (v : View) → HasTid y t.id → v.role ≡ Connection t.conn → MayStoreTid t v
    → Allows (λ (s : TableState Unit View). Holds y s.words s.views) slots id (bare v) (tid_at y t.id) (λ _. tid_word t.word) (λ _ after. StoresTid t v after)
store_tid_allows y slots id t v there mine may s h len at below = (
  said t.word v,
  keeps,
  tt,
  word_kept y s.words s.views id t.id (tid_word t.word) v (said t.word v) h at there (refl, refl, refl, refl, refl)
      (recorded_said y.transactions y.seats (seat_words y s.words) (tid_words y s.words) (log_words y s.words) (known (λ x. x.role) s.views) (known knowledge_of s.views) h.recorded h.dealt id t.conn
      (known_is (λ x. x.role) s.views id v at ∙ mine) v (known_is knowledge_of s.views id v at) t.id t.word may.own may.says may.stays may.form),
  refl,
)

-- the form of the word that was found
pub found_form : (place id : ℕ) (v : View) (n : ℕ) (after : Me Unit View) (f : TidWord) → IsTidWord f → tid_word f ≡ n → LoadsTid place id v n after → after ≡ bare (saw place id f v)
found_form place id v n after f fits is told = told.3 ∙ ap (λ g. bare (saw place id g v)) (tid_one told.0 f told.1 fits (told.2 ∙ sym is))

-- a word that is not empty is noted
pub saw_filled : (place id : ℕ) (form : TidWord) (v : View) → (form ≡ tid.Empty → ⊥) → saw place id form v ≡ with_seen id form v
saw_filled place id tid.Empty v filled = absurd (filled refl)
saw_filled place id (tid.Live c o) v filled = refl
saw_filled place id (tid.Validating c o n) v filled = refl
saw_filled place id (tid.Committed c o n) v filled = refl
saw_filled place id (tid.RolledBack c o) v filled = refl

-- what is told, by the answer
pub drew_tid : (place : ℕ) (d : Drawing) (v : View) (n : ℕ) (after : Me Unit View) → DrawsTid place d v n after → DrewTid d v (eqb n 0) after
drew_tid place d v n after told =
    ⊎_elim
    (λ (hit : (n ≡ 0) × (after ≡ bare (drew d v))). subst (λ b. DrewTid d v b after) (sym (eq-eqb n 0 hit.0)) hit.1)
    (λ (miss : (n ≢ 0) × LoadsTid place d.id v n after).
    let filled : miss.1.0 ≡ tid.Empty → ⊥ = (λ none. miss.0 (sym miss.1.2 ∙ ap tid_word none)) in
    subst (λ b. DrewTid d v b after) (sym (ne_eqb n 0 miss.0)) (miss.1.0, miss.1.1, filled, miss.1.3 ∙ ap bare (saw_filled place d.id miss.1.0 v filled)))
    told
