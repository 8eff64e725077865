-- A store of the word of the seat's own connection keeps the rule.
use Rattle.std.proofs.Common.{◌≡◌, ◌≢◌, ◌∙◌, refl, sym, ap, subst, inl, ◌⊎◌, ℕ, ◌≤◌, true, List, [], ◌∷◌, set, length-set, arith}
use mathlib.Core.Option.{some}
use lib.ListN.{get_elem?}
use Rattle.atomic_table.specs.Table.{State as TableState, keeps, Allows}
use Rattle.hc_base.specs.Lookup.{Among, but}
use Rattle.hc_base.specs.Words.{IsSeatWord, seat_word}
use Rattle.hc_base.specs.declared.seat_word.SeatWord.{SeatWord}
use Rattle.hc_base.specs.declared.seat_word.SeatWord.TheVariants as seat
use Rattle.hc_base.proofs.Lookups.{but-same, but-other}
use Rattle.hc_core.specs.Account.{Txn, txns, IsIdle, WhenOpen, after_entry}
use Rattle.hc_core.specs.Diary.{entry_of}
use Rattle.hc_core.specs.declared.account.Entry.{Entry}
use Rattle.hc_core.specs.declared.event.Event.TheVariants.{End}
use Rattle.hc_core.specs.declared.outcome.Outcome.TheVariants.{Done}
use Rattle.hc_core.proofs.Kept.End.{kept_end}
use Rattle.hc_rows.specs.declared.layout.Layout.{Layout}
use Rattle.hc_rows.specs.Places.{seat_at}
use Rattle.hc_rows.specs.Regions.{seat_words, tid_words, log_words}
use Rattle.hc_rows.proofs.Steps.{at_seat}
use Rattle.hc_rule.specs.declared.view.View.{View}
use Rattle.hc_rule.specs.declared.view.Role.{Role}
use Rattle.hc_rule.specs.declared.view.Row.{Row}
use Rattle.hc_rule.specs.declared.view.Role.TheVariants.{Connection}
use Rattle.hc_rule.specs.Views.{Knowledge, knowledge_of, known, bare}
use Rattle.hc_rule.specs.Seats.{IsDealt}
use Rattle.hc_rule.specs.Stages.{IsStage}
use Rattle.hc_rule.specs.TidWords.{open_id}
use Rattle.hc_rule.specs.Recorded.{IsRecorded, txns_of}
use Rattle.hc_rule.specs.Rule.{Holds}
use Rattle.hc_rule.specs.Kinds.LoadLog.{own_txns}
use Rattle.hc_rule.specs.Kinds.StoreSeat.{with_stage, MayStand, stood, SeatStore, StoresSeat}
use Rattle.hc_rule.specs.Holders.{IsRegistered}
use Rattle.hc_rule.proofs.Along.{holds_with, recorded_along}
use Rattle.hc_rule.proofs.Holding.{holders_along, holders_stage, idle_none}
use Rattle.hc_rule.proofs.Entering.{seen_on, staged_changed, own_changed, recorded_entered}
use Rattle.hc_rule.proofs.LogSteps.{newest_of, logged_changed, worded_changed, all_changed}
use Rattle.hc_rule.proofs.OwnSeat.{account_is, stage_is}
use Rattle.hc_rule.proofs.Recording.{accounts_learned, own_learned, seen_learned}
use Rattle.hc_rule.proofs.Views.{known_is, known_kept, known_set}

module _ (last seats : ℕ) (seat_at tid_at log : ℕ → ℕ) (role : ℕ → Role) (know : ℕ → Knowledge) (h : IsRecorded last seat_at tid_at log role know) (d : IsDealt seats role)
    (i conn : ℕ) (mine : role i ≡ Connection conn) (v : View) (is : know i ≡ knowledge_of v) where
  -- the seat stands at another stage of the same transactions
  recorded_staged : (s : SeatWord) → IsSeatWord s → IsStage s (txns (h.account conn)) → IsRecorded last (but seat_at conn (seat_word s)) tid_at log role (but know i (knowledge_of (with_stage s v)))
  recorded_staged s form stage =
      let k = knowledge_of (with_stage s v) in
      record {
        size = h.size;
        drawn = h.drawn;
        account = h.account;
        form = h.form;
        accounts = accounts_learned role know i k h.account (λ c held. sym (ap (λ (x : Knowledge). x.account) is)) (λ x there. h.accounts.told i x (subst (λ (q : Knowledge). Among x q.told) (sym is) there)) h.accounts;
        logged = h.logged;
        staged = staged_changed seats role d i conn mine know k seat_at (but seat_at conn (seat_word s)) (txns_of h.account) (txns_of h.account) h.staged (λ c differ. but-other seat_at conn c (seat_word s) differ) (λ c differ. refl)
            (but-same seat_at conn (seat_word s)) form stage;
        worded = h.worded;
        own = own_learned role know i k h.form (txns_of h.account) (λ c held. (sym (ap (λ (x : Knowledge). x.own) is), sym (ap (λ (x : Knowledge). x.word) is))) h.own;
        seen = seen_learned role know i k log h.size h.account h.form
            (record {
              told = λ x there. h.accounts.told i x (subst (λ (q : Knowledge). Among x q.told) (sym is) there);
              within = subst (λ (q : Knowledge). q.seen ≤ h.size) is (h.seen.within i);
              words = λ x there. h.seen.words i x (subst (λ (q : Knowledge). Among x q.words) (sym is) there);
              places = λ x there. h.seen.places i x (subst (λ (q : Knowledge). Among x q.places) (sym is) there);
            })
            h.seen;
      }

  -- the open transaction ends
  recorded_ended : WhenOpen (own_txns v) (λ t. (t.place ≢ 0) ⊎ (t.write_set ≡ [])) → IsRecorded last (but seat_at conn 0) tid_at log role (but know i (knowledge_of (stood seat.Idle conn v)))
  recorded_ended opened =
      let o = newest_of (txns (h.account conn)) (λ t. (t.place ≢ 0) ⊎ (t.write_set ≡ []))
      (subst (λ (a : List Entry). WhenOpen (txns a) (λ t. (t.place ≢ 0) ⊎ (t.write_set ≡ []))) (sym (account_is last seats seat_at tid_at log role know h d i conn mine v is)) opened) in
      let e : Entry = entry_of (End conn) Done in
      let new : Txn = record o.t { ended = true } in
      let ts : List Txn = new ∷ o.rest in
      let of = txns_of h.account in
      let k = knowledge_of (stood seat.Idle conn v) in
      recorded_entered last seats seat_at tid_at log role know h d i conn mine k e (record o.t { ended = true } ∷ o.rest) refl (ap (λ xs. after_entry (entry_of (End conn) Done) xs) o.is)
      (ap (λ es. entry_of (End conn) Done ∷ es) (sym (ap (λ (x : Knowledge). x.account) is))) (sym (ap (λ (x : Knowledge). x.told) is))
      (but seat_at conn 0) tid_at log h.size h.drawn h.form
      (logged_changed (txns_of h.account) conn o.t new o.rest o.is refl refl refl last log h.size h.drawn h.logged (kept_end h.logged.sound conn o.t o.rest o.is o.holds))
      (staged_changed seats role d i conn mine know k seat_at (but seat_at conn 0) (txns_of h.account) (but (txns_of h.account) conn (new ∷ o.rest)) h.staged (λ c differ. but-other seat_at conn c 0 differ) (λ c differ. but-other (txns_of h.account) conn c (new ∷ o.rest) differ)
      (but-same seat_at conn 0) tt (subst IsIdle (sym (but-same (txns_of h.account) conn (new ∷ o.rest))) refl))
      (worded_changed (txns_of h.account) conn o.t new o.rest o.is refl refl refl tid_at h.form h.drawn h.worded)
      (own_changed seats role d i conn mine know k h.form h.form (txns_of h.account) (but (txns_of h.account) conn (new ∷ o.rest)) h.own (λ c differ. but-other (txns_of h.account) conn c (new ∷ o.rest) differ) (λ c differ. refl)
      (ap open_id (but-same (txns_of h.account) conn (new ∷ o.rest)))
      (ap (λ xs. h.form (open_id xs)) (but-same (txns_of h.account) conn (new ∷ o.rest)) ∙ h.worded.none 0 (λ positive. omega (arith, positive))))
      (seen_on log log h.size h.size h.form h.form (txns_of h.account) (but (txns_of h.account) conn (new ∷ o.rest)) know i k h.seen (omega arith)
      (all_changed (txns_of h.account) conn o.t new o.rest o.is refl refl refl h.size h.form) (λ id rolled. refl) (λ c taken. refl) (subst (λ (q : Knowledge). q.seen ≤ h.size) is (h.seen.within i))
      (λ x there. inl (subst (λ (q : Knowledge). Among x q.words) (sym is) there)) (λ x there. inl (subst (λ (q : Knowledge). Among x q.places) (sym is) there)))

  -- by the word that is stored
  pub recorded_stood : (s : SeatWord) → IsSeatWord s → MayStand s v → IsRecorded last (but seat_at conn (seat_word s)) tid_at log role (but know i (knowledge_of (stood s conn v)))
  recorded_stood seat.Idle form may = recorded_ended may.0
  recorded_stood seat.Starting form may = recorded_staged seat.Starting form (inl (subst (λ s. IsStage s (txns (h.account conn))) may (stage_is last seats seat_at tid_at log role know h d i conn mine v is)))
  recorded_stood (seat.Snapshot snapshot) form may =
      recorded_staged (seat.Snapshot snapshot) form (subst (λ (a : List Entry). WhenOpen (txns a) (λ t. t.snapshot ≡ snapshot.0)) (sym (account_is last seats seat_at tid_at log role know h d i conn mine v is)) may.1)

-- the seat is registered then, or owns no page
still_holds : (s : SeatWord) (v : View) → MayStand s v → ((row : Row) → Among row v.pages → IsRegistered v.stage) → (row : Row) → Among row v.pages → IsRegistered s
still_holds seat.Idle v may was row there = subst (λ xs. Among row xs) may.1 there
still_holds seat.Starting v may was row there = absurd (subst IsRegistered may (was row there))
still_holds (seat.Snapshot snapshot) v may was row there = tt

stage_stood : (s : SeatWord) (conn : ℕ) (v : View) → (stood s conn v).stage ≡ s
stage_stood seat.Idle conn v = refl
stage_stood seat.Starting conn v = refl
stage_stood (seat.Snapshot snapshot) conn v = refl

-- of the view what is known of transactions alone changes
same_rest : {A : Type 0} (f : View → A) (v : View) (conn : ℕ) (s : SeatWord) → f (stood seat.Idle conn v) ≡ f v → f (with_stage seat.Starting v) ≡ f v → ((c : ℕ) → f (with_stage (seat.Snapshot (record { 0 = c })) v) ≡ f v) → f (stood s conn v) ≡ f v
same_rest f v conn seat.Idle one other third = one
same_rest f v conn seat.Starting one other third = other
same_rest f v conn (seat.Snapshot snapshot) one other third = third snapshot.0

pub store_seat_kept : (y : Layout) (words : List ℕ) (views : List View) (id : ℕ) (s : SeatStore) (v : View) → Holds y words views → get_elem? views id ≡ some v → v.role ≡ Connection s.conn → IsSeatWord s.word → MayStand s.word v
    → Holds y (set words (seat_at y s.conn) (seat_word s.word)) (set views id (stood s.word s.conn v))
store_seat_kept y words views id s v h at mine form may =
    let w = stood s.word s.conn v in
    let mine_is : known (λ x. x.role) views id ≡ Connection s.conn = known_is (λ x. x.role) views id v at ∙ mine in
    let step = at_seat y words s.conn (seat_word s.word) h.sized (h.dealt.there id s.conn mine_is) in
    let roles = known_kept (λ x. x.role) views id v (stood s.word s.conn v) at (same_rest (λ x. x.role) v s.conn s.word refl refl (λ c. refl)) in
    holds_with y words _ views (set views id (stood s.word s.conn v)) h (length-set words (seat_at y s.conn) (seat_word s.word)) step.page step.map step.row
    roles
    (known_kept (λ x. x.pages) views id v (stood s.word s.conn v) at (same_rest (λ x. x.pages) v s.conn s.word refl refl (λ c. refl)))
    (known_kept (λ x. x.claimed) views id v (stood s.word s.conn v) at (same_rest (λ x. x.claimed) v s.conn s.word refl refl (λ c. refl)))
    (known_kept (λ x. x.loaded) views id v (stood s.word s.conn v) at (same_rest (λ x. x.loaded) v s.conn s.word refl refl (λ c. refl)))
    (holders_along _ _ _ _ (known_set (λ x. x.stage) views id v (stood s.word s.conn v) at ∙ ap (λ x. but (known (λ z. z.stage) views) id x) (stage_stood s.word s.conn v))
    (known_kept (λ x. x.pages) views id v (stood s.word s.conn v) at (same_rest (λ x. x.pages) v s.conn s.word refl refl (λ c. refl)))
    (holders_stage (known (λ x. x.stage) views) (known (λ x. x.pages) views) id s.word
    (λ row there. still_holds s.word v may
    (λ r known_row. subst IsRegistered (known_is (λ x. x.stage) views id v at) (h.held.registered id r (subst (Among r) (sym (known_is (λ x. x.pages) views id v at)) known_row)))
    row (subst (Among row) (known_is (λ x. x.pages) views id v at) there))
    h.held))
    (recorded_along y.transactions _ _ _ _ _ _ _ _ _ _ step.seat step.tid step.log roles (known_set knowledge_of views id v (stood s.word s.conn v) at)
    (recorded_stood y.transactions y.seats (seat_words y words) (tid_words y words) (log_words y words) (known (λ x. x.role) views) (known knowledge_of views) h.recorded h.dealt id s.conn mine_is v (known_is knowledge_of views id v at) s.word form may))

pub store_seat_allows : (y : Layout) (slots id : ℕ) (s : SeatStore) (v : View) → v.role ≡ Connection s.conn → IsSeatWord s.word → MayStand s.word v
    → Allows (λ (t : TableState Unit View). Holds y t.words t.views) slots id (bare v) (seat_at y s.conn) (λ _. seat_word s.word) (λ _ after. StoresSeat s v after)
store_seat_allows y slots id s v mine form may t h len at below = (
  stood s.word s.conn v,
  keeps,
  tt,
  store_seat_kept y t.words t.views id s v h at mine form may,
  (
    λ idle. sym (known_is (λ x. x.pages) t.views id v at) ∙ idle_none (known (λ x. x.stage) t.views) (known (λ x. x.pages) t.views) h.held id (known_is (λ x. x.stage) t.views id v at ∙ idle),
    refl,
  ),
)
