-- The exchange that wins a place of the log keeps the rule.
use Rattle.std.proofs.Common.{◌≡◌, ◌≢◌, ◌∙◌, refl, sym, ap, subst, ⊎_elim, inl, inr, ℕ, ◌+◌, ◌<◌, ◌≤◌, eqb, eq-eqb, ne_eqb, ltb, Some, List, [], ◌∷◌, get_or, set, length-set, arith}
use Rattle.std.proofs.lemmas.Bool.{cases_eq, cases_lt, lt-ltb, le-ltb}
use mathlib.Core.Option.{some}
use lib.ListN.{get_elem?}
use prog.Atomic.{either}
use Rattle.atomic_table.specs.Table.{State as TableState, Me, keeps, Allows}
use Rattle.std.proofs.lemmas.List.{set-get_or}
use Rattle.hc_base.specs.Lookup.{Among, but}
use Rattle.hc_base.specs.declared.numbers.Cid.{Cid}
use Rattle.hc_base.specs.Words.{IsSeatWord, seat_word}
use Rattle.hc_base.specs.declared.tid_word.TidWord.TheVariants as tid
use Rattle.hc_base.proofs.Lookups.{but-is, but-same, but-other, each_old, each_either, new_here, rest_here, others_here, old_there}
use Rattle.hc_core.specs.Account.{Txn, txns, WhenOpen, after_entry}
use Rattle.hc_core.specs.Sound.{AreSound}
use Rattle.hc_core.specs.declared.account.Entry.{Entry}
use Rattle.hc_core.specs.declared.event.Event.TheVariants.{Decide}
use Rattle.hc_core.specs.declared.outcome.Lost.{Lost as LostRecord}
use Rattle.hc_core.specs.declared.outcome.Outcome.TheVariants.{Lost}
use Rattle.hc_core.specs.Diary.{entry_of}
use Rattle.hc_core.proofs.Kept.Decide.{kept_decide}
use Rattle.hc_core.proofs.Kept.Lost.{kept_lost}
use Rattle.hc_rows.specs.declared.layout.Layout.{Layout}
use Rattle.hc_rows.specs.Places.{HasPlace, log_at}
use Rattle.hc_rows.specs.Regions.{seat_words, tid_words, log_words}
use Rattle.hc_rows.proofs.Steps.{words_are, at_log}
use Rattle.hc_rule.specs.declared.view.View.{View}
use Rattle.hc_rule.specs.declared.view.Role.{Role}
use Rattle.hc_rule.specs.declared.view.Role.TheVariants.{Connection}
use Rattle.hc_rule.specs.Views.{Knowledge, knowledge_of, known, bare}
use Rattle.hc_rule.specs.Seats.{IsDealt}
use Rattle.hc_rule.specs.Stages.{IsStage}
use Rattle.hc_rule.specs.TidWords.{Shows, open_id, IsOpenId}
use Rattle.hc_rule.specs.Seen.{IsSeenPlace}
use Rattle.hc_rule.specs.Recorded.{IsRecorded, txns_of}
use Rattle.hc_rule.specs.Rule.{Holds}
use Rattle.hc_rule.specs.Kinds.LoadLog.{own_txns, with_entry, later, with_place}
use Rattle.hc_rule.specs.Kinds.TidWord.{IsRolledBack}
use Rattle.hc_rule.specs.Kinds.WinLog.{Winning, IsReady, MayWin, decided, won_by, lost_to, WinsLog}
use Rattle.hc_rule.proofs.Along.{holds_with, held_along, recorded_along}
use Rattle.hc_rule.proofs.Entering.{Goes, seen_on, staged_changed, own_changed, recorded_entered}
use Rattle.hc_rule.proofs.Laying.{but_again}
use Rattle.hc_rule.proofs.LogSteps.{newest_of, running_id, size_within, stage_changed, logged_changed, worded_changed, all_changed}
use Rattle.hc_rule.proofs.OwnSeat.{account_is, seen_within, taken_within, id_within, place_within, words_old, places_old, stage_is}
use Rattle.hc_rule.proofs.Kept.LoadLog.{later_within, recorded_placed, recorded_noted, knowledge_kept}
use Rattle.hc_rule.proofs.Kept.TidWord.{own_form, own_id}
use Rattle.hc_rule.proofs.Views.{known_is, known_kept, known_set}

module _ (last seats : ℕ) (seat_at tid_at log : ℕ → ℕ) (role : ℕ → Role) (know : ℕ → Knowledge) (h : IsRecorded last seat_at tid_at log role know) (d : IsDealt seats role)
    (i conn : ℕ) (mine : role i ≡ Connection conn) (v : View) (is : know i ≡ knowledge_of v) where
  -- the proposal is lost
  recorded_void : (id c : ℕ) (l : LostRecord) → v.own ≡ Some (record { 0 = id }) → WhenOpen (own_txns v) (IsReady c) → IsRecorded last seat_at tid_at log role (but know i (knowledge_of (with_entry (entry_of (Decide conn) (Lost l)) v)))
  recorded_void id c l own ready =
      let o = newest_of (txns (h.account conn)) (IsReady c) (subst (λ (a : List Entry). WhenOpen (txns a) (IsReady c)) (sym (account_is last seats seat_at tid_at log role know h d i conn mine v is)) ready) in
      let e : Entry = entry_of (Decide conn) (Lost l) in
      let new : Txn = record o.t { proposed = 0; checked = [] } in
      let mine_id = own_id last seats seat_at tid_at log role know h d i conn mine v is id own in
      let t_id : o.t.id ≡ id = sym (ap open_id o.is ∙ running_id o.t o.rest o.running) ∙ mine_id.0 in
      recorded_noted last seats seat_at tid_at log role know h d i conn mine v is e (new ∷ o.rest) refl (ap (λ ts. after_entry e ts) o.is) (sym (ap open_id o.is))
      (logged_changed (txns_of h.account) conn o.t new o.rest o.is refl refl refl last log h.size h.drawn h.logged (kept_lost h.logged.sound conn o.t o.rest o.is o.holds.1))
      (worded_changed (txns_of h.account) conn o.t new o.rest o.is refl refl refl tid_at h.form h.drawn h.worded)
      (all_changed (txns_of h.account) conn o.t new o.rest o.is refl refl refl h.size h.form)
      (stage_changed v.stage o.t new o.rest o.running (λ none. mine_id.1 (sym t_id ∙ none)) refl refl (subst (IsStage v.stage) o.is (stage_is last seats seat_at tid_at log role know h d i conn mine v is)))

  -- the place is taken, and the transaction is committed there
  recorded_decided : (c id : ℕ) → 0 < c → MayWin (record { conn = conn; c = c; id = id; last = last }) v → log c ≡ 0
      → IsRecorded last seat_at tid_at (but log c id) role (but know i (knowledge_of (won_by (record { conn = conn; c = c; id = id; last = last }) v)))
  recorded_decided c id positive may free =
      let w : Winning = record { conn = conn; c = c; id = id; last = last } in
      let o = newest_of (txns (h.account conn)) (IsReady c) (subst (λ (a : List Entry). WhenOpen (txns a) (IsReady c)) (sym (account_is last seats seat_at tid_at log role know h d i conn mine v is)) may.ready) in
      let e : Entry = decided w in
      let new : Txn = record o.t { place = h.size + 1 } in
      let k = knowledge_of (won_by w v) in
      let mine_id = own_id last seats seat_at tid_at log role know h d i conn mine v is id may.own in
      let t_id : o.t.id ≡ id = sym (ap open_id o.is ∙ running_id o.t o.rest o.running) ∙ mine_id.0 in
      let drew : o.t.id ≢ 0 = (λ none. mine_id.1 (sym t_id ∙ none)) in
      let t_there : Among o.t (txns_of h.account conn) = old_there (txns_of h.account) conn o.t o.rest o.is in
      let within = (h.logged.sound.each conn o.t t_there).numbers.proposed_within in
      let next : c ≡ h.size + 1 =
      elim (cases_lt h.size c) [
        | inl past ↦ omega (arith, past, within, o.holds.0)
        | inr old ↦ absurd (taken_within last seats seat_at tid_at log role know h d i conn mine v is c positive old free)
      ] in
      let form : h.form o.t.id ≡ tid.Validating conn may.ord (record { 0 = c }) = ap h.form (t_id ∙ sym mine_id.0) ∙ (own_form last seats seat_at tid_at log role know h d i conn mine v is ∙ may.validating) in
      let owner = (subst (Shows conn o.t) form (h.worded.shows conn o.t t_there drew)).0 in
      let logs : (λ n. but log c id (n + 1)) ≡ but (λ n. log (n + 1)) h.size o.t.id =
      (λ τ j. but-is (λ n. log (n + 1)) (λ n. but log c id (n + 1)) h.size o.t.id
      (subst (λ m. but log c id m ≡ o.t.id) next (but-same log c id ∙ sym t_id))
      (λ n differ. but-other log c (n + 1) id (λ same. differ (omega (arith, same, next)))) j τ) in
      recorded_entered last seats seat_at tid_at log role know h d i conn mine k e (new ∷ o.rest) refl (ap (λ xs. after_entry e xs) o.is ∙ ap (λ n. record o.t { place = n } ∷ o.rest) next)
      (ap (λ es. e ∷ es) (sym (ap (λ (x : Knowledge). x.account) is))) (sym (ap (λ (x : Knowledge). x.told) is))
      seat_at tid_at (but log c id) (h.size + 1) h.drawn h.form
      (record {
        empty = λ n past. but-other log c n id (λ same. omega (arith, same, next, past)) ∙ h.logged.empty n (omega (arith, past));
        sound = subst (λ l. AreSound (h.size + 1) l (but (txns_of h.account) conn (new ∷ o.rest))) (sym logs) (kept_decide h.logged.sound conn o.t o.rest o.is drew o.holds.1 (o.holds.0 ∙ next) o.holds.2);
        drawn_within = each_either (txns_of h.account) conn o.t o.rest o.is new (λ j u. u.id ≤ h.drawn) (h.logged.drawn_within conn o.t t_there) h.logged.drawn_within;
        each_drawn = λ n some_id below.
            let x = h.logged.each_drawn n some_id below in
            each_old (txns_of h.account) conn o.t o.rest o.is (λ j u. u.id ≡ n → (q : ℕ) × (z : Txn) × Among z (but (txns_of h.account) conn (new ∷ o.rest) q) × (z.id ≡ n))
            (λ same. (conn, new, new_here (txns_of h.account) conn new o.rest, same))
            (λ u u_there same. (conn, u, rest_here (txns_of h.account) conn new o.rest u u_there, same))
            (λ j u differ u_there same. (j, u, others_here (txns_of h.account) conn new o.rest j u differ u_there, same))
            x.0 x.1 x.2 x.3;
        room = h.logged.room;
      })
      (staged_changed seats role d i conn mine know k seat_at seat_at (txns_of h.account) (but (txns_of h.account) conn (new ∷ o.rest)) h.staged (λ j differ. refl) (λ j differ. but-other (txns_of h.account) conn j (new ∷ o.rest) differ)
      (h.staged.word i conn mine ∙ ap (λ (x : Knowledge). seat_word x.stage) is) (subst (λ (x : Knowledge). IsSeatWord x.stage) is (h.staged.form i conn mine))
      (subst (IsStage v.stage) (sym (but-same (txns_of h.account) conn (new ∷ o.rest)))
      (stage_changed v.stage o.t new o.rest o.running drew refl refl (subst (IsStage v.stage) o.is (stage_is last seats seat_at tid_at log role know h d i conn mine v is)))))
      (record {
        word = h.worded.word;
        fits = h.worded.fits;
        none = h.worded.none;
        shows = each_either (txns_of h.account) conn o.t o.rest o.is new (λ j u. u.id ≢ 0 → Shows j u (h.form u.id)) (λ some_id. subst (Shows conn new) (sym form) ((owner.0, owner.1), inr (sym next))) h.worded.shows;
      })
      (own_changed seats role d i conn mine know k h.form h.form (txns_of h.account) (but (txns_of h.account) conn (new ∷ o.rest)) h.own (λ j differ. but-other (txns_of h.account) conn j (new ∷ o.rest) differ) (λ j differ. refl)
      (subst (λ n. IsOpenId n v.own) (sym (ap open_id (but-same (txns_of h.account) conn (new ∷ o.rest)) ∙ sym (ap open_id o.is))) (subst (λ q. IsOpenId (open_id (txns (h.account conn))) q) (ap (λ (x : Knowledge). x.own) is) (h.own.id i conn mine)))
      (ap h.form (ap open_id (but-same (txns_of h.account) conn (new ∷ o.rest)) ∙ sym (ap open_id o.is)) ∙ own_form last seats seat_at tid_at log role know h d i conn mine v is))
      (seen_on log (but log c id) h.size (h.size + 1) h.form h.form (txns_of h.account) (but (txns_of h.account) conn (new ∷ o.rest)) know i k h.seen (omega arith)
      (λ j u u_there some_id. each_old (txns_of h.account) conn o.t o.rest o.is (λ j u. (x : Txn) × Among x (but (txns_of h.account) conn (new ∷ o.rest) j) × Goes h.size (h.form u.id) u x)
      (new, new_here (txns_of h.account) conn new o.rest, (refl, refl, inr (o.holds.1, omega arith, λ rolled. subst IsRolledBack form rolled)))
      (λ u u_there. (u, rest_here (txns_of h.account) conn new o.rest u u_there, (refl, refl, inl refl)))
      (λ j u differ u_there. (u, others_here (txns_of h.account) conn new o.rest j u differ u_there, (refl, refl, inl refl)))
      j u u_there)
      (λ n rolled. refl) (λ n taken. but-other log c n id (λ same. taken (ap log (sym same) ∙ free)))
      (later_within (ltb v.seen.0 c) v.seen c (h.size + 1) (let s = seen_within last seats seat_at tid_at log role know h d i conn mine v is in omega (arith, s)) (omega (arith, next)))
      (λ x there. inl (words_old last seats seat_at tid_at log role know h d i conn mine v is x there))
      (λ x. ⊎_elim (λ (new_one : x ≡ record { cid = record { 0 = c }; tid = record { 0 = id } }). inr (subst (IsSeenPlace (but log c id)) (sym new_one) (but-same log c id, mine_id.1)))
      (λ old. inl (places_old last seats seat_at tid_at log role know h d i conn mine v is x old))))

  pub recorded_won : (w : Winning) → w.conn ≡ conn → w.last ≡ last → 0 < w.c → MayWin w v → log w.c ≡ 0 → IsRecorded last seat_at tid_at (but log w.c w.id) role (but know i (knowledge_of (won_by w v)))
  recorded_won w conns lasts positive may free =
      let same : w ≡ record { conn = conn; c = w.c; id = w.id; last = last } = (λ t. record { conn = conns t; c = w.c; id = w.id; last = lasts t }) in
      subst (λ x. IsRecorded last seat_at tid_at (but log w.c w.id) role (but know i (knowledge_of (won_by x v)))) (sym same) (recorded_decided w.c w.id positive (subst (λ x. MayWin x v) same may) free)

module _ (last seats : ℕ) (seat_at tid_at log : ℕ → ℕ) (role : ℕ → Role) (know : ℕ → Knowledge) (h : IsRecorded last seat_at tid_at log role know) (d : IsDealt seats role)
    (i conn : ℕ) (mine : role i ≡ Connection conn) (v : View) (is : know i ≡ knowledge_of v) where
  -- the place was taken by another, and the proposal is lost
  pub recorded_lost : (w : Winning) (n : ℕ) → w.conn ≡ conn → MayWin w v → log w.c ≡ n → n ≢ 0 → IsRecorded last seat_at tid_at log role (but know i (knowledge_of (lost_to w n v)))
  recorded_lost w n conns may at taken =
      let placed = recorded_placed last seats seat_at tid_at log role know h d i conn mine v is w.c n at taken in
      let seen = with_place w.c n v in
      let both = recorded_void last seats seat_at tid_at log role (but know i (knowledge_of (with_place w.c n v))) placed d i conn mine (with_place w.c n v) (but-same know i (knowledge_of (with_place w.c n v))) w.id w.c
      (record { cid = record { 0 = w.c }; other = record { 0 = n } }) may.own may.ready in
      subst (λ c. IsRecorded last seat_at tid_at log role (but know i (knowledge_of (with_entry (entry_of (Decide c) (Lost (record { cid = record { 0 = w.c }; other = record { 0 = n } }))) (with_place w.c n v))))) (sym conns)
      (subst (λ f. IsRecorded last seat_at tid_at log role f) (but_again know i (knowledge_of (with_place w.c n v)) (knowledge_of (with_entry (entry_of (Decide conn) (Lost (record { cid = record { 0 = w.c }; other = record { 0 = n } }))) (with_place w.c n v)))) both)

-- what a seat has seen is no more than there are ids
seen_below : (last : ℕ) (seat_at tid_at log : ℕ → ℕ) (role : ℕ → Role) (know : ℕ → Knowledge) → IsRecorded last seat_at tid_at log role know → (i : ℕ) → (know i).seen ≤ last
seen_below last seat_at tid_at log role know h i =
    let seen = h.seen.within i in
    let few = size_within last log h.size h.drawn (txns_of h.account) h.logged in
    let room = h.logged.room in
    omega (arith, seen, few, room)

later_above : (seen : Cid) (c : ℕ) → c ≤ (later seen c).0
later_above seen c =
    elim (cases_lt seen.0 c) [
      | inl less ↦ rw (lt-ltb seen.0 c less) (omega arith)
      | inr more ↦ rw (le-ltb seen.0 c more) more
    ]

-- the rule where the word of the log is the id now
won_kept : (y : Layout) (words : List ℕ) (views : List View) (id : ℕ) (w : Winning) (v : View) → Holds y words views → get_elem? views id ≡ some v → HasPlace y w.c
    → IsRecorded y.transactions (seat_words y words) (tid_words y words) (but (log_words y words) w.c w.id) (known (λ x. x.role) views) (but (known knowledge_of views) id (knowledge_of (won_by w v)))
    → Holds y (set words (log_at y w.c) w.id) (set views id (won_by w v))
won_kept y words views id w v h at there recorded =
    let step = at_log y words w.c w.id h.sized there in
    let roles = known_kept (λ x. x.role) views id v (won_by w v) at refl in
    holds_with y words _ views (set views id (won_by w v)) h (length-set words (log_at y w.c) w.id) step.page step.map step.row
    roles (known_kept (λ x. x.pages) views id v (won_by w v) at refl) (known_kept (λ x. x.claimed) views id v (won_by w v) at refl) (known_kept (λ x. x.loaded) views id v (won_by w v) at refl)
    (held_along views (set views id (won_by w v)) (known_kept (λ x. x.stage) views id v (won_by w v) at refl) (known_kept (λ x. x.pages) views id v (won_by w v) at refl) h.held)
    (recorded_along y.transactions _ _ _ _ _ _ _ _ _ _ step.seat step.tid step.log roles (known_set knowledge_of views id v (won_by w v) at) recorded)

pub win_log_allows : (y : Layout) (slots id : ℕ) (w : Winning) (v : View) → HasPlace y w.c → v.role ≡ Connection w.conn → w.last ≡ y.transactions → MayWin w v
    → Allows (λ (s : TableState Unit View). Holds y s.words s.views) slots id (bare v) (log_at y w.c) (λ n. either (eqb n 0) w.id n) (λ n after. WinsLog w v n after)
win_log_allows y slots id w v there mine last may s h len at below =
    let here : log_words y s.words w.c ≡ get_or s.words (log_at y w.c) 0 = words_are (log_at y) 1 (y.transactions + 2) s.words w.c there.0 (omega (arith, there)) in
    let mine_is : known (λ x. x.role) s.views id ≡ Connection w.conn = known_is (λ x. x.role) s.views id v at ∙ mine in
    let is = known_is knowledge_of s.views id v at in
    let won_within : IsRecorded y.transactions (seat_words y s.words) (tid_words y s.words) (but (log_words y s.words) w.c w.id) (known (λ x. x.role) s.views) (but (known knowledge_of s.views) id (knowledge_of (won_by w v))) → w.c ≤ w.last =
    (λ after. let below = seen_below y.transactions (seat_words y s.words) (tid_words y s.words) (but (log_words y s.words) w.c w.id) (known (λ x. x.role) s.views) (but (known knowledge_of s.views) id (knowledge_of (won_by w v))) after id in
    let seen : w.c ≤ (later v.seen w.c).0 = later_above v.seen w.c in
    let own : (but (known knowledge_of s.views) id (knowledge_of (won_by w v)) id).seen ≡ (later v.seen w.c).0 = ap (λ (k : Knowledge). k.seen) (but-same (known knowledge_of s.views) id (knowledge_of (won_by w v))) in
    omega (arith, below, seen, own, last)) in
    ⊎_elim
    (λ (hit : get_or s.words (log_at y w.c) 0 ≡ 0). (
      won_by w v,
      keeps,
      tt,
      subst (λ b. Holds y (set s.words (log_at y w.c) (either b w.id (get_or s.words (log_at y w.c) 0))) (set s.views id (won_by w v))) (sym (eq-eqb (get_or s.words (log_at y w.c) 0) 0 hit))
          (won_kept y s.words s.views id w v h at there
          (recorded_won y.transactions y.seats (seat_words y s.words) (tid_words y s.words) (log_words y s.words) (known (λ x. x.role) s.views) (known knowledge_of s.views) h.recorded h.dealt id w.conn mine_is v is w refl last there.0 may (here ∙ hit))),
      (won_within (recorded_won y.transactions y.seats (seat_words y s.words) (tid_words y s.words) (log_words y s.words) (known (λ x. x.role) s.views) (known knowledge_of s.views) h.recorded h.dealt id w.conn mine_is v is w refl last there.0 may (here ∙ hit)), inl (hit, refl)),
    ))
    (λ (miss : get_or s.words (log_at y w.c) 0 ≢ 0).
    let few = place_within y.transactions y.seats (seat_words y s.words) (tid_words y s.words) (log_words y s.words) (known (λ x. x.role) s.views) (known knowledge_of s.views) h.recorded h.dealt id w.conn mine_is v is w.c (λ none. miss (sym here ∙ none)) in
    let n_within = id_within y.transactions y.seats (seat_words y s.words) (tid_words y s.words) (log_words y s.words) (known (λ x. x.role) s.views) (known knowledge_of s.views) h.recorded h.dealt id w.conn mine_is v is w.c there.0 (λ none. miss (sym here ∙ none)) in (
      lost_to w (get_or s.words (log_at y w.c) 0) v,
      keeps,
      tt,
      subst (λ b. Holds y (set s.words (log_at y w.c) (either b w.id (get_or s.words (log_at y w.c) 0))) (set s.views id (lost_to w (get_or s.words (log_at y w.c) 0) v))) (sym (ne_eqb (get_or s.words (log_at y w.c) 0) 0 miss))
          (subst (λ ws. Holds y ws (set s.views id (lost_to w (get_or s.words (log_at y w.c) 0) v))) (sym (set-get_or s.words (log_at y w.c) 0))
          (knowledge_kept y s.words s.views id v (lost_to w (get_or s.words (log_at y w.c) 0) v) at h (refl, refl, refl, refl, refl)
          (recorded_lost y.transactions y.seats (seat_words y s.words) (tid_words y s.words) (log_words y s.words) (known (λ x. x.role) s.views) (known knowledge_of s.views) h.recorded h.dealt id w.conn mine_is v is w (get_or s.words (log_at y w.c) 0) refl may here miss))),
      (omega (arith, few, last), inr (miss, omega (arith, n_within, here, last), refl)),
    ))
    (cases_eq (get_or s.words (log_at y w.c) 0) 0)

-- what is told, by the word that was found
pub was_won : (w : Winning) (v : View) (n : ℕ) (after : Me Unit View) → n ≡ 0 → WinsLog w v n after → (w.c ≤ w.last) × (after ≡ bare (won_by w v))
was_won w v n after none told = (told.0, ⊎_elim (λ (hit : (n ≡ 0) × (after ≡ bare (won_by w v))). hit.1) (λ miss. absurd (miss.0 none)) told.1)

pub was_lost : (w : Winning) (v : View) (n : ℕ) (after : Me Unit View) → n ≢ 0 → WinsLog w v n after → (w.c ≤ w.last) × (n ≤ w.last) × (after ≡ bare (lost_to w n v))
was_lost w v n after taken told =
    let miss : (n ≤ w.last) × (after ≡ bare (lost_to w n v)) = ⊎_elim (λ hit. absurd (taken hit.0)) (λ (missed : (n ≢ 0) × (n ≤ w.last) × (after ≡ bare (lost_to w n v))). (missed.1, missed.2)) told.1 in
    (told.0, miss.0, miss.1)
