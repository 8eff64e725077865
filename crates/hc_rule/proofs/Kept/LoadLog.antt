-- A load of the word of a commit number keeps the rule.
use Rattle.std.proofs.Common.{◌≡◌, ◌≢◌, ◌∙◌, refl, sym, ap, subst, ⊎_elim, inl, inr, ℕ, ◌+◌, ◌<◌, ◌≤◌, Bool, true, false, cond, ltb, List, [], ◌∷◌, get_or, set, arith}
use Rattle.std.proofs.lemmas.Bool.{cases_eq}
use Rattle.std.proofs.lemmas.List.{set-get_or}
use mathlib.Core.Option.{some}
use lib.ListN.{get_elem?}
use Rattle.atomic_table.specs.Table.{State as TableState, Me, keeps, Allows}
use Rattle.hc_base.specs.Lookup.{Among, but}
use Rattle.hc_base.specs.declared.numbers.Cid.{Cid}
use Rattle.hc_base.specs.declared.seat_word.SeatWord.TheVariants as seat
use Rattle.hc_base.proofs.Lookups.{but-same, but-other}
use Rattle.hc_base.specs.Words.{IsSeatWord, seat_word}
use Rattle.hc_core.specs.Account.{Txn, txns, IsOf, after_entry, IsIdle, WhenOpen, begun_at}
use Rattle.hc_core.specs.Diary.{entry_of}
use Rattle.hc_core.specs.declared.account.Entry.{Entry}
use Rattle.hc_core.specs.declared.event.Event.TheVariants.{Begin, Propose}
use Rattle.hc_core.specs.declared.outcome.Outcome.TheVariants.{Began, Proposed}
use Rattle.hc_core.proofs.Kept.Propose.{kept_propose}
use Rattle.hc_rows.specs.declared.layout.Layout.{Layout}
use Rattle.hc_rows.specs.Places.{HasPlace, log_at}
use Rattle.hc_rows.specs.Regions.{seat_words, tid_words, log_words}
use Rattle.hc_rows.proofs.Steps.{words_are}
use Rattle.hc_rule.specs.declared.view.View.{View}
use Rattle.hc_rule.specs.declared.view.Role.{Role}
use Rattle.hc_rule.specs.declared.view.Role.TheVariants.{Connection}
use Rattle.hc_rule.specs.Views.{Knowledge, knowledge_of, known, bare}
use Rattle.hc_rule.specs.Seats.{IsDealt}
use Rattle.hc_rule.specs.Stages.{IsStage}
use Rattle.hc_rule.specs.CommitLog.{IsLogged}
use Rattle.hc_rule.specs.TidWords.{AreWorded, open_id, IsOpenId}
use Rattle.hc_rule.specs.Seen.{IsSeenPlace}
use Rattle.hc_rule.specs.Recorded.{IsRecorded, txns_of}
use Rattle.hc_rule.specs.Rule.{Holds}
use Rattle.hc_rule.specs.Kinds.LoadPage.{with_found}
use Rattle.hc_rule.specs.Kinds.LoadLog.{own_txns, with_entry, with_place, Looking, Looks, Begins, Proposes, Asks, at_end, LogLoad, LoadsLog}
use Rattle.hc_rule.proofs.Along.{holds_with, held_along, recorded_along}
use Rattle.hc_rule.proofs.Entering.{AllGo, seen_on, staged_changed, own_changed, recorded_entered}
use Rattle.hc_rule.proofs.LogSteps.{stage_changed, newest_of, idle_id, logged_begun, worded_begun, all_begun, logged_changed, worded_changed, all_changed}
use Rattle.hc_rule.proofs.OwnSeat.{field_is, account_is, seen_within, not_past, at_size, id_within, place_within, before_end, words_old, places_old}
use Rattle.hc_rule.proofs.Recording.{recorded_learned}
use Rattle.hc_rule.proofs.Views.{known_is, known_kept, known_set}

pub later_within : (b : Bool) (seen : Cid) (c size : ℕ) → seen.0 ≤ size → c ≤ size → (cond b (record { 0 = c }) seen).0 ≤ size
later_within true seen c size one other = other
later_within false seen c size one other = one

module _ (last seats : ℕ) (seat_at tid_at log : ℕ → ℕ) (role : ℕ → Role) (know : ℕ → Knowledge) (h : IsRecorded last seat_at tid_at log role know) (d : IsDealt seats role)
    (i conn : ℕ) (mine : role i ≡ Connection conn) (v : View) (is : know i ≡ knowledge_of v) where
  -- the seat notes a place that is taken
  pub recorded_placed : (c n : ℕ) → log c ≡ n → n ≢ 0 → IsRecorded last seat_at tid_at log role (but know i (knowledge_of (with_place c n v)))
  recorded_placed c n at taken = recorded_learned last seat_at tid_at log role know h i (knowledge_of (with_place c n v))
      (λ conn_2 held. record { account = sym (field_is last seats seat_at tid_at log role know h d i conn mine v is (λ k. k.account)); stage = sym (field_is last seats seat_at tid_at log role know h d i conn mine v is (λ k. k.stage)); own = sym (field_is last seats seat_at tid_at log role know h d i conn mine v is (λ k. k.own)); word = sym (field_is last seats seat_at tid_at log role know h d i conn mine v is (λ k. k.word)) })
      (record {
        told = λ x there. h.accounts.told i x (subst (λ (k : Knowledge). Among x k.told) (sym is) there);
        within = later_within (ltb v.seen.0 c) v.seen c h.size (seen_within last seats seat_at tid_at log role know h d i conn mine v is) (not_past last seats seat_at tid_at log role know h d i conn mine v is c (λ none. taken (sym at ∙ none)));
        words = λ x there. h.seen.words i x (subst (λ (k : Knowledge). Among x k.words) (sym is) there);
        places = λ x there.
            ⊎_elim
            (λ (same : x ≡ record { cid = record { 0 = c }; tid = record { 0 = n } }). subst (IsSeenPlace log) (sym same) (at, taken))
            (λ old. h.seen.places i x (subst (λ (k : Knowledge). Among x k.places) (sym is) old))
            there;
      })

  -- an entry that leaves the stage, the open id and its word
  module _ (e : Entry) (ts : List Txn) (is_of : IsOf conn e) (now : after_entry e (txns (h.account conn)) ≡ ts) (same_id : open_id ts ≡ open_id (txns (h.account conn))) where
    id_is : open_id (but (txns_of h.account) conn ts conn) ≡ open_id (txns (h.account conn))
    id_is = ap open_id (but-same (txns_of h.account) conn ts) ∙ same_id

    pub recorded_noted : IsLogged last log h.size h.drawn (but (txns_of h.account) conn ts) → AreWorded tid_at h.form h.drawn (but (txns_of h.account) conn ts)
        → AllGo h.size h.form (txns_of h.account) (but (txns_of h.account) conn ts) → IsStage v.stage ts
        → IsRecorded last seat_at tid_at log role (but know i (knowledge_of (with_entry e v)))
    recorded_noted logged worded go stage =
        let q = knowledge_of (with_entry e v) in
        recorded_entered last seats seat_at tid_at log role know h d i conn mine q e ts is_of now (ap (λ es. e ∷ es) (sym (field_is last seats seat_at tid_at log role know h d i conn mine v is (λ x. x.account)))) (sym (field_is last seats seat_at tid_at log role know h d i conn mine v is (λ x. x.told)))
        seat_at tid_at log h.size h.drawn h.form logged
        (staged_changed seats role d i conn mine know q seat_at seat_at (txns_of h.account) (but (txns_of h.account) conn ts) h.staged (λ c differ. refl) (λ c differ. but-other (txns_of h.account) conn c ts differ)
        (h.staged.word i conn mine ∙ ap seat_word (field_is last seats seat_at tid_at log role know h d i conn mine v is (λ x. x.stage))) (subst IsSeatWord (field_is last seats seat_at tid_at log role know h d i conn mine v is (λ x. x.stage)) (h.staged.form i conn mine))
        (subst (IsStage v.stage) (sym (but-same (txns_of h.account) conn ts)) stage))
        worded
        (own_changed seats role d i conn mine know q h.form h.form (txns_of h.account) (but (txns_of h.account) conn ts) h.own (λ c differ. but-other (txns_of h.account) conn c ts differ) (λ c differ. refl)
        (subst (λ n. IsOpenId n v.own) (sym id_is) (subst (λ o. IsOpenId (open_id (txns (h.account conn))) o) (field_is last seats seat_at tid_at log role know h d i conn mine v is (λ x. x.own)) (h.own.id i conn mine)))
        (ap h.form id_is ∙ (h.own.word i conn mine ∙ field_is last seats seat_at tid_at log role know h d i conn mine v is (λ x. x.word))))
        (seen_on log log h.size h.size h.form h.form (txns_of h.account) (but (txns_of h.account) conn ts) know i q h.seen (omega arith) go (λ id rolled. refl) (λ c taken. refl) (seen_within last seats seat_at tid_at log role know h d i conn mine v is)
        (λ x there. inl (words_old last seats seat_at tid_at log role know h d i conn mine v is x there)) (λ x there. inl (places_old last seats seat_at tid_at log role know h d i conn mine v is x there)))

  -- a transaction begins
  pub recorded_begun : log (v.seen.0 + 1) ≡ 0 → v.stage ≡ seat.Starting → IsIdle (own_txns v) → IsRecorded last seat_at tid_at log role (but know i (knowledge_of (at_end Begins conn v)))
  recorded_begun none starting idle =
      let was : IsIdle (txns (h.account conn)) = subst (λ (a : List Entry). IsIdle (txns a)) (sym (account_is last seats seat_at tid_at log role know h d i conn mine v is)) idle in
      let size = at_size last seats seat_at tid_at log role know h d i conn mine v is none in
      recorded_noted (entry_of (Begin conn) (Began v.seen)) (begun_at h.size ∷ txns (h.account conn)) refl (ap (λ n. begun_at n ∷ txns (h.account conn)) (sym size)) (sym (idle_id (txns (h.account conn)) was))
      (logged_begun last log h.size h.drawn (txns_of h.account) conn was h.logged)
      (worded_begun last log h.size h.drawn (txns_of h.account) conn was tid_at h.form h.worded)
      (all_begun last log h.size h.drawn (txns_of h.account) conn was h.form)
      (subst (λ s. IsStage s (begun_at h.size ∷ txns (h.account conn))) (sym starting) (inr (refl, refl)))

  -- the open transaction proposes the next number
  pub recorded_proposed : log (v.seen.0 + 1) ≡ 0 → WhenOpen (own_txns v) (λ t. (t.id ≢ 0) × (t.place ≡ 0)) → IsRecorded last seat_at tid_at log role (but know i (knowledge_of (at_end Proposes conn v)))
  recorded_proposed none opened =
      let o = newest_of (txns (h.account conn)) (λ t. (t.id ≢ 0) × (t.place ≡ 0)) (subst (λ (a : List Entry). WhenOpen (txns a) (λ t. (t.id ≢ 0) × (t.place ≡ 0))) (sym (account_is last seats seat_at tid_at log role know h d i conn mine v is)) opened) in
      let e : Entry = entry_of (Propose conn) (Proposed (record { 0 = v.seen.0 + 1 })) in
      let new : Txn = record o.t { proposed = h.size + 1; checked = [] } in
      recorded_noted e (new ∷ o.rest) refl
      (ap (λ ts. after_entry e ts) o.is ∙ ap (λ n. record o.t { proposed = n + 1; checked = [] } ∷ o.rest) (sym (at_size last seats seat_at tid_at log role know h d i conn mine v is none)))
      (sym (ap open_id o.is))
      (logged_changed (txns_of h.account) conn o.t new o.rest o.is refl refl refl last log h.size h.drawn h.logged (kept_propose h.logged.sound conn o.t o.rest o.is (h.size + 1) o.holds.0 o.holds.1 (omega arith)))
      (worded_changed (txns_of h.account) conn o.t new o.rest o.is refl refl refl tid_at h.form h.drawn h.worded)
      (all_changed (txns_of h.account) conn o.t new o.rest o.is refl refl refl h.size h.form)
      (stage_changed v.stage o.t new o.rest o.running o.holds.0 refl refl (subst (IsStage v.stage) o.is (subst (λ s. IsStage s (txns (h.account conn))) (field_is last seats seat_at tid_at log role know h d i conn mine v is (λ x. x.stage)) (h.staged.stage i conn mine))))

  -- by what the load is for
  pub recorded_at_end : (kind : Looking) (c : ℕ) → log c ≡ 0 → Asks kind c v → IsRecorded last seat_at tid_at log role (but know i (knowledge_of (at_end kind conn v)))
  recorded_at_end Looks c none asked = recorded_learned last seat_at tid_at log role know h i (knowledge_of v)
      (λ conn_2 held. record { account = sym (field_is last seats seat_at tid_at log role know h d i conn mine v is (λ k. k.account)); stage = sym (field_is last seats seat_at tid_at log role know h d i conn mine v is (λ k. k.stage)); own = sym (field_is last seats seat_at tid_at log role know h d i conn mine v is (λ k. k.own)); word = sym (field_is last seats seat_at tid_at log role know h d i conn mine v is (λ k. k.word)) })
      (record {
        told = λ x there. h.accounts.told i x (subst (λ (k : Knowledge). Among x k.told) (sym is) there);
        within = (seen_within last seats seat_at tid_at log role know h d i conn mine v is);
        words = λ x there. h.seen.words i x (words_old last seats seat_at tid_at log role know h d i conn mine v is x there);
        places = λ x there. h.seen.places i x (places_old last seats seat_at tid_at log role know h d i conn mine v is x there);
      })
  recorded_at_end Begins c none asked = recorded_begun (subst (λ n. log n ≡ 0) asked.0 none) asked.1 asked.2
  recorded_at_end Proposes c none asked = recorded_proposed (subst (λ n. log n ≡ 0) asked.0 none) asked.1

-- no word changes, and of the view what is known of transactions alone, and not the stage
abbrev pub LeavesRest : View → View → Type 0
LeavesRest v w = (w.role ≡ v.role) × (w.pages ≡ v.pages) × (w.claimed ≡ v.claimed) × (w.loaded ≡ v.loaded) × (w.stage ≡ v.stage)

pub knowledge_kept : (y : Layout) (words : List ℕ) (views : List View) (id : ℕ) (v w : View) → get_elem? views id ≡ some v → Holds y words views → LeavesRest v w
    → IsRecorded y.transactions (seat_words y words) (tid_words y words) (log_words y words) (known (λ x. x.role) views) (but (known knowledge_of views) id (knowledge_of w))
    → Holds y words (set views id w)
knowledge_kept y words views id v w at h leaves recorded =
    let roles = known_kept (λ x. x.role) views id v w at leaves.0 in
    holds_with y words words views (set views id w) h refl refl refl refl roles (known_kept (λ x. x.pages) views id v w at leaves.1) (known_kept (λ x. x.claimed) views id v w at leaves.2) (known_kept (λ x. x.loaded) views id v w at leaves.3)
    (held_along views (set views id w) (known_kept (λ x. x.stage) views id v w at leaves.4) (known_kept (λ x. x.pages) views id v w at leaves.1) h.held)
    (recorded_along y.transactions _ _ _ _ _ _ _ _ _ _ refl refl refl roles (known_set knowledge_of views id v w at) recorded)

leaves_rest : (kind : Looking) (conn place : ℕ) (v : View) → LeavesRest v (at_end kind conn (with_found place 0 v))
leaves_rest Looks conn place v = (refl, refl, refl, refl, refl)
leaves_rest Begins conn place v = (refl, refl, refl, refl, refl)
leaves_rest Proposes conn place v = (refl, refl, refl, refl, refl)

-- what was found changes nothing that is asked
asks_found : (kind : Looking) (c place : ℕ) (v : View) → Asks kind c v → Asks kind c (with_found place 0 v)
asks_found Looks c place v asked = asked
asks_found Begins c place v asked = asked
asks_found Proposes c place v asked = asked

pub load_log_allows : (y : Layout) (slots id : ℕ) (l : LogLoad) (v : View) → HasPlace y l.c → v.role ≡ Connection l.conn → l.last ≡ y.transactions → Asks l.kind l.c v
    → Allows (λ (s : TableState Unit View). Holds y s.words s.views) slots id (bare v) (log_at y l.c) (λ n. n) (λ n after. LoadsLog (log_at y l.c) l v n after)
load_log_allows y slots id l v there mine last asked s h len at below =
    let here : log_words y s.words l.c ≡ get_or s.words (log_at y l.c) 0 = words_are (log_at y) 1 (y.transactions + 2) s.words l.c there.0 (omega (arith, there)) in
    let role = known (λ x. x.role) s.views in
    let know = known knowledge_of s.views in
    let mine_is : known (λ x. x.role) s.views id ≡ Connection l.conn = known_is (λ x. x.role) s.views id v at ∙ mine in
    let is = known_is knowledge_of s.views id v at in
    ⊎_elim
    (λ (none : get_or s.words (log_at y l.c) 0 ≡ 0). (
      at_end l.kind l.conn (with_found (log_at y l.c) 0 v),
      keeps,
      tt,
      subst (λ ws. Holds y ws (set s.views id (at_end l.kind l.conn (with_found (log_at y l.c) 0 v)))) (sym (set-get_or s.words (log_at y l.c) 0))
          (knowledge_kept y s.words s.views id v (at_end l.kind l.conn (with_found (log_at y l.c) 0 v)) at h (leaves_rest l.kind l.conn (log_at y l.c) v)
          (recorded_at_end y.transactions y.seats (seat_words y s.words) (tid_words y s.words) (log_words y s.words) role know h.recorded h.dealt id l.conn mine_is (with_found (log_at y l.c) 0 v) is l.kind l.c (here ∙ none) (asks_found l.kind l.c (log_at y l.c) v asked))),
      inl (none, before_end y.transactions y.seats (seat_words y s.words) (tid_words y s.words) (log_words y s.words) role know h.recorded h.dealt id l.conn mine_is v is l.c there.0 (here ∙ none), refl),
    ))
    (λ (taken : get_or s.words (log_at y l.c) 0 ≢ 0).
    let few = place_within y.transactions y.seats (seat_words y s.words) (tid_words y s.words) (log_words y s.words) role know h.recorded h.dealt id l.conn mine_is v is l.c (λ none. taken (sym here ∙ none)) in
    let within = id_within y.transactions y.seats (seat_words y s.words) (tid_words y s.words) (log_words y s.words) role know h.recorded h.dealt id l.conn mine_is v is l.c there.0 (λ none. taken (sym here ∙ none)) in (
      with_place l.c (get_or s.words (log_at y l.c) 0) v,
      keeps,
      tt,
      subst (λ ws. Holds y ws (set s.views id (with_place l.c (get_or s.words (log_at y l.c) 0) v))) (sym (set-get_or s.words (log_at y l.c) 0))
          (knowledge_kept y s.words s.views id v (with_place l.c (get_or s.words (log_at y l.c) 0) v) at h (refl, refl, refl, refl, refl)
          (recorded_placed y.transactions y.seats (seat_words y s.words) (tid_words y s.words) (log_words y s.words) role know h.recorded h.dealt id l.conn mine_is v is l.c (get_or s.words (log_at y l.c) 0) here taken)),
      inr (taken, omega (arith, within, here, last), omega (arith, few, last), refl),
    ))
    (cases_eq (get_or s.words (log_at y l.c) 0) 0)

-- what is told, by the word
pub found_empty : (place : ℕ) (l : LogLoad) (v : View) (n : ℕ) (after : Me Unit View) → n ≡ 0 → LoadsLog place l v n after → (v.seen.0 < l.c) × (after ≡ bare (at_end l.kind l.conn (with_found place 0 v)))
found_empty place l v n after none told = ⊎_elim (λ (end : (n ≡ 0) × (v.seen.0 < l.c) × (after ≡ bare (at_end l.kind l.conn (with_found place 0 v)))). (end.1, end.2)) (λ taken. absurd (taken.0 none)) told

pub found_taken : (place : ℕ) (l : LogLoad) (v : View) (n : ℕ) (after : Me Unit View) → n ≢ 0 → LoadsLog place l v n after → (n ≤ l.last) × (l.c ≤ l.last) × (after ≡ bare (with_place l.c n v))
found_taken place l v n after taken told = ⊎_elim (λ end. absurd (taken end.0)) (λ (at : (n ≢ 0) × (n ≤ l.last) × (l.c ≤ l.last) × (after ≡ bare (with_place l.c n v))). (at.1, at.2, at.3)) told
