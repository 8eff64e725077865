-- Each stage lets the seat make its next step, and the step leads to the next stage.
use Rattle.std.proofs.Common.{◌≡◌, ◌≢◌, ◌∙◌, refl, sym, ap, subst, ⊎_elim, inl, inr, ◌⊎◌, true≢false, ℕ, ◌+◌, ◌<◌, ◌≤◌, ltb, Bool, true, false, ◌&&◌, Option, Some, List, [], ◌∷◌, arith}
use Rattle.std.proofs.lemmas.Bool.{cases_Bool, cases_lt, lt-ltb, le-ltb}
use Rattle.hc_base.specs.Lookup.{Among}
use Rattle.hc_base.specs.Words.{IsTidWord}
use Rattle.hc_base.specs.declared.numbers.Cid.{Cid}
use Rattle.hc_base.specs.declared.numbers.Tid.{Tid}
use Rattle.hc_base.specs.declared.seat_word.SeatWord.TheVariants as seat
use Rattle.hc_base.specs.declared.tid_word.TidWord.{TidWord}
use Rattle.hc_base.specs.declared.tid_word.TidWord.TheVariants as tid
use Rattle.hc_core.specs.Account.{Txn, IsIdle, WhenOpen, begun_at, after_entry}
use Rattle.hc_core.specs.Diary.{entry_of}
use Rattle.hc_core.specs.declared.event.Event.TheVariants.{Draw, End, Propose}
use Rattle.hc_core.specs.declared.outcome.Outcome.TheVariants.{Done, Drew, Proposed as WasProposed}
use Rattle.atomic_table.specs.Table.{Me}
use Rattle.hc_rows.specs.declared.layout.Layout.{Layout}
use Rattle.hc_rule.specs.declared.view.View.{View}
use Rattle.hc_rule.specs.Kinds.LoadLog.{own_txns, later}
use Rattle.hc_rule.specs.Kinds.StoreSeat.{MayStand, stood}
use Rattle.hc_rule.specs.Kinds.TidWord.{IsRolledBack, with_seen, MayDraw, DrewTid, MaySay, MayStoreTid, said}
use Rattle.hc_rule.specs.Kinds.WinLog.{Winning, MayWin, won_by, lost_to, decided, lost}
use Rattle.hc_steps.specs.Own.{own_id, own_store, own_win}
use Rattle.hc_tidlog.specs.Looking.{MayPropose, Proposed}
use Rattle.hc_tidlog.specs.Seeking.{CanDraw, DrewNext, FoundDrawn}
use Rattle.hc_pool.specs.Registering.{IsIdleSeat, Registers}
use Rattle.hc_test_txns.specs.Done.{are_done}
use Rattle.hc_test_txns.specs.Stages.{txn_of, IsOrdinal, MayStart, IsNewest, HasStarted, IsDrawn, DrewFirst, Validates, MayEnd}

-- one of them is done where it has ended with a lower ordinal
done_one : (number : ℕ) (t : Txn) (ts : List Txn) → t.ended ≡ true → t.ord < number → are_done number ts ≡ true → are_done number (t ∷ ts) ≡ true
done_one number t ts ended below done = rw ended (rw (lt-ltb t.ord number below) done)

done_first : (number : ℕ) (t : Txn) (ts : List Txn) → are_done number (t ∷ ts) ≡ true → (t.ended ≡ true) × (t.ord < number) × (are_done number ts ≡ true)
done_first number t ts done =
    elim (cases_Bool t.ended) [
      | inl ended ↦
          elim (cases_lt t.ord number) [
            | inl below ↦
                let rest : (t.ended && (ltb t.ord number && are_done number ts)) ≡ are_done number ts = rw ended (rw (lt-ltb t.ord number below) refl) in
                (ended, below, sym rest ∙ done)
            | inr above ↦
                let none : (t.ended && (ltb t.ord number && are_done number ts)) ≡ false = rw ended (rw (le-ltb t.ord number above) refl) in
                absurd (true≢false (sym done ∙ none))
          ]
      | inr running ↦
          let none : (t.ended && (ltb t.ord number && are_done number ts)) ≡ false = rw running refl in
          absurd (true≢false (sym done ∙ none))
    ]

done_idle : (number : ℕ) (ts : List Txn) → are_done number ts ≡ true → IsIdle ts
done_idle number [] done = tt
done_idle number (t ∷ ts) done = (done_first number t ts done).0

done_below : (number : ℕ) (ts : List Txn) → are_done number ts ≡ true → (t : Txn) → Among t ts → t.ord < number
done_below number [] done t there = absurd there
done_below number (u ∷ ts) done t there =
    let d = done_first number u ts done in
    ⊎_elim (λ (is : t ≡ u). subst (λ (x : Txn). x.ord < number) (sym is) d.1) (λ later. done_below number ts d.2 t later) there

done_more : (one other : ℕ) (ts : List Txn) → one ≤ other → are_done one ts ≡ true → are_done other ts ≡ true
done_more one other [] more done = refl
done_more one other (t ∷ ts) more done = let d = done_first one t ts done in done_one other t ts d.0 (let below = d.1 in omega (arith, below, more)) (done_more one other ts more d.2)

pub idle_seat : (number : ℕ) (v : View) → MayStart number v → IsIdleSeat v
idle_seat number v may = (may.0, done_idle number (own_txns v) may.1)

pub started : (y : Layout) (conn number : ℕ) (v : View) (s : Cid) (w : View) → MayStart number v → Registers y conn v s w → w.pages ≡ [] → HasStarted number w
started y conn number v s w may registers none =
    let began = registers.1 in record {
      none = none;
      snapshot = s;
      reads = ap (λ (x : View). x.stage) registers.2;
      newest = record {
        rest = own_txns v;
        is =
            ap own_txns registers.2
            ∙ (ap own_txns began.3
            ∙ (ap (λ (n : Cid). begun_at n.0 ∷ own_txns began.0) (sym began.2)
            ∙ ap (λ ts. begun_at s.0 ∷ ts) (ap own_txns began.1.0.is)));
        done = may.1;
      };
    }

later_above : (seen : Cid) (c : ℕ) → c ≤ (later seen c).0
later_above seen c =
    elim (cases_lt seen.0 c) [
      | inl less ↦ rw (lt-ltb seen.0 c less) (omega arith)
      | inr more ↦ rw (le-ltb seen.0 c more) more
    ]

-- what holds of the newest transaction, where it runs
when_open : (number : ℕ) (t : Txn) (v : View) (P : Txn → Type 0) → IsNewest number t v → t.ended ≡ false → P t → WhenOpen (own_txns v) P
when_open number t v P newest running holds = subst (λ ts. WhenOpen ts P) (sym newest.is) (running, holds)

pub can_draw : (number : ℕ) (v : View) → IsOrdinal number → HasStarted number v → CanDraw number v
can_draw number v ord started = record {
  snapshot = started.snapshot;
  reads = started.reads;
  undrawn = when_open number (txn_of started.snapshot.0 0 0 0 0) v (λ t. t.id ≡ 0) started.newest refl refl;
  ord = ord;
  above = λ t there.
      ⊎_elim
      (λ (is : t ≡ txn_of started.snapshot.0 0 0 0 0). subst (λ (x : Txn). x.ord < number) (sym is) ord.0)
      (λ before. done_below number started.newest.rest started.newest.done t before)
      (subst (Among t) started.newest.is there);
}

pub drawn : (y : Layout) (conn number id : ℕ) (v w : View) → HasStarted number v → DrewNext y conn number v id w → IsDrawn id number 0 0 w
drawn y conn number id v w started drew_next =
    let is = drew_next.4 in record {
      none = ap (λ (x : View). x.pages) is ∙ (ap (λ (x : View). x.pages) drew_next.3.is ∙ started.none);
      some = λ none. omega (arith, none, drew_next.2);
      own = ap (λ (x : View). x.own) is;
      snapshot = started.snapshot.0;
      newest = record {
        rest = started.newest.rest;
        is = ap own_txns is ∙ ap (λ ts. after_entry (entry_of (Draw conn number) (Drew (record { 0 = id }))) ts) (ap own_txns drew_next.3.is ∙ started.newest.is);
        done = started.newest.done;
      };
      stays = λ rolled. subst IsRolledBack (ap (λ (x : View). x.word) is) rolled;
    }

-- the first id may be tried, and is drawn or another's
pub may_draw_first : (conn number : ℕ) (v : View) → IsOrdinal number → HasStarted number v → MayDraw (record { conn = conn; id = 1; ord = number }) v
may_draw_first conn number v ord started =
    let can = can_draw number v ord started in
    record { snapshot = can.snapshot; reads = can.reads; undrawn = can.undrawn; ord = can.ord; above = can.above; follows = inl refl }

still_seen : (number id : ℕ) (f : TidWord) (v : View) → HasStarted number v → HasStarted number (with_seen id f v)
still_seen number id f v s = record { none = s.none; snapshot = s.snapshot; reads = s.reads; newest = record { rest = s.newest.rest; is = s.newest.is; done = s.newest.done } }

pub drew_first : (y : Layout) (conn number : ℕ) (v : View) (b : Bool) (m : Me Unit View) → HasStarted number v → DrewTid (record { conn = conn; id = 1; ord = number }) v b m → DrewFirst number b m.0
drew_first y conn number v true m started told = drawn y conn number 1 v m.0 started (0, v, refl, record { more = []; empty = []; is = refl; found = inl refl }, ap (λ (x : Me Unit View). x.0) told)
drew_first y conn number v false m started told = subst (HasStarted number) (sym (ap (λ (x : Me Unit View). x.0) told.3)) (still_seen number 1 told.0 v started)

-- where no id is left nothing else is new
pub still_started : (y : Layout) (number last : ℕ) (v w : View) → HasStarted number v → FoundDrawn y last v w → HasStarted number w
still_started y number last v w started found = subst (HasStarted number) (sym found.2) (record { none = started.none; snapshot = started.snapshot; reads = started.reads; newest = record { rest = started.newest.rest; is = started.newest.is; done = started.newest.done } })

pub may_propose : (id number c : ℕ) (v : View) → IsDrawn id number c 0 v → MayPropose v
may_propose id number c v d = when_open number (txn_of d.snapshot id number c 0) v (λ t. (t.id ≢ 0) × (t.place ≡ 0)) d.newest refl (d.some, refl)

pub proposed : (y : Layout) (conn id number : ℕ) (v : View) (c : Cid) (w : View) → IsDrawn id number 0 0 v → Proposed y conn v c w → IsDrawn id number c.0 0 w
proposed y conn id number v c w d p =
    let u : View = p.0 in
    let own : w.own ≡ v.own = ap (λ (x : View). x.own) p.3 ∙ ap (λ (x : View). x.own) p.1.0.is in
    let word : w.word ≡ v.word = ap (λ (x : View). x.word) p.3 ∙ ap (λ (x : View). x.word) p.1.0.is in record {
      none = ap (λ (x : View). x.pages) p.3 ∙ (ap (λ (x : View). x.pages) p.1.0.is ∙ d.none);
      some = d.some;
      own = own ∙ d.own;
      snapshot = d.snapshot;
      newest = record {
        rest = d.newest.rest;
        is =
            ap own_txns p.3
            ∙ (ap (λ ts. after_entry (entry_of (Propose conn) (WasProposed (record { 0 = u.seen.0 + 1 }))) ts) (ap own_txns p.1.0.is ∙ d.newest.is)
            ∙ ap (λ n. txn_of d.snapshot id number n 0 ∷ d.newest.rest) (sym p.2));
        done = d.newest.done;
      };
      stays = λ rolled. d.stays (subst IsRolledBack word rolled);
    }

-- the number is the next after all that the seat has seen, which is not less than before
pub next : (y : Layout) (conn : ℕ) (v : View) (c : Cid) (w : View) → Proposed y conn v c w → (c.0 ≡ w.seen.0 + 1) × (v.seen.0 ≤ w.seen.0)
next y conn v c w p =
    let same : w.seen.0 ≡ p.0.seen.0 = ap (λ (x : View). x.seen.0) p.3 in
    let seen : p.0.seen.0 ≡ p.1.0.seen.0 = ap (λ (x : View). x.seen.0) p.1.0.is in
    let least = p.1.0.least in
    let number = p.2 in
    (omega (arith, same, number), omega (arith, same, seen, least))

-- its own id, as a number
own_is : (id : ℕ) (v : View) → v.own ≡ Some (record { 0 = id }) → v.own ≡ Some (record { 0 = own_id v.own })
own_is id v own = subst (λ (o : Option Tid). o ≡ Some (record { 0 = own_id o })) (sym own) refl

-- the word of the id may say so
pub may_validate : (conn id number : ℕ) (c : Cid) (v : View) → IsDrawn id number c.0 0 v → IsTidWord (tid.Validating conn number c)
    → MayStoreTid (own_store conn (tid.Validating conn number c) v) v
may_validate conn id number c v d form = record {
  own = own_is id v d.own;
  says = when_open number (txn_of d.snapshot id number c.0 0) v (MaySay conn (tid.Validating conn number c)) d.newest refl (refl, refl, refl, refl);
  stays = d.stays;
  form = form;
}

pub may_commit : (conn id number : ℕ) (c : Cid) (v : View) → IsDrawn id number c.0 c.0 v → IsTidWord (tid.Committed conn number c)
    → MayStoreTid (own_store conn (tid.Committed conn number c) v) v
may_commit conn id number c v d form = record {
  own = own_is id v d.own;
  says = when_open number (txn_of d.snapshot id number c.0 c.0) v (MaySay conn (tid.Committed conn number c)) d.newest refl (refl, refl, refl);
  stays = d.stays;
  form = form;
}

pub may_roll_back : (conn id number : ℕ) (v : View) → IsDrawn id number 0 0 v → IsTidWord (tid.RolledBack conn number)
    → MayStoreTid (own_store conn (tid.RolledBack conn number) v) v
may_roll_back conn id number v d form = record {
  own = own_is id v d.own;
  says = when_open number (txn_of d.snapshot id number 0 0) v (MaySay conn (tid.RolledBack conn number)) d.newest refl (refl, refl, refl, refl);
  stays = d.stays;
  form = form;
}

-- a word that was stored changes no transaction
said_drawn : (id number c place : ℕ) (f : TidWord) (v w : View) → IsDrawn id number c place v → (IsRolledBack f → ⊥) → w ≡ said f v → IsDrawn id number c place w
said_drawn id number c place f v w d stays is = subst (IsDrawn id number c place) (sym is) (record {
  none = d.none;
  some = d.some;
  own = d.own;
  snapshot = d.snapshot;
  newest = record { rest = d.newest.rest; is = d.newest.is; done = d.newest.done };
  stays = stays;
})

pub validates : (conn id number : ℕ) (c : Cid) (v w : View) → IsDrawn id number c.0 0 v → w ≡ said (tid.Validating conn number c) v → Validates conn id number c.0 w
validates conn id number c v w d is = (said_drawn id number c.0 0 (tid.Validating conn number c) v w d (λ rolled. rolled) is, ap (λ (x : View). x.word) is)

pub may_end : (id number c place : ℕ) (f : TidWord) (v w : View) → IsDrawn id number c place v → w ≡ said f v → MayEnd number w
may_end id number c place f v w d is = subst (MayEnd number) (sym is) (record {
  none = d.none;
  t = txn_of d.snapshot id number c place;
  nothing = refl;
  running = refl;
  ord = refl;
  newest = record { rest = d.newest.rest; is = d.newest.is; done = d.newest.done };
})

pub may_win : (conn last id number c : ℕ) (v : View) → Validates conn id number c v → MayWin (own_win conn c last v) v
may_win conn last id number c v d = record {
  own = own_is id v d.0.own;
  ord = number;
  validating = d.1;
  ready = when_open number (txn_of d.0.snapshot id number c 0) v (λ t. (t.proposed ≡ c) × (t.place ≡ 0) × _) d.0.newest refl (refl, refl, λ read there. absurd there);
}

pub won : (w : Winning) (id number : ℕ) (v after : View) → Validates w.conn id number w.c v → after ≡ won_by w v → IsDrawn id number w.c w.c after
won w id number v after d is = subst (IsDrawn id number w.c w.c) (sym is) (record {
  none = d.0.none;
  some = d.0.some;
  own = d.0.own;
  snapshot = d.0.snapshot;
  newest = record { rest = d.0.newest.rest; is = ap (λ ts. after_entry (decided w) ts) d.0.newest.is; done = d.0.newest.done };
  stays = d.0.stays;
})

pub was_lost : (w : Winning) (id number n : ℕ) (v after : View) → Validates w.conn id number w.c v → after ≡ lost_to w n v → IsDrawn id number 0 0 after
was_lost w id number n v after d is = subst (IsDrawn id number 0 0) (sym is) (record {
  none = d.0.none;
  some = d.0.some;
  own = d.0.own;
  snapshot = d.0.snapshot;
  newest = record { rest = d.0.newest.rest; is = ap (λ ts. after_entry (lost w n) ts) d.0.newest.is; done = d.0.newest.done };
  stays = d.0.stays;
})

-- and the place that another has is seen
pub seen_lost : (w : Winning) (n : ℕ) (v after : View) → after ≡ lost_to w n v → w.c ≤ after.seen.0
seen_lost w n v after is = subst (λ (x : View). w.c ≤ x.seen.0) (sym is) (later_above v.seen w.c)

-- the seat of a transaction that has nothing in its write set may be idle, and then the next may start
pub may_leave : (number : ℕ) (v : View) → MayEnd number v → MayStand seat.Idle v
may_leave number v e = (when_open number e.t v (λ t. (t.place ≢ 0) ⊎ (t.write_set ≡ [])) e.newest e.running (inr e.nothing), e.none)

ended : (number next conn : ℕ) (t : Txn) (v w : View) → IsNewest number t v → t.ord < next → number ≤ next → w ≡ stood seat.Idle conn v → MayStart next w
ended number next conn t v w newest below more is = subst (MayStart next) (sym is) (
  refl,
  subst (λ ts. are_done next ts ≡ true) (sym (ap (λ ts. after_entry (entry_of (End conn) Done) ts) newest.is)) (done_one next (record t { ended = true }) newest.rest refl below (done_more number next newest.rest more newest.done)),
)

pub left : (number conn : ℕ) (v w : View) → MayEnd number v → w ≡ stood seat.Idle conn v → MayStart (number + 1) w
left number conn v w e is = ended number (number + 1) conn e.t v w e.newest (let same = e.ord in omega (arith, same)) (omega arith) is

pub may_give_up : (number : ℕ) (v : View) → HasStarted number v → MayStand seat.Idle v
may_give_up number v s = (when_open number (txn_of s.snapshot.0 0 0 0 0) v (λ t. (t.place ≢ 0) ⊎ (t.write_set ≡ [])) s.newest refl (inr refl), s.none)

pub gave_up : (number conn : ℕ) (v w : View) → 0 < number → HasStarted number v → w ≡ stood seat.Idle conn v → MayStart number w
gave_up number conn v w some s is = ended number number conn (txn_of s.snapshot.0 0 0 0 0) v w s.newest some (omega arith) is
