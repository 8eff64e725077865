-- What a transaction that has begun lets its seat store.
use Rattle.std.proofs.Common.{◌≡◌, ◌≢◌, ◌∙◌, ◌⊎◌, refl, sym, ap, subst, inr, ℕ, ◌≤◌, [], ◌∷◌, arith}
use Rattle.hc_base.specs.declared.numbers.Cid.{Cid}
use Rattle.hc_base.specs.declared.seat_word.SeatWord.TheVariants as seat
use Rattle.hc_core.specs.Account.{WhenOpen, IsIdle, txns}
use Rattle.hc_core.specs.Diary.{entry_of}
use Rattle.hc_core.specs.declared.account.Account.{Account}
use Rattle.hc_core.specs.declared.event.Event.TheVariants.{End}
use Rattle.hc_core.specs.declared.outcome.Outcome.TheVariants.{Done}
use Rattle.hc_rows.specs.declared.layout.Layout.{Layout}
use Rattle.hc_rule.specs.declared.view.View.{View}
use Rattle.hc_rule.specs.Holders.{IsRegistered}
use Rattle.hc_rule.specs.Kinds.LoadLog.{own_txns, Begins, at_end}
use Rattle.hc_rule.specs.Kinds.StoreSeat.{with_stage, MayStand, stood}
use Rattle.hc_tidlog.specs.Looking.{Began}
use Rattle.hc_pool.specs.Registering.{IsIdleSeat, Registers}

-- its snapshot
pub may_read : (y : Layout) (conn : ℕ) (v : View) (s : Cid) (w : View) → v.stage ≡ seat.Starting → Began y conn v s w → MayStand (seat.Snapshot s) w
may_read y conn v s w starting began = (
  ap (λ (x : View). x.stage) began.3 ∙ (ap (λ (x : View). x.stage) began.1.0.is ∙ starting),
  subst (λ (x : View). WhenOpen (own_txns x) (λ t. t.snapshot ≡ s.0)) (sym began.3) (refl, ap (λ (c : Cid). c.0) (sym began.2)),
)

-- which is not below what the seat had seen
pub not_below : (y : Layout) (conn : ℕ) (v : View) (s : Cid) (w : View) → Began y conn v s w → v.seen.0 ≤ s.0
not_below y conn v s w began =
    let least = began.1.0.least in
    let seen : s.0 ≡ began.1.0.seen.0 = ap (λ (c : Cid). c.0) began.2 ∙ ap (λ (x : View). x.seen.0) began.1.0.is in
    omega (arith, least, seen)

-- What a seat is that has registered: its word has a snapshot, it owns the pages that it had, and its transaction has done
-- nothing.
registered_is : (y : Layout) (conn : ℕ) (v : View) (s : Cid) (w : View) (registers : Registers y conn v s w) → w ≡ with_stage (seat.Snapshot s) (at_end Begins conn registers.1.0)
registered_is y conn v s w registers = registers.2 ∙ ap (λ u. with_stage (seat.Snapshot s) u) registers.1.3

pub is_registered : (y : Layout) (conn : ℕ) (v : View) (s : Cid) (w : View) → Registers y conn v s w → IsRegistered w.stage
is_registered y conn v s w registers = subst (λ (x : View). IsRegistered x.stage) (sym (registered_is y conn v s w registers)) tt

pub same_pages : (y : Layout) (conn : ℕ) (v : View) (s : Cid) (w : View) → Registers y conn v s w → w.pages ≡ v.pages
same_pages y conn v s w registers = ap (λ (x : View). x.pages) (registered_is y conn v s w registers) ∙ ap (λ (x : View). x.pages) registers.1.1.0.is

-- It may leave as long as its account is the same and it owns no page, and is idle then.
pub may_leave : (y : Layout) (conn : ℕ) (v : View) (s : Cid) (w x : View) → Registers y conn v s w → x.account ≡ w.account → x.pages ≡ [] → MayStand seat.Idle x
may_leave y conn v s w x registers same none =
    (subst (λ (a : Account). WhenOpen (txns a.entries) (λ t. (t.place ≢ 0) ⊎ (t.write_set ≡ []))) (sym (same ∙ ap (λ (z : View). z.account) (registered_is y conn v s w registers))) (refl, inr refl), none)

pub left_idle : (y : Layout) (conn at : ℕ) (v : View) (s : Cid) (w x : View) → Registers y conn v s w → x.account ≡ w.account → IsIdleSeat (stood seat.Idle at x)
left_idle y conn at v s w x registers same =
    (refl, subst (λ (a : Account). IsIdle (txns (entry_of (End at) Done ∷ a.entries))) (sym (same ∙ ap (λ (z : View). z.account) (registered_is y conn v s w registers))) refl)
