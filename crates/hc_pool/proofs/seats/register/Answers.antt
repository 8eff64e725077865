-- The seat is starting, a transaction begins, and its snapshot is stored.
use Rattle.std.proofs.Common.{◌≡◌, ◌∙◌, refl, sym, ap, subst, ℕ, ◌≤◌}
use Rattle.atomic_table.specs.Table.{Me}
use Rattle.hc_base.specs.declared.seat_word.SeatWord.TheVariants as seat
use Rattle.hc_base.specs.declared.numbers.Cid.{Cid}
use Rattle.hc_rows.specs.declared.layout.Layout.{Layout}
use Rattle.hc_rule.specs.declared.view.View.{View}
use Rattle.hc_rule.specs.Holders.{IsRegistered}
use Rattle.hc_rule.specs.Kinds.StoreSeat.{with_stage}
use Rattle.hc_tidlog.specs.Looking.{MayBegin, Began}
use Rattle.hc_pool.specs.Registering.{Registers}
use Rattle.hc_pool.proofs.Registered.{may_read, not_below, same_pages}
use Rattle.hc_pool.proofs.seats.register.Goals as goal

pub begin-snapshot-requires : goal.begin-snapshot-requires
begin-snapshot-requires c = record { may = subst (λ (x : View). MayBegin x) (sym (ap (λ (m : Me Unit View). m.0) c.store_starting.ensures.seat)) (refl, c.requires.idle.1) }

pub store_snapshot-requires : goal.store_snapshot-requires
store_snapshot-requires c = record {
  begun = may_read c.store_starting.new.self.layout c.store_starting.new.self.conn c.store_starting.new.self.seat.me.0 c.begin-snapshot.result c.begin-snapshot.new.grip.seat.me.0 (ap (λ (m : Me Unit View). m.0.stage) c.store_starting.ensures.seat) c.begin-snapshot.ensures.begun;
}

-- the three steps are a registration
three_steps : (y y_2 : Layout) (conn conn_2 : ℕ) (v starting begun w : View) (s : Cid) → y_2 ≡ y → conn_2 ≡ conn → starting ≡ with_stage seat.Starting v → Began y_2 conn_2 starting s begun → w ≡ with_stage (seat.Snapshot s) begun → Registers y conn v s w
three_steps y y_2 conn conn_2 v starting begun w s layout same first began last =
    (begun, subst (λ x. Began x conn (with_stage seat.Starting v) s begun) layout (subst (λ n. Began y_2 n (with_stage seat.Starting v) s begun) same (subst (λ (x : View). Began y_2 conn_2 x s begun) first began)), last)

pub returns-clause-registered : goal.returns-clause-registered
returns-clause-registered c =
    three_steps c.args.grip.now.layout c.store_starting.new.self.layout c.args.grip.now.conn c.store_starting.new.self.conn c.args.grip.now.seat.me.0 c.store_starting.new.self.seat.me.0 c.begin-snapshot.new.grip.seat.me.0 c.store_snapshot.new.self.seat.me.0 c.begin-snapshot.result
    c.store_starting.ensures.same.0.0 c.store_starting.ensures.same.0.1 (ap (λ (m : Me Unit View). m.0) c.store_starting.ensures.seat) c.begin-snapshot.ensures.begun (ap (λ (m : Me Unit View). m.0) c.store_snapshot.ensures.seat)

pub returns-clause-may_claim : goal.returns-clause-may_claim
returns-clause-may_claim c = subst (λ (m : Me Unit View). IsRegistered m.0.stage) (sym c.store_snapshot.ensures.seat) tt

pub returns-clause-none : goal.returns-clause-none
returns-clause-none c =
    same_pages c.args.grip.now.layout c.args.grip.now.conn c.args.grip.now.seat.me.0 c.begin-snapshot.result c.store_snapshot.new.self.seat.me.0
    (three_steps c.args.grip.now.layout c.store_starting.new.self.layout c.args.grip.now.conn c.store_starting.new.self.conn c.args.grip.now.seat.me.0 c.store_starting.new.self.seat.me.0 c.begin-snapshot.new.grip.seat.me.0 c.store_snapshot.new.self.seat.me.0 c.begin-snapshot.result
    c.store_starting.ensures.same.0.0 c.store_starting.ensures.same.0.1 (ap (λ (m : Me Unit View). m.0) c.store_starting.ensures.seat) c.begin-snapshot.ensures.begun (ap (λ (m : Me Unit View). m.0) c.store_snapshot.ensures.seat))
    ∙ c.store_starting.ensures.none

pub returns-clause-least : goal.returns-clause-least
returns-clause-least c =
    subst (λ n. n ≤ c.begin-snapshot.result.0) (ap (λ (m : Me Unit View). m.0.seen.0) c.store_starting.ensures.seat)
    (not_below c.store_starting.new.self.layout c.store_starting.new.self.conn c.store_starting.new.self.seat.me.0 c.begin-snapshot.result c.begin-snapshot.new.grip.seat.me.0 c.begin-snapshot.ensures.begun)
