-- The store keeps the rule.
use Rattle.std.proofs.Common.{ℕ, ◌∙◌, sym, ap, subst, arith}
use Rattle.atomic_table.specs.Table.{State, Allows, Me}
use Rattle.hc_base.specs.Words.{IsSeatWord, seat_word}
use Rattle.hc_rows.specs.declared.layout.Layout.{Layout}
use Rattle.hc_rows.specs.Places.{seat_at}
use Rattle.hc_rows.proofs.Steps.{seat_below}
use Rattle.hc_rule.specs.declared.view.View.{View}
use Rattle.hc_rule.specs.declared.view.Role.TheVariants.{Connection}
use Rattle.hc_rule.specs.Rule.{Holds}
use Rattle.hc_rule.specs.Views.{bare}
use Rattle.hc_rule.specs.Kinds.StoreSeat.{SeatStore, StoresSeat, MayStand}
use Rattle.hc_rule.proofs.Kept.StoreSeat.{store_seat_allows}
use Rattle.hc_steps.proofs.seat_words.store_seat_as.Goals as goal

-- this store of a number at this place, under the rule of this layout
abbrev IsAllowed : ℕ → ℕ → Layout → Me Unit View → ℕ → ℕ → SeatStore → Type 0
IsAllowed slots id y me place new s = Allows (λ (t : State Unit View). Holds y t.words t.views) slots id me place (λ _. new) (λ _ after. StoresSeat s me.0 after)

pub store-requires : goal.store-requires
store-requires g c =
    let y = c.args.layout.now in
    let me = c.args.seat.now.me in
    let slots = c.args.table.now.table_id.slots in
    let id = c.args.seat.now.id in
    let below = seat_below y c.args.conn c.requires.conn in
    let word = sym c.requires.picked.1 in
    let place = c.seat_at.ensures ∙ ap (seat_at y) c.from.ensures in (
      c.requires.seated.0,
      omega (arith, below, c.requires.seated.2, place),
      subst (λ k. IsAllowed slots id k me c.seat_at.result c.pack.result g.N.Standing.store) (sym c.requires.seated.1)
          (subst (λ m. IsAllowed slots id y m c.seat_at.result c.pack.result g.N.Standing.store) (sym c.requires.seated.4)
          (subst (λ i. IsAllowed slots id y (bare me.0) i c.pack.result g.N.Standing.store) (sym (place ∙ ap (seat_at y) (sym c.requires.picked.0)))
          (subst (λ n. IsAllowed slots id y (bare me.0) (seat_at y g.N.Standing.store.conn) n g.N.Standing.store) (sym (c.pack.ensures ∙ ap seat_word word))
          (store_seat_allows y slots id g.N.Standing.store me.0 (c.requires.connected ∙ ap Connection (sym c.requires.picked.0)) (subst IsSeatWord word c.requires.form) (subst (λ w. MayStand w me.0) word c.requires.may))))),
    )
