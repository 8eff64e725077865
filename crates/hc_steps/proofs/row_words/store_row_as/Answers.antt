-- The store keeps the rule.
use Rattle.std.proofs.Common.{ℕ, sym, subst, arith}
use Rattle.atomic_table.specs.Table.{State, Allows, Me}
use Rattle.hc_rows.specs.declared.layout.Layout.{Layout}
use Rattle.hc_rows.specs.Places.{row_at}
use Rattle.hc_rows.proofs.Steps.{row_below}
use Rattle.hc_rule.specs.declared.view.View.{View}
use Rattle.hc_rule.specs.Rule.{Holds}
use Rattle.hc_rule.specs.Views.{bare}
use Rattle.hc_rule.specs.Kinds.Rows.{StoresRow}
use Rattle.hc_rule.proofs.Kept.Rows.{store_row_allows}
use Rattle.hc_steps.proofs.row_words.store_row_as.Goals as goal

-- the store of this number as this word of this page at this place, under the rule of this layout
abbrev IsAllowed : ℕ → ℕ → Layout → Me Unit View → ℕ → ℕ → ℕ → ℕ → Type 0
IsAllowed slots id y me place new p word = Allows (λ (s : State Unit View). Holds y s.words s.views) slots id me place (λ _. new) (λ _ after. StoresRow p word me.0 new after)

pub store-requires : goal.store-requires
store-requires g c =
    let y = c.args.layout.now in
    let me = c.args.seat.now.me in
    let v = me.0 in
    let p = c.args.p.0 in
    let k = c.args.word in
    let n = c.args.w in
    let slots = c.args.table.now.table_id.slots in
    let id = c.args.seat.now.id in
    let below = row_below y p k c.requires.page c.requires.word in (
      c.requires.seated.0,
      omega (arith, below, c.requires.seated.2, c.row_at.ensures),
      subst (λ x. IsAllowed slots id x me c.row_at.result n g.N.Placed.page g.N.Placed.word) (sym c.requires.seated.1)
          (subst (λ m. IsAllowed slots id y m c.row_at.result n g.N.Placed.page g.N.Placed.word) (sym c.requires.seated.4)
          (subst (λ i. IsAllowed slots id y (bare v) i n g.N.Placed.page g.N.Placed.word) (sym c.row_at.ensures)
          (subst (λ q. IsAllowed slots id y (bare v) (row_at y p k) n q g.N.Placed.word) (sym c.requires.picked.0)
          (subst (λ j. IsAllowed slots id y (bare v) (row_at y p k) n p j) (sym c.requires.picked.1)
          (store_row_allows y slots id p c.args.conn k n v c.requires.page c.requires.connected c.requires.owns c.requires.word))))),
    )
