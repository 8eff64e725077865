-- The load keeps the rule.
use Rattle.std.proofs.Common.{ℕ, sym, subst, arith}
use Rattle.atomic_table.specs.Table.{State, Allows, Me}
use Rattle.hc_rows.specs.declared.layout.Layout.{Layout}
use Rattle.hc_rows.specs.Places.{row_at}
use Rattle.hc_rows.proofs.Steps.{row_below}
use Rattle.hc_rule.specs.declared.view.View.{View}
use Rattle.hc_rule.specs.Rule.{Holds}
use Rattle.hc_rule.specs.Views.{bare}
use Rattle.hc_rule.specs.Kinds.Rows.{LoadsRow}
use Rattle.hc_rule.proofs.Kept.Rows.{load_row_allows}
use Rattle.hc_steps.proofs.row_words.load_row_as.Goals as goal

-- a load of this word of this page at this place, under the rule of this layout
abbrev IsAllowed : ℕ → ℕ → Layout → Me Unit View → ℕ → ℕ → ℕ → Type 0
IsAllowed slots id y me place p word = Allows (λ (s : State Unit View). Holds y s.words s.views) slots id me place (λ n. n) (λ n after. LoadsRow p word me.0 n after)

pub load-requires : goal.load-requires
load-requires g c =
    let y = c.args.layout.now in
    let me = c.args.seat.now.me in
    let v = me.0 in
    let p = c.args.p.0 in
    let w = c.args.word in
    let slots = c.args.table.now.table_id.slots in
    let id = c.args.seat.now.id in
    let below = row_below y p w c.requires.page c.requires.word in (
      c.requires.seated.0,
      omega (arith, below, c.requires.seated.2, c.row_at.ensures),
      subst (λ k. IsAllowed slots id k me c.row_at.result g.N.Placed.page g.N.Placed.word) (sym c.requires.seated.1)
          (subst (λ m. IsAllowed slots id y m c.row_at.result g.N.Placed.page g.N.Placed.word) (sym c.requires.seated.4)
          (subst (λ i. IsAllowed slots id y (bare v) i g.N.Placed.page g.N.Placed.word) (sym c.row_at.ensures)
          (subst (λ q. IsAllowed slots id y (bare v) (row_at y p w) q g.N.Placed.word) (sym c.requires.picked.0)
          (subst (λ j. IsAllowed slots id y (bare v) (row_at y p w) p j) (sym c.requires.picked.1) (load_row_allows y slots id p w v c.requires.page c.requires.word))))),
    )
