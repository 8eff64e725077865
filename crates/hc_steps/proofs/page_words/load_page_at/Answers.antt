-- The load keeps the rule.
use Rattle.std.proofs.Common.{ℕ, sym, subst, arith}
use Rattle.atomic_table.specs.Table.{State, Allows, Me}
use Rattle.hc_rows.specs.declared.layout.Layout.{Layout}
use Rattle.hc_rows.proofs.Steps.{page_below}
use Rattle.hc_rule.specs.declared.view.View.{View}
use Rattle.hc_rule.specs.Rule.{Holds}
use Rattle.hc_rule.specs.Views.{bare}
use Rattle.hc_rule.specs.Kinds.LoadPage.{LoadsPage}
use Rattle.hc_rule.proofs.Kept.LoadPage.{load_page_allows}
use Rattle.hc_steps.proofs.page_words.load_page_at.Goals as goal

-- a load at this place, under the rule of this layout
abbrev IsAllowed : ℕ → ℕ → Layout → Me Unit View → ℕ → Type 0
IsAllowed slots id y me place = Allows (λ (s : State Unit View). Holds y s.words s.views) slots id me place (λ n. n) (λ n after. LoadsPage place me.0 n after)

pub load-requires : goal.load-requires
load-requires c =
    let y = c.args.layout.now in
    let me = c.args.seat.now.me in
    let p = c.args.p.0 in
    let slots = c.args.table.now.table_id.slots in
    let id = c.args.seat.now.id in
    let below = page_below y p c.requires.page in (
      c.requires.seated.0,
      omega (arith, below, c.requires.seated.2, c.page_at.ensures),
      subst (λ k. IsAllowed slots id k me c.page_at.result) (sym c.requires.seated.1)
          (subst (λ m. IsAllowed slots id y m c.page_at.result) (sym c.requires.seated.4)
          (subst (λ i. IsAllowed slots id y (bare me.0) i) (sym c.page_at.ensures) (load_page_allows y slots id me.0 p c.requires.page))),
    )

pub returns-clause-told : goal.returns-clause-told
returns-clause-told c = subst (λ place. LoadsPage place c.args.seat.now.me.0 c.load.result c.load.new.seat.me) c.page_at.ensures c.load.ensures.2
