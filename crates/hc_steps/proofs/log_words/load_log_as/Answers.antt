-- The load keeps the rule.
use Rattle.std.proofs.Common.{ℕ, ◌∙◌, sym, ap, subst, arith}
use Rattle.atomic_table.specs.Table.{State, Allows, Me}
use Rattle.hc_rows.specs.declared.layout.Layout.{Layout}
use Rattle.hc_rows.specs.Places.{HasPlace, log_at}
use Rattle.hc_rows.proofs.Steps.{log_below}
use Rattle.hc_rule.specs.declared.view.View.{View}
use Rattle.hc_rule.specs.declared.view.Role.TheVariants.{Connection}
use Rattle.hc_rule.specs.Rule.{Holds}
use Rattle.hc_rule.specs.Views.{bare}
use Rattle.hc_rule.specs.Kinds.LoadLog.{LogLoad, LoadsLog, Asks}
use Rattle.hc_rule.proofs.Kept.LoadLog.{load_log_allows}
use Rattle.hc_steps.proofs.log_words.load_log_as.Goals as goal

-- this load at this place, under the rule of this layout
abbrev IsAllowed : ℕ → ℕ → Layout → Me Unit View → ℕ → LogLoad → Type 0
IsAllowed slots id y me place load = Allows (λ (s : State Unit View). Holds y s.words s.views) slots id me place (λ n. n) (λ n after. LoadsLog place load me.0 n after)

pub load-requires : goal.load-requires
load-requires g c =
    let y = c.args.layout.now in
    let me = c.args.seat.now.me in
    let load = g.N.Looked.load in
    let slots = c.args.table.now.table_id.slots in
    let id = c.args.seat.now.id in
    let below = log_below y c.args.c.0 c.requires.place in
    let at = sym c.requires.picked.1 in (
      c.requires.seated.0,
      omega (arith, below, c.requires.seated.2, c.log_at.ensures),
      subst (λ k. IsAllowed slots id k me c.log_at.result g.N.Looked.load) (sym c.requires.seated.1)
          (subst (λ m. IsAllowed slots id y m c.log_at.result g.N.Looked.load) (sym c.requires.seated.4)
          (subst (λ i. IsAllowed slots id y (bare me.0) i g.N.Looked.load) (sym (c.log_at.ensures ∙ ap (log_at y) at))
          (load_log_allows y slots id g.N.Looked.load me.0 (subst (HasPlace y) at c.requires.place) (c.requires.connected ∙ ap Connection (sym c.requires.picked.0)) c.requires.picked.2
          (subst (λ n. Asks g.N.Looked.load.kind n me.0) at c.requires.asked)))),
    )

pub returns-clause-told : goal.returns-clause-told
returns-clause-told g c = subst (λ place. LoadsLog place g.N.Looked.load c.args.seat.now.me.0 c.load.result c.load.new.seat.me) c.log_at.ensures c.load.ensures.2
