-- The load keeps the rule.
use Rattle.std.proofs.Common.{ℕ, sym, subst, arith}
use Rattle.atomic_table.specs.Table.{State, Allows, Me}
use Rattle.hc_rows.specs.declared.layout.Layout.{Layout}
use Rattle.hc_rows.specs.Places.{tid_at}
use Rattle.hc_rows.proofs.Steps.{tid_below}
use Rattle.hc_rule.specs.declared.view.View.{View}
use Rattle.hc_rule.specs.Rule.{Holds}
use Rattle.hc_rule.specs.Views.{bare}
use Rattle.hc_rule.specs.Kinds.TidWord.{LoadsTid}
use Rattle.hc_rule.proofs.Kept.TidWord.{load_tid_allows}
use Rattle.hc_steps.proofs.tid_words.load_tid_as.Goals as goal

-- a load of the word of this id at this place, under the rule of this layout
abbrev IsAllowed : ℕ → ℕ → Layout → Me Unit View → ℕ → ℕ → Type 0
IsAllowed slots id y me place t = Allows (λ (s : State Unit View). Holds y s.words s.views) slots id me place (λ n. n) (λ n after. LoadsTid place t me.0 n after)

pub load-requires : goal.load-requires
load-requires g c =
    let y = c.args.layout.now in
    let me = c.args.seat.now.me in
    let slots = c.args.table.now.table_id.slots in
    let id = c.args.seat.now.id in
    let below = tid_below y c.args.t.0 c.requires.tid in (
      c.requires.seated.0,
      omega (arith, below, c.requires.seated.2, c.tid_at.ensures),
      subst (λ k. IsAllowed slots id k me c.tid_at.result g.N.Looked.id) (sym c.requires.seated.1)
          (subst (λ m. IsAllowed slots id y m c.tid_at.result g.N.Looked.id) (sym c.requires.seated.4)
          (subst (λ i. IsAllowed slots id y (bare me.0) i g.N.Looked.id) (sym c.tid_at.ensures)
          (subst (λ t. IsAllowed slots id y (bare me.0) (tid_at y c.args.t.0) t) (sym c.requires.picked) (load_tid_allows y slots id c.args.t.0 c.args.conn me.0 c.requires.tid c.requires.connected)))),
    )

pub returns-clause-told : goal.returns-clause-told
returns-clause-told g c =
    subst (λ place. LoadsTid place c.args.t.0 c.args.seat.now.me.0 c.load.result c.load.new.seat.me) c.tid_at.ensures
    (subst (λ t. LoadsTid c.tid_at.result t c.args.seat.now.me.0 c.load.result c.load.new.seat.me) c.requires.picked c.load.ensures.2)
