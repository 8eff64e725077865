-- The exchange keeps the rule.
use Rattle.std.proofs.Common.{◌==◌, ℕ, ◌∙◌, sym, ap, subst, arith}
use prog.Atomic.{either}
use Rattle.atomic_table.specs.Table.{State, Allows, Me}
use Rattle.hc_base.specs.Words.{tid_word}
use Rattle.hc_base.specs.declared.tid_word.TidWord.TheVariants.{Live}
use Rattle.hc_rows.specs.declared.layout.Layout.{Layout}
use Rattle.hc_rows.specs.Places.{tid_at}
use Rattle.hc_rows.proofs.Steps.{tid_below}
use Rattle.hc_rule.specs.declared.view.View.{View}
use Rattle.hc_rule.specs.Rule.{Holds}
use Rattle.hc_rule.specs.Views.{bare}
use Rattle.hc_rule.specs.Kinds.TidWord.{Drawing, DrawsTid}
use Rattle.hc_rule.proofs.Kept.TidWord.{draw_allows}
use Rattle.hc_steps.proofs.tid_words.draw_as.Goals as goal

-- the exchange at this place for this word, in this draw, under the rule of this layout
abbrev IsAllowed : ℕ → ℕ → Layout → Me Unit View → ℕ → ℕ → Drawing → Type 0
IsAllowed slots id y me place new d = Allows (λ (s : State Unit View). Holds y s.words s.views) slots id me place (λ n. either (n == 0) new n) (λ n after. DrawsTid place d me.0 n after)

pub pack-new-requires : goal.pack-new-requires
pack-new-requires g c = (omega (arith, c.requires.conn, c.from.ensures), c.requires.may.ord.0, c.requires.may.ord.1)

pub compare_exchange-requires : goal.compare_exchange-requires
compare_exchange-requires g c =
    let y = c.args.layout.now in
    let me = c.args.seat.now.me in
    let slots = c.args.table.now.table_id.slots in
    let id = c.args.seat.now.id in
    let d : Drawing = record { conn = c.args.conn; id = c.args.t.0; ord = c.args.ord } in
    let word = c.pack-new.ensures ∙ ap (λ n. tid_word (Live n c.args.ord)) c.from.ensures in
    let below = tid_below y c.args.t.0 c.requires.tid in (
      c.requires.seated.0,
      omega (arith, below, c.requires.seated.2, c.tid_at.ensures),
      subst (λ k. IsAllowed slots id k me c.tid_at.result c.pack-new.result g.N.Drawn.drawing) (sym c.requires.seated.1)
          (subst (λ m. IsAllowed slots id y m c.tid_at.result c.pack-new.result g.N.Drawn.drawing) (sym c.requires.seated.4)
          (subst (λ i. IsAllowed slots id y (bare me.0) i c.pack-new.result g.N.Drawn.drawing) (sym c.tid_at.ensures)
          (subst (λ w. IsAllowed slots id y (bare me.0) (tid_at y c.args.t.0) w g.N.Drawn.drawing) (sym word)
          (subst (λ x. IsAllowed slots id y (bare me.0) (tid_at y c.args.t.0) (tid_word (Live c.args.conn c.args.ord)) x) (sym c.requires.picked)
          (draw_allows y slots id d me.0 c.requires.tid c.requires.connected c.requires.may))))),
    )

pub returns-clause-told : goal.returns-clause-told
returns-clause-told g c =
    subst (λ place. DrawsTid place (record { conn = c.args.conn; id = c.args.t.0; ord = c.args.ord }) c.args.seat.now.me.0 c.compare_exchange.result c.compare_exchange.new.seat.me) c.tid_at.ensures
    (subst (λ d. DrawsTid c.tid_at.result d c.args.seat.now.me.0 c.compare_exchange.result c.compare_exchange.new.seat.me) c.requires.picked c.compare_exchange.ensures.2)
