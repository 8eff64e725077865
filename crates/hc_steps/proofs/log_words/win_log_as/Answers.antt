-- The exchange keeps the rule.
use Rattle.std.proofs.Common.{◌==◌, ℕ, refl, sym, subst, arith}
use prog.Atomic.{either}
use Rattle.atomic_table.specs.Table.{State, Allows, Me}
use Rattle.hc_rows.specs.declared.layout.Layout.{Layout}
use Rattle.hc_rows.specs.Places.{log_at}
use Rattle.hc_rows.proofs.Steps.{log_below}
use Rattle.hc_rule.specs.declared.view.View.{View}
use Rattle.hc_rule.specs.Rule.{Holds}
use Rattle.hc_rule.specs.Views.{bare}
use Rattle.hc_rule.specs.Kinds.WinLog.{Winning, WinsLog}
use Rattle.hc_rule.proofs.Kept.WinLog.{win_log_allows}
use Rattle.hc_steps.proofs.log_words.win_log_as.Goals as goal

-- the exchange at this place for this number, under the rule of this layout
abbrev IsAllowed : ℕ → ℕ → Layout → Me Unit View → ℕ → ℕ → Winning → Type 0
IsAllowed slots id y me place new w = Allows (λ (s : State Unit View). Holds y s.words s.views) slots id me place (λ n. either (n == 0) new n) (λ n after. WinsLog w me.0 n after)

pub compare_exchange-requires : goal.compare_exchange-requires
compare_exchange-requires g c =
    let y = c.args.layout.now in
    let me = c.args.seat.now.me in
    let slots = c.args.table.now.table_id.slots in
    let id = c.args.seat.now.id in
    let w : Winning = record { conn = c.args.conn; c = c.args.c.0; id = c.args.t.0; last = c.args.layout.now.transactions } in
    let below = log_below y c.args.c.0 c.requires.place in (
      c.requires.seated.0,
      omega (arith, below, c.requires.seated.2, c.log_at.ensures),
      subst (λ k. IsAllowed slots id k me c.log_at.result c.from.result g.N.Wins.winning) (sym c.requires.seated.1)
          (subst (λ m. IsAllowed slots id y m c.log_at.result c.from.result g.N.Wins.winning) (sym c.requires.seated.4)
          (subst (λ i. IsAllowed slots id y (bare me.0) i c.from.result g.N.Wins.winning) (sym c.log_at.ensures)
          (subst (λ n. IsAllowed slots id y (bare me.0) (log_at y c.args.c.0) n g.N.Wins.winning) (sym c.from.ensures)
          (subst (λ x. IsAllowed slots id y (bare me.0) (log_at y c.args.c.0) c.args.t.0 x) (sym c.requires.picked)
          (win_log_allows y slots id w me.0 c.requires.place c.requires.connected refl c.requires.may))))),
    )

pub returns-clause-told : goal.returns-clause-told
returns-clause-told g c = subst (λ w. WinsLog w c.args.seat.now.me.0 c.compare_exchange.result c.compare_exchange.new.seat.me) c.requires.picked c.compare_exchange.ensures.2
