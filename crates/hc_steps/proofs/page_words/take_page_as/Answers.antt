-- The exchange keeps the rule.
use Rattle.std.proofs.Common.{◌==◌, ℕ, sym, subst, arith}
use prog.Atomic.{either}
use Rattle.atomic_table.specs.Table.{State, Allows, Me}
use Rattle.hc_base.specs.Words.{page_word}
use Rattle.hc_base.specs.declared.page_word.PageWord.TheVariants.{Owned}
use Rattle.hc_rows.specs.declared.layout.Layout.{Layout}
use Rattle.hc_rows.specs.Places.{page_at}
use Rattle.hc_rows.proofs.Steps.{page_below}
use Rattle.hc_rule.specs.declared.view.View.{View}
use Rattle.hc_rule.specs.Rule.{Holds}
use Rattle.hc_rule.specs.Views.{bare}
use Rattle.hc_rule.specs.Kinds.TakePage.{TakesPage}
use Rattle.hc_rule.proofs.Kept.TakePage.{take_page_allows}
use Rattle.hc_steps.proofs.page_words.take_page_as.Goals as goal

-- the exchange at this place for this word, of this page and with this next one, under the rule of this layout
abbrev IsAllowed : ℕ → ℕ → Layout → Me Unit View → ℕ → ℕ → ℕ → ℕ → Type 0
IsAllowed slots id y me place new p next =
    Allows (λ (s : State Unit View). Holds y s.words s.views) slots id me place (λ n. either (n == 0) new n) (λ n after. TakesPage place p next me.0 n after)

pub compare_exchange-requires : goal.compare_exchange-requires
compare_exchange-requires g c =
    let y = c.args.layout.now in
    let me = c.args.seat.now.me in
    let v = me.0 in
    let p = c.args.p.0 in
    let next = c.args.next in
    let slots = c.args.table.now.table_id.slots in
    let id = c.args.seat.now.id in
    let new = page_word (Owned c.args.conn c.args.next) in
    let below = page_below y p c.requires.page in (
      c.requires.seated.0,
      omega (arith, below, c.requires.seated.2, c.page_at.ensures),
      subst (λ k. IsAllowed slots id k me c.page_at.result c.pack-new.result g.N.Taking.page g.N.Taking.next) (sym c.requires.seated.1)
          (subst (λ m. IsAllowed slots id y m c.page_at.result c.pack-new.result g.N.Taking.page g.N.Taking.next) (sym c.requires.seated.4)
          (subst (λ i. IsAllowed slots id y (bare v) i c.pack-new.result g.N.Taking.page g.N.Taking.next) (sym c.page_at.ensures)
          (subst (λ w. IsAllowed slots id y (bare v) (page_at y p) w g.N.Taking.page g.N.Taking.next) (sym c.pack-new.ensures)
          (subst (λ q. IsAllowed slots id y (bare v) (page_at y p) new q g.N.Taking.next) (sym c.requires.picked.0)
          (subst (λ n. IsAllowed slots id y (bare v) (page_at y p) new p n) (sym c.requires.picked.1)
          (take_page_allows y slots id p c.args.conn c.args.next v c.requires.page c.requires.connected c.requires.registered (omega (arith, c.ranges.next.fits)))))))),
    )

pub returns-clause-told : goal.returns-clause-told
returns-clause-told g c =
    subst (λ place. TakesPage place c.args.p.0 c.args.next c.args.seat.now.me.0 c.compare_exchange.result c.compare_exchange.new.seat.me) c.page_at.ensures
    (subst (λ q. TakesPage c.page_at.result q c.args.next c.args.seat.now.me.0 c.compare_exchange.result c.compare_exchange.new.seat.me) c.requires.picked.0
    (subst (λ n. TakesPage c.page_at.result g.N.Taking.page n c.args.seat.now.me.0 c.compare_exchange.result c.compare_exchange.new.seat.me) c.requires.picked.1 c.compare_exchange.ensures.2))
