-- The store keeps the rule.
use Rattle.std.proofs.Common.{ℕ, sym, subst, arith}
use Rattle.atomic_table.specs.Table.{State, Allows, Me}
use Rattle.hc_base.specs.Words.{tid_word}
use Rattle.hc_rows.specs.declared.layout.Layout.{Layout}
use Rattle.hc_rows.specs.Places.{tid_at}
use Rattle.hc_rows.proofs.Steps.{tid_below}
use Rattle.hc_rule.specs.declared.view.View.{View}
use Rattle.hc_rule.specs.Rule.{Holds}
use Rattle.hc_rule.specs.Views.{bare}
use Rattle.hc_rule.specs.Kinds.TidWord.{TidStore, StoresTid}
use Rattle.hc_rule.proofs.Kept.TidWord.{store_tid_allows}
use Rattle.hc_steps.proofs.tid_words.store_tid_as.Goals as goal

-- the store of this number at this place, under the rule of this layout
abbrev IsAllowed : ℕ → ℕ → Layout → Me Unit View → ℕ → ℕ → TidStore → Type 0
IsAllowed slots id y me place new t = Allows (λ (s : State Unit View). Holds y s.words s.views) slots id me place (λ _. new) (λ _ after. StoresTid t me.0 after)

pub store-requires : goal.store-requires
store-requires g c =
    let y = c.args.layout.now in
    let me = c.args.seat.now.me in
    let slots = c.args.table.now.table_id.slots in
    let id = c.args.seat.now.id in
    let t : TidStore = record { conn = c.args.conn; id = c.args.t.0; word = c.args.w } in
    let below = tid_below y c.args.t.0 c.requires.tid in (
      c.requires.seated.0,
      omega (arith, below, c.requires.seated.2, c.tid_at.ensures),
      subst (λ k. IsAllowed slots id k me c.tid_at.result c.pack.result g.N.Saying.store) (sym c.requires.seated.1)
          (subst (λ m. IsAllowed slots id y m c.tid_at.result c.pack.result g.N.Saying.store) (sym c.requires.seated.4)
          (subst (λ i. IsAllowed slots id y (bare me.0) i c.pack.result g.N.Saying.store) (sym c.tid_at.ensures)
          (subst (λ n. IsAllowed slots id y (bare me.0) (tid_at y c.args.t.0) n g.N.Saying.store) (sym c.pack.ensures)
          (subst (λ x. IsAllowed slots id y (bare me.0) (tid_at y c.args.t.0) (tid_word c.args.w) x) (sym c.requires.picked)
          (store_tid_allows y slots id t me.0 c.requires.tid c.requires.connected c.requires.may))))),
    )

pub returns-clause-told : goal.returns-clause-told
returns-clause-told g c = subst (λ t. StoresTid t c.args.seat.now.me.0 c.store.new.seat.me) c.requires.picked c.store.ensures.2
