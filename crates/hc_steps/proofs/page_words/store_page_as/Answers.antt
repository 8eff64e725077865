-- The store keeps the rule.
use Rattle.std.proofs.Common.{ℕ, sym, subst, arith}
use Rattle.atomic_table.specs.Table.{State, Allows, Me}
use Rattle.hc_base.specs.Words.{page_word}
use Rattle.hc_base.specs.declared.page_word.PageWord.{PageWord}
use Rattle.hc_rows.specs.declared.layout.Layout.{Layout}
use Rattle.hc_rows.specs.Places.{page_at}
use Rattle.hc_rows.proofs.Steps.{page_below}
use Rattle.hc_rule.specs.declared.view.View.{View}
use Rattle.hc_rule.specs.Rule.{Holds}
use Rattle.hc_rule.specs.Views.{bare}
use Rattle.hc_rule.specs.Kinds.StorePage.{StoresPage}
use Rattle.hc_rule.proofs.Kept.StorePage.{store_page_allows}
use Rattle.hc_steps.proofs.page_words.store_page_as.Goals as goal

-- the store of this form's word on this page at this place, under the rule of this layout
abbrev IsAllowed : ℕ → ℕ → Layout → Me Unit View → ℕ → ℕ → ℕ → PageWord → Type 0
IsAllowed slots id y me place new p form = Allows (λ (s : State Unit View). Holds y s.words s.views) slots id me place (λ _. new) (λ _ after. StoresPage p form me.0 after)

pub store-requires : goal.store-requires
store-requires g c =
    let y = c.args.layout.now in
    let me = c.args.seat.now.me in
    let v = me.0 in
    let p = c.args.p.0 in
    let w = c.args.w in
    let slots = c.args.table.now.table_id.slots in
    let id = c.args.seat.now.id in
    let below = page_below y p c.requires.page in (
      c.requires.seated.0,
      omega (arith, below, c.requires.seated.2, c.page_at.ensures),
      subst (λ k. IsAllowed slots id k me c.page_at.result c.pack.result g.N.Storing.page g.N.Storing.form) (sym c.requires.seated.1)
          (subst (λ m. IsAllowed slots id y m c.page_at.result c.pack.result g.N.Storing.page g.N.Storing.form) (sym c.requires.seated.4)
          (subst (λ i. IsAllowed slots id y (bare v) i c.pack.result g.N.Storing.page g.N.Storing.form) (sym c.page_at.ensures)
          (subst (λ n. IsAllowed slots id y (bare v) (page_at y p) n g.N.Storing.page g.N.Storing.form) (sym c.pack.ensures)
          (subst (λ q. IsAllowed slots id y (bare v) (page_at y p) (page_word w) q g.N.Storing.form) (sym c.requires.picked.0)
          (subst (λ f. IsAllowed slots id y (bare v) (page_at y p) (page_word w) p f) (sym c.requires.picked.1)
          (store_page_allows y slots id p c.args.conn v w c.requires.page c.requires.connected c.requires.owns c.requires.form.1)))))),
    )
