-- A load of a page's word keeps the rule: no word changes, and of the view what was found alone.
use Rattle.std.proofs.Common.{◌≡◌, ◌∙◌, refl, sym, subst, ℕ, ◌+◌, List, get_or, set, arith}
use Rattle.std.proofs.lemmas.List.{set-get_or}
use mathlib.Core.Option.{some}
use lib.ListN.{get_elem?}
use Rattle.hc_rows.specs.declared.layout.Layout.{Layout}
use Rattle.hc_rows.specs.Places.{HasPage, page_at}
use Rattle.hc_rows.specs.Regions.{page_words}
use Rattle.hc_rows.proofs.Steps.{words_are}
use Rattle.atomic_table.specs.Table.{State as TableState, keeps, Allows}
use Rattle.hc_rule.specs.declared.view.View.{View}
use Rattle.hc_rule.specs.Views.{knowledge_of, bare}
use Rattle.hc_rule.specs.States.{form_of}
use Rattle.hc_rule.specs.Rule.{Holds}
use Rattle.hc_rule.specs.Kinds.LoadPage.{with_found, LoadsPage}
use Rattle.hc_rule.proofs.Along.{holds_along}
use Rattle.hc_rule.proofs.Views.{known_kept}

-- no part reads what was found
pub found_kept : (y : Layout) (words : List ℕ) (views : List View) (id : ℕ) (v : View) (place n : ℕ) → get_elem? views id ≡ some v → Holds y words views → Holds y words (set views id (with_found place n v))
found_kept y words views id v place n at h =
    let w = with_found place n v in
    holds_along y words words views (set views id (with_found place n v)) h refl refl refl refl (known_kept (λ x. x.role) views id v w at refl) (known_kept (λ x. x.pages) views id v w at refl)
    (known_kept (λ x. x.claimed) views id v w at refl) (known_kept (λ x. x.loaded) views id v w at refl)
    (record { seat = refl; tid = refl; log = refl }) (known_kept (λ x. x.stage) views id v w at refl) (known_kept knowledge_of views id v w at refl)

pub load_page_allows : (y : Layout) (slots id : ℕ) (v : View) (p : ℕ) → HasPage y p
    → Allows (λ (s : TableState Unit View). Holds y s.words s.views) slots id (bare v) (page_at y p) (λ n. n) (λ n after. LoadsPage (page_at y p) v n after)
load_page_allows y slots id v p there s h len at below =
    let n = get_or s.words (page_at y p) 0 in
    let is : page_words y s.words p ≡ n = words_are (page_at y) 1 (y.pages + 1) s.words p there.0 (omega (arith, there)) in (
      with_found (page_at y p) n v,
      keeps,
      tt,
      subst (λ ws. Holds y ws (set s.views id (with_found (page_at y p) n v))) (sym (set-get_or s.words (page_at y p) 0)) (found_kept y s.words s.views id v (page_at y p) n at h),
      ((form_of (h.state p), h.stated.form p, sym (h.stated.word p) ∙ is), refl),
    )
