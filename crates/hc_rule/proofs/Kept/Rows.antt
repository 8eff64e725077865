-- A load and a store of a word of an owned page's row keep the rule.
use Rattle.std.proofs.Common.{◌≡◌, ◌∙◌, refl, sym, ap, subst, ℕ, ◌<◌, List, length, get_or, set, length-set}
use Rattle.std.proofs.lemmas.List.{set-get_or}
use mathlib.Core.Option.{some}
use lib.ListN.{get_elem?}
use Rattle.hc_base.specs.Lookup.{Among}
use Rattle.hc_rows.specs.declared.layout.Layout.{Layout}
use Rattle.hc_rows.specs.Places.{HasPage, row_at}
use Rattle.hc_rows.specs.Regions.{page_words, map_words, rows}
use Rattle.hc_rows.proofs.Steps.{at_row}
use Rattle.hc_rows.proofs.RowSizes.{row_size, row_word}
use Rattle.atomic_table.specs.Table.{State as TableState, keeps, Allows}
use Rattle.atomic_table.proofs.Lists.{set_again}
use Rattle.hc_rule.specs.declared.view.View.{View}
use Rattle.hc_rule.specs.declared.view.Role.TheVariants.{Connection}
use Rattle.hc_rule.specs.Views.{known, bare}
use Rattle.hc_rule.specs.Rule.{Holds}
use Rattle.hc_rule.specs.Kinds.StorePage.{Owns}
use Rattle.hc_rule.specs.Hands.{changed, set_word}
use Rattle.hc_rule.specs.Kinds.Rows.{with_word, LoadsRow, StoresRow}
use Rattle.hc_rule.proofs.Along.{holds_after}
use Rattle.hc_rule.proofs.RowStates.{stated_row, reached_row}
use Rattle.hc_rule.proofs.Views.{known_is, known_kept}
use Rattle.hc_rule.proofs.Kept.StorePage.{owned, role_is, registered}

pub store_row_kept : (y : Layout) (words : List ℕ) (views : List View) (id p conn word n : ℕ) (v : View) → Holds y words views → HasPage y p → get_elem? views id ≡ some v → v.role ≡ Connection conn → Owns v p → word < 256
    → Holds y (set words (row_at y p word) n) (set views id (with_word p word n v))
store_row_kept y words views id p conn word n v h there at mine owns within =
    let step = at_row y words p word n h.sized there within in
    let role = known (λ x. x.role) views in
    let hand = known (λ x. x.pages) views in
    let claims = known (λ x. x.claimed) views in
    let is = owned y words views id p conn v h there at mine owns in
    let seat = role_is y words views id p conn v h there at mine owns in
    holds_after y words _ views id v (with_word p word n v) h at (length-set words (row_at y p word) n) refl refl (record { seat = step.seat; tid = step.tid; log = step.log }) (registered y words views id p conn v h there at mine owns) refl
    h.state _ _ _ step.page step.map step.row (changed p (set_word word n) (known (λ x. x.pages) views id)) _ (λ same. ap (λ xs. changed p (set_word word n) xs) (sym same)) (known_kept (λ x. x.claimed) views id v (with_word p word n v) at refl)
    (stated_row h.state (page_words y words) (map_words y words) role hand claims h.stated id p conn is seat h.dealt.one_seat word n)
    (reached_row h.state (page_words y words) (map_words y words) role hand claims h.stated id p conn is seat h.dealt.one_seat word n (rows y words) (known (λ x. x.loaded) views) h.reached)

pub store_row_allows : (y : Layout) (slots id p conn word n : ℕ) (v : View) → HasPage y p → v.role ≡ Connection conn → Owns v p → word < 256
    → Allows (λ (s : TableState Unit View). Holds y s.words s.views) slots id (bare v) (row_at y p word) (λ _. n) (λ _ after. StoresRow p word v n after)
store_row_allows y slots id p conn word n v there mine owns within s h len at below =
    (with_word p word n v, keeps, tt, store_row_kept y s.words s.views id p conn word n v h there at mine owns within, refl)

pub load_row_allows : (y : Layout) (slots id p word : ℕ) (v : View) → HasPage y p → word < 256
    → Allows (λ (s : TableState Unit View). Holds y s.words s.views) slots id (bare v) (row_at y p word) (λ n. n) (λ n after. LoadsRow p word v n after)
load_row_allows y slots id p word v there within s h len at below = (
  v,
  keeps,
  tt,
  subst (λ ws. Holds y ws (set s.views id v)) (sym (set-get_or s.words (row_at y p word) 0)) (subst (λ vs. Holds y s.words vs) (sym (set_again s.views id v at)) h),
  (
    λ row known_row is.
        let written : rows y s.words p ≡ row.words =
        ap (λ q. rows y s.words q) (sym is) ∙ h.reached.written id row (subst (Among row) (sym (known_is (λ x. x.pages) s.views id v at)) known_row) in
        (row_word y s.words p word there within ∙ ap (λ ws. get_or ws word 0) written, ap length (sym written) ∙ row_size y s.words p h.sized there),
    refl,
  ),
)
