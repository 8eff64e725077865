-- The exchange that takes a free page keeps the rule.
use Rattle.std.proofs.Common.{◌≡◌, ◌≢◌, ◌∙◌, refl, sym, ap, subst, inl, inr, ⊎_elim, ℕ, ◌+◌, ◌^◌, ◌<◌, List, ◌∷◌, eqb, eq-eqb, ne_eqb, get_or, set, length-set, arith}
use Rattle.std.proofs.lemmas.Bool.{cases_eq}
use Rattle.std.proofs.lemmas.List.{set-get_or}
use mathlib.Core.Option.{some}
use lib.ListN.{get_elem?}
use prog.Atomic.{either}
use Rattle.hc_base.specs.Lookup.{Among, but}
use Rattle.hc_base.specs.Words.{page_word}
use Rattle.hc_base.specs.declared.page_word.PageWord.TheVariants as word
use Rattle.hc_rows.specs.declared.layout.Layout.{Layout}
use Rattle.hc_rows.specs.Places.{HasPage, page_at}
use Rattle.hc_rows.specs.Regions.{page_words, map_words, rows}
use Rattle.hc_rows.proofs.RowSizes.{row_size}
use Rattle.hc_rows.proofs.Steps.{words_are, at_page}
use Rattle.atomic_table.specs.Table.{State as TableState, Me, keeps, Allows}
use Rattle.hc_rule.specs.declared.view.View.{View}
use Rattle.hc_rule.specs.declared.view.Role.TheVariants.{Connection}
use Rattle.hc_rule.specs.Views.{known, bare}
use Rattle.hc_rule.specs.States.{Free, Owned}
use Rattle.hc_rule.specs.Holders.{IsRegistered}
use Rattle.hc_rule.specs.Rule.{Holds}
use Rattle.hc_rule.specs.Kinds.LoadPage.{with_found}
use Rattle.hc_rule.specs.Hands.{row_of}
use Rattle.hc_rule.specs.Kinds.TakePage.{claim_of, with_page, IsElsewhere, Takes, TakesPage, TookPage}
use Rattle.hc_rule.proofs.Along.{holds_after}
use Rattle.hc_rule.proofs.PageStates.{free_is, is_owned, free_not_owned, stated_take, reached_take}
use Rattle.hc_rule.proofs.Views.{known_is, known_set}
use Rattle.hc_rule.proofs.Kept.LoadPage.{found_kept}

-- the page was free
module _ (y : Layout) (words : List ℕ) (views : List View) (id p conn next : ℕ) (v : View) (h : Holds y words views)
    (there : HasPage y p) (at : get_elem? views id ≡ some v) (mine : v.role ≡ Connection conn) (registered : IsRegistered v.stage) (short : next < 2 ^ 32) (none : page_words y words p ≡ 0) where
  free : h.state p ≡ Free
  free = free_is (h.state p) (sym (h.stated.word p) ∙ none)

  role_is : known (λ x. x.role) views id ≡ Connection conn
  role_is = known_is (λ x. x.role) views id v at ∙ mine

  small : conn < 2 ^ 8
  small = omega (arith, h.dealt.there id conn role_is, h.layout.seats)

  claimed : known (λ x. x.claimed) (set views id (with_page p next (rows y words p) v)) ≡ but (known (λ x. x.claimed) views) id (claim_of v.own p ∷ known (λ x. x.claimed) views id)
  claimed =
      known_set (λ x. x.claimed) views id v (with_page p next (rows y words p) v) at
      ∙ ap (λ xs. but (known (λ x. x.claimed) views) id (claim_of v.own p ∷ xs)) (sym (known_is (λ x. x.claimed) views id v at))

  pub take_kept : Holds y (set words (page_at y p) (page_word (word.Owned conn next))) (set views id (with_page p next (rows y words p) v))
  take_kept =
      let step = at_page y words p (page_word (word.Owned conn next)) h.sized there in
      let role = known (λ x. x.role) views in
      let hand = known (λ x. x.pages) views in
      let claims = known (λ x. x.claimed) views in
      holds_after y words _ views id v (with_page p next (rows y words p) v) h at (length-set words (page_at y p) (page_word (word.Owned conn next))) refl refl (record { seat = step.seat; tid = step.tid; log = step.log }) registered refl
      (but h.state p (Owned conn next)) _ _ _ step.page step.map step.row (row_of p next (rows y words p) ∷ known (λ x. x.pages) views id) _ (λ is. ap (λ xs. row_of p next (rows y words p) ∷ xs) (sym is)) claimed
      (stated_take h.state (page_words y words) (map_words y words) role hand claims h.stated id p conn next v.own (rows y words p) free role_is small short)
      (reached_take h.state (page_words y words) (map_words y words) role hand claims h.stated id p conn next v.own (rows y words p) free role_is small short (rows y words) (known (λ x. x.loaded) views) h.reached refl)

  -- and it was not in the seat's hand
  pub was_elsewhere : IsElsewhere p v
  was_elsewhere row known_row is =
      let was = h.stated.held id row (subst (Among row) (sym (known_is (λ x. x.pages) views id v at)) known_row) in
      free_not_owned was.0 (h.state row.page.0) (ap h.state is ∙ free) (is_owned (h.state row.page.0) was.0 row.next was.2)

pub take_page_allows : (y : Layout) (slots id p conn next : ℕ) (v : View) → HasPage y p → v.role ≡ Connection conn → IsRegistered v.stage → next < 2 ^ 32
    → Allows (λ (s : TableState Unit View). Holds y s.words s.views) slots id (bare v) (page_at y p) (λ n. either (eqb n 0) (page_word (word.Owned conn next)) n) (λ n after. TakesPage (page_at y p) p next v n after)
take_page_allows y slots id p conn next v there mine registered short s h len at below =
    let place = page_at y p in
    let is : page_words y s.words p ≡ get_or s.words (page_at y p) 0 = words_are (page_at y) 1 (y.pages + 1) s.words p there.0 (omega (arith, there)) in
    ⊎_elim
    (λ (hit : get_or s.words (page_at y p) 0 ≡ 0). (
      with_page p next (rows y s.words p) v,
      keeps,
      tt,
      subst (λ b. Holds y (set s.words (page_at y p) (either b (page_word (word.Owned conn next)) (get_or s.words (page_at y p) 0))) (set s.views id (with_page p next (rows y s.words p) v))) (sym (eq-eqb (get_or s.words (page_at y p) 0) 0 hit))
          (take_kept y s.words s.views id p conn next v h there at mine registered short (is ∙ hit)),
      inl (hit, (was_elsewhere y s.words s.views id p conn next v h there at mine registered short (is ∙ hit), rows y s.words p, row_size y s.words p h.sized there, refl)),
    ))
    (λ (miss : get_or s.words (page_at y p) 0 ≢ 0). (
      with_found place (get_or s.words (page_at y p) 0) v,
      keeps,
      tt,
      subst (λ b. Holds y (set s.words (page_at y p) (either b (page_word (word.Owned conn next)) (get_or s.words (page_at y p) 0))) (set s.views id (with_found place (get_or s.words (page_at y p) 0) v))) (sym (ne_eqb (get_or s.words (page_at y p) 0) 0 miss))
          (subst (λ ws. Holds y ws (set s.views id (with_found place (get_or s.words (page_at y p) 0) v))) (sym (set-get_or s.words (page_at y p) 0)) (found_kept y s.words s.views id v place (get_or s.words (page_at y p) 0) at h)),
      inr (miss, refl),
    ))
    (cases_eq (get_or s.words (page_at y p) 0) 0)

-- what is told, by the answer
pub took_page : (place p next n : ℕ) (v : View) (after : Me Unit View) → TakesPage place p next v n after → TookPage place p next v (eqb n 0) after
took_page place p next n v after told =
    ⊎_elim
    (λ (hit : (n ≡ 0) × Takes p next v after). subst (λ b. TookPage place p next v b after) (sym (eq-eqb n 0 hit.0)) hit.1)
    (λ (miss : (n ≢ 0) × (after ≡ bare (with_found place n v))). subst (λ b. TookPage place p next v b after) (sym (ne_eqb n 0 miss.0)) (n, miss.0, miss.1))
    told
