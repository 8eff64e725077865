-- A store of the word of an owned page keeps the rule.
use Rattle.std.proofs.Common.{◌≡◌, ◌∙◌, refl, sym, ap, subst, ℕ, ◌^◌, ◌<◌, List, set, length-set, arith}
use mathlib.Core.Option.{some}
use lib.ListN.{get_elem?}
use Rattle.hc_base.specs.Lookup.{Among, but}
use Rattle.hc_base.specs.Words.{page_word}
use Rattle.hc_base.specs.declared.page_word.PageWord.{PageWord}
use Rattle.hc_base.specs.declared.page_word.PageWord.TheVariants as word
use Rattle.hc_rows.specs.declared.layout.Layout.{Layout}
use Rattle.hc_rows.specs.Places.{HasPage, page_at}
use Rattle.hc_rows.specs.Regions.{page_words, map_words, rows}
use Rattle.hc_rows.proofs.Steps.{at_page}
use Rattle.atomic_table.specs.Table.{State as TableState, keeps, Allows}
use Rattle.hc_rule.specs.declared.view.View.{View}
use Rattle.hc_rule.specs.declared.view.Role.TheVariants.{Connection}
use Rattle.hc_rule.specs.Views.{known, bare}
use Rattle.hc_rule.specs.States.{Free, Owned, IsOwnedBy}
use Rattle.hc_rule.specs.Holders.{IsRegistered}
use Rattle.hc_rule.specs.Rule.{Holds}
use Rattle.hc_rule.specs.Hands.{changed, set_next, without_page}
use Rattle.hc_rule.specs.Kinds.StorePage.{Owns, MayStore, without, with_next, stored, StoresPage}
use Rattle.hc_rule.proofs.Along.{holds_after}
use Rattle.hc_rule.proofs.PageStates.{is_owned, stated_free, reached_free}
use Rattle.hc_rule.proofs.RowStates.{stated_next, reached_next}
use Rattle.hc_rule.proofs.Roles.{same_number}
use Rattle.hc_rule.proofs.Views.{known_is, known_kept}

module _ (y : Layout) (words : List ℕ) (views : List View) (id p conn : ℕ) (v : View) (h : Holds y words views)
    (there : HasPage y p) (at : get_elem? views id ≡ some v) (mine : v.role ≡ Connection conn) (owns : Owns v p) where
  pub role_is : known (λ x. x.role) views id ≡ Connection conn
  role_is = known_is (λ x. x.role) views id v at ∙ mine

  -- the page is the connection's
  pub owned : IsOwnedBy conn (h.state p)
  owned =
      let was = h.stated.held id owns.0 (subst (Among owns.0) (sym (known_is (λ x. x.pages) views id v at)) owns.1) in
      let who : was.0 ≡ conn = same_number was.0 conn (sym was.1 ∙ role_is) in
      subst (λ q. IsOwnedBy conn (h.state q)) owns.2 (subst (λ c. IsOwnedBy c (h.state owns.0.page.0)) who (is_owned (h.state owns.0.page.0) was.0 owns.0.next was.2))

  -- so its seat is registered
  pub registered : IsRegistered v.stage
  registered = subst (λ s. IsRegistered s) (known_is (λ x. x.stage) views id v at) (h.held.registered id owns.0 (subst (Among owns.0) (sym (known_is (λ x. x.pages) views id v at)) owns.1))

  small : conn < 2 ^ 8
  small = omega (arith, h.dealt.there id conn role_is, h.layout.seats)

  pub next_kept : (next : ℕ) → next < 2 ^ 32 → Holds y (set words (page_at y p) (page_word (word.Owned conn next))) (set views id (with_next p next v))
  next_kept next short =
      let step = at_page y words p (page_word (word.Owned conn next)) h.sized there in
      let role = known (λ x. x.role) views in
      let hand = known (λ x. x.pages) views in
      let claims = known (λ x. x.claimed) views in
      holds_after y words _ views id v (with_next p next v) h at (length-set words (page_at y p) (page_word (word.Owned conn next))) refl refl (record { seat = step.seat; tid = step.tid; log = step.log }) registered refl
      (but h.state p (Owned conn next)) _ _ _ step.page step.map step.row (changed p (set_next next) (known (λ x. x.pages) views id)) _ (λ is. ap (λ xs. changed p (set_next next) xs) (sym is)) (known_kept (λ x. x.claimed) views id v (with_next p next v) at refl)
      (stated_next h.state (page_words y words) (map_words y words) role hand claims h.stated id p conn owned role_is h.dealt.one_seat next small short)
      (reached_next h.state (page_words y words) (map_words y words) role hand claims h.stated id p conn owned role_is h.dealt.one_seat next small short (rows y words) (known (λ x. x.loaded) views) h.reached)

  pub free_kept : Holds y (set words (page_at y p) (page_word word.Free)) (set views id (without p v))
  free_kept =
      let step = at_page y words p (page_word word.Free) h.sized there in
      let role = known (λ x. x.role) views in
      let hand = known (λ x. x.pages) views in
      let claims = known (λ x. x.claimed) views in
      holds_after y words _ views id v (without p v) h at (length-set words (page_at y p) (page_word word.Free)) refl refl (record { seat = step.seat; tid = step.tid; log = step.log }) registered refl
      (but h.state p Free) _ _ _ step.page step.map step.row (without_page p (known (λ x. x.pages) views id)) _ (λ is. ap (λ xs. without_page p xs) (sym is)) (known_kept (λ x. x.claimed) views id v (without p v) at refl)
      (stated_free h.state (page_words y words) (map_words y words) role hand claims h.stated id p conn owned role_is h.dealt.one_seat)
      (reached_free h.state (page_words y words) (map_words y words) role hand claims h.stated id p conn owned role_is h.dealt.one_seat (rows y words) (known (λ x. x.loaded) views) h.reached)

  -- of each form that may be stored
  pub store_kept : (form : PageWord) → MayStore conn form → Holds y (set words (page_at y p) (page_word form)) (set views id (stored p form v))
  store_kept word.Free may = free_kept
  store_kept (word.Owned seat next) may = subst (λ c. Holds y (set words (page_at y p) (page_word (word.Owned c next))) (set views id (with_next p next v))) (sym may.0) (next_kept next may.1)
  store_kept (word.Mapped number) may = absurd may
  store_kept (word.Pending seat next) may = absurd may
  store_kept (word.Limbo stamp) may = absurd may

pub store_page_allows : (y : Layout) (slots id p conn : ℕ) (v : View) (form : PageWord) → HasPage y p → v.role ≡ Connection conn → Owns v p → MayStore conn form
    → Allows (λ (s : TableState Unit View). Holds y s.words s.views) slots id (bare v) (page_at y p) (λ _. page_word form) (λ _ after. StoresPage p form v after)
store_page_allows y slots id p conn v form there mine owns may s h len at below =
    (stored p form v, keeps, tt, store_kept y s.words s.views id p conn v h there at mine owns form may, refl)
