-- What is found by one step after another.
use Rattle.std.proofs.Common.{◌≡◌, ◌≢◌, ◌∙◌, refl, sym, ap, subst, ⊎_elim, inl, inr, ℕ, zero, suc, ◌+◌, ◌<◌, List, [], ◌∷◌, ◌++◌, append_assoc, add-one, Bool, true, false, arith}
use Rattle.std.proofs.lemmas.Bool.{cases_eq}
use Rattle.hc_base.specs.Lookup.{Among}
use Rattle.hc_base.specs.Words.{page_word}
use Rattle.hc_base.specs.declared.page_word.PageWord.{PageWord}
use Rattle.hc_base.specs.declared.page_word.PageWord.TheVariants as word
use Rattle.atomic_table.specs.Table.{Me}
use Rattle.hc_rule.specs.declared.view.View.{View}
use Rattle.hc_rule.specs.declared.view.Found.{Found}
use Rattle.hc_rule.specs.Holders.{IsRegistered}
use Rattle.hc_rule.specs.Kinds.LoadPage.{with_found}
use Rattle.hc_rule.specs.Kinds.StorePage.{Owns}
use Rattle.hc_rows.specs.declared.layout.Layout.{Layout}
use Rattle.hc_rows.specs.Places.{HasPage, page_at}
use Rattle.hc_rule.specs.Hands.{row_of}
use Rattle.hc_rule.specs.Kinds.TakePage.{with_page, IsElsewhere, TookPage}
use Rattle.hc_pool.specs.Claiming.{with_all_found, IsFoundTaken, FindsTaken, Claims, in_turn, at, IsLook, AreLooks, LooksInTurn, TakesInTurn, Tried}
use Rattle.hc_pool.proofs.Turns.{turn_of}

among_front : (x : Found) (xs ys : List Found) → Among x xs → Among x (xs ++ ys)
among_front x [] ys there = absurd there
among_front x (z ∷ xs) ys there = ⊎_elim (λ (is : x ≡ z). inl is) (λ later. inr (among_front x xs ys later)) there

among_back : (x : Found) (xs ys : List Found) → Among x ys → Among x (xs ++ ys)
among_back x [] ys there = there
among_back x (z ∷ xs) ys there = inr (among_back x xs ys there)

-- what is found after what was found
found_after : (v w u : View) (more after : List Found) → w ≡ with_all_found more v → u ≡ with_all_found after w → u ≡ with_all_found (after ++ more) v
found_after v w u more after one other =
    other ∙ (ap (λ x. with_all_found after x) one ∙ ap (λ fs. record v { found = fs }) (sym (append_assoc after more v.found)))

-- a claim that is at its first page has looked at none
pub looks_none : (y : Layout) (from : ℕ) (v : View) → LooksInTurn y from 0 v v
looks_none y from v = ([], refl, refl)

-- and it goes on with one page more
pub looks_next : (y : Layout) (from n : ℕ) (v w u : View) → LooksInTurn y from n v w → Tried y (in_turn y.pages from n) w false u → LooksInTurn y from (n + 1) v u
looks_next y from n v w u looks tried = (
  tried.0 ++ looks.0,
  subst (λ k. AreLooks y from k (tried.0 ++ looks.0)) (sym (add-one n)) (tried.0, looks.0, refl, tried.1, looks.1),
  found_after v w u looks.0 tried.0 looks.2 tried.2,
)

-- a look notes a word that is not that of a free page
look_taken : (y : Layout) (p : ℕ) (notes : List Found) → IsLook (page_at y p) notes → IsFoundTaken y p notes
look_taken y p notes look =
    ⊎_elim
    (λ (one : notes ≡ at (page_at y p) look.0 ∷ []). (at (page_at y p) look.0, subst (λ xs. Among (at (page_at y p) look.0) xs) (sym one) (inl refl), refl, look.1))
    (λ (two : notes ≡ at (page_at y p) look.0 ∷ at (page_at y p) 0 ∷ []). (at (page_at y p) look.0, subst (λ xs. Among (at (page_at y p) look.0) xs) (sym two) (inl refl), refl, look.1))
    look.2

-- so each page that was looked at was found taken
each_taken : (y : Layout) (from m n : ℕ) (notes : List Found) → AreLooks y from m notes → n < m → IsFoundTaken y (in_turn y.pages from n) notes
each_taken y from zero n notes looks before = absurd (omega (arith, before))
each_taken y from (suc m) n notes looks before =
    ⊎_elim
    (λ (same : n ≡ m).
    let f = look_taken y (in_turn y.pages from m) looks.0 looks.3 in
    (f.0, subst (λ xs. Among f.0 xs) (sym looks.2) (among_front f.0 looks.0 looks.1 f.1), f.2 ∙ ap (λ k. page_at y (in_turn y.pages from k)) (sym same), f.3))
    (λ differ.
    let f = each_taken y from m n looks.1 looks.4 (omega (arith, before, differ)) in
    (f.0, subst (λ xs. Among f.0 xs) (sym looks.2) (among_back f.0 looks.0 looks.1 f.1), f.2, f.3))
    (cases_eq n m)

-- once round, that is each page
pub finds_round : (y : Layout) (from : ℕ) (v w : View) → HasPage y from → LooksInTurn y from y.pages v w → FindsTaken y (HasPage y) v w
finds_round y from v w there looks = record {
  more = looks.0;
  is = looks.2;
  each = λ p has.
      let n = turn_of y.pages from p there.0 there.1 has.0 has.1 in
      subst (λ q. IsFoundTaken y q looks.0) n.2 (each_taken y from y.pages n.0 looks.0 looks.1 n.1);
}

-- a page that is taken in its turn is claimed
pub takes_claims : (y : Layout) (from p : ℕ) (v w : View) → TakesInTurn y from p v w → Claims p v w
takes_claims y from p v w takes =
    let looks = takes.4 in
    let free = takes.5 in (
      subst (λ x. IsElsewhere p x) looks.2 free.0,
      free.1,
      free.2,
      at (page_at y p) 0 ∷ looks.0,
      free.3 ∙ ap (λ x. with_page p 0 free.1 (with_found (page_at y p) 0 x)) looks.2,
    )

-- a form whose word is 0 says that the page is free
pub free_form : (form : PageWord) → page_word form ≡ 0 → form ≡ word.Free
free_form word.Free is = refl
free_form (word.Owned seat next) is = absurd (omega (arith, is))
free_form (word.Mapped number) is = absurd (omega (arith, is))
free_form (word.Pending seat next) is = absurd (omega (arith, is))
free_form (word.Limbo stamp) is = absurd (omega (arith, is))

-- a page was loaded, and then it was tried to take it
pub tried_take : (y : Layout) (p n : ℕ) (v : View) (me : Me Unit View) (b : Bool) (after : Me Unit View) → n ≡ 0 → me ≡ (with_found (page_at y p) n v, []) → TookPage (page_at y p) p 0 me.0 b after → Tried y p v b after.0
tried_take y p n v me true after none loaded took =
    let seen : me.0 ≡ with_found (page_at y p) 0 v = ap (λ (m : Me Unit View). m.0) loaded ∙ ap (λ k. with_found (page_at y p) k v) none in
    (subst (λ x. IsElsewhere p x) seen took.0, took.1, took.2, ap (λ (m : Me Unit View). m.0) took.3 ∙ ap (λ x. with_page p 0 took.1 x) seen)
tried_take y p n v me false after none loaded took =
    let seen : me.0 ≡ with_found (page_at y p) 0 v = ap (λ (m : Me Unit View). m.0) loaded ∙ ap (λ k. with_found (page_at y p) k v) none in (
      at (page_at y p) took.0 ∷ at (page_at y p) 0 ∷ [],
      (took.0, took.1, inr refl),
      ap (λ (m : Me Unit View). m.0) took.2 ∙ ap (λ x. with_found (page_at y p) took.0 x) seen,
    )

-- a page was loaded and found taken
pub tried_load : (y : Layout) (p n : ℕ) (v : View) (me : Me Unit View) → me ≡ (with_found (page_at y p) n v, []) → n ≢ 0 → Tried y p v false me.0
tried_load y p n v me loaded taken = (at (page_at y p) n ∷ [], (n, taken, inl refl), ap (λ (m : Me Unit View). m.0) loaded)

-- what was claimed is owned, and what is owned stays so while others are found taken
pub claims_owns : (p : ℕ) (v w : View) → Claims p v w → Owns w p
claims_owns p v w claims = subst (λ x. Owns x p) (sym claims.4) (row_of p 0 claims.1, inl refl, refl)

pub finds_owns : (y : Layout) (p : ℕ) (v w : View) (pages : ℕ → Type 0) → FindsTaken y pages v w → Owns v p → Owns w p
finds_owns y p v w pages finds owns = subst (λ x. Owns x p) (sym finds.is) owns

-- and the seat is registered still
pub looks_registered : (y : Layout) (from n : ℕ) (v w : View) → LooksInTurn y from n v w → IsRegistered v.stage → IsRegistered w.stage
looks_registered y from n v w looks registered = subst (λ (x : View). IsRegistered x.stage) (sym looks.2) registered

pub takes_registered : (y : Layout) (from p : ℕ) (v w : View) → TakesInTurn y from p v w → IsRegistered v.stage → IsRegistered w.stage
takes_registered y from p v w takes registered =
    subst (λ (x : View). IsRegistered x.stage) (sym takes.5.3) (looks_registered y from takes.0 v takes.3 takes.4 registered)
