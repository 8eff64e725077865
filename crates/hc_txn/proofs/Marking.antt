-- What is undone to a savepoint, and what is released.
use Rattle.std.proofs.Common.{◌≡◌, ◌∙◌, refl, sym, ap, subst, ℕ, Bool, false, Option, Some, None, Ok, Err, List, [], ◌∷◌, length, drop, arith}
use Rattle.std.specs.Prelude.{IsTrue, ◌↔◌, ◌≢◌}
use Rattle.std.proofs.lemmas.Bool.{true≢false}
use Rattle.hc_core.specs.declared.cells.Write.{Write}
use Rattle.hc_range.specs.declared.range.Range.{Range}
use Rattle.hc_txn.specs.Own.{Writes}
use Rattle.hc_txn.specs.Marks.{HasReleased, HasUndone, IsNested, IsNestedIn, marks_over, kept_from, marks_from, started, statement_over}
use Rattle.hc_txn.specs.Transactions.{Mark, Transaction, earlier}
use Rattle.hc_txn.specs.declared.marks.MarkAt.{MarkAt}
use Rattle.hc_txn.proofs.Earlier.{IsSame, from_over, marks_undone, nested_more, length_earlier}

module _ (T E : Type 0) (name : List ℕ) (own : List Write) (kept : List MarkAt) (before after : Transaction) where
  -- no mark has the name
  pub not_there : (none : E) → kept_from name kept ≡ [] → after ≡ before → HasUndone {T = T} {E = E} (Err none) (marks_from name (marks_over own kept)) before after
  not_there none e f = subst (λ (marks : List Mark). HasUndone {T = T} {E = E} (Err none) marks before after) (sym (from_over name own kept ∙ ap (marks_over own) e)) f

  pub not_released : (none : E) → kept_from name kept ≡ [] → after ≡ before → HasReleased {T = T} {E = E} (Err none) (marks_from name (marks_over own kept)) before after
  not_released none e f = subst (λ (marks : List Mark). HasReleased {T = T} {E = E} (Err none) marks before after) (sym (from_over name own kept ∙ ap (marks_over own) e)) f

  -- the mark is taken off
  pub released : (done : T) (left : List MarkAt) → left ≡ kept_from name kept → (left ≡ [] → ⊥) → after ≡ record before { marks = marks_over own (drop 1 left); statement = None }
      → HasReleased {T = T} {E = E} (Ok done) (marks_from name (marks_over own kept)) before after
  released done [] e some f = absurd (some refl)
  released done (mark ∷ outer) e some f = subst (λ (marks : List Mark). HasReleased {T = T} {E = E} (Ok done) marks before after) (sym (from_over name own kept ∙ ap (marks_over own) (sym e))) f

  -- the writes are undone to the mark
  pub undone_to : (done : T) (mark : MarkAt) (outer : List MarkAt) → mark ∷ outer ≡ kept_from name kept → IsNested mark.count outer
      → after ≡ record before { own = earlier mark.count own; marks = marks_over (earlier mark.count own) (mark ∷ outer); statement = None }
      → HasUndone {T = T} {E = E} (Ok done) (marks_from name (marks_over own kept)) before after
  undone_to done mark outer e nested f =
      subst (λ (marks : List Mark). HasUndone {T = T} {E = E} (Ok done) marks before after) (sym (from_over name own kept ∙ ap (marks_over own) (sym e)))
      (f ∙ ap (λ (marks : List Mark). record before { own = earlier mark.count own; marks = marks; statement = None })
      (marks_undone mark.count mark.count own (mark ∷ outer) (omega arith) (omega arith, nested)))

-- a list that is a mark and those outside it
pub nested_rest : (bound : ℕ) (marks : List MarkAt) → IsNested bound marks → IsNested bound (drop 1 marks)
nested_rest bound [] h = tt
nested_rest bound (mark ∷ marks) h = nested_more mark.count bound marks h.0 h.1

cons_not_nil : (mark : MarkAt) (outer : List MarkAt) → mark ∷ outer ≡ [] → ⊥
cons_not_nil mark outer g = cc

-- where no mark was found none has the name
pub none_named : (found : Bool) (name : List ℕ) (kept : List MarkAt) → IsTrue found ↔ (kept_from name kept ≢ []) → found ≡ false → kept_from name kept ≡ []
none_named found name kept h e = at (kept_from name kept) refl
  where
    at : (left : List MarkAt) → kept_from name kept ≡ left → kept_from name kept ≡ []
    at [] f = f
    at (mark ∷ outer) f = absurd (true≢false (sym (h.1 (λ g. cons_not_nil mark outer (sym f ∙ g))) ∙ e))

-- what a transaction keeps after the statement's writes are undone
pub statement_undone : (count : ℕ) (own more : Writes) (snapshot : ℕ) (log : List Range) (start : Option ℕ) (marks : List MarkAt) → start ≡ Some count → IsNestedIn start (length own.own) marks
    → more.own ≡ earlier count own.own → more.kept ≡ own.kept
    → IsSame (record { snapshot = snapshot; log = log; own = more.own; kept = more.kept; marks = marks_over more.own marks; statement = None })
    (record { snapshot = snapshot; log = log; own = started own.own (statement_over own.own start); kept = own.kept; marks = marks_over own.own marks; statement = None })
statement_undone count own more snapshot log start marks s h e f =
    let nested : IsNestedIn (Some count) (length own.own) marks = subst (λ (n : Option ℕ). IsNestedIn n (length own.own) marks) s h in
    let same : marks_over more.own marks ≡ marks_over own.own marks = ap (λ (ws : List Write). marks_over ws marks) e ∙ marks_undone count count own.own marks (omega arith) nested.1 in
    let back : more.own ≡ started own.own (statement_over own.own start) = e ∙ ap (λ (n : Option ℕ). started own.own (statement_over own.own n)) (sym s) in
    λ i. record { snapshot = snapshot; log = log; own = back i; kept = f i; marks = same i; statement = None }

-- the marks that are left are nested among the writes that are left
pub undone_nested : (own more : List Write) (count : ℕ) (left : List MarkAt) (mark : MarkAt) (outer : List MarkAt) → IsNested (length own) left → left ≡ mark ∷ outer → count ≡ mark.count
    → more ≡ earlier count own → IsNested (length more) left
undone_nested own more count left mark outer nested e f g =
    let h : IsNested (length own) (mark ∷ outer) = subst (IsNested (length own)) e nested in
    subst (IsNested (length more)) (sym e) (omega (arith, ap length g, length_earlier count own (omega (arith, f, h.0)), f), h.1)

-- what a transaction keeps after its writes are undone to a mark
pub undone_as : (count : ℕ) (own more : Writes) (snapshot : ℕ) (log : List Range) (left : List MarkAt) (mark : MarkAt) (outer : List MarkAt) → left ≡ mark ∷ outer → count ≡ mark.count
    → more.own ≡ earlier count own.own → more.kept ≡ own.kept
    → IsSame (record { snapshot = snapshot; log = log; own = more.own; kept = more.kept; marks = marks_over more.own left; statement = None })
    (record { snapshot = snapshot; log = log; own = earlier mark.count own.own; kept = own.kept; marks = marks_over (earlier mark.count own.own) (mark ∷ outer); statement = None })
undone_as count own more snapshot log left mark outer e f g h =
    let back : more.own ≡ earlier mark.count own.own = g ∙ ap (λ (n : ℕ). earlier n own.own) f in
    λ i. record { snapshot = snapshot; log = log; own = back i; kept = h i; marks = marks_over (back i) (e i); statement = None }
