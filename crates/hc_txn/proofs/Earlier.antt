-- The first of some writes, as more are put and as they are undone; savepoints and the open statement over them.
use Rattle.std.proofs.Common.{◌≡◌, ◌∙◌, refl, sym, ap, subst, ℕ, suc, ◌+◌, ◌-◌, ◌<◌, ◌≤◌, Bool, true, false, cond, Option, Some, None, Result, Ok, Err, OnOk, OnErr, List, [], ◌∷◌, length, drop, arith}
use Rattle.std.proofs.lemmas.List.{length-drop, drop-drop}
use Rattle.std.specs.Prelude.{string_bytes}
use Rattle.hc_core.specs.declared.cells.Write.{Write}
use Rattle.hc_range.specs.declared.range.Range.{Range}
use Rattle.hc_txn.specs.Own.{Writes}
use Rattle.hc_txn.specs.Marks.{IsNested, IsNestedIn, marks_over, statement_over, kept_from, marks_from, has_same_name}
use Rattle.hc_txn.specs.Transactions.{Transaction, earlier}
use Rattle.hc_txn.specs.declared.marks.MarkAt.{MarkAt}

abbrev pub IsSame : Transaction → Transaction → Type 0
IsSame one other = one ≡ other

-- a write that is put leaves the first ones
pub earlier_put : (n : ℕ) (w : Write) (own : List Write) → n ≤ length own → earlier n (w ∷ own) ≡ earlier n own
earlier_put n w own small =
    let e : suc (length own) - n ≡ suc (length own - n) = omega (arith, small) in
    ap (λ (k : ℕ). drop k (w ∷ own)) e

-- and so does one that is undone
pub earlier_undone : (n : ℕ) (own : List Write) → n < length own → earlier n (drop 1 own) ≡ earlier n own
earlier_undone n [] less = absurd (let h : ⊥ = omega (arith, less) in h)
earlier_undone n (w ∷ own) less = sym (earlier_put n w own (omega (arith, less)))

-- the first of the first ones
pub earlier_twice : (n count : ℕ) (own : List Write) → n ≤ count → earlier n (earlier count own) ≡ earlier n own
earlier_twice n count own small =
    let e : length own - count + (length (earlier count own) - n) ≡ length own - n = omega (arith, length-drop (length own - count) own, small) in
    drop-drop (length (earlier count own) - n) (length own - count) own ∙ ap (λ (k : ℕ). drop k own) e

pub length_earlier : (count : ℕ) (own : List Write) → count ≤ length own → length (earlier count own) ≡ count
length_earlier count own small = length-drop (length own - count) own ∙ (let e : length own - (length own - count) ≡ count = omega (arith, small) in e)

-- marks stay as a write is put
pub marks_put : (w : Write) (own : List Write) (bound : ℕ) (marks : List MarkAt) → bound ≤ length own → IsNested bound marks → marks_over (w ∷ own) marks ≡ marks_over own marks
marks_put w own bound [] small h = refl
marks_put w own bound (mark ∷ marks) small h = λ i.
    record { name = string_bytes mark.name; own = earlier_put mark.count w own (omega (arith, h.0, small)) i } ∷ marks_put w own mark.count marks (omega (arith, h.0, small)) h.1 i

-- marks that were set when more stood may be more
pub nested_more : (bound more : ℕ) (marks : List MarkAt) → bound ≤ more → IsNested bound marks → IsNested more marks
nested_more bound more [] small h = tt
nested_more bound more (mark ∷ marks) small h = (omega (arith, h.0, small), h.1)

-- the marks are nested whether or not a statement is open
pub nested_in : (start : Option ℕ) (count : ℕ) (marks : List MarkAt) → IsNestedIn start count marks → IsNested count marks
nested_in None count marks h = h
nested_in (Some start) count marks h = nested_more start count marks h.0 h.1

pub nested_put : (start : Option ℕ) (count : ℕ) (marks : List MarkAt) → IsNestedIn start count marks → IsNestedIn start (suc count) marks
nested_put None count marks h = nested_more count (suc count) marks (omega arith) h
nested_put (Some start) count marks h = (omega (arith, h.0), h.1)

pub statement_put : (w : Write) (own : List Write) (start : Option ℕ) (marks : List MarkAt) → IsNestedIn start (length own) marks → statement_over (w ∷ own) start ≡ statement_over own start
statement_put w own None marks h = refl
statement_put w own (Some start) marks h = ap (λ (ws : List Write). Some ws) (earlier_put start w own h.0)

-- marks that were set when at most some number stood stay as writes are undone to that number
pub marks_undone : (count bound : ℕ) (own : List Write) (marks : List MarkAt) → bound ≤ count → IsNested bound marks → marks_over (earlier count own) marks ≡ marks_over own marks
marks_undone count bound own [] small h = refl
marks_undone count bound own (mark ∷ marks) small h = λ i.
    record { name = string_bytes mark.name; own = earlier_twice mark.count count own (omega (arith, h.0, small)) i } ∷ marks_undone count mark.count own marks (omega (arith, h.0, small)) h.1 i

-- the marks from a name on
pub from_over : (name : List ℕ) (own : List Write) (marks : List MarkAt) → marks_from name (marks_over own marks) ≡ marks_over own (kept_from name marks)
from_over name own [] = refl
from_over name own (mark ∷ marks) = at (has_same_name (string_bytes mark.name) name) (from_over name own marks)
  where
    at : (b : Bool) → marks_from name (marks_over own marks) ≡ marks_over own (kept_from name marks)
        → cond b (marks_over own (mark ∷ marks)) (marks_from name (marks_over own marks)) ≡ marks_over own (cond b (mark ∷ marks) (kept_from name marks))
    at true more = refl
    at false more = more

pub nested_from : (name : List ℕ) (bound : ℕ) (marks : List MarkAt) → IsNested bound marks → IsNested bound (kept_from name marks)
nested_from name bound [] h = tt
nested_from name bound (mark ∷ marks) h = at (has_same_name (string_bytes mark.name) name) (nested_from name bound marks (nested_more mark.count bound marks h.0 h.1))
  where
    at : (b : Bool) → IsNested bound (kept_from name marks) → IsNested bound (cond b (mark ∷ marks) (kept_from name marks))
    at true more = h
    at false more = more

module _ {T E : Type 0} (r : Result T E) (w : Write) (own more : List Write) (start : Option ℕ) (marks : List MarkAt) (h : IsNestedIn start (length own) marks) where
  -- a write that is put, or is not since memory ran out, leaves marks and statement
  pub nested_after : OnOk r (more ≡ w ∷ own) → OnErr r (more ≡ own) → IsNestedIn start (length more) marks
  nested_after ok err = at r ok err
    where
      at : (s : Result T E) → OnOk s (more ≡ w ∷ own) → OnErr s (more ≡ own) → IsNestedIn start (length more) marks
      at (Ok t) ok err = subst (λ (ws : List Write). IsNestedIn start (length ws) marks) (sym ok) (nested_put start (length own) marks h)
      at (Err e) ok err = subst (λ (ws : List Write). IsNestedIn start (length ws) marks) (sym err) h

pub marks_after : (w : Write) (own more : List Write) (start : Option ℕ) (marks : List MarkAt) → IsNestedIn start (length own) marks → more ≡ w ∷ own → marks_over more marks ≡ marks_over own marks
marks_after w own more start marks h e =
    ap (λ (ws : List Write). marks_over ws marks) e ∙ marks_put w own (length own) marks (omega arith) (nested_in start (length own) marks h)

pub statement_after : (w : Write) (own more : List Write) (start : Option ℕ) (marks : List MarkAt) → IsNestedIn start (length own) marks → more ≡ w ∷ own → statement_over more start ≡ statement_over own start
statement_after w own more start marks h e = ap (λ (ws : List Write). statement_over ws start) e ∙ statement_put w own start marks h

-- what a transaction keeps after a write is put
pub put_view : {T E : Type 0} (r : Result T E) (w : Write) (own more : Writes) (snapshot : ℕ) (log : List Range) (start : Option ℕ) (marks : List MarkAt) → IsNestedIn start (length own.own) marks
    → OnOk r (more.own ≡ w ∷ own.own) → more.kept ≡ own.kept
    → OnOk r (IsSame (record { snapshot = snapshot; log = log; own = more.own; kept = more.kept; marks = marks_over more.own marks; statement = statement_over more.own start })
    (record { snapshot = snapshot; log = log; own = w ∷ own.own; kept = own.kept; marks = marks_over own.own marks; statement = statement_over own.own start }))
put_view (Ok t) w own more snapshot log start marks h e f = λ i.
    record { snapshot = snapshot; log = log; own = e i; kept = f i; marks = marks_after w own.own more.own start marks h e i; statement = statement_after w own.own more.own start marks h e i }
put_view (Err g) w own more snapshot log start marks h e f = tt
