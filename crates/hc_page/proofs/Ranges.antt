-- Entries of a page that are copied one after the other.
use Rattle.std.proofs.Common.{◌≡◌, ℕ, zero, suc, ◌+◌, ◌-◌, ◌<◌, ◌≤◌, List, [], ◌∷◌, ◌++◌, length, take, drop, get_or, sym, ap, subst, ◌∙◌, arith, length-append, length-drop, length-take, length-take-le, append_assoc, Some, append-nil}
use Rattle.std.specs.List.{slice_get}
use Rattle.std.proofs.lemmas.List.{get_or-take, get_or-drop, take-append-drop, take_all}
use Rattle.std.proofs.lemmas.Option.{get_or_from_slice_get}
use Rattle.hc_base.specs.Content.{Content, Entry}
use Rattle.hc_base.specs.Layout.{entry_words, all_words}
use Rattle.hc_page.specs.declared.writer.Draft.{Draft}
use Rattle.hc_page.specs.Drafts.{IsDraft, IsWhole, HasRoom, with_last}
use Rattle.hc_page.specs.Puts.{CanCopyRange, CanEnd, with_entries}
use Rattle.hc_page.proofs.Entries.{all_words-split}

-- one more of a list
pub take_one : (xs : List Entry) (k : ℕ) (x : Entry) → k < length xs → get_or xs k x ≡ x → take (k + 1) xs ≡ take k xs ++ (x ∷ [])
take_one [] k x within is = absurd (omega arith)
take_one (y ∷ ys) zero x within is = ap (λ z. z ∷ []) is
take_one (y ∷ ys) (suc k) x within is = ap (λ n. take n (y ∷ ys)) (let e : suc k + 1 ≡ suc (k + 1) = omega arith in e) ∙ ap (λ zs. y ∷ zs) (take_one ys k x (omega arith) is)

abbrev pub range : List Entry → ℕ → ℕ → List Entry
range es from to = take (to - from) (drop from es)

-- the next entry of the range
module _ (words : List ℕ) (from to slot : ℕ) (draft longer : Draft) (start out : List ℕ) (c d : Content) (e : Entry)
    (can : CanCopyRange words from to draft start c d) (after : from ≤ slot) (before : slot < to) (total : longer.total ≡ draft.total)
    (is : IsDraft longer out (with_last c (take (slot - from) (range d.entries from to)))) (there : slice_get d.entries slot ≡ Some e) where
  r : List Entry
  r = range d.entries from to

  k : ℕ
  k = slot - from

  long : length (range d.entries from to) ≡ to - from
  long = length-take-le (to - from) (drop from d.entries) (omega (arith, length-drop from d.entries, can.in_list, can.order))

  read : get_or (range d.entries from to) (slot - from) e ≡ e
  read =
      get_or-take (to - from) (drop from d.entries) (slot - from) e (omega arith)
      ∙ (get_or-drop from d.entries (slot - from) e
      ∙ (ap (λ n. get_or d.entries n e) (let z : from + (slot - from) ≡ slot = omega arith in z) ∙ get_or_from_slice_get d.entries slot e e there))

  pub next_taken : take (slot + 1 - from) (range d.entries from to) ≡ take (slot - from) (range d.entries from to) ++ (e ∷ [])
  next_taken =
      ap (λ n. take n (range d.entries from to)) (let z : slot + 1 - from ≡ slot - from + 1 = omega arith in z)
      ∙ take_one (range d.entries from to) (slot - from) e (omega (arith, long)) read

  pub next_room : HasRoom longer out e
  next_room =
      let taken = take (slot - from) (range d.entries from to) in
      let size : length taken ≡ slot - from = length-take-le (slot - from) (range d.entries from to) (omega (arith, long)) in
      let next : length (all_words (take (slot + 1 - from) (range d.entries from to))) ≡ length (all_words taken) + length (entry_words e) =
      ap (λ es. length (all_words es)) next_taken ∙ (all_words-split taken (e ∷ []) ∙ ap (λ ws. length (all_words taken) + length ws) (append-nil (entry_words e))) in
      let whole : length (all_words (range d.entries from to)) ≡ length (all_words (take (slot + 1 - from) (range d.entries from to))) + length (all_words (drop (slot + 1 - from) (range d.entries from to))) =
      ap (λ es. length (all_words es)) (sym (take-append-drop (slot + 1 - from) (range d.entries from to))) ∙ all_words-split (take (slot + 1 - from) (range d.entries from to)) (drop (slot + 1 - from) (range d.entries from to)) in (
        with_last c taken,
        is,
        omega (arith, is.count, can.drafted.count, length-append c.entries taken, size, can.count, total),
        omega (arith, is.used, is.first, can.drafted.used, can.drafted.first, total, all_words-split c.entries taken, next, whole, can.room),
      )

-- the draft with the next entry
pub next_content : (c : Content) (xs ys : List Entry) (e : Entry) (draft : Draft) (words : List ℕ) → ys ≡ xs ++ (e ∷ []) → IsDraft draft words (with_last (with_last c xs) (e ∷ [])) → IsDraft draft words (with_last c ys)
next_content c xs ys e draft words is drafted =
    subst (λ es. IsDraft draft words (record c { entries = es })) (append_assoc c.entries xs (e ∷ []) ∙ ap (λ es. c.entries ++ es) (sym is)) drafted

-- none of them
pub range_none : (c : Content) (draft : Draft) (words : List ℕ) (n : ℕ) (xs : List Entry) → n ≡ 0 → IsDraft draft words c → IsDraft draft words (with_last c (take n xs))
range_none c draft words n xs none drafted =
    subst (λ es. IsDraft draft words (record c { entries = es })) (sym (ap (λ m. c.entries ++ take m xs) none ∙ append-nil c.entries)) drafted

-- all of them
pub range_all : (c : Content) (draft : Draft) (words : List ℕ) (n from to : ℕ) (es : List Entry) → to - from ≤ n → IsDraft draft words (with_last c (take n (range es from to))) → IsDraft draft words (with_last c (range es from to))
range_all c draft words n from to es all drafted =
    subst (λ xs. IsDraft draft words (with_last c xs)) (take_all n (range es from to) (omega (arith, length-take (to - from) (drop from es)))) drafted

-- from the first entry, and to the last one
pub from_start : (es : List Entry) (before : ℕ) → range es 0 before ≡ take before es
from_start es before = ap (λ n. take n es) (omega arith)

pub to_end : (es : List Entry) (after to : ℕ) → to ≡ length es → range es after to ≡ drop after es
to_end es after to all = take_all (to - after) (drop after es) (omega (arith, length-drop after es))

-- with the entries up to the page's end all are there
pub ended : (words : List ℕ) (after n : ℕ) (draft result : Draft) (out new : List ℕ) → result.total ≡ draft.total
    → ((c d : Content) → CanCopyRange words after n draft out c d → IsDraft result new (with_last c (range d.entries after n)))
    → (d : Content) (es : List Entry) → n ≡ length d.entries → CanEnd words after draft out d es → IsWhole result new (with_entries d (es ++ drop after d.entries))
ended words after n draft result out new total copied d es all can =
    let end = to_end d.entries after n all in
    let drafted : IsDraft result new (with_entries d (es ++ drop after d.entries)) =
    subst (λ zs. IsDraft result new (with_entries d (es ++ zs))) end
    (copied (with_entries d es) d
    (record {
      drafted = can.drafted;
      page = can.page;
      order = omega (arith, all, can.in_list);
      in_list = omega (arith, all);
      count = omega (arith, all, can.count);
      room = omega (arith, can.room, ap (λ zs. length (all_words zs)) end);
    })) in (
      drafted,
      omega (arith, drafted.count, can.drafted.count, can.count, can.in_list, total, length-append es (drop after d.entries), length-drop after d.entries),
      can.content,
    )
