-- One look after another.
use Rattle.std.proofs.Common.{◌≡◌, ◌∙◌, refl, sym, ap, subst, ⊎_elim, inl, inr, ◌⊎◌, ℕ, ◌<◌, ◌≤◌, List, [], ◌∷◌, ◌++◌, append_assoc, true, false, arith}
use Rattle.std.proofs.lemmas.Bool.{cases_lt, lt-ltb, le-ltb}
use Rattle.std.proofs.lemmas.List.{map-append}
use Rattle.hc_base.specs.Lookup.{Among}
use Rattle.hc_base.specs.declared.numbers.Cid.{Cid}
use Rattle.hc_rows.specs.declared.layout.Layout.{Layout}
use Rattle.hc_rows.specs.Places.{log_at}
use Rattle.hc_rule.specs.declared.view.View.{View}
use Rattle.hc_rule.specs.declared.view.Found.{Found}
use Rattle.hc_rule.specs.declared.view.SeenPlace.{SeenPlace}
use Rattle.hc_rule.specs.Kinds.LoadLog.{later, with_place}
use Rattle.hc_rule.specs.Kinds.LoadPage.{with_found}
use Rattle.hc_steps.specs.declared.grip.Grip.{Grip}
use Rattle.hc_steps.specs.Same.{IsSame}
use Rattle.hc_tidlog.specs.Looking.{empty_at, with_looks, IsFoundTaken, Looked, FindsEmpty, LooksAt, Narrows}

pub among_front : {A : Type 0} (x : A) (xs ys : List A) → Among x xs → Among x (xs ++ ys)
among_front x [] ys there = absurd there
among_front x (z ∷ xs) ys there = ⊎_elim (λ (is : x ≡ z). inl is) (λ later. inr (among_front x xs ys later)) there

pub among_back : {A : Type 0} (x : A) (xs ys : List A) → Among x ys → Among x (xs ++ ys)
among_back x [] ys there = there
among_back x (z ∷ xs) ys there = inr (among_back x xs ys there)

-- the notes of words that were found empty first, after those of later ones
pub empty_both : (place : ℕ → ℕ) (later before : List ℕ) (found : List Found) → empty_at place later ++ (empty_at place before ++ found) ≡ empty_at place (later ++ before) ++ found
empty_both place later before found =
    sym (append_assoc (empty_at place later) (empty_at place before) found)
    ∙ ap (λ (fs : List Found). fs ++ found) (sym (map-append (λ n. record { place = place n; word = 0 }) later before))

pub looked_none : (y : Layout) (v : View) → Looked y v v
looked_none y v = record { seen = v.seen; more = []; empty = []; least = omega arith; upto = inl refl; is = refl }

later_least : (seen : Cid) (c : ℕ) → seen.0 ≤ (later seen c).0
later_least seen c =
    elim (cases_lt seen.0 c) [
      | inl less ↦ rw (lt-ltb seen.0 c less) (omega (arith, less))
      | inr more ↦ rw (le-ltb seen.0 c more) (omega arith)
    ]

-- what is seen is up to the place, or the same
later_upto : (seen : Cid) (c n : ℕ) → ((later seen c).0 ≡ seen.0) ⊎ IsFoundTaken (later seen c).0 (record { cid = record { 0 = c }; tid = record { 0 = n } } ∷ [])
later_upto seen c n =
    elim (cases_lt seen.0 c) [
      | inl less ↦ rw (lt-ltb seen.0 c less) (inr (record { cid = record { 0 = c }; tid = record { 0 = n } }, inl refl, refl))
      | inr more ↦ rw (le-ltb seen.0 c more) (inl refl)
    ]

pub looked_place : (y : Layout) (v w : View) (c n : ℕ) → w ≡ with_place c n v → Looked y v w
looked_place y v w c n is = record {
  seen = later v.seen c;
  more = record { cid = record { 0 = c }; tid = record { 0 = n } } ∷ [];
  empty = [];
  least = later_least v.seen c;
  upto = later_upto v.seen c n;
  is = is;
}

later_above : (seen : Cid) (c : ℕ) → c ≤ (later seen c).0
later_above seen c =
    elim (cases_lt seen.0 c) [
      | inl less ↦ rw (lt-ltb seen.0 c less) (omega arith)
      | inr more ↦ rw (le-ltb seen.0 c more) more
    ]

later_either : (seen : Cid) (c : ℕ) → ((later seen c).0 ≡ seen.0) ⊎ ((later seen c).0 ≡ c)
later_either seen c =
    elim (cases_lt seen.0 c) [
      | inl less ↦ rw (lt-ltb seen.0 c less) (inr refl)
      | inr more ↦ rw (le-ltb seen.0 c more) (inl refl)
    ]

-- a place that was found taken
pub looked_up : (y : Layout) (v w : View) (c n : ℕ) → w ≡ with_place c n v → LooksAt y c v true w
looked_up y v w c n is = (
  looked_place y v w c n is,
  subst (λ (x : View). c ≤ x.seen.0) (sym is) (later_above v.seen c),
  subst (λ (x : View). (x.seen.0 ≡ v.seen.0) ⊎ (x.seen.0 ≡ c)) (sym is) (later_either v.seen c),
)

-- and one that was found empty
pub looked_empty : (y : Layout) (v w : View) (c : ℕ) → w ≡ with_found (log_at y c) 0 v → v.seen.0 < c → LooksAt y c v false w
looked_empty y v w c is above = (
  (record { seen = v.seen; more = []; empty = c ∷ []; least = omega arith; upto = inl refl; is = is }, inl refl),
  subst (λ (x : View). x.seen.0 < c) (sym is) above,
)

-- what is seen after both looks is what was seen, or up to a place that one of them found taken
pub both_upto : (first second old : ℕ) (before later : List SeenPlace) → (first ≡ old) ⊎ IsFoundTaken first before → (second ≡ first) ⊎ IsFoundTaken second later → (second ≡ old) ⊎ IsFoundTaken second (later ++ before)
both_upto first second old before later one other =
    ⊎_elim
    (λ (same : second ≡ first). ⊎_elim
    (λ (none : first ≡ old). inl (same ∙ none))
    (λ (found : IsFoundTaken first before). inr (found.0, among_back found.0 later before found.1, found.2 ∙ sym same))
    one)
    (λ (found : IsFoundTaken second later). inr (found.0, among_front found.0 later before found.1, found.2))
    other

abbrev pub looked_both : (y : Layout) (v w u : View) → Looked y v w → Looked y w u → Looked y v u
looked_both y v w u first second =
    let middle : w.seen.0 ≡ first.seen.0 = ap (λ (x : View). x.seen.0) first.is in record {
      seen = second.seen;
      more = second.more ++ first.more;
      empty = second.empty ++ first.empty;
      least = let one = first.least in let two = second.least in omega (arith, one, two, middle);
      upto = both_upto first.seen.0 second.seen.0 v.seen.0 first.more second.more first.upto (⊎_elim (λ (same : second.seen.0 ≡ w.seen.0). inl (same ∙ middle)) (λ (found : IsFoundTaken second.seen.0 second.more). inr found) second.upto);
      is =
          second.is
          ∙ (ap (λ x. with_looks y second.seen second.more second.empty x) first.is
          ∙ (ap (λ (ps : List SeenPlace). record v { seen = second.seen; places = ps; found = empty_at (log_at y) second.empty ++ (empty_at (log_at y) first.empty ++ v.found) }) (sym (append_assoc second.more first.more v.places))
          ∙ ap (λ (fs : List Found). record v { seen = second.seen; places = (second.more ++ first.more) ++ v.places; found = fs }) (empty_both (log_at y) second.empty first.empty v.found)));
    }

-- what was found empty was so in all looks together
pub empty_later : (y : Layout) (c : ℕ) (v w u : View) → FindsEmpty y c v w → Looked y w u → FindsEmpty y c v u
empty_later y c v w u finds second = (looked_both y v w u finds.0 second, among_back c second.empty finds.0.empty finds.1)

pub empty_before : (y : Layout) (c : ℕ) (v w u : View) → Looked y v w → FindsEmpty y c w u → FindsEmpty y c v u
empty_before y c v w u first finds = (looked_both y v w u first finds.0, among_front c finds.0.empty first.empty finds.1)

-- a search goes on below what is known to be empty
pub narrows_first : (y : Layout) (known : ℕ) (v : View) → Narrows y known known v v
narrows_first y known v = (looked_none y v, inl refl)

pub narrows_taken : (y : Layout) (known c : ℕ) (v w u : View) → Narrows y known c v w → Looked y w u → Narrows y known c v u
narrows_taken y known c v w u narrows second = (
  looked_both y v w u narrows.0 second,
  ⊎_elim (λ (same : c ≡ known). inl same) (λ (there : Among c narrows.0.empty). inr (among_back c second.empty narrows.0.empty there)) narrows.1,
)

pub narrows_empty : (y : Layout) (known c other : ℕ) (v w u : View) → Narrows y known c v w → FindsEmpty y other w u → Narrows y known other v u
narrows_empty y known c other v w u narrows finds = let both = empty_before y other v w u narrows.0 finds in (both.0, inr both.1)

pub narrows_end : (y : Layout) (known c : ℕ) (v w u : View) → FindsEmpty y known v w → Narrows y known c w u → FindsEmpty y c v u
narrows_end y known c v w u finds narrows =
    ⊎_elim
    (λ (same : c ≡ known). subst (λ n. FindsEmpty y n v u) (sym same) (empty_later y known v w u finds narrows.0))
    (λ (there : Among c narrows.0.empty). empty_before y c v w u finds.0 (narrows.0, there))
    narrows.1

-- one grip after another
pub same_after : (one two three : Grip) → IsSame one two → IsSame two three → IsSame one three
same_after one two three first second = ((second.0.0 ∙ first.0.0, second.0.1 ∙ first.0.1, second.0.2 ∙ first.0.2), second.1 ∙ first.1)
