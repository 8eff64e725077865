-- How the words of a new table are written, one after the other.
use Rattle.std.proofs.Common.{zero, suc, ◌≡◌, ◌∙◌, refl, sym, ap, subst, inl, inr, ℕ, ◌+◌, ◌<◌, ◌≤◌, List, [], ◌∷◌, ◌++◌, length, take, drop, get_or, set, arith, length-set, append-nil}
use Rattle.std.specs.Prelude.{replicate}
use Rattle.std.proofs.lemmas.List.{take_all, length-replicate}
use Rattle.std.proofs.Math.ListN.{drop_of_length-le}
use Rattle.hc_base.specs.Layout.{IsPage}
use Rattle.hc_base.specs.Lookup.{but}
use Rattle.hc_base.proofs.Lookups.{but-is, but-same, but-other}
use Rattle.hc_rows.specs.declared.layout.Layout.{Layout}
use Rattle.hc_rows.specs.Places.{IsLayout, HasPage, seat_at, page_at, map_at, tid_at, log_at, row_at, total}
use Rattle.hc_rows.specs.Regions.{words_at, rows}
use Rattle.hc_rows.proofs.RowSizes.{row_size}
use Rattle.hc_rows.proofs.Steps.{at_page, at_map, at_row, in_range, words_are, words_past}
use Rattle.hc_rule.specs.Start.{mapped, names, first_leaf, first_inner, HasNoOther, LeavesOthers, IsFirst, IsLaid, IsNamed, IsBlank, IsWritten}

-- an answer that is changed twice, and one that is changed to what it is
pub but_again : {A : Type 0} (f : ℕ → A) (i : ℕ) (x z : A) → but (but f i x) i z ≡ but f i z
but_again f i x z = λ t j. but-is f (but (but f i x) i z) i z (but-same (but f i x) i z) (λ k differ. but-other (but f i x) i k z differ ∙ but-other f i k x differ) j t

pub but_own : {A : Type 0} (f : ℕ → A) (i : ℕ) → f ≡ but f i (f i)
but_own f i = λ t j. but-is f f i (f i) refl (λ k differ. refl) j t

-- words of other kinds that were left, and left again
left_again : (y : Layout) (words now after : List ℕ) → LeavesOthers y words now → LeavesOthers y now after → LeavesOthers y words after
left_again y words now after first second = record { seat = second.seat ∙ first.seat; tid = second.tid ∙ first.tid; log = second.log ∙ first.log }

none_left : (y : Layout) (words after : List ℕ) → HasNoOther y words → LeavesOthers y words after → HasNoOther y after
none_left y words after none left = record { seat = left.seat ∙ none.seat; tid = left.tid ∙ none.tid; log = left.log ∙ none.log }

-- the first words are the new ones
pub begun : (row old : List ℕ) (k : ℕ) → k < length row → length old ≡ length row → set (take k row ++ drop k old) k (get_or row k 0) ≡ take (suc k) row ++ drop (suc k) old
begun [] old k within long = absurd (omega arith)
begun (r ∷ row) [] k within long = absurd (omega arith)
begun (r ∷ row) (o ∷ old) zero within long = refl
begun (r ∷ row) (o ∷ old) (suc k) within long = ap (λ ws. r ∷ ws) (begun row old k (omega arith) (omega arith))

-- a row of which nothing is written yet, with one word more, and with all
module _ (y : Layout) (words : List ℕ) (p : ℕ) (row : List ℕ) (sized : length words ≡ total y) (there : HasPage y p) (long : length row ≡ 256) where
  pub laid_none : IsLaid y words words p (take 0 row ++ drop 0 (rows y words p))
  laid_none = record { sized = refl; page = refl; map = refl; others = record { seat = refl; tid = refl; log = refl }; row = but_own (rows y words) p }

  pub laid_more : (now : List ℕ) (k : ℕ) → k < 256 → IsLaid y words now p (take k row ++ drop k (rows y words p))
      → IsLaid y words (set now (row_at y p k) (get_or row k 0)) p (take (k + 1) row ++ drop (k + 1) (rows y words p))
  laid_more now k within laid =
      let n = get_or row k 0 in
      let step = at_row y now p k (get_or row k 0) (laid.sized ∙ sized) there within in
      let so_far : rows y now p ≡ take k row ++ drop k (rows y words p) = ap (λ f. f p) laid.row ∙ but-same (rows y words) p (take k row ++ drop k (rows y words p)) in
      let next : set (rows y now p) k (get_or row k 0) ≡ take (k + 1) row ++ drop (k + 1) (rows y words p) =
      ap (λ ws. set ws k (get_or row k 0)) so_far
      ∙ (begun row (rows y words p) k (omega (arith, long)) (row_size y words p sized there ∙ sym long)
      ∙ ap (λ m. take m row ++ drop m (rows y words p)) (let z : suc k ≡ k + 1 = omega arith in z)) in
      record {
        sized = length-set now (row_at y p k) (get_or row k 0) ∙ laid.sized;
        page = step.page ∙ laid.page;
        map = step.map ∙ laid.map;
        others = left_again y words now _ laid.others (record { seat = step.seat; tid = step.tid; log = step.log });
        row =
            step.row
            ∙ (ap (λ ws. but (rows y now) p ws) next
            ∙ (ap (λ f. but f p (take (k + 1) row ++ drop (k + 1) (rows y words p))) laid.row
            ∙ but_again (rows y words) p (take k row ++ drop k (rows y words p)) (take (k + 1) row ++ drop (k + 1) (rows y words p))));
      }

  pub laid_all : (now : List ℕ) (k : ℕ) → 256 ≤ k → IsLaid y words now p (take k row ++ drop k (rows y words p)) → IsLaid y words now p row
  laid_all now k all laid =
      let none : drop k (rows y words p) ≡ [] = drop_of_length-le (rows y words p) (let z : length (rows y words p) ≤ k = omega (arith, row_size y words p sized there, all) in z) in
      subst (λ ws. IsLaid y words now p ws)
      (ap (λ ws. take k row ++ ws) none ∙ (append-nil (take k row) ∙ take_all k row (omega (arith, long, all)))) laid

-- zeros are blank
pub zeros_blank : (y : Layout) (n : ℕ) → n ≡ total y → IsBlank y (replicate n 0)
zeros_blank y n is = record {
  sized = length-replicate {A = ℕ} n 0 ∙ is;
  page = λ t p. all_zero (page_at y) 1 (y.pages + 1) n p t;
  map = λ t l. all_zero (map_at y) 1 (y.numbers + 1) n l t;
  others = record {
    seat = λ t conn. all_zero (seat_at y) 0 y.seats n conn t;
    tid = λ t k. all_zero (tid_at y) 1 (y.transactions + 1) n k t;
    log = λ t c. all_zero (log_at y) 1 (y.transactions + 2) n c t;
  };
}
  where
    zero_read : (n i : ℕ) → ◌≡◌ {A = ℕ} (get_or (replicate n 0) i 0) 0
    zero_read zero i = refl
    zero_read (suc n) zero = refl
    zero_read (suc n) (suc i) = zero_read n i

    all_zero : (place : ℕ → ℕ) (from upto n k : ℕ) → words_at place from upto (replicate n 0) k ≡ 0
    all_zero place from upto n k =
        elim (in_range from upto k) [
          | inl is ↦ words_are place from upto (replicate n 0) k is.1 is.2 ∙ zero_read n (place k)
          | inr is ↦ words_past place from upto (replicate n 0) k is
        ]

-- the rows of both pages
pub both_laid : (y : Layout) (words one two : List ℕ) (leaf inner : List ℕ) → IsBlank y words → IsLaid y words one 1 leaf → IsLaid y one two 2 inner → IsPage leaf first_leaf → IsPage inner first_inner → IsWritten y two
both_laid y words one two leaf inner blank first second has_leaf has_inner = record {
  blank = record {
    sized = second.sized ∙ (first.sized ∙ blank.sized);
    page = second.page ∙ (first.page ∙ blank.page);
    map = second.map ∙ (first.map ∙ blank.map);
    others = none_left y words two blank.others (left_again y words one two first.others second.others);
  };
  leaf = subst (λ ws. IsPage ws first_leaf)
      (sym (ap (λ f. f 1) second.row ∙ (but-other (rows y one) 2 1 inner (λ same. absurd (omega (arith, same))) ∙ (ap (λ f. f 1) first.row ∙ but-same (rows y words) 1 leaf)))) has_leaf;
  inner = subst (λ ws. IsPage ws first_inner) (sym (ap (λ f. f 2) second.row ∙ but-same (rows y one) 2 inner)) has_inner;
}

-- and then the words of the pages and of their numbers
pub all_named : (y : Layout) (words : List ℕ) → IsLayout y → length words ≡ total y
    → IsNamed y words (set (set (set (set words (page_at y 1) (mapped 1)) (page_at y 2) (mapped 2)) (map_at y 1) (names 1)) (map_at y 2) (names 2))
all_named y words layout sized =
    let a = set words (page_at y 1) (mapped 1) in
    let b = set a (page_at y 2) (mapped 2) in
    let c = set b (map_at y 1) (names 1) in
    let d = set c (map_at y 2) (names 2) in
    let size_a : length a ≡ total y = length-set words (page_at y 1) (mapped 1) ∙ sized in
    let size_b : length b ≡ total y = length-set a (page_at y 2) (mapped 2) ∙ size_a in
    let size_c : length c ≡ total y = length-set b (map_at y 1) (names 1) ∙ size_b in
    let size_d : length d ≡ total y = length-set c (map_at y 2) (names 2) ∙ size_c in
    let one = at_page y words 1 (mapped 1) sized (omega arith, omega (arith, layout.pages)) in
    let two = at_page y a 2 (mapped 2) size_a (omega arith, omega (arith, layout.pages)) in
    let three = at_map y b 1 (names 1) size_b (omega arith, omega (arith, layout.numbers)) in
    let four = at_map y c 2 (names 2) size_c (omega arith, omega (arith, layout.numbers)) in
    record {
      sized = size_d ∙ sym sized;
      page = four.page ∙ (three.page ∙ (two.page ∙ ap (λ f. but f 2 (mapped 2)) one.page));
      map = four.map ∙ (ap (λ f. but f 2 (names 2)) (three.map ∙ ap (λ f. but f 1 (names 1)) (two.map ∙ one.map)));
      others = record {
        seat = four.seat ∙ (three.seat ∙ (two.seat ∙ one.seat));
        tid = four.tid ∙ (three.tid ∙ (two.tid ∙ one.tid));
        log = four.log ∙ (three.log ∙ (two.log ∙ one.log));
      };
      row = four.row ∙ (three.row ∙ (two.row ∙ one.row));
    }

pub all_first : (y : Layout) (words after : List ℕ) → IsLayout y → IsWritten y words → IsNamed y words after → IsFirst y after
all_first y words after layout written named = record {
  layout = layout;
  sized = named.sized ∙ written.blank.sized;
  pages = named.page ∙ ap (λ f. but (but f 1 (mapped 1)) 2 (mapped 2)) written.blank.page;
  maps = named.map ∙ ap (λ f. but (but f 1 (names 1)) 2 (names 2)) written.blank.map;
  others = none_left y words after written.blank.others named.others;
  leaf = subst (λ f. IsPage (f 1) first_leaf) (sym named.row) written.leaf;
  inner = subst (λ f. IsPage (f 2) first_inner) (sym named.row) written.inner;
}
