-- A row has 256 words.
use Rattle.std.proofs.Common.{ap, ◌∙◌, ◌<◌, get_or, sym, ◌≡◌, ℕ, ◌+◌, List, length, drop, inl, inr, arith, length-drop, length-take-le}
use Rattle.std.proofs.lemmas.Bool.Decides.{nat_tests}
use Rattle.std.proofs.lemmas.List.{get_or-take, get_or-drop}
use Rattle.hc_rows.specs.declared.layout.Layout.{Layout}
use Rattle.hc_rows.specs.Places.{HasPage, row_at, total}
use Rattle.hc_rows.specs.Regions.{rows}
use Rattle.hc_rows.proofs.Steps.{in_range}

pub row_size : (y : Layout) (words : List ℕ) (p : ℕ) → length words ≡ total y → HasPage y p → length (rows y words p) ≡ 256
unfolding rows row_at total
row_size y words p sized there =
    elim (in_range 1 (y.pages + 1) p) [
      | inl is ↦ rw is.0 (length-take-le 256 (drop (row_at y p 0) words) (omega (arith, length-drop (row_at y p 0) words, sized, there)))
      | inr is ↦ absurd (grind (arith, nat_tests))
    ]

-- a word of a row is the table's word at its place
pub row_word : (y : Layout) (words : List ℕ) (p word : ℕ) → HasPage y p → word < 256 → get_or words (row_at y p word) 0 ≡ get_or (rows y words p) word 0
unfolding rows row_at
row_word y words p word there within =
    elim (in_range 1 (y.pages + 1) p) [
      | inl is ↦ rw is.0
          (ap (λ i. get_or words i 0) (let z : row_at y p word ≡ row_at y p 0 + word = omega arith in z)
          ∙ (sym (get_or-drop (row_at y p 0) words word 0) ∙ sym (get_or-take 256 (drop (row_at y p 0) words) word 0 within)))
      | inr is ↦ absurd (grind (arith, nat_tests))
    ]
