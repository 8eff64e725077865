-- Whether the keys of a range lie in ranges can be decided: each of the ranges is taken out of it in turn.
use Rattle.std.proofs.Common.{◌≡◌, inl, inr, ⊎_elim, refl, sym, ◌∙◌, ℕ, true, false, Option, Some, None, List, [], ◌∷◌}
use Rattle.std.proofs.lemmas.Bool.{true≢false, cases_Bool, cond_both}
use Rattle.hc_range.specs.declared.range.Range.{Range}
use Rattle.hc_range.specs.Order.{is_below, higher, lower}
use Rattle.hc_range.specs.Ranges.{is_under, InAny, Includes}
use Rattle.hc_range.proofs.ByteOrder.{below_irrefl, below_at_most, at_most_trans}
use Rattle.hc_range.proofs.Ends.{higher_left, higher_right, higher_least, lower_left, lower_right, under_down}
use Rattle.hc_core.proofs.Known.{Known, known_as, known_both}

-- the part of a range below a key, and the part from a key on
abbrev earlier : Option (List ℕ) → List ℕ → List ℕ
earlier None key = key
earlier (Some end) key = lower end key

abbrev part_below : Range → List ℕ → Range
part_below part key = record { lo = part.lo; hi = Some (earlier part.hi key) }

abbrev part_from : Range → List ℕ → Range
part_from part key = record { lo = higher part.lo key; hi = part.hi }

-- a key below the earlier of an end and another key is below both
under_earlier : (end : Option (List ℕ)) (other key : List ℕ) → is_below key (earlier end other) ≡ true → (is_under key end ≡ true) × (is_below key other ≡ true)
under_earlier None other key under = (refl, under)
under_earlier (Some end) other key under =
    (below_at_most key (lower end other) end under (lower_left end other), below_at_most key (lower end other) other under (lower_right end other))

-- and the other way round
earlier_under : (end : Option (List ℕ)) (other key : List ℕ) → is_under key end ≡ true → is_below key other ≡ true → is_below key (earlier end other) ≡ true
earlier_under None other key under below = below
earlier_under (Some end) other key under below = cond_both (is_below other end) other end (λ (k : List ℕ). is_below key k ≡ true) (λ _. below) (λ _. under)

-- what is left of a range after another one that has an end
abbrev IsRestIn : List Range → Range → Option (List ℕ) → Type 0
IsRestIn ranges part None = Unit {0}
IsRestIn ranges part (Some end) = Includes ranges (part_from part end)

-- whether what is left of a range lies in ranges
known_rest : (ranges : List Range) (part : Range) (end : Option (List ℕ)) → ((other : Range) → Known (Includes ranges other)) → Known (IsRestIn ranges part end)
known_rest ranges part None known = inl tt
known_rest ranges part (Some end) known = known (part_from part end)

-- a range lies in ranges where what is below the first one and what is above it lie in the others
rest_from : (lo : List ℕ) (end : Option (List ℕ)) (ranges : List Range) (part : Range) → Includes (record { lo = lo; hi = end } ∷ ranges) part
    → Includes ranges (part_below part lo) × IsRestIn ranges part end
rest_from lo end ranges part all = (
  λ key inside.
      let u = under_earlier part.hi lo key inside.1 in
      ⊎_elim (λ here. absurd (true≢false (sym u.1 ∙ here.0))) (λ following. following) (all key (inside.0, u.0)),
  above end all,
)
  where
    above : (e : Option (List ℕ)) → Includes (record { lo = lo; hi = e } ∷ ranges) part → IsRestIn ranges part e
    above None all = tt
    above (Some stop) all = λ key inside.
        ⊎_elim (λ here. absurd (true≢false (sym here.1 ∙ at_most_trans stop (higher part.lo stop) key (higher_right part.lo stop) inside.0))) (λ following. following)
        (all key (at_most_trans part.lo (higher part.lo stop) key (higher_left part.lo stop) inside.0, inside.1))

-- and the other way round
rest_into : (lo : List ℕ) (end : Option (List ℕ)) (ranges : List Range) (part : Range) → Includes ranges (part_below part lo) × IsRestIn ranges part end
    → Includes (record { lo = lo; hi = end } ∷ ranges) part
rest_into lo end ranges part rest key inside =
    ⊎_elim
    (λ below. inr (rest.0 key (inside.0, earlier_under part.hi lo key inside.1 below)))
    (λ at_least. above end rest.1 at_least)
    (cases_Bool (is_below key lo))
  where
    above : (e : Option (List ℕ)) → IsRestIn ranges part e → is_below key lo ≡ false → InAny (record { lo = lo; hi = e } ∷ ranges) key
    above None following at_least = inl (at_least, refl)
    above (Some stop) following at_least =
        ⊎_elim (λ under. inl (at_least, under)) (λ past. inr (following key (higher_least part.lo stop key inside.0 past, inside.1))) (cases_Bool (is_below key stop))

-- whether a range lies in ranges
pub known_included : (ranges : List Range) (part : Range) → Known (Includes ranges part)
known_included [] part =
    ⊎_elim
    (λ some. inr (λ all. all part.lo (below_irrefl part.lo, some)))
    (λ empty. inl (λ key inside. true≢false (sym (under_down part.lo key part.hi inside.0 inside.1) ∙ empty)))
    (cases_Bool (is_under part.lo part.hi))
known_included (range ∷ ranges) part =
    known_as (Includes ranges (part_below part range.lo) × IsRestIn ranges part range.hi) (Includes (range ∷ ranges) part)
    (rest_into range.lo range.hi ranges part) (rest_from range.lo range.hi ranges part)
    (known_both (Includes ranges (part_below part range.lo)) (IsRestIn ranges part range.hi) (known_included ranges (part_below part range.lo))
    (known_rest ranges part range.hi (known_included ranges)))
