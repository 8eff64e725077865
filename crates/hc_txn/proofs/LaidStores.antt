-- Own writes over a store, and over its cells in a range.
use Rattle.std.proofs.Common.{◌≡◌, ◌∙◌, refl, sym, ap, ℕ, Option, Some, None, List, ◌++◌, inl, inr}
use Rattle.std.specs.Option.{unwrap_or}
use Rattle.hc_range.specs.declared.range.Range.{Range}
use Rattle.hc_range.specs.Ranges.{InRange}
use Rattle.hc_core.specs.Account.{HoldsKey}
use Rattle.hc_base.specs.Lookup.{Among}
use Rattle.hc_core.specs.Versions.{AreAscending}
use Rattle.hc_core.specs.declared.cells.Cell.{Cell}
use Rattle.hc_core.specs.declared.cells.Write.{Write}
use Rattle.hc_txn.specs.Laid.{laid}
use Rattle.hc_txn.specs.Laying.{AreStandingIn, HasLaid}
use Rattle.hc_txn.specs.Stores.{Store, HasExactly, latest, over}
use Rattle.hc_txn.proofs.LaidCells.{laid_ascends, laid_has}

none_some : (r : Option (List ℕ)) → None ≡ Some r → ⊥
none_some r e = cc

-- what the writes that stand in a range make of its cells is what they make of the store
pub laid_exactly : (own writes : List Write) (range : Range) (cells : List Cell) → AreStandingIn range own writes → AreAscending cells → (store : Store) → HasExactly store range cells
    → HasExactly (over own store) range (laid writes cells)
laid_exactly own writes range cells stand h store exact key rec =
    let has = laid_has writes cells (record { key = key; rec = rec }) stand.0 h in (
      λ a. elim (has.0 a) [
        | inl b ↦
            let s = (stand.1 key (Some rec)).0 b in
            (s.0, ap (λ (n : Option (Option (List ℕ))). unwrap_or n (store key)) s.1)
        | inr b ↦
            let s = (exact key rec).0 b.0 in
            (s.0, unwritten (latest own key) refl s.0 b.1 ∙ s.1)
      ],
      λ s. written (latest own key) refl s.0 s.1,
    )
  where
    unwritten : (n : Option (Option (List ℕ))) → latest own key ≡ n → InRange range key → (HoldsKey writes key → ⊥) → over own store key ≡ store key
    unwritten None e inside none = ap (λ (m : Option (Option (List ℕ))). unwrap_or m (store key)) e
    unwritten (Some r) e inside none = absurd (none (r, (stand.1 key r).1 (inside, e)))

    written : (n : Option (Option (List ℕ))) → latest own key ≡ n → InRange range key → over own store key ≡ Some rec → Among (record { key = key; rec = rec }) (laid writes cells)
    written None e inside found =
        (laid_has writes cells (record { key = key; rec = rec }) stand.0 h).1 (inr (
          (exact key rec).1 (inside, sym (ap (λ (m : Option (Option (List ℕ))). unwrap_or m (store key)) e) ∙ found),
          λ k. none_some k.0 (sym e ∙ ((stand.1 key k.0).0 k.1).1),
        ))
    written (Some r) e inside found =
        (laid_has writes cells (record { key = key; rec = rec }) stand.0 h).1
        (inl ((stand.1 key (Some rec)).1 (inside, e ∙ ap (λ (x : Option (List ℕ)). Some x) (sym (ap (λ (m : Option (Option (List ℕ))). unwrap_or m (store key)) e) ∙ found))))

pub laid_as : (own writes : List Write) (range : Range) (cells before after : List Cell) → AreStandingIn range own writes → AreAscending cells → after ≡ before ++ laid writes cells
    → HasLaid own range cells before after
laid_as own writes range cells before after stand h e = (laid writes cells, e, laid_ascends writes cells stand.0 h, λ store exact. laid_exactly own writes range cells stand h store exact)
