-- The range of one key.
use Rattle.std.proofs.Common.{◌≡◌, ◌∙◌, refl, sym, ap, subst, ℕ, Option, Some, None, List, [], ◌∷◌, ◌++◌, inl, inr, ◌↔◌}
use Rattle.hc_range.specs.Ranges.{InRange}
use Rattle.hc_range.proofs.ByteOrder.{same_from_neither, successor_next, prefix_below, below_irrefl}
use Rattle.hc_base.specs.Lookup.{Among}
use Rattle.hc_core.specs.declared.cells.Cell.{Cell}
use Rattle.hc_txn.specs.Reading.{only}
use Rattle.hc_txn.specs.Stores.{Store, HasExactly}
use Rattle.hc_txn.proofs.Parts.{among_append}

-- it has this key alone
pub one_key : (key other : List ℕ) → InRange (only key) other ↔ (other ≡ key)
one_key key other = (
  λ h. same_from_neither other key h.0 (successor_next key other h.1),
  λ e. subst (λ (k : List ℕ). InRange (only key) k) (sym e) (below_irrefl key, prefix_below key [] 0),
)

-- its cell has the key's record
pub last_record : (key : List ℕ) (cells rest : List Cell) (last : Cell) → cells ≡ rest ++ last ∷ [] → (store : Store) → HasExactly store (only key) cells → Some last.rec ≡ store key
last_record key cells rest last e store exact =
    let found = (exact last.key last.rec).0 (subst (λ (all : List Cell). Among last all) (sym e) ((among_append last rest (last ∷ [])).1 (inr (inl refl)))) in
    sym found.1 ∙ ap store ((one_key key last.key).0 found.0)

-- where it has no cell the key has no record
pub no_record : (key : List ℕ) (cells : List Cell) → cells ≡ [] → (store : Store) → HasExactly store (only key) cells → None ≡ store key
no_record key cells e store exact = at (store key) refl
  where
    at : (found : Option (List ℕ)) → store key ≡ found → None ≡ store key
    at None f = sym f
    at (Some rec) f = absurd (subst (λ (all : List Cell). Among (record { key = key; rec = rec }) all) e ((exact key rec).1 ((one_key key key).1 refl, f)))
