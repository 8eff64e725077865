-- Keys of the first ranges of a list.
use Rattle.std.proofs.Common.{◌⊎◌, ◌<◌, ℕ, zero, suc, inl, inr, List, [], ◌∷◌, length, take, get_or, arith}
use Rattle.hc_range.specs.declared.range.Range.{Range}
use Rattle.hc_range.specs.Ranges.{InAny, InRange}

-- a key of a range of the list is a key of the list
pub any_at : (ranges : List Range) (i : ℕ) (d : Range) (key : List ℕ) → i < length ranges → InRange (get_or ranges i d) key → InAny ranges key
any_at [] i d key within h = absurd (omega (arith, within))
any_at (range ∷ ranges) zero d key within h = inl h
any_at (range ∷ ranges) (suc i) d key within h = inr (any_at ranges i d key (omega (arith, within)) h)

-- a key of one range more is one of that range or of those before
pub any_more : (ranges : List Range) (i : ℕ) (d : Range) (key : List ℕ) → i < length ranges → InAny (take (suc i) ranges) key
    → InAny (take i ranges) key ⊎ InRange (get_or ranges i d) key
any_more [] i d key within h = absurd (omega (arith, within))
any_more (range ∷ ranges) zero d key within h = elim h [ inl here ↦ inr here | inr none ↦ absurd none ]
any_more (range ∷ ranges) (suc i) d key within h =
    elim h [
      | inl here ↦ inl (inl here)
      | inr rest ↦ elim (any_more ranges i d key (omega (arith, within)) rest) [ inl before ↦ inl (inr before) | inr last ↦ inr last ]
    ]

-- a key of some of the first ranges is one of one range more, and so is a key of that range
pub any_before : (ranges : List Range) (i : ℕ) (key : List ℕ) → InAny (take i ranges) key → InAny (take (suc i) ranges) key
any_before [] zero key h = absurd h
any_before [] (suc i) key h = absurd h
any_before (range ∷ ranges) zero key h = absurd h
any_before (range ∷ ranges) (suc i) key h = elim h [ inl here ↦ inl here | inr rest ↦ inr (any_before ranges i key rest) ]

pub any_there : (ranges : List Range) (i : ℕ) (d : Range) (key : List ℕ) → i < length ranges → InRange (get_or ranges i d) key → InAny (take (suc i) ranges) key
any_there [] i d key within h = absurd (omega (arith, within))
any_there (range ∷ ranges) zero d key within h = inl h
any_there (range ∷ ranges) (suc i) d key within h = inr (any_there ranges i d key (omega (arith, within)) h)
