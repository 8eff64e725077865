-- Laws of byte order and of sets of keys, each shown by a function of `laws` with an empty body.
use Rattle.std.specs.Prelude.{◌≡◌, ℕ, List, [], ◌∷◌, ◌++◌, ◌⊎◌, ◌↔◌}
use Rattle.hc_range.specs.Order.{higher, successor, IsAtMost, IsBelow}
use Rattle.hc_range.specs.Ranges.{InAny, InRange, IsNormal}
use Rattle.hc_range.specs.declared.range.Range.{Range}

-- no key comes before itself
abbrev pub OrderIsIrreflexive : Type 0
OrderIsIrreflexive = (key : List ℕ) → IsBelow key key → ⊥

-- what comes before a key comes before all that this key comes before
abbrev pub OrderIsTransitive : Type 0
OrderIsTransitive = (a b c : List ℕ) → IsBelow a b → IsBelow b c → IsBelow a c

-- of two keys one comes before the other, or they are one key
abbrev pub OrderIsTotal : Type 0
OrderIsTotal = (a b : List ℕ) → IsBelow a b ⊎ (a ≡ b) ⊎ IsBelow b a

-- at most means before or equal
abbrev pub AtMostIsBelowOrEqual : Type 0
AtMostIsBelowOrEqual = (a b : List ℕ) → IsAtMost a b ↔ (IsBelow a b ⊎ (a ≡ b))

-- the empty key comes first
abbrev pub EmptyKeyIsLeast : Type 0
EmptyKeyIsLeast = (key : List ℕ) → IsAtMost [] key

-- a proper prefix of a key comes before it
abbrev pub ProperPrefixIsBelow : Type 0
ProperPrefixIsBelow = (key more : List ℕ) (byte : ℕ) → IsBelow key (key ++ byte ∷ more)

-- nothing lies between a key and its successor: what comes before the successor is at most the key
abbrev pub SuccessorIsNext : Type 0
SuccessorIsNext = (key other : List ℕ) → IsBelow other (successor key) ↔ IsAtMost other key

-- where a key lies in both of two ranges, the higher of their lower ends does
abbrev pub RangesMeetAtAnEnd : Type 0
RangesMeetAtAnEnd = (a b : Range) (key : List ℕ) → InRange a key → InRange b key
    → InRange a (higher a.lo b.lo) × InRange b (higher a.lo b.lo)

-- a set of keys has one normal form at most
abbrev pub NormalFormIsUnique : Type 0
NormalFormIsUnique = (one other : List Range) → IsNormal one → IsNormal other
    → ((key : List ℕ) → InAny one key ↔ InAny other key) → one ≡ other
