-- The halves of a content are contents.
use Rattle.std.proofs.Common.{refl, ℕ, zero, suc, ◌<◌, List, [], ◌∷◌, length, take, drop, arith}
use Rattle.std.proofs.lemmas.List.{length-map}
use Rattle.std.specs.List.{All}
use Rattle.std.proofs.lemmas.List.Elements.{All-cons, All-drop, All-get_or, All-head, All-nil, All-tail, All-take}
use Rattle.hc_range.specs.Order.{IsAtMost, IsBelow}
use Rattle.hc_range.proofs.ByteOrder.{below_flip, below_irrefl}
use Rattle.hc_base.specs.declared.numbers.Logical.{Logical}
use Rattle.hc_base.specs.Content.{Ascends, BeginsAt, Content, Entry, IsContent, IsEntryOf, IsBelowEnd, IsFence, IsWithin, keys}
use Rattle.hc_base.specs.Words.{IsNumber}
use Rattle.hc_shape.specs.Halves.{AreEntriesOf, cut_at, IsSmall, left_half, right_half}

-- what follows of each element
each : (P Q : List ℕ → Type 0) → ((x : List ℕ) → P x → Q x) → (xs : List (List ℕ)) → All P xs → All Q xs
each P Q step [] all = All-nil Q
each P Q step (x ∷ xs) all = All-cons Q x xs (step x (All-head P x xs all)) (each P Q step xs (All-tail P x xs all))

both : (P Q : List ℕ → Type 0) (xs : List (List ℕ)) → All P xs → All Q xs → All (λ x. P x × Q x) xs
both P Q [] ps qs = All-nil (λ x. P x × Q x)
both P Q (x ∷ xs) ps qs =
    All-cons (λ x. P x × Q x) x xs (All-head P x xs ps, All-head Q x xs qs) (both P Q xs (All-tail P x xs ps) (All-tail Q x xs qs))

-- what holds of all keys holds of those of the first entries, and of the others
keys_take : (P : List ℕ → Type 0) (k : ℕ) (es : List Entry) → All P (keys es) → All P (keys (take k es))
keys_take P zero es all = All-nil P
keys_take P (suc k) [] all = All-nil P
keys_take P (suc k) (x ∷ es) all = All-cons P x.key (keys (take k es)) (All-head P x.key (keys es) all) (keys_take P k es (All-tail P x.key (keys es) all))

keys_drop : (P : List ℕ → Type 0) (k : ℕ) (es : List Entry) → All P (keys es) → All P (keys (drop k es))
keys_drop P zero es all = all
keys_drop P (suc k) [] all = all
keys_drop P (suc k) (x ∷ es) all = keys_drop P k es (All-tail P x.key (keys es) all)

ascends_take : (k : ℕ) (es : List Entry) → Ascends (keys es) → Ascends (keys (take k es))
ascends_take zero es up = tt
ascends_take (suc k) [] up = tt
ascends_take (suc k) (x ∷ es) up = (keys_take (λ other. IsBelow x.key other) k es up.0, ascends_take k es up.1)

ascends_drop : (k : ℕ) (es : List Entry) → Ascends (keys es) → Ascends (keys (drop k es))
ascends_drop zero es up = up
ascends_drop (suc k) [] up = up
ascends_drop (suc k) (x ∷ es) up = ascends_drop k es up.1

-- the keys before the cut are below it, and those from it on are not
pub below_cut : (k : ℕ) (es : List Entry) → Ascends (keys es) → k < length es → All (λ key. IsBelow key (cut_at es k)) (keys (take k es))
below_cut zero es up within = All-nil (λ key. IsBelow key (cut_at es 0))
below_cut (suc k) [] up within = absurd (omega (arith, within))
below_cut (suc k) (x ∷ es) up within =
    All-cons (λ key. IsBelow key (cut_at es k)) x.key (keys (take k es))
    (All-get_or (λ other. IsBelow x.key other) (keys es) k [] (omega (arith, within, length-map es (λ (entry : Entry). entry.key))) up.0)
    (below_cut k es up.1 (omega (arith, within)))

pub from_cut : (k : ℕ) (es : List Entry) → Ascends (keys es) → All (λ key. IsAtMost (cut_at es k) key) (keys (drop k es))
from_cut zero [] up = All-nil (λ key. IsAtMost [] key)
from_cut zero (x ∷ es) up =
    All-cons (λ key. IsAtMost x.key key) x.key (keys es) (below_irrefl x.key)
    (each (λ other. IsBelow x.key other) (λ other. IsAtMost x.key other) (λ other below. below_flip x.key other below) (keys es) up.0)
from_cut (suc k) [] up = All-nil (λ key. IsAtMost [] key)
from_cut (suc k) (x ∷ es) up = from_cut k es up.1

-- the cut is a fence
entry_fence : (level : ℕ) (e : Entry) → IsEntryOf level e → IsSmall e → IsFence e.key
entry_fence zero e is small = (small.1, is.1.1)
entry_fence (suc level) e is small = is.1

cut_fence : (level k : ℕ) (es : List Entry) → All (IsEntryOf level) es → All IsSmall es → k < length es → IsFence (cut_at es k)
cut_fence level k [] are small within = absurd (omega (arith, within))
cut_fence level zero (e ∷ es) are small within = entry_fence level e (All-head (IsEntryOf level) e es are) (All-head IsSmall e es small)
cut_fence level (suc k) (e ∷ es) are small within =
    cut_fence level k es (All-tail (IsEntryOf level) e es are) (All-tail IsSmall e es small) (omega (arith, within))

-- an inner page's low fence is its first key
begins_left : (level k : ℕ) (low : List ℕ) (es : List Entry) → 0 < k → BeginsAt level low (keys es) → BeginsAt level low (keys (take k es))
begins_left zero k low es some begins = tt
begins_left (suc level) zero low es some begins = absurd (omega (arith, some))
begins_left (suc level) (suc k) low [] some begins = absurd begins
begins_left (suc level) (suc k) low (x ∷ es) some begins = begins

begins_right : (level k : ℕ) (es : List Entry) → k < length es → BeginsAt level (cut_at es k) (keys (drop k es))
begins_right zero k es within = tt
begins_right (suc level) k [] within = absurd (omega (arith, within))
begins_right (suc level) zero (x ∷ es) within = refl
begins_right (suc level) (suc k) (x ∷ es) within = begins_right (suc level) k es (omega (arith, within))

pub contents : (c : Content) (fresh : Logical) (es : List Entry) (k : ℕ) → IsContent c → IsNumber fresh.0 → AreEntriesOf c es
    → 0 < k → k < length es → IsContent (left_half c fresh es k) × IsContent (right_half c fresh es k)
contents c fresh es k is number are some within = (
  record {
    level = is.level;
    own = is.own;
    right = number;
    low = is.low;
    high = cut;
    mark = is.mark;
    entries = All-take (IsEntryOf c.level) k es are.each;
    ascending = ascends_take k es are.ascending;
    within =
        both (λ key. IsAtMost c.low key) (λ key. IsBelow key (cut_at es k)) (keys (take k es))
        (keys_take (λ key. IsAtMost c.low key) k es (each (IsWithin c.low c.high) (λ key. IsAtMost c.low key) (λ key inside. inside.0) (keys es) are.within))
        (below_cut k es are.ascending within);
    begins = begins_left c.level k c.low es some are.begins;
  },
  record {
    level = is.level;
    own = number;
    right = is.right;
    low = cut;
    high = is.high;
    mark = is.mark;
    entries = All-drop (IsEntryOf c.level) k es are.each;
    ascending = ascends_drop k es are.ascending;
    within =
        both (λ key. IsAtMost (cut_at es k) key) (λ key. IsBelowEnd key c.high) (keys (drop k es)) (from_cut k es are.ascending)
        (keys_drop (λ key. IsBelowEnd key c.high) k es (each (IsWithin c.low c.high) (λ key. IsBelowEnd key c.high) (λ key inside. inside.1) (keys es) are.within));
    begins = begins_right c.level k es within;
  },
)
  where
    cut : IsFence (cut_at es k)
    cut = cut_fence c.level k es are.each are.small within
