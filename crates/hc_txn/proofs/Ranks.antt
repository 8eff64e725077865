-- Keys of bounded length as numbers, in their order: how far a walk in ascending order of keys can go.
use Rattle.std.proofs.Common.{◌≡◌, subst, ℕ, zero, suc, ◌+◌, ◌-◌, ◌*◌, ◌^◌, ◌<◌, ◌≤◌, true, List, [], ◌∷◌, length, arith, inl, inr}
use Rattle.std.proofs.Math.Nat.{pow-suc, mul-le-mul_right, suc-mul}
use Rattle.std.proofs.lemmas.Bool.{false≢true, cases_lt, cases_eq}
use Rattle.std.specs.Ordering.{nat_cmp, is_lt, ordering_then, MatchOrdering}
use Rattle.std.specs.Cmp.{nat_cmp_is}
use Rattle.std.specs.Cmp.Lexicographic.{slice_cmp}
use Rattle.std.specs.declared.cmp.Ordering.{Ordering}
use Rattle.std.specs.declared.cmp.Ordering.TheVariants.{Less, Equal, Greater}
use Rattle.hc_text.proofs.ByteStrings.{IsBytes, IsBytes-rest}
use Rattle.hc_range.specs.Order.{is_below}
use Rattle.hc_txn.specs.Reading.{IsPlace}
use Rattle.hc_core.specs.declared.stop.Next.{Next}
use Rattle.hc_core.specs.declared.stop.Next.TheVariants.{More, End}

-- a key of at most n bytes as a number in base 257, where 0 is for no byte
abbrev pub rank : ℕ → List ℕ → ℕ
rank zero key = 0
rank (suc n) [] = 0
rank (suc n) (b ∷ bs) = suc b * 257 ^ n + rank n bs

some_power : (n : ℕ) → 0 < 257 ^ n
some_power zero = omega arith
some_power (suc n) = rw (pow-suc 257 n) (omega (arith, some_power n))

pub rank_bound : (n : ℕ) (key : List ℕ) → IsBytes key → rank n key < 257 ^ n
rank_bound zero key bytes = omega arith
rank_bound (suc n) [] bytes = some_power (suc n)
rank_bound (suc n) (b ∷ bs) bytes =
    let first : suc b * 257 ^ n ≤ 256 * 257 ^ n = mul-le-mul_right (257 ^ n) (omega (arith, bytes 0)) in
    let rest : rank n bs < 257 ^ n = rank_bound n bs (IsBytes-rest b bs bytes) in
    rw (pow-suc 257 n) (omega (arith, first, rest))

-- what the answer of a comparison says
compared : (x y : ℕ) → MatchOrdering (nat_cmp x y) (x < y) (x ≡ y) (y < x)
compared x y =
    elim (cases_lt x y) [
      | inl less ↦ subst (λ (o : Ordering). MatchOrdering o (x < y) (x ≡ y) (y < x)) (nat_cmp_is x y Less less) less
      | inr more ↦ elim (cases_eq x y) [
        | inl same ↦ subst (λ (o : Ordering). MatchOrdering o (x < y) (x ≡ y) (y < x)) (nat_cmp_is x y Equal same) same
        | inr other ↦
            let above : y < x = omega (arith, more, other) in
            subst (λ (o : Ordering). MatchOrdering o (x < y) (x ≡ y) (y < x)) (nat_cmp_is x y Greater above) above
      ]
    ]

-- the bytes compare, or what follows them does
rank_step : (n x y p q : ℕ) (o rest : Ordering) → MatchOrdering o (x < y) (x ≡ y) (y < x) → is_lt (ordering_then o rest) ≡ true → p < 257 ^ n
    → (is_lt rest ≡ true → p < q) → suc x * 257 ^ n + p < suc y * 257 ^ n + q
rank_step n x y p q Less rest less h bound following =
    let more : suc (suc x) * 257 ^ n ≤ suc y * 257 ^ n = mul-le-mul_right (257 ^ n) (omega (arith, less)) in
    let one : suc (suc x) * 257 ^ n ≡ suc x * 257 ^ n + 257 ^ n = suc-mul (suc x) (257 ^ n) in
    omega (arith, more, one, bound)
rank_step n x y p q Equal rest same h bound following =
    rw same (omega (arith, following h))
rank_step n x y p q Greater rest more h bound following = absurd (false≢true h)

-- a key below another has the lower number
pub rank_below : (n : ℕ) (a b : List ℕ) → length a ≤ n → length b ≤ n → IsBytes a → is_below a b ≡ true → rank n a < rank n b
unfolding is_below
rank_below n [] [] la lb bytes below = absurd (false≢true below)
rank_below zero [] (y ∷ ys) la lb bytes below = omega (arith, lb)
rank_below (suc n) [] (y ∷ ys) la lb bytes below =
    let one : suc y * 257 ^ n ≡ y * 257 ^ n + 257 ^ n = suc-mul y (257 ^ n) in
    omega (arith, one, some_power n)
rank_below n (x ∷ xs) [] la lb bytes below = absurd (false≢true below)
rank_below zero (x ∷ xs) (y ∷ ys) la lb bytes below = omega (arith, lb)
rank_below (suc n) (x ∷ xs) (y ∷ ys) la lb bytes below =
    rank_step n x y (rank n xs) (rank n ys) (nat_cmp x y) (slice_cmp nat_cmp xs ys) (compared x y) below (rank_bound n xs (IsBytes-rest x xs bytes))
    (rank_below n xs ys (omega (arith, la)) (omega (arith, lb)) (IsBytes-rest x xs bytes))

unfoldable pub longest : ℕ
longest = 463

-- a call stops above where it began, or at the end
abbrev pub StopsAbove : List ℕ → Next → Type 0
StopsAbove key (More stop) = is_below key stop ≡ true
StopsAbove key End = Unit {0}

-- how much is left above it
abbrev pub left_above : Next → ℕ
left_above (More key) = 257 ^ longest - rank longest key
left_above End = 0

-- a call that stops above a place leaves less
pub less_left : (key : List ℕ) (next : Next) → IsPlace (More key) → IsPlace next → StopsAbove key next → left_above next < left_above (More key)
unfolding longest
less_left key End here there above = omega (arith, rank_bound 463 key here.1)
less_left key (More stop) here there above = omega (arith, rank_bound 463 stop there.1, rank_below 463 key stop here.0 there.0 here.1 above)
