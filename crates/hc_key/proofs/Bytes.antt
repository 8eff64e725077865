-- How the parts of a key compare, whatever follows them.
use Rattle.std.proofs.Common.{◌≡◌, ℕ, zero, suc, ◌/◌, ◌%◌, ◌^◌, ◌<◌, ℤ, pos, negsuc, ◌<ℤ◌, List, [], ◌∷◌, ◌++◌, refl, sym, ap, ◌∙◌, arith, append_assoc, w64, FitsSigned, Ordering, Less, Equal, Greater, nat_cmp, int_cmp}
use Rattle.std.specs.Ordering.{ordering_then, MatchOrdering}
use Rattle.std.specs.Cmp.{nat_cmp_is}
use Rattle.std.specs.Cmp.Lexicographic.{slice_cmp}
use Rattle.std.specs.Int.{bytes_high_first, byte_at}
use Rattle.std.proofs.lemmas.Cmp.{nat_cmp_total, tied_itself, ranked, int_ranked}
use Rattle.std.proofs.lemmas.Int.{ints}
use Rattle.hc_key.specs.Keys.{turned, escaped, ended}
use Rattle.hc_text.proofs.ByteStrings.{one_byte_more, byte_at-is}

-- the order of byte strings
abbrev pub bytes_cmp : List ℕ → List ℕ → Ordering
bytes_cmp = slice_cmp nat_cmp

-- comparisons by one thing after another can be grouped either way
pub then_assoc : (a b c : Ordering) → ordering_then (ordering_then a b) c ≡ ordering_then a (ordering_then b c)
then_assoc Less b c = refl
then_assoc Equal b c = refl
then_assoc Greater b c = refl

-- a number compared with itself leaves what follows to decide
pub same_first : (x : ℕ) (o : Ordering) → ordering_then (nat_cmp x x) o ≡ o
same_first x o = ap (λ (p : Ordering). ordering_then p o) (tied_itself nat_cmp_total x)

-- ---- numbers, high byte first

-- two numbers compare by their quotients, and then by themselves
quotients_first : (q r m n : ℕ) → q ≡ m / 256 → r ≡ n / 256 → ordering_then (nat_cmp q r) (nat_cmp (m % 256) (n % 256)) ≡ nat_cmp m n
quotients_first q r m n qs rs = by_rank (nat_cmp q r) (ranked q r (nat_cmp q r) refl)
  where
    rest : q ≡ r → (o : Ordering) → MatchOrdering o (m % 256 < n % 256) (m % 256 ≡ n % 256) (n % 256 < m % 256) → o ≡ nat_cmp m n
    rest e Less lt = nat_cmp_is m n Less (omega arith)
    rest e Equal same = nat_cmp_is m n Equal (omega arith)
    rest e Greater gt = nat_cmp_is m n Greater (omega arith)

    by_rank : (o : Ordering) → MatchOrdering o (q < r) (q ≡ r) (r < q) → ordering_then o (nat_cmp (m % 256) (n % 256)) ≡ nat_cmp m n
    by_rank Less lt = nat_cmp_is m n Less (omega arith)
    by_rank Equal e = rest e (nat_cmp (m % 256) (n % 256)) (ranked (m % 256) (n % 256) (nat_cmp (m % 256) (n % 256)) refl)
    by_rank Greater gt = nat_cmp_is m n Greater (omega arith)

-- the low k bytes decide between numbers that are one above them
numbers_compare : (k m n : ℕ) (r s : List ℕ)
    → ordering_then (nat_cmp (m / 256 ^ k) (n / 256 ^ k)) (bytes_cmp (bytes_high_first k m ++ r) (bytes_high_first k n ++ s)) ≡ ordering_then (nat_cmp m n) (bytes_cmp r s)
numbers_compare zero m n r s =
    let one : m / 1 ≡ m = omega arith in
    let other : n / 1 ≡ n = omega arith in
    ap (λ (a : ℕ). ordering_then (nat_cmp a (n / 1)) (bytes_cmp r s)) one ∙ ap (λ (b : ℕ). ordering_then (nat_cmp m b) (bytes_cmp r s)) other
numbers_compare (suc k) m n r s =
    let rest : Ordering = bytes_cmp (bytes_high_first k m ++ r) (bytes_high_first k n ++ s) in
    ap (λ (a : ℕ). ordering_then (nat_cmp (m / 256 ^ suc k) (n / 256 ^ suc k)) (ordering_then (nat_cmp a (byte_at k n)) rest)) (byte_at-is k m)
    ∙ ap (λ (b : ℕ). ordering_then (nat_cmp (m / 256 ^ suc k) (n / 256 ^ suc k)) (ordering_then (nat_cmp (m / 256 ^ k % 256) b) rest)) (byte_at-is k n)
    ∙ sym (then_assoc (nat_cmp (m / 256 ^ suc k) (n / 256 ^ suc k)) (nat_cmp (m / 256 ^ k % 256) (n / 256 ^ k % 256)) rest)
    ∙ ap (λ (o : Ordering). ordering_then o rest) (quotients_first (m / 256 ^ suc k) (n / 256 ^ suc k) (m / 256 ^ k) (n / 256 ^ k) (one_byte_more m k) (one_byte_more n k))
    ∙ numbers_compare k m n r s

-- two numbers in k bytes, whatever follows them, compare as numbers first
abbrev pub NumbersCompare : ℕ → ℕ → ℕ → Type 0
NumbersCompare k m n = (r s : List ℕ) → bytes_cmp (bytes_high_first k m ++ r) (bytes_high_first k n ++ s) ≡ ordering_then (nat_cmp m n) (bytes_cmp r s)

-- numbers of 32 bits compare so in four bytes, those of 64 in eight
pub four_bytes : (m n : ℕ) → m < 2 ^ 32 → n < 2 ^ 32 → NumbersCompare 4 m n
four_bytes m n p q r s =
    let a : m / 256 ^ 4 ≡ 0 = omega arith in
    let b : n / 256 ^ 4 ≡ 0 = omega arith in
    ap (λ (o : Ordering). ordering_then o (bytes_cmp (bytes_high_first 4 m ++ r) (bytes_high_first 4 n ++ s)))
    (sym (ap (λ (x : ℕ). nat_cmp x (n / 256 ^ 4)) a ∙ ap (λ (y : ℕ). nat_cmp 0 y) b))
    ∙ numbers_compare 4 m n r s

pub eight_bytes : (m n : ℕ) → m < 2 ^ 64 → n < 2 ^ 64 → NumbersCompare 8 m n
eight_bytes m n p q r s =
    let a : m / 256 ^ 8 ≡ 0 = omega arith in
    let b : n / 256 ^ 8 ≡ 0 = omega arith in
    ap (λ (o : Ordering). ordering_then o (bytes_cmp (bytes_high_first 8 m ++ r) (bytes_high_first 8 n ++ s)))
    (sym (ap (λ (x : ℕ). nat_cmp x (n / 256 ^ 8)) a ∙ ap (λ (y : ℕ). nat_cmp 0 y) b))
    ∙ numbers_compare 8 m n r s

-- ---- integers

-- an i64 counted from the least one is a number of 64 bits
pub turned_fits : (z : ℤ) → FitsSigned w64 z → turned z < 2 ^ 64
turned_fits (pos n) fits = omega (arith, fits)
turned_fits (negsuc n) fits = omega (arith, fits)

-- of two i64 the lower is counted to a lower number
turned_below : (y z : ℤ) → FitsSigned w64 y → FitsSigned w64 z → y <ℤ z → turned y < turned z
turned_below (pos m) (pos n) p q lt = omega (arith, ints, lt)
turned_below (pos m) (negsuc n) p q lt = absurd (omega (arith, ints, lt))
turned_below (negsuc m) (pos n) p q lt = omega (arith, ints, p)
turned_below (negsuc m) (negsuc n) p q lt = omega (arith, ints, p, q, lt)

-- two i64 are ordered as their counts
turned_ranks : (y z : ℤ) → FitsSigned w64 y → FitsSigned w64 z → (o : Ordering) → MatchOrdering o (y <ℤ z) (y ≡ z) (z <ℤ y) → MatchOrdering o (turned y < turned z) (turned y ≡ turned z) (turned z < turned y)
turned_ranks y z p q Less lt = turned_below y z p q lt
turned_ranks y z p q Equal same = ap turned same
turned_ranks y z p q Greater gt = turned_below z y q p gt

-- so the comparison of two i64 is that of their counts
pub turned_compares : (y z : ℤ) → FitsSigned w64 y → FitsSigned w64 z → nat_cmp (turned y) (turned z) ≡ int_cmp y z
turned_compares y z p q = sym (nat_cmp_is (turned y) (turned z) (int_cmp y z) (turned_ranks y z p q (int_cmp y z) (int_ranked y z (int_cmp y z) refl)))

-- ---- texts and blobs

-- a 0 comes before any other byte, whatever follows the two
zero_first : (y : ℕ) (a b : List ℕ) → bytes_cmp (0 ∷ a) (suc y ∷ b) ≡ Less
zero_first y a b = ap (λ (o : Ordering). ordering_then o (bytes_cmp a b)) (sym (nat_cmp_is 0 (suc y) Less (omega arith)))

zero_second : (x : ℕ) (a b : List ℕ) → bytes_cmp (suc x ∷ a) (0 ∷ b) ≡ Greater
zero_second x a b = ap (λ (o : Ordering). ordering_then o (bytes_cmp a b)) (sym (nat_cmp_is (suc x) 0 Greater (omega arith)))

-- an end and what follows it
abbrev pub closed : List ℕ → List ℕ
closed r = 0 ∷ 0 ∷ r

-- two byte strings compare as they did once they are escaped and closed, and then by what follows
pub escaped_compare : (a b r s : List ℕ) → bytes_cmp (escaped a ++ closed r) (escaped b ++ closed s) ≡ ordering_then (bytes_cmp a b) (bytes_cmp r s)
escaped_compare [] [] r s = refl
escaped_compare [] (zero ∷ b) r s = refl
escaped_compare [] (suc y ∷ b) r s = zero_first y (0 ∷ r) (escaped b ++ closed s)
escaped_compare (zero ∷ a) [] r s = refl
escaped_compare (suc x ∷ a) [] r s = zero_second x (escaped a ++ closed r) (0 ∷ s)
escaped_compare (zero ∷ a) (zero ∷ b) r s = escaped_compare a b r s
escaped_compare (zero ∷ a) (suc y ∷ b) r s = zero_first y (255 ∷ (escaped a ++ closed r)) (escaped b ++ closed s) ∙ sym (ap (λ (o : Ordering). ordering_then o (bytes_cmp r s)) (zero_first y a b))
escaped_compare (suc x ∷ a) (zero ∷ b) r s = zero_second x (escaped a ++ closed r) (255 ∷ (escaped b ++ closed s)) ∙ sym (ap (λ (o : Ordering). ordering_then o (bytes_cmp r s)) (zero_second x a b))
escaped_compare (suc x ∷ a) (suc y ∷ b) r s =
    ap (λ (o : Ordering). ordering_then (nat_cmp (suc x) (suc y)) o) (escaped_compare a b r s)
    ∙ sym (then_assoc (nat_cmp (suc x) (suc y)) (bytes_cmp a b) (bytes_cmp r s))

-- the same of a text's or a blob's bytes with their end
pub ended_compare : (a b r s : List ℕ) → bytes_cmp (ended a ++ r) (ended b ++ s) ≡ ordering_then (bytes_cmp a b) (bytes_cmp r s)
ended_compare a b r s =
    ap (λ (l : List ℕ). bytes_cmp l (ended b ++ s)) (append_assoc (escaped a) (0 ∷ 0 ∷ []) r)
    ∙ ap (λ (l : List ℕ). bytes_cmp (escaped a ++ closed r) l) (append_assoc (escaped b) (0 ∷ 0 ∷ []) s)
    ∙ escaped_compare a b r s
