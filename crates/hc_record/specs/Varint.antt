-- Numbers below 2 ^ 64 in one to nine bytes: the varint of "B-tree Pages" of
-- https://www.sqlite.org/fileformat2.html, in its shortest form.
use Rattle.std.specs.Prelude.{ℕ, zero, suc, ◌+◌, ◌-◌, ◌*◌, ◌/◌, ◌%◌, ◌^◌, List, [], ◌∷◌, ◌++◌, Option, Some, None, nat_lt, if◌then◌else◌}

-- how many bytes a number takes: each of the first eight holds seven bits, and a ninth holds eight
unfoldable pub varint_len : ℕ → ℕ
varint_len n =
    if nat_lt n (2 ^ 7) then 1
    else (if nat_lt n (2 ^ 14) then 2
    else (if nat_lt n (2 ^ 21) then 3
    else (if nat_lt n (2 ^ 28) then 4
    else (if nat_lt n (2 ^ 35) then 5
    else (if nat_lt n (2 ^ 42) then 6
    else (if nat_lt n (2 ^ 49) then 7 else (if nat_lt n (2 ^ 56) then 8 else 9)))))))

-- the low k groups of seven bits, the highest first, each with 128 added: another byte follows
abbrev pub marked : ℕ → ℕ → List ℕ
marked zero n = []
marked (suc k) n = (128 + n / 2 ^ (7 * k) % 2 ^ 7) ∷ marked k n

-- the bytes of a number: marked ones, and a last one with the lowest seven bits, or eight if it is the ninth
unfoldable pub varint : ℕ → List ℕ
varint n =
    if nat_lt n (2 ^ 56) then marked (varint_len n - 1) (n / 2 ^ 7) ++ n % 2 ^ 7 ∷ []
    else marked 8 (n / 2 ^ 8) ++ n % 2 ^ 8 ∷ []

-- the number at the front of the bytes and what follows it, in any form; none where the bytes end
-- first. n is what the bytes before gave, and k how many more may be marked.
abbrev pub read_varint : ℕ → ℕ → List ℕ → Option (ℕ × List ℕ)
read_varint k n [] = None
read_varint zero n (b ∷ rest) = Some (n * 2 ^ 8 + b, rest)
read_varint (suc k) n (b ∷ rest) = if nat_lt b 128 then Some (n * 2 ^ 7 + b, rest) else read_varint k (n * 2 ^ 7 + (b - 128)) rest
