-- One read after others, and one write after others.
use Rattle.std.proofs.Common.{◌≤◌, ◌≡◌, ◌∙◌, ap, sym, ℕ, ◌+◌, ◌<◌, List, ◌++◌, length, take, drop, Option, Some, None, append_assoc}
use Rattle.std.proofs.Math.Seq.{take-add}
use Rattle.std.specs.Io.KnownBytes.{Consumes}
use Rattle.hc_io.specs.Transfer.{ReadsIfTold, WritesIfTold}
use Rattle.hc_top.specs.TopCall.{ReadsToEnd}

-- the first `at` bytes of the output are written, by a sink whose count of faults was first and is now
pub record WrittenSoFar (before after : Option (List ℕ)) (output : List ℕ) (at first now : ℕ) : Type 0 where
  pub within : at ≤ length output
  pub written : WritesIfTold before after output at
  pub count : first ≤ now

-- the input was taken from the front of what was left, through a buffer of this size
pub record ReadSoFar (left rest : Option (List ℕ)) (input : List ℕ) (size buffer first now : ℕ) : Type 0 where
  pub taken : Consumes left rest input
  pub within : size ≤ 16777217
  pub buffer_size : buffer ≡ 65536
  pub count : first ≤ now

-- a read takes the bytes that it copied from the front of what was left
pub consumes-read : (left rest : Option (List ℕ)) (buffer : List ℕ) (n : ℕ) → ReadsIfTold left rest buffer n → Consumes left rest (take n buffer)
consumes-read None rest buffer n reads = tt
consumes-read (Some left) None buffer n reads = reads
consumes-read (Some left) (Some rest) buffer n reads = reads.bytes

-- a read of no bytes into some room is at the end
pub ends-read : (left rest : Option (List ℕ)) (buffer : List ℕ) (n : ℕ) → ReadsIfTold left rest buffer n → 0 < length buffer → n ≡ 0 → ReadsToEnd left rest
ends-read None rest buffer n reads some zero = tt
ends-read (Some left) None buffer n reads some zero = absurd reads
ends-read (Some left) (Some rest) buffer n reads some zero =
    let all : left ≡ rest = rw zero at reads.bytes in
    ap Some (sym all ∙ (reads.end some).0 zero)

-- what two reads take one after the other is taken as one
pub consumes-more : (first mid last : Option (List ℕ)) (xs ys : List ℕ) → Consumes first mid xs → Consumes mid last ys → Consumes first last (xs ++ ys)
consumes-more None mid last xs ys a b = tt
consumes-more (Some first) None last xs ys a b = absurd a
consumes-more (Some first) (Some mid) None xs ys a b = b
consumes-more (Some first) (Some mid) (Some last) xs ys a b = a ∙ ap (λ (l : List ℕ). xs ++ l) b ∙ sym (append_assoc xs ys last)

-- what two writes put of a piece, one after the other, is written as one
pub writes-more : (first mid last : Option (List ℕ)) (piece : List ℕ) (at n : ℕ) → WritesIfTold first mid piece at → WritesIfTold mid last (drop at piece) n → WritesIfTold first last piece (at + n)
writes-more None mid last piece at n a b = tt
writes-more (Some first) None last piece at n a b = absurd a
writes-more (Some first) (Some mid) None piece at n a b = b
writes-more (Some first) (Some mid) (Some last) piece at n a b =
    b
    ∙ ap (λ (l : List ℕ). l ++ take n (drop at piece)) a
    ∙ append_assoc first (take at piece) (take n (drop at piece))
    ∙ ap (λ (l : List ℕ). first ++ l) (sym (take-add at n piece))
