-- Why a copy of the first bytes that are left is a read.
use Rattle.std.proofs.Common.{◌≡◌, ℕ, ◌+◌, ◌-◌, ◌<◌, ◌↔◌, min, List, [], ◌++◌, length, take, drop, arith, ap}
use Rattle.std.proofs.lemmas.List.{drop-drop, take_at, length-take, length-drop, length-append, take-append-drop, drop_all}
use Rattle.hc_io.specs.Transfer.{Reads}

-- the bytes at the front of the copy, and then the rest, are all that was left
front_and_rest : (at n : ℕ) (bytes buffer : List ℕ) → n ≡ min (length buffer) (length bytes - at)
    → drop at bytes ≡ take n (take n (drop at bytes) ++ drop n buffer) ++ drop (at + n) bytes
front_and_rest at n bytes buffer count =
    let size : length (take n (drop at bytes)) ≡ n = simp (length-take, length-drop) (omega arith) in
    rw (take_at (take n (drop at bytes)) (drop n buffer) n size, ← drop-drop n at bytes, take-append-drop n (drop at bytes))

-- where there is room, none are copied exactly where none are left
none_at_the_end : (at n : ℕ) (bytes buffer : List ℕ) → n ≡ min (length buffer) (length bytes - at)
    → 0 < length (take n (drop at bytes) ++ drop n buffer) → ((n ≡ 0) ↔ (drop at bytes ≡ []))
none_at_the_end at n bytes buffer count room =
    let has_room : 0 < length buffer =
    omega (arith, simp (length-append, length-take, length-drop) at room) in (
      λ none. drop_all at bytes (omega arith),
      λ ended. omega (arith, simp length-drop at (ap length ended)),
    )

-- a copy of the first bytes that are left, as many as there is room for, is a read
pub reads_front : (at n : ℕ) (bytes buffer : List ℕ) → n ≡ min (length buffer) (length bytes - at)
    → Reads (drop at bytes) (drop (at + n) bytes) (take n (drop at bytes) ++ drop n buffer) n
reads_front at n bytes buffer count = record {
  bytes = front_and_rest at n bytes buffer count;
  end = none_at_the_end at n bytes buffer count;
}
