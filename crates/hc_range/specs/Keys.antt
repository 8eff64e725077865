-- What a key buffer holds.
use Rattle.std.specs.Prelude.{◌≡◌, ℕ, ◌-◌, ◌≤◌, List, ◌++◌, length, take, drop, replicate}
use Rattle.std.proofs.Common.{sym, ap, ◌∙◌, subst}
use Rattle.std.proofs.lemmas.List.{length-take-le, take-append-drop}
use Rattle.hc_range.specs.declared.key.TheConstants.{LONGEST_KEY}
use Rattle.hc_range.specs.declared.key.KeyBuf.TheInside.{Inside}

-- the key: the first len bytes of the buffer
abbrev pub key_in : Inside → List ℕ
key_in buffer = take buffer.len buffer.bytes

-- the key fits in the `LONGEST_KEY` bytes, and each byte past it is 0
abbrev pub IsPadded : Inside → Type 0
IsPadded buffer = (buffer.len ≤ LONGEST_KEY) × (length buffer.bytes ≡ LONGEST_KEY) × (drop buffer.len buffer.bytes ≡ replicate (LONGEST_KEY - buffer.len) 0)

-- the one buffer that holds a key
abbrev pub buffer_of : List ℕ → Inside
buffer_of key = record { len = length key; bytes = key ++ replicate (LONGEST_KEY - length key) 0 }

-- a buffer is known by the key that it holds
pub buffer_of-key_in : (buffer : Inside) → IsPadded buffer → buffer_of (key_in buffer) ≡ buffer
buffer_of-key_in buffer h =
    let long : length (take buffer.len buffer.bytes) ≡ buffer.len =
    length-take-le buffer.len buffer.bytes (subst (λ (n : ℕ). buffer.len ≤ n) (sym h.1) h.0) in
    let all : take buffer.len buffer.bytes ++ replicate (LONGEST_KEY - length (take buffer.len buffer.bytes)) 0 ≡ buffer.bytes =
    ap (λ (n : ℕ). take buffer.len buffer.bytes ++ replicate (LONGEST_KEY - n) 0) long
    ∙ ap (λ (zeros : List ℕ). take buffer.len buffer.bytes ++ zeros) (sym h.2)
    ∙ take-append-drop buffer.len buffer.bytes in
    λ i. record { len = long i; bytes = all i }
