-- Where a text or a blob may end, a byte of ASCII may come, and the other way round.
use Rattle.std.proofs.Common.{ℕ, zero, suc, ◌<◌, ◌≤◌, List, [], ◌∷◌, Option, Some, None, subst, arith}
use Rattle.std.specs.Prelude.{IfSome, IfNone}
use Rattle.std.specs.Str.{IsUtf8}
use Rattle.std.proofs.lemmas.Str.{IsUtf8-nil, IsUtf8-encode, encode_ascii}
use lib.Utf8.{low_scalar}
use Rattle.hc_text.specs.declared.utf8.Expected.{Expected}
use Rattle.hc_text.specs.declared.utf8.Expected.TheVariants.{Any, Character, Following}
use Rattle.hc_text.specs.Utf8.{Follows, Completes, IsOpen, IsNext, IsRefused}

-- so many bytes in their bounds, and then a text, can come
filled : (more low high : ℕ) → low ≤ high → (x : List ℕ) × Follows more low high x
filled zero low high le = ([], IsUtf8-nil)
filled (suc more) low high le =
    let rest = filled more 128 191 (omega arith) in
    let least : low ≤ low = omega arith in
    (low ∷ rest.0, (least, le, rest.1))

-- what is expected can come
pub some_completes : (e : Expected) → IsOpen e → (x : List ℕ) × Completes e x
some_completes Any alive = ([], tt)
some_completes Character alive = ([], IsUtf8-nil)
some_completes (Following more low high) alive = filled more low high alive.2

-- where a byte of ASCII may come, it may end
before_ascii : (e : Expected) (b : ℕ) (x : List ℕ) → IsOpen e → b < 128 → Completes e (b ∷ x) → Completes e []
before_ascii Any b x alive small next = tt
before_ascii Character b x alive small next = IsUtf8-nil
before_ascii (Following zero low high) b x alive small next = absurd (omega (arith, alive.0))
before_ascii (Following (suc more) low high) b x alive small next = absurd (omega (arith, alive.1, next.0))

-- where it may end, a byte of ASCII may come
ascii_after : (e : Expected) (b : ℕ) → IsOpen e → b < 128 → Completes e [] → Completes e (b ∷ [])
ascii_after Any b alive small done = tt
ascii_after Character b alive small done = subst IsUtf8 (encode_ascii b small) (IsUtf8-encode b (low_scalar b (omega arith)))
ascii_after (Following zero low high) b alive small done = absurd (omega (arith, alive.0))
ascii_after (Following (suc more) low high) b alive small done = absurd done

-- the clause `ends`, from the clause `next`
pub may_end : (e : Expected) (b : ℕ) (next : Option Expected) → IsOpen e → IfSome next (IsNext e b) → IfSome next (λ n. b < 128 → Completes e [])
may_end e b None alive some = tt
may_end e b (Some n) alive some = λ small.
    let x = some_completes n some.0 in
    before_ascii e b x.0 alive small ((some.1 x.0).0 x.1)

-- the clause `goes_on`, from the clause `refused`
pub may_not_end : (e : Expected) (b : ℕ) (next : Option Expected) → IsOpen e → IfNone next (IsRefused e b) → IfNone next (b < 128 → Completes e [] → ⊥)
may_not_end e b None alive none = λ small done. none [] (ascii_after e b alive small done)
may_not_end e b (Some n) alive none = tt
