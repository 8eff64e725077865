-- Each byte is copied to its place, and then all of them are the key.
use Rattle.std.proofs.Common.{◌≡◌, ◌≢◌, ◌<◌, length, take, sym, ◌∙◌, arith, below_more, length-set, get_or-set_other, get_or-set_same, length-take-le}
use Rattle.std.proofs.lemmas.List.{get_or-take}
use Rattle.hc_page.proofs.Keys.{same_bytes}
use Rattle.hc_split.proofs.reading.copy_bytes.Goals as goal

pub loop-k-preserved : goal.loop-k-preserved
loop-k-preserved c = (
  length-set c.loop-k.copy c.loop-k.k c.byte.result ∙ c.loop-k.invariant.0,
  λ bytes are.
      below_more _ _
      (λ i before. let other : i ≢ c.loop-k.k = omega arith in rw get_or-set_other (c.loop-k.invariant.1 bytes are i before))
      (let room : c.loop-k.k < length c.loop-k.copy = omega (arith, c.loop-k.invariant.0) in
      rw get_or-set_same (c.byte.ensures ∙ are.1 c.loop-k.k (omega arith))),
)

pub returns : goal.returns
returns c = λ bytes are.
    let long : length c.loop-k.copy ≡ 463 = c.loop-k.invariant.0 in
    let size : length (take c.args.len c.loop-k.copy) ≡ c.args.len = length-take-le c.args.len c.loop-k.copy (omega arith) in
    c.from_slice.ensures
    ∙ same_bytes (take c.args.len c.loop-k.copy) bytes (size ∙ sym are.0)
    (λ i within. get_or-take c.args.len c.loop-k.copy i 0 (omega (arith, size)) ∙ c.loop-k.invariant.1 bytes are i (omega (arith, size)))
