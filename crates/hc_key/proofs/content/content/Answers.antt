use Rattle.std.proofs.Common.{◌≡◌, ◌+◌, ◌<◌, List, ℕ, ◌∷◌, [], length, arith, ap, subst, ◌∙◌}
use Rattle.hc_key.specs.Keys.{escaped}
use Rattle.hc_text.specs.Utf8.{Completes, IsNext, IsRefused}
use Rattle.hc_key.proofs.Contents.{fault_at_end, fault_at_byte, fault_after_zero, all_read, placed, length-read, empty}
use Rattle.hc_key.proofs.content.content.Goals as goal

pub returns-in_default-next_expected-clause-fault : goal.returns-in_default-next_expected-clause-fault
returns-in_default-next_expected-clause-fault c =
    let first : c.loop-byte.rest.now ≡ c.in-Some.byte.now ∷ c.in-Some.after.now = c.in-Some.ensures.cases.0 in
    let refused : IsRefused c.loop-byte.expected c.in-Some.byte.now = c.in_default-next_expected.ensures.refused in
    let no_end : c.in-Some.byte.now < 128 → Completes c.loop-byte.expected [] → ⊥ = c.in_default-next_expected.ensures.goes_on in
    placed c.args.first c.args.bytes.now c.loop-byte.rest.now c.args.place (length (escaped c.loop-byte.out.items)) c.bad_at.result c.bad_at.ensures
    (length-read c.args.bytes.now c.loop-byte.out.items c.loop-byte.rest.now c.loop-byte.invariant.written)
    (fault_at_byte c.args.first c.loop-byte.expected c.args.bytes.now c.loop-byte.out.items c.loop-byte.rest.now c.in-Some.after.now c.in-Some.byte.now c.loop-byte.invariant.alive c.loop-byte.invariant.goes c.loop-byte.invariant.written first no_end refused)

pub returns-in_default-after_end-clause-fault : goal.returns-in_default-after_end-clause-fault
returns-in_default-after_end-clause-fault c =
    let split : c.loop-byte.rest.now ≡ c.in-Some.byte.now ∷ c.in-Some.after.now = c.in-Some.ensures.cases.0 in
    let none = c.in_default-after_escape.ensures.none in
    let next : IsNext c.loop-byte.expected c.in-Some.byte.now c.in-Some-next_expected.next = c.in-Some-next_expected.ensures.next in
    let next_zero : IsNext c.loop-byte.expected 0 c.in-Some-next_expected.next = subst (λ (b : ℕ). IsNext c.loop-byte.expected b c.in-Some-next_expected.next) none.0 next in
    let first : c.loop-byte.rest.now ≡ 0 ∷ c.in-Some.after.now = split ∙ ap (λ (b : ℕ). b ∷ c.in-Some.after.now) none.0 in
    let long = length-read c.args.bytes.now c.loop-byte.out.items c.loop-byte.rest.now c.loop-byte.invariant.written in
    placed c.args.first c.args.bytes.now c.in-Some.after.now c.args.place (length (escaped c.loop-byte.out.items) + 1) c.bad_at-in_default-after_end.result c.bad_at-in_default-after_end.ensures
    (omega (arith, long, ap length first))
    (fault_after_zero c.args.first c.loop-byte.expected c.in-Some-next_expected.next c.args.bytes.now c.loop-byte.out.items c.loop-byte.rest.now c.in-Some.after.now c.loop-byte.invariant.goes next_zero c.loop-byte.invariant.written first c.in_default-after_end.ensures.none none.1)

pub returns-in_default-after_escape-clause-found : goal.returns-in_default-after_escape-clause-found
returns-in_default-after_escape-clause-found c =
    let split : c.loop-byte.rest.now ≡ c.in-Some.byte.now ∷ c.in-Some.after.now = c.in-Some.ensures.cases.0 in
    let none = c.in_default-after_escape.ensures.none in
    let done : Completes c.loop-byte.expected [] = c.in-Some-next_expected.ensures.ends (omega (arith, none.0)) in
    let first : c.loop-byte.rest.now ≡ 0 ∷ 0 ∷ c.in-Some-after_end.left.now =
    split ∙ ap (λ (b : ℕ). b ∷ c.in-Some.after.now) none.0 ∙ ap (λ (l : List ℕ). 0 ∷ l) c.in-Some-after_end.ensures.some in
    all_read c.args.first c.loop-byte.expected c.args.bytes.now c.loop-byte.out.items c.loop-byte.rest.now c.in-Some-after_end.left.now c.loop-byte.invariant.goes done c.loop-byte.invariant.written first

pub returns-clause-fault : goal.returns-clause-fault
returns-clause-fault c =
    let none : c.loop-byte.rest.now ≡ [] = empty c.loop-byte.rest.now c.in_default.ensures.cases in
    placed c.args.first c.args.bytes.now c.loop-byte.rest.now c.args.place (length (escaped c.loop-byte.out.items)) c.bad_at-2.result c.bad_at-2.ensures
    (length-read c.args.bytes.now c.loop-byte.out.items c.loop-byte.rest.now c.loop-byte.invariant.written)
    (fault_at_end c.args.first c.loop-byte.expected c.args.bytes.now c.loop-byte.out.items c.loop-byte.rest.now c.loop-byte.invariant.alive c.loop-byte.invariant.goes c.loop-byte.invariant.written none)
