-- No conjunct so far pins the column.
use Rattle.std.proofs.Common.{◌≡◌, ◌+◌, length}
use Rattle.std.specs.Option.{option_map}
use Rattle.hc_schema.specs.Paths.{first_pin}
use Rattle.hc_plan.proofs.pins.first_pin.Given as goal

abbrev pub invariant-loop-conjunct : goal.invariant-loop-conjunct
invariant-loop-conjunct l =
    (first_pin l.offset l.place l.conjuncts ≡ option_map (λ k. l.n + k) (first_pin l.offset l.place l.left))
    × (l.n + length l.left ≡ length l.conjuncts)

abbrev pub decreases-loop-conjunct : goal.decreases-loop-conjunct
decreases-loop-conjunct l = length l.left
