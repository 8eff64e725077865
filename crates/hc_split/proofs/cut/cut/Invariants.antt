-- The best place so far.
use Rattle.std.proofs.Common.{length}
use Rattle.hc_base.specs.declared.numbers.Logical.{Logical}
use Rattle.hc_base.specs.Content.{Content}
use Rattle.hc_shape.specs.Halves.{larger}
use Rattle.hc_split.specs.Joined.{joined_entries}
use Rattle.hc_split.specs.Parts.{HasPlace}
use Rattle.hc_split.proofs.Best.{IsBest}
use Rattle.hc_split.proofs.cut.cut.Given as goal

abbrev pub invariant-places : goal.invariant-places
invariant-places l =
    (c : Content) (fresh : Logical) → HasPlace l.joined l.frame c
    → IsBest (larger c fresh (joined_entries l.joined c)) l.least l.at (length (joined_entries l.joined c)) l.best l.fewest
