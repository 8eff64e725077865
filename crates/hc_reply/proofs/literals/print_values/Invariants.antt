-- The values so far are written, each with its bar.
use Rattle.std.proofs.Common.{◌≡◌, ◌++◌, take, flat_map}
use Rattle.std.specs.List.{AllByRecursion}
use Rattle.hc_transcript.specs.Literals.{IsPrintable}
use Rattle.hc_reply.proofs.Joined.{after_bar}
use Rattle.hc_reply.proofs.literals.print_values.Given as goal

abbrev pub invariant-loop-value : goal.invariant-loop-value
invariant-loop-value l = record {
  text : l.out.items ≡ l.initial.out.items ++ flat_map after_bar (take l.value-index l.others);
  printable : AllByRecursion IsPrintable (take l.value-index l.others);
}
