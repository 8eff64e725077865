use Rattle.std.proofs.Common.{◌++◌, length}
use Rattle.std.proofs.lemmas.List.{drop-replicate}
use Rattle.hc_range.specs.declared.key.TheConstants.{LONGEST_KEY}
use Rattle.hc_range.proofs.key.padded.Goals as goal

pub returns : goal.returns
returns c = λ i. c.copy_from_slice.ensures.after i ++ drop-replicate (length c.args.key.now) LONGEST_KEY 0 i
