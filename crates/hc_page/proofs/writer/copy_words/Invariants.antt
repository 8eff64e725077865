-- The first k words are copied.
use Rattle.std.proofs.Common.{take, drop}
use Rattle.hc_page.specs.Drafts.{IsWritten}
use Rattle.hc_page.proofs.writer.copy_words.Given as goal

abbrev pub invariant-loop-k : goal.invariant-loop-k
invariant-loop-k l = IsWritten l.initial.out.words l.out.words l.at (take l.k (take l.len (drop l.from l.page.words)))
