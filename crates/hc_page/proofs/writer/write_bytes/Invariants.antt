-- The first k words are written.
use Rattle.std.proofs.Common.{take, ◌++◌}
use Rattle.hc_base.specs.Layout.{words_of}
use Rattle.hc_page.specs.Drafts.{IsWritten}
use Rattle.hc_page.proofs.writer.write_bytes.Given as goal

abbrev pub invariant-loop-k : goal.invariant-loop-k
invariant-loop-k l = IsWritten l.initial.out.words l.out.words l.at (take l.k (words_of (l.one ++ l.other)))
