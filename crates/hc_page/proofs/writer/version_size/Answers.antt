-- The words of a new entry.
use Rattle.std.proofs.Common.{sym}
use Rattle.hc_page.proofs.Sizes.{new_size}
use Rattle.hc_page.proofs.writer.version_size.Goals as goal

pub returns : goal.returns
returns c = sym (new_size c.args.new.now c.bytes_of.result.now c.bytes_of.ensures.record)
