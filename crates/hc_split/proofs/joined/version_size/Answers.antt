-- The words of a new entry.
use Rattle.std.proofs.Common.{refl, arith}
use Rattle.std.specs.Option.{option_copied}
use Rattle.hc_base.specs.Layout.{record_bytes}
use Rattle.hc_page.proofs.Sizes.{new_size}
use Rattle.hc_split.proofs.joined.version_size.Goals as goal

pub returns : goal.returns
returns c = omega (arith, new_size c.args.new.now (record_bytes (option_copied c.args.new.now.rec)) refl, c.record_len.ensures)
