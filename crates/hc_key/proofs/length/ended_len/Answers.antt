use Rattle.std.proofs.Common.{arith}
use Rattle.hc_key.proofs.Lengths.{ended_len}
use Rattle.hc_key.proofs.length.ended_len.Goals as goal

pub returns : goal.returns
returns c = omega (arith, c.count_zeros.ensures, ended_len c.args.bytes.now, c.saturating_add.ensures, c.saturating_add-2.ensures)
