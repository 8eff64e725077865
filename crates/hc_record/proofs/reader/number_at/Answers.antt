use Rattle.std.proofs.Common.{arith}
use Rattle.hc_record.proofs.Numbers.{varint_len_is}
use Rattle.hc_record.proofs.reader.number_at.Goals as goal

pub overflow_add-varint_len : goal.overflow_add-varint_len
overflow_add-varint_len c = omega (arith, c.varint_len.ensures, (varint_len_is c.in-Some.n).1, c.in-Some.ensures.shorter, c.requires, c.ranges.stop.fits)

pub returns-clause-shorter : goal.returns-clause-shorter
returns-clause-shorter c = c.in-Some.ensures.shorter
