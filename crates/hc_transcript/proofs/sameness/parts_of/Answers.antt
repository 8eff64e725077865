use Rattle.std.proofs.Common.{arith}
use Rattle.hc_transcript.proofs.sameness.parts_of.Goals as goal

pub returns-in-Bare : goal.returns-in-Bare
returns-in-Bare c = let f0 = c.make_parts.ensures in rw c.in-Bare.is cc

pub returns-in-Number : goal.returns-in-Number
returns-in-Number c = let f0 = c.make_parts-in-Number.ensures in rw c.in-Number.is cc

pub returns-in-Name : goal.returns-in-Name
returns-in-Name c = let f0 = c.make_parts-in-Name.ensures in let f1 = c.as_bytes.ensures in rw c.in-Name.is cc

pub returns-in-Names : goal.returns-in-Names
returns-in-Names c = let f0 = c.make_parts-in-Names.ensures in let f1 = c.as_bytes-name.ensures in let f2 = c.as_bytes-in-Names.ensures in rw c.in-Names.is cc

pub returns-in-Numbers : goal.returns-in-Numbers
returns-in-Numbers c = let f0 = c.make_parts-in-Numbers.ensures in rw c.in-Numbers.is cc

pub returns-in-NoItem : goal.returns-in-NoItem
returns-in-NoItem c = rw c.in-NoItem.is (grind (arith, c.make_parts-in-NoItem.ensures))

pub returns-in-TooBig : goal.returns-in-TooBig
returns-in-TooBig c = let f0 = c.make_parts-in-TooBig.ensures in rw c.in-TooBig.is cc

pub returns-in-Busy : goal.returns-in-Busy
returns-in-Busy c = let f0 = c.make_parts-in-Busy.ensures in let f1 = c.as_slice.ensures.bytes in rw c.in-Busy.is cc
