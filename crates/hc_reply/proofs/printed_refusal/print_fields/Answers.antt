use Rattle.std.proofs.Common.{arith}
use Rattle.hc_reply.proofs.printed_refusal.print_fields.Goals as goal

pub returns-in-Number-clause-text : goal.returns-in-Number-clause-text
returns-in-Number-clause-text c = rw c.in-Number.is c.number.ensures.text

pub returns-in-Number-clause-fits : goal.returns-in-Number-clause-fits
returns-in-Number-clause-fits c = rw c.in-Number.is c.number.ensures.fits

pub returns-in-Name-clause-text : goal.returns-in-Name-clause-text
returns-in-Name-clause-text c = rw c.in-Name.is c.name.ensures.text

pub returns-in-Name-clause-fits : goal.returns-in-Name-clause-fits
returns-in-Name-clause-fits c = rw c.in-Name.is c.name.ensures.fits

pub returns-in-Names-clause-text : goal.returns-in-Names-clause-text
returns-in-Names-clause-text c = rw c.in-Names.is c.names.ensures.text

pub returns-in-Names-clause-fits : goal.returns-in-Names-clause-fits
returns-in-Names-clause-fits c = rw c.in-Names.is c.names.ensures.fits

pub returns-in-Numbers-clause-text : goal.returns-in-Numbers-clause-text
returns-in-Numbers-clause-text c = rw c.in-Numbers.is c.numbers.ensures.text

pub returns-in-Numbers-clause-fits : goal.returns-in-Numbers-clause-fits
returns-in-Numbers-clause-fits c = rw c.in-Numbers.is c.numbers.ensures.fits

pub returns-in-NoItem-clause-text : goal.returns-in-NoItem-clause-text
returns-in-NoItem-clause-text c = rw c.in-NoItem.is (grind (arith, c.integer.ensures.text))

pub returns-in-NoItem-clause-fits : goal.returns-in-NoItem-clause-fits
returns-in-NoItem-clause-fits c = rw c.in-NoItem.is (grind (arith, c.integer.ensures.fits))

pub returns-in-TooBig-clause-text : goal.returns-in-TooBig-clause-text
returns-in-TooBig-clause-text c = rw c.in-TooBig.is c.length_of.ensures.text

pub returns-in-TooBig-clause-fits : goal.returns-in-TooBig-clause-fits
returns-in-TooBig-clause-fits c = rw c.in-TooBig.is c.length_of.ensures.fits

pub returns-in-Busy-clause-text : goal.returns-in-Busy-clause-text
returns-in-Busy-clause-text c = rw c.in-Busy.is c.busy.ensures.text

pub returns-in-Busy-clause-fits : goal.returns-in-Busy-clause-fits
returns-in-Busy-clause-fits c = rw c.in-Busy.is c.busy.ensures.fits
