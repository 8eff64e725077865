use Rattle.std.proofs.lemmas.Bool.{le-ltb}
use Rattle.hc_record.proofs.Bounds.{ones_above, ones_fit, none_fit}
use Rattle.hc_record.proofs.serial.bits_above.Goals as goal

pub returns-in-len1-up-clause-bits : goal.returns-in-len1-up-clause-bits
returns-in-len1-up-clause-bits c = rw (le-ltb _ _ c.if-first-ge128.true) (ones_above _ c.if-bytes-lt8.true)

pub returns-in-len1-up-clause-fits : goal.returns-in-len1-up-clause-fits
returns-in-len1-up-clause-fits c = rw (ones_above _ c.if-bytes-lt8.true) (ones_fit _ c.requires)

pub returns-in_default-3-clause-fits : goal.returns-in_default-3-clause-fits
returns-in_default-3-clause-fits c = none_fit _
