-- How the program ends with a fault.
use Rattle.hc_top.specs.declared.status.Status.{Status}
use Rattle.hc_top.specs.declared.status.Status.TheVariants.{Words as FaultyWords}
use Rattle.hctree.specs.declared.fault.Fault.{Fault}
use Rattle.hctree.specs.declared.fault.Fault.TheVariants.{Word, NoMode, NotText, Ended}

-- the status that a fault tells
abbrev pub status_of : Fault → Status
status_of (Word word) = FaultyWords
status_of NoMode = FaultyWords
status_of NotText = FaultyWords
status_of (Ended status) = status
