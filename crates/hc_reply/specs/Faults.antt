-- Where bytes are at fault.
use Rattle.std.specs.Prelude.{ℕ, ◌-◌, List, length}
use Rattle.hc_transcript.specs.Outputs.{IsFaultAt}
use Rattle.hc_reply.specs.declared.mismatch.Mismatch.{Mismatch}
use Rattle.hc_reply.specs.declared.mismatch.Mismatch.TheVariants as mismatch
use Rattle.hc_reply.specs.declared.fault.ReplyFault.{ReplyFault}
use Rattle.hc_reply.specs.declared.fault.ReplyFault.TheVariants as fault

abbrev pub IsReplyFault : List ℕ → ReplyFault → Type 0
IsReplyFault bytes (fault.Bad at) = IsFaultAt bytes at
IsReplyFault bytes fault.NoMemory = Unit {0}

-- the fault of so many bytes, where a line was not read
abbrev pub fault_of : ℕ → Mismatch → ReplyFault
fault_of n (mismatch.At rest) = fault.Bad (n - length rest.now)
fault_of n mismatch.NoMemory = fault.NoMemory
