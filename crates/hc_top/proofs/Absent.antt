-- What is shown of an answer where there is none.
use Rattle.std.proofs.Common.{Option, Some, None, IfNone}

-- what holds anyway holds where there is no answer
pub if_none : {A : Type 0} (r : Option A) (P : Type 0) → P → IfNone r P
if_none None P holds = holds
if_none (Some x) P holds = tt
