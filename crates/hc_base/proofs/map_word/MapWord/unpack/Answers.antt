use Rattle.std.proofs.Common.{rules, ◌≡◌, ◌≢◌, IfSome, IfNone, ℕ, ◌+◌, ◌-◌, ◌*◌, ◌<◌, ◌≤◌}
use Rattle.hc_base.specs.declared.map_word.MapWord.{MapWord as Form}
use Rattle.hc_base.specs.Words.{IsMapWord, map_word}
use Rattle.hc_base.proofs.NoForm.{map_none}
use Rattle.hc_base.proofs.map_word.MapWord.unpack.Goals as goal

pub returns-in_err-parts-clause-none : goal.returns-in_err-parts-clause-none
returns-in_err-parts-clause-none c = rw c.from_residual.ensures (map_none c.in_err-parts.ensures.none)
