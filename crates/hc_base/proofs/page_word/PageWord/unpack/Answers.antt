use Rattle.std.proofs.Common.{rules, ◌≡◌, ◌≢◌, IfSome, IfNone, ℕ, ◌+◌, ◌-◌, ◌*◌, ◌<◌, ◌≤◌}
use Rattle.hc_base.specs.declared.page_word.PageWord.{PageWord as Form}
use Rattle.hc_base.specs.Words.{IsPageWord, page_word}
use Rattle.hc_base.proofs.NoForm.{page_none}
use Rattle.hc_base.proofs.page_word.PageWord.unpack.Goals as goal

pub returns-in_err-parts-clause-none : goal.returns-in_err-parts-clause-none
returns-in_err-parts-clause-none c = rw c.from_residual.ensures (page_none c.in_err-parts.ensures.none)
