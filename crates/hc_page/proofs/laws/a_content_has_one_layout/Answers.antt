use Rattle.std.proofs.Common.{sym, ◌∙◌}
use Rattle.hc_page.proofs.laws.a_content_has_one_layout.Goals as goal

pub returns : goal.returns
returns c = λ words others d one other. one.is ∙ sym other.is
