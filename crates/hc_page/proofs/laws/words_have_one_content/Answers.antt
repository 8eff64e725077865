use Rattle.hc_page.proofs.OneContent.{one_content}
use Rattle.hc_page.proofs.laws.words_have_one_content.Goals as goal

pub returns : goal.returns
returns c = one_content
