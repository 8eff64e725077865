-- The notes are true by what the rule says of them.
use Rattle.hc_rule.specs.Views.{knowledge_of}
use Rattle.hc_rule.proofs.Views.{known_is}
use Rattle.hc_tidlog.proofs.Noting.{notes_are_true}
use Rattle.hc_tidlog.proofs.laws.what_was_noted_is_true.Goals as goal

pub returns : goal.returns
returns c = λ y words views h i v at. notes_are_true y.transactions _ _ _ _ _ h.recorded i v (known_is knowledge_of views i v at)
