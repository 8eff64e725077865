use Rattle.hc_lex.proofs.OneReading.{faults_are_one}
use Rattle.hc_lex.proofs.laws.a_text_has_one_least_fault.Goals as goal

pub returns : goal.returns
returns c = faults_are_one
