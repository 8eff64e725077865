use Rattle.hc_table.proofs.TakenForms.{each_form}
use Rattle.hc_table.proofs.laws.each_form_is_taken.Goals as goal

pub returns : goal.returns
returns c = each_form
