use Rattle.hc_reading.proofs.OneCommand.{one_command}
use Rattle.hc_reading.proofs.laws.each_text_is_one_command.Goals as goal

pub returns : goal.returns
returns c = one_command c.a_text_is_one_thing.ensures
