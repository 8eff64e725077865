-- The lists of the accounts and of the log's words are the machine.
use Rattle.hc_tidlog.proofs.Joined.{one_machine}
use Rattle.hc_tidlog.proofs.laws.accounts_are_one_sound_machine.Goals as goal

pub returns : goal.returns
returns c = one_machine
