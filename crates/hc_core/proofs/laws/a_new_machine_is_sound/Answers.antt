use Rattle.hc_core.proofs.SoundRuns.{start_sound}
use Rattle.hc_core.proofs.laws.a_new_machine_is_sound.Goals as goal

pub returns : goal.returns
returns c = start_sound
