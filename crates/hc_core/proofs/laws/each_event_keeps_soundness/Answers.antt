use Rattle.hc_core.proofs.SoundRuns.{sound_with}
use Rattle.hc_core.proofs.laws.each_event_keeps_soundness.Goals as goal

pub returns : goal.returns
returns c = sound_with
