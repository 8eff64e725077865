use Rattle.hc_core.proofs.SoundRuns.{run_sound}
use Rattle.hc_core.proofs.laws.every_run_is_sound.Goals as goal

pub returns : goal.returns
returns c = record {
  sound = run_sound;
  reads = λ conns steps m runs i t read there among. ((run_sound conns steps m runs).sound.each i t there).reads read among;
  first = λ conns steps m runs i t key there placed has. ((run_sound conns steps m runs).sound.each i t there).first placed key has;
  refusals = λ conns steps m runs i t r there among. ((run_sound conns steps m runs).sound.each i t there).refusals r among;
}
