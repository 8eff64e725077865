use Rattle.std.specs.Option.{option_copied}
use Rattle.hc_core.specs.Said.{met_said}
use Rattle.hc_core.proofs.diary.Diary.note_met.Given as goal

abbrev pub ghosts-note_met_as : goal.ghosts-note_met_as
ghosts-note_met_as a = record { entry = met_said a._said a._key.now (option_copied a._rec) a._met.now }
