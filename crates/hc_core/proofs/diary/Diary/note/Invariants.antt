use Rattle.std.specs.Option.{option_copied}
use Rattle.hc_core.specs.Said.{entry_said}
use Rattle.hc_core.proofs.diary.Diary.note.Given as goal

abbrev pub ghosts-note_as : goal.ghosts-note_as
ghosts-note_as a = record { entry = entry_said a._said a._key.now (option_copied a._rec) }
