use Rattle.hc_core.specs.Diary.{entry_of}
use Rattle.hc_core.specs.declared.event.Event.TheVariants.{Read}
use Rattle.hc_core.specs.declared.outcome.Outcome.TheVariants.{Cells}
use Rattle.hc_core.proofs.diary.Diary.note_read.Given as goal

abbrev pub ghosts-note_read_as : goal.ghosts-note_read_as
ghosts-note_read_as a = record { entry = entry_of (Read a._conn a._range.now.lo a._range.now.hi) (Cells (record { cells = a._cells.now })) }
