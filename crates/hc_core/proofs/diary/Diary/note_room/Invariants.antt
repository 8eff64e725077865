use Rattle.hc_core.specs.declared.account.Entry.TheVariants.{Reserved}
use Rattle.hc_core.proofs.diary.Diary.note_room.Given as goal

abbrev pub ghosts-note_room_as : goal.ghosts-note_room_as
ghosts-note_room_as a = record { entry = Reserved a._conn a._writes.now }
