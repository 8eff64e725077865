-- One step of the walk over a connection's commands with their replies: what a reply says of the transaction that its
-- command is in, opens or ends.
use Rattle.std.specs.Prelude.{Bool, true, false, List, [], Option, Some, None}
use Rattle.hc_transcript.specs.declared.refusal.Refusal.{Refusal}
use Rattle.hc_transcript.specs.declared.refusal.Refusal.TheVariants.{Busy, Full, NoMemory}
use Rattle.hc_transcript.specs.declared.reply.Line.{Line}
use Rattle.hc_transcript.specs.declared.reply.Line.TheVariants.{Ok, Error}
use Rattle.hc_transcript.specs.declared.reply.Ending.{Ending}
use Rattle.hc_transcript.specs.declared.reply.Ending.TheVariants.{Commit, Snapshot, RolledBack}
use Rattle.hc_transcript.specs.declared.reply.Reply.{Reply}
use Rattle.hc_transcript.specs.declared.reply.Row.{Row}
use Rattle.hc_meaning.specs.declared.answer.Answer.{Answer}
use Rattle.hc_meaning.specs.declared.command.Command.{Command}
use Rattle.hc_meaning.specs.declared.command.Command.TheVariants as command

-- A command of a transaction, with what was printed of it.
pub data Item : Type 0 where
  -- it ran, and this is its answer
  Answered : Command → Answer → Item
  -- it ran, and the refusal of the commit is printed in place of its answer
  CommitRefused : Command → Item
  -- it was answered 7, so it did not run, and is none of the transaction's statements
  OutOfMemory : Command → Item

-- How a transaction was closed.
pub data Close : Type 0 where
  -- by COMMIT or ROLLBACK, or as the one statement that it is
  Finished : Close
  -- by COMMIT or as that statement, where the commit was refused with 517 or 13
  Refused : Refusal → Close
  -- by COMMIT or as that statement, answered 7
  FellShort : Close
  -- by the end of the script, or by a ROLLBACK that was answered 7
  Abandoned : Close

-- What a reply says.
pub data Move : Type 0 where
  -- its command is left out
  LeavesOut : Move
  -- it is in no transaction, and this is its answer
  Outside : Answer → Move
  -- it belongs to the open transaction, or opens one
  Belongs : Item → Move
  -- it closes the open transaction, or one that it opens
  Closes : Item → Close → Ending → Move
  -- the reply is not of the form
  Misses : Move

-- What the last line of a reply is.
pub data Told : Type 0 where
  -- `ok`
  Done : Told
  -- a commit's refusal
  Conflict : Refusal → Told
  -- 7
  Lack : Told
  -- another refusal
  Failure : Told

-- a commit's refusal, and 7, have no rows
abbrev pub told : List Row → Line → Told
told rows (Ok count) = Done
told [] (Error (Busy conn ord key)) = Conflict (Busy conn ord key)
told [] (Error (Full full)) = Conflict (Full full)
told [] (Error NoMemory) = Lack
told rows (Error refusal) = Failure

-- the item of a command that is not asked to commit
abbrev pub item_of : Command → Answer → Told → Item
item_of c answer Lack = OutOfMemory c
item_of c answer _ = Answered c answer

-- it belongs to the open transaction. The script's last command closes it
abbrev pub belongs : Bool → Item → Option Ending → Move
belongs false item None = Belongs item
belongs true item (Some (RolledBack s)) = Closes item Abandoned (RolledBack s)
belongs _ item ending = Misses

-- it asks to commit. `fails` says that it can be refused for itself, which COMMIT cannot
abbrev pub commits : Bool → Command → Answer → Told → Option Ending → Move
commits fails c answer Done (Some (Commit k)) = Closes (Answered c answer) Finished (Commit k)
commits fails c answer Done (Some (Snapshot s)) = Closes (Answered c answer) Finished (Snapshot s)
commits fails c answer (Conflict refusal) (Some (RolledBack s)) = Closes (CommitRefused c) (Refused refusal) (RolledBack s)
commits fails c answer Lack (Some (RolledBack s)) = Closes (OutOfMemory c) FellShort (RolledBack s)
commits true c answer Failure (Some (RolledBack s)) = Closes (Answered c answer) Finished (RolledBack s)
commits _ c answer _ _ = Misses

-- it undoes the transaction
abbrev pub undoes : Answer → Told → Option Ending → Move
undoes answer Lack (Some (RolledBack s)) = Closes (OutOfMemory command.Rollback) Abandoned (RolledBack s)
undoes answer t (Some (RolledBack s)) = Closes (Answered command.Rollback answer) Finished (RolledBack s)
undoes answer t ending = Misses

abbrev pub stays_outside : Answer → Option Ending → Move
stays_outside answer None = Outside answer
stays_outside answer (Some ending) = Misses

-- where no transaction is open. `last` says that the command is the script's last
abbrev pub move_outside : Bool → Command → Answer → Told → Option Ending → Move
move_outside last c answer Lack None = LeavesOut
move_outside last (command.Run statement) answer t ending = commits true (command.Run statement) answer t ending
move_outside last command.Begin answer t ending = belongs last (item_of command.Begin answer t) ending
move_outside last c answer t ending = stays_outside answer ending

-- where one is
abbrev pub move_inside : Bool → Command → Answer → Told → Option Ending → Move
move_inside last c answer Lack None = belongs last (OutOfMemory c) None
move_inside last command.Commit answer t ending = commits false command.Commit answer t ending
move_inside last command.Rollback answer t ending = undoes answer t ending
move_inside last c answer t ending = belongs last (item_of c answer t) ending

abbrev pub answer_in : Reply → Answer
answer_in reply = record { rows = reply.rows; last = reply.last }

abbrev pub move : Bool → Bool → Command → Reply → Move
move true last c reply = move_inside last c (answer_in reply) (told reply.rows reply.last) reply.ending
move false last c reply = move_outside last c (answer_in reply) (told reply.rows reply.last) reply.ending
