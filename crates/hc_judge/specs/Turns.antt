-- What the code's words for a reply stand for, in the walk that cuts a transcript.
use Rattle.std.specs.Prelude.{Bool, true, false, Option, Some, None}
use Rattle.hc_transcript.specs.declared.reply.Ending.{Ending}
use Rattle.hc_transcript.specs.declared.reply.Ending.TheVariants.{RolledBack}
use Rattle.hc_transcript.specs.declared.reply.Reply.{Reply}
use Rattle.hc_meaning.specs.declared.command.Command.{Command}
use Rattle.hc_meaning.specs.Runs.Walk.{Item, Close, Told, Move, answer_in}
use Rattle.hc_meaning.specs.Runs.Walk as walk
use Rattle.hc_judge.specs.declared.turn.What.{What}
use Rattle.hc_judge.specs.declared.turn.What.TheVariants as what
use Rattle.hc_judge.specs.declared.turn.Closing.{Closing}
use Rattle.hc_judge.specs.declared.turn.Closing.TheVariants as closing
use Rattle.hc_judge.specs.declared.turn.Told.{Told as ToldHere}
use Rattle.hc_judge.specs.declared.turn.Told.TheVariants as here
use Rattle.hc_judge.specs.declared.turn.Turn.{Turn}
use Rattle.hc_judge.specs.declared.turn.Turn.TheVariants as turn

-- the item of a command with its reply
abbrev pub item_as : What → Command → Reply → Item
item_as what.Answered c reply = walk.Answered c (answer_in reply)
item_as what.CommitRefused c reply = walk.CommitRefused c
item_as what.OutOfMemory c reply = walk.OutOfMemory c

abbrev pub close_as : Closing → Close
close_as closing.Finished = walk.Finished
close_as (closing.Refused refusal) = walk.Refused refusal.now
close_as closing.FellShort = walk.FellShort
close_as closing.Abandoned = walk.Abandoned

abbrev pub told_as : ToldHere → Told
told_as here.Done = walk.Done
told_as (here.Conflict refusal) = walk.Conflict refusal.now
told_as here.Lack = walk.Lack
told_as here.Failure = walk.Failure

abbrev pub move_as : Turn → Command → Reply → Move
move_as turn.LeavesOut c reply = walk.LeavesOut
move_as turn.Outside c reply = walk.Outside (answer_in reply)
move_as (turn.Belongs what) c reply = walk.Belongs (item_as what c reply)
move_as (turn.Closes what closing ending) c reply = walk.Closes (item_as what c reply) (close_as closing) ending
move_as turn.Misses c reply = walk.Misses

-- it closes a transaction with this ending, which has to say that it was rolled back
abbrev pub rolled_back : Item → Close → Option Ending → Move
rolled_back item close (Some (RolledBack s)) = walk.Closes item close (RolledBack s)
rolled_back item close ending = walk.Misses

-- a 7 without an ending
abbrev pub lacks : Told → Option Ending → Bool
lacks walk.Lack None = true
lacks told ending = false
