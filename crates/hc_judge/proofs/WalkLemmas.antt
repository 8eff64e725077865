-- What the walk says of a reply, by its cases.
use Rattle.std.proofs.Common.{◌≡◌, ◌≢◌, refl, cond, ℕ, Bool, true, false, Option, None, List, [], ◌∷◌}
use Rattle.hc_base.specs.declared.full.Full.{Full as Shortage}
use Rattle.hc_transcript.specs.declared.refusal.Refusal.{Refusal}
use Rattle.hc_transcript.specs.declared.refusal.Refusal.TheVariants.{Busy, Full, NoMemory}
use Rattle.hc_transcript.specs.declared.reply.Line.TheVariants.{Error}
use Rattle.hc_transcript.specs.declared.reply.Ending.{Ending}
use Rattle.hc_transcript.specs.declared.reply.Row.{Row}
use Rattle.hc_meaning.specs.declared.answer.Answer.{Answer}
use Rattle.hc_meaning.specs.declared.command.Command.{Command}
use Rattle.hc_meaning.specs.declared.command.Command.TheVariants as command
use Rattle.hc_meaning.specs.Runs.Walk.{Told, Lack, Failure, Move, LeavesOut, OutOfMemory, belongs, commits, item_of, move_inside, move_outside, stays_outside, told, undoes}
use Rattle.hc_judge.specs.Turns.{lacks}

-- any other refusal
pub told_other : (refusal : Refusal) → ((conn ordinal : ℕ) (key : List ℕ) → refusal ≢ Busy conn ordinal key) → ((full : Shortage) → refusal ≢ Full full) → refusal ≢ NoMemory
    → Failure ≡ told [] (Error refusal)
told_other (Busy conn ordinal key) no_busy no_full no_lack = absurd (no_busy conn ordinal key refl)
told_other (Full full) no_busy no_full no_lack = absurd (no_full full refl)
told_other NoMemory no_busy no_full no_lack = absurd (no_lack refl)
told_other refusal no_busy no_full no_lack = refl

-- with rows
pub told_rows : (rows : List Row) (refusal : Refusal) → rows ≢ [] → Failure ≡ told rows (Error refusal)
told_rows [] refusal some = absurd (some refl)
told_rows (row ∷ rows) refusal some = refl

abbrev pub outside_by : Bool → Command → Answer → Told → Option Ending → Move
outside_by last (command.Run statement) answer t ending = commits true (command.Run statement) answer t ending
outside_by last command.Begin answer t ending = belongs last (item_of command.Begin answer t) ending
outside_by last c answer t ending = stays_outside answer ending

pub outside_is : (last : Bool) (c : Command) (answer : Answer) (t : Told) (ending : Option Ending) → cond (lacks t ending) LeavesOut (outside_by last c answer t ending) ≡ move_outside last c answer t ending
outside_is last c answer Lack None = refl
outside_is last (command.Run statement) answer t ending = refl
outside_is last command.Begin answer t ending = refl
outside_is last c answer t ending = refl

abbrev pub inside_by : Bool → Command → Answer → Told → Option Ending → Move
inside_by last command.Commit answer t ending = commits false command.Commit answer t ending
inside_by last command.Rollback answer t ending = undoes answer t ending
inside_by last c answer t ending = belongs last (item_of c answer t) ending

pub inside_is : (last : Bool) (c : Command) (answer : Answer) (t : Told) (ending : Option Ending) → cond (lacks t ending) (belongs last (OutOfMemory c) ending) (inside_by last c answer t ending) ≡ move_inside last c answer t ending
inside_is last c answer Lack None = refl
inside_is last command.Commit answer t ending = refl
inside_is last command.Rollback answer t ending = refl
inside_is last c answer t ending = refl
