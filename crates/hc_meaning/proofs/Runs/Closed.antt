-- What a cut says of the transactions that it closes: their names, how each ends, and that none is left open where every
-- command has its reply.
use Rattle.std.proofs.Common.{◌≡◌, refl, subst, ℕ, ◌+◌, Bool, true, false, Option, Some, None, List, [], ◌∷◌, ◌++◌, length, arith}
use Rattle.std.specs.Prelude.{⊤, is_some, option_map}
use Rattle.std.specs.List.{AllByRecursion}
use Rattle.std.proofs.lemmas.Option.{none-some, same_Some}
use Rattle.hc_transcript.specs.declared.reply.Ending.{Ending}
use Rattle.hc_transcript.specs.declared.reply.Ending.TheVariants.{Commit, Snapshot, RolledBack}
use Rattle.hc_transcript.specs.declared.reply.Reply.{Reply}
use Rattle.hc_meaning.specs.declared.answer.Answer.{Answer}
use Rattle.hc_meaning.specs.declared.command.Command.{Command}
use Rattle.hc_meaning.specs.declared.command.Command.TheVariants as command
use Rattle.hc_meaning.specs.Runs.Cut.{Cut, Transaction, cut, cut_at_end, is_over, items_of, with_closed, with_stray}
use Rattle.hc_meaning.specs.Runs.Walk.{Close, Finished, Refused, FellShort, Abandoned, Item, OutOfMemory, Move, LeavesOut, Outside, Belongs, Closes, Misses, Told, Done, Conflict, Lack, Failure, answer_in, belongs, commits, item_of, move, move_inside, move_outside, stays_outside, told, undoes}
use Rattle.hc_meaning.proofs.Runs.Paired.{AreNumbered}

-- what is not finished is rolled back
abbrev pub EndsSo : Close → Ending → Type 0
EndsSo Finished ending = ⊤
EndsSo (Refused refusal) (RolledBack s) = ⊤
EndsSo FellShort (RolledBack s) = ⊤
EndsSo Abandoned (RolledBack s) = ⊤
EndsSo _ _ = ⊥

abbrev MovesSo : Move → Type 0
MovesSo LeavesOut = ⊤
MovesSo (Outside answer) = ⊤
MovesSo (Belongs item) = ⊤
MovesSo (Closes item close ending) = EndsSo close ending
MovesSo Misses = ⊤

belongs_so : (last : Bool) (item : Item) (ending : Option Ending) → MovesSo (belongs last item ending)
belongs_so false item None = tt
belongs_so false item (Some ending) = tt
belongs_so true item None = tt
belongs_so true item (Some (Commit k)) = tt
belongs_so true item (Some (Snapshot s)) = tt
belongs_so true item (Some (RolledBack s)) = tt

commits_so : (fails : Bool) (c : Command) (answer : Answer) (t : Told) (ending : Option Ending) → MovesSo (commits fails c answer t ending)
commits_so true c answer Done None = tt
commits_so true c answer Done (Some (Commit k)) = tt
commits_so true c answer Done (Some (Snapshot s)) = tt
commits_so true c answer Done (Some (RolledBack s)) = tt
commits_so true c answer (Conflict refusal) None = tt
commits_so true c answer (Conflict refusal) (Some (Commit k)) = tt
commits_so true c answer (Conflict refusal) (Some (Snapshot s)) = tt
commits_so true c answer (Conflict refusal) (Some (RolledBack s)) = tt
commits_so true c answer Lack None = tt
commits_so true c answer Lack (Some (Commit k)) = tt
commits_so true c answer Lack (Some (Snapshot s)) = tt
commits_so true c answer Lack (Some (RolledBack s)) = tt
commits_so true c answer Failure None = tt
commits_so true c answer Failure (Some (Commit k)) = tt
commits_so true c answer Failure (Some (Snapshot s)) = tt
commits_so true c answer Failure (Some (RolledBack s)) = tt
commits_so false c answer Done None = tt
commits_so false c answer Done (Some (Commit k)) = tt
commits_so false c answer Done (Some (Snapshot s)) = tt
commits_so false c answer Done (Some (RolledBack s)) = tt
commits_so false c answer (Conflict refusal) None = tt
commits_so false c answer (Conflict refusal) (Some (Commit k)) = tt
commits_so false c answer (Conflict refusal) (Some (Snapshot s)) = tt
commits_so false c answer (Conflict refusal) (Some (RolledBack s)) = tt
commits_so false c answer Lack None = tt
commits_so false c answer Lack (Some (Commit k)) = tt
commits_so false c answer Lack (Some (Snapshot s)) = tt
commits_so false c answer Lack (Some (RolledBack s)) = tt
commits_so false c answer Failure None = tt
commits_so false c answer Failure (Some (Commit k)) = tt
commits_so false c answer Failure (Some (Snapshot s)) = tt
commits_so false c answer Failure (Some (RolledBack s)) = tt

undoes_so : (answer : Answer) (t : Told) (ending : Option Ending) → MovesSo (undoes answer t ending)
undoes_so answer Lack None = tt
undoes_so answer Lack (Some (Commit k)) = tt
undoes_so answer Lack (Some (Snapshot s)) = tt
undoes_so answer Lack (Some (RolledBack s)) = tt
undoes_so answer Done None = tt
undoes_so answer Done (Some (Commit k)) = tt
undoes_so answer Done (Some (Snapshot s)) = tt
undoes_so answer Done (Some (RolledBack s)) = tt
undoes_so answer (Conflict refusal) None = tt
undoes_so answer (Conflict refusal) (Some (Commit k)) = tt
undoes_so answer (Conflict refusal) (Some (Snapshot s)) = tt
undoes_so answer (Conflict refusal) (Some (RolledBack s)) = tt
undoes_so answer Failure None = tt
undoes_so answer Failure (Some (Commit k)) = tt
undoes_so answer Failure (Some (Snapshot s)) = tt
undoes_so answer Failure (Some (RolledBack s)) = tt

stays_so : (answer : Answer) (ending : Option Ending) → MovesSo (stays_outside answer ending)
stays_so answer None = tt
stays_so answer (Some ending) = tt

outside_so : (last : Bool) (c : Command) (answer : Answer) (t : Told) (ending : Option Ending) → MovesSo (move_outside last c answer t ending)
outside_so last c answer Lack None = tt
outside_so last (command.Run statement) answer t ending = commits_so true (command.Run statement) answer t ending
outside_so last command.Begin answer t ending = belongs_so last (item_of command.Begin answer t) ending
outside_so last c answer t ending = stays_so answer ending

inside_so : (last : Bool) (c : Command) (answer : Answer) (t : Told) (ending : Option Ending) → MovesSo (move_inside last c answer t ending)
inside_so last c answer Lack None = belongs_so last (OutOfMemory c) None
inside_so last command.Commit answer t ending = commits_so false command.Commit answer t ending
inside_so last command.Rollback answer t ending = undoes_so answer t ending
inside_so last c answer t ending = belongs_so last (item_of c answer t) ending

move_so : (opened last : Bool) (c : Command) (reply : Reply) → MovesSo (move opened last c reply)
move_so true last c reply = inside_so last c (answer_in reply) (told reply.rows reply.last) reply.ending
move_so false last c reply = outside_so last c (answer_in reply) (told reply.rows reply.last) reply.ending

abbrev pub EndsAsClosed : Transaction → Type 0
EndsAsClosed t = EndsSo t.close t.ending

-- What holds of a cut.
pub record CutFacts (conn n : ℕ) (commands : List Command) (replies : List Reply) (c : Cut) : Type 0 where
  pub numbered : AreNumbered conn n c.closed
  pub ends : AllByRecursion EndsAsClosed c.closed
  pub whole : length replies ≡ length commands → c.unfinished ≡ None

pub mapped : {A B : Type 0} (f : A → B) (o : Option A) (y : B) → option_map f o ≡ Some y → (x : A) × (o ≡ Some x) × (f x ≡ y)
mapped f None y is = absurd (none-some y is)
mapped f (Some x) y is = (x, refl, same_Some (f x) y is)

module _ (conn n : ℕ) (k : Command) (commands : List Command) (r : Reply) (replies : List Reply) where
  longer : (c : Cut) → CutFacts conn n commands replies c → CutFacts conn n (k ∷ commands) (r ∷ replies) c
  longer c facts = record { numbered = facts.numbered; ends = facts.ends; whole = λ same. facts.whole (omega (arith, same)) }

  strayed : (c : Cut) (stray : _) → CutFacts conn n commands replies c → CutFacts conn n (k ∷ commands) (r ∷ replies) (with_stray stray c)
  strayed c stray facts = record { numbered = facts.numbered; ends = facts.ends; whole = λ same. facts.whole (omega (arith, same)) }

  closes : (c : Cut) (t : Transaction) → t.conn ≡ conn → t.ordinal ≡ n → EndsAsClosed t → CutFacts conn (n + 1) commands replies c
      → CutFacts conn n (k ∷ commands) (r ∷ replies) (with_closed t c)
  closes c t conn_is ordinal_is so facts = record {
    numbered = (conn_is, ordinal_is, facts.numbered);
    ends = (so, facts.ends);
    whole = λ same. facts.whole (omega (arith, same));
  }

at_end : (conn n : ℕ) (now : Option (List Item)) (c : Cut) → cut_at_end now ≡ Some c → CutFacts conn n [] [] c
at_end conn n None c is = subst (CutFacts conn n [] []) (same_Some (record { closed = []; unfinished = None; strays = [] }) c is)
    (record { numbered = tt; ends = tt; whole = λ same. refl })
at_end conn n (Some items) c is = absurd (none-some c is)

pub cut_facts : (conn n : ℕ) (now : Option (List Item)) (commands : List Command) (replies : List Reply) (c : Cut)
    → cut conn n now commands replies ≡ Some c → CutFacts conn n commands replies c
cut_facts conn n now [] [] c is = at_end conn n now c is
cut_facts conn n now [] (r ∷ replies) c is = absurd (none-some c is)
cut_facts conn n now (k ∷ commands) [] c is =
    subst (CutFacts conn n (k ∷ commands) []) (same_Some (record { closed = []; unfinished = now; strays = [] }) c is)
    (record { numbered = tt; ends = tt; whole = λ same. absurd (omega (arith, same)) })
cut_facts conn n now (k ∷ commands) (r ∷ replies) c is =
    elim (move (is_some now) (is_over commands) k r) as (λ m. MovesSo m → elim m [
      | LeavesOut ↦ cut conn n now commands replies
      | Outside answer ↦ option_map (with_stray (record { command = k; answer = answer })) (cut conn n now commands replies)
      | Belongs item ↦ cut conn n (Some (items_of now ++ item ∷ [])) commands replies
      | Closes item close ending ↦ option_map
          (with_closed (record { conn = conn; ordinal = n; items = items_of now ++ item ∷ []; close = close; ending = ending }))
          (cut conn (n + 1) None commands replies)
      | Misses ↦ None
    ] ≡ Some c → CutFacts conn n (k ∷ commands) (r ∷ replies) c) [
      | LeavesOut ↦ λ so found. longer conn n k commands r replies c (cut_facts conn n now commands replies c found)
      | Outside answer ↦ λ so found.
          let rest = mapped (with_stray (record { command = k; answer = answer })) (cut conn n now commands replies) c found in
          subst (CutFacts conn n (k ∷ commands) (r ∷ replies)) rest.2
          (strayed conn n k commands r replies rest.0 (record { command = k; answer = answer }) (cut_facts conn n now commands replies rest.0 rest.1))
      | Belongs item ↦ λ so found. longer conn n k commands r replies c (cut_facts conn n (Some (items_of now ++ item ∷ [])) commands replies c found)
      | Closes item close ending ↦ λ so found.
          let t : Transaction = record { conn = conn; ordinal = n; items = items_of now ++ item ∷ []; close = close; ending = ending } in
          let rest = mapped (with_closed t) (cut conn (n + 1) None commands replies) c found in
          subst (CutFacts conn n (k ∷ commands) (r ∷ replies)) rest.2
          (closes conn n k commands r replies rest.0 t refl refl so (cut_facts conn (n + 1) None commands replies rest.0 rest.1))
      | Misses ↦ λ so found. absurd (none-some c found)
    ] (move_so (is_some now) (is_over commands) k r) is
