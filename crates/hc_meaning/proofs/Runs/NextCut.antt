-- The cut with one more reply.
use Rattle.std.proofs.Common.{◌≡◌, ◌∙◌, refl, ap, subst, ℕ, suc, ◌+◌, Bool, true, false, Option, Some, None, List, [], ◌∷◌, ◌++◌, length, arith}
use Rattle.std.specs.Prelude.{⊤, is_some, option_map}
use Rattle.std.proofs.lemmas.Option.{none-some, same_Some}
use Rattle.hc_transcript.specs.declared.reply.Ending.{Ending}
use Rattle.hc_transcript.specs.declared.reply.Ending.TheVariants.{Commit, Snapshot, RolledBack}
use Rattle.hc_transcript.specs.declared.reply.Reply.{Reply}
use Rattle.hc_meaning.specs.declared.answer.Answer.{Answer}
use Rattle.hc_meaning.specs.declared.command.Command.{Command}
use Rattle.hc_meaning.specs.declared.command.Command.TheVariants as command
use Rattle.hc_meaning.specs.Runs.Cut.{Cut, Stray, Transaction, cut, is_over, items_of, with_closed, with_stray}
use Rattle.hc_meaning.specs.Runs.Walk.{Item, OutOfMemory, Move, LeavesOut, Outside, Belongs, Closes, Misses, Told, Done, Conflict, Lack, Failure, answer_in, belongs, commits, item_of, move, move_inside, move_outside, stays_outside, told, undoes}
use Rattle.hc_meaning.specs.Runs.Growing.{next_closed}
use Rattle.hc_meaning.proofs.Runs.Closed.{mapped}

-- where a move can be: outside of a transaction, or before the script's last command
abbrev FitsPlace : Bool → Bool → Move → Type 0
FitsPlace inside last LeavesOut = inside ≡ false
FitsPlace inside last (Outside answer) = inside ≡ false
FitsPlace inside last (Belongs item) = last ≡ false
FitsPlace inside last (Closes item close ending) = ⊤
FitsPlace inside last Misses = ⊤

belongs_fits : (inside last : Bool) (item : Item) (ending : Option Ending) → FitsPlace inside last (belongs last item ending)
belongs_fits inside false item None = refl
belongs_fits inside false item (Some ending) = tt
belongs_fits inside true item None = tt
belongs_fits inside true item (Some (Commit k)) = tt
belongs_fits inside true item (Some (Snapshot s)) = tt
belongs_fits inside true item (Some (RolledBack s)) = tt

commits_fits : (inside last fails : Bool) (c : Command) (answer : Answer) (t : Told) (ending : Option Ending) → FitsPlace inside last (commits fails c answer t ending)
commits_fits inside last fails c answer Done None = tt
commits_fits inside last fails c answer Done (Some (Commit k)) = tt
commits_fits inside last fails c answer Done (Some (Snapshot s)) = tt
commits_fits inside last fails c answer Done (Some (RolledBack s)) = tt
commits_fits inside last fails c answer (Conflict refusal) None = tt
commits_fits inside last fails c answer (Conflict refusal) (Some (Commit k)) = tt
commits_fits inside last fails c answer (Conflict refusal) (Some (Snapshot s)) = tt
commits_fits inside last fails c answer (Conflict refusal) (Some (RolledBack s)) = tt
commits_fits inside last fails c answer Lack None = tt
commits_fits inside last fails c answer Lack (Some (Commit k)) = tt
commits_fits inside last fails c answer Lack (Some (Snapshot s)) = tt
commits_fits inside last fails c answer Lack (Some (RolledBack s)) = tt
commits_fits inside last true c answer Failure None = tt
commits_fits inside last false c answer Failure None = tt
commits_fits inside last true c answer Failure (Some (Commit k)) = tt
commits_fits inside last false c answer Failure (Some (Commit k)) = tt
commits_fits inside last true c answer Failure (Some (Snapshot s)) = tt
commits_fits inside last false c answer Failure (Some (Snapshot s)) = tt
commits_fits inside last true c answer Failure (Some (RolledBack s)) = tt
commits_fits inside last false c answer Failure (Some (RolledBack s)) = tt

undoes_fits : (inside last : Bool) (answer : Answer) (t : Told) (ending : Option Ending) → FitsPlace inside last (undoes answer t ending)
undoes_fits inside last answer Lack None = tt
undoes_fits inside last answer Lack (Some (Commit k)) = tt
undoes_fits inside last answer Lack (Some (Snapshot s)) = tt
undoes_fits inside last answer Lack (Some (RolledBack s)) = tt
undoes_fits inside last answer Done None = tt
undoes_fits inside last answer Done (Some (Commit k)) = tt
undoes_fits inside last answer Done (Some (Snapshot s)) = tt
undoes_fits inside last answer Done (Some (RolledBack s)) = tt
undoes_fits inside last answer (Conflict refusal) None = tt
undoes_fits inside last answer (Conflict refusal) (Some (Commit k)) = tt
undoes_fits inside last answer (Conflict refusal) (Some (Snapshot s)) = tt
undoes_fits inside last answer (Conflict refusal) (Some (RolledBack s)) = tt
undoes_fits inside last answer Failure None = tt
undoes_fits inside last answer Failure (Some (Commit k)) = tt
undoes_fits inside last answer Failure (Some (Snapshot s)) = tt
undoes_fits inside last answer Failure (Some (RolledBack s)) = tt

stays_fits : (last : Bool) (answer : Answer) (ending : Option Ending) → FitsPlace false last (stays_outside answer ending)
stays_fits last answer None = refl
stays_fits last answer (Some ending) = tt

outside_fits : (last : Bool) (c : Command) (answer : Answer) (t : Told) (ending : Option Ending) → FitsPlace false last (move_outside last c answer t ending)
outside_fits last c answer Lack None = refl
outside_fits last (command.Run statement) answer t ending = commits_fits false last true (command.Run statement) answer t ending
outside_fits last command.Begin answer t ending = belongs_fits false last (item_of command.Begin answer t) ending
outside_fits last c answer t ending = stays_fits last answer ending

inside_fits : (last : Bool) (c : Command) (answer : Answer) (t : Told) (ending : Option Ending) → FitsPlace true last (move_inside last c answer t ending)
inside_fits last c answer Lack None = belongs_fits true last (OutOfMemory c) None
inside_fits last command.Commit answer t ending = commits_fits true last false command.Commit answer t ending
inside_fits last command.Rollback answer t ending = undoes_fits true last answer t ending
inside_fits last c answer t ending = belongs_fits true last (item_of c answer t) ending

move_fits : (inside last : Bool) (c : Command) (reply : Reply) → FitsPlace inside last (move inside last c reply)
move_fits true last c reply = inside_fits last c (answer_in reply) (told reply.rows reply.last) reply.ending
move_fits false last c reply = outside_fits last c (answer_in reply) (told reply.rows reply.last) reply.ending

-- a cut with what the next reply says
abbrev pub after_move : ℕ → ℕ → Command → Move → Cut → Option Cut
after_move conn n k LeavesOut c = Some c
after_move conn n k (Outside answer) c = Some (record { closed = c.closed; unfinished = c.unfinished; strays = c.strays ++ record { command = k; answer = answer } ∷ [] })
after_move conn n k (Belongs item) c = Some (record { closed = c.closed; unfinished = Some (items_of c.unfinished ++ item ∷ []); strays = c.strays })
after_move conn n k (Closes item close ending) c =
    Some (record { closed = c.closed ++ next_closed conn n c item close ending ∷ []; unfinished = None; strays = c.strays })
after_move conn n k Misses c = None

abbrev empty_cut : Option (List Item) → Cut
empty_cut now = record { closed = []; unfinished = now; strays = [] }

-- a cut of no reply
no_reply : (conn n : ℕ) (now : Option (List Item)) (later : List Command) → (is_over later ≡ true → is_some now ≡ false) → cut conn n now later [] ≡ Some (empty_cut now)
no_reply conn n now (k ∷ later) fits = refl
no_reply conn n None [] fits = refl
no_reply conn n (Some items) [] fits = absurd (let e : true ≡ false = fits refl in cc)

last_not : (b : Bool) → b ≡ false → b ≡ true → ⊥
last_not true is other = let e : true ≡ false = is in cc
last_not false is other = let e : false ≡ true = other in cc

module _ (conn n : ℕ) (k : Command) where
  under_stray : (stray : Stray) (m : Move) (c : Cut) → option_map (with_stray stray) (after_move conn n k m c) ≡ after_move conn n k m (with_stray stray c)
  under_stray stray LeavesOut c = refl
  under_stray stray (Outside answer) c = refl
  under_stray stray (Belongs item) c = refl
  under_stray stray (Closes item close ending) c = refl
  under_stray stray Misses c = refl

  under_closed : (t : Transaction) (m : Move) (c : Cut) → option_map (with_closed t) (after_move conn (n + 1) k m c) ≡ after_move conn n k m (with_closed t c)
  under_closed t LeavesOut c = refl
  under_closed t (Outside answer) c = refl
  under_closed t (Belongs item) c = refl
  under_closed t (Closes item close ending) c =
      let same : n + 1 + length c.closed ≡ n + suc (length c.closed) = omega arith in
      ap (λ (o : ℕ). Some (record {
        closed = t ∷ (c.closed ++ record { conn = conn; ordinal = o; items = items_of c.unfinished ++ item ∷ []; close = close; ending = ending } ∷ []);
        unfinished = None;
        strays = c.strays;
      })) same
  under_closed t Misses c = refl

first_reply : (conn n : ℕ) (now : Option (List Item)) (k : Command) (later : List Command) (r : Reply)
    → cut conn n now (k ∷ later) (r ∷ []) ≡ after_move conn n k (move (is_some now) (is_over later) k r) (empty_cut now)
first_reply conn n now k later r =
    elim (move (is_some now) (is_over later) k r) as (λ m. FitsPlace (is_some now) (is_over later) m → elim m [
      | LeavesOut ↦ cut conn n now later []
      | Outside answer ↦ option_map (with_stray (record { command = k; answer = answer })) (cut conn n now later [])
      | Belongs item ↦ cut conn n (Some (items_of now ++ item ∷ [])) later []
      | Closes item close ending ↦ option_map
          (with_closed (record { conn = conn; ordinal = n; items = items_of now ++ item ∷ []; close = close; ending = ending }))
          (cut conn (n + 1) None later [])
      | Misses ↦ None
    ] ≡ after_move conn n k m (empty_cut now)) [
      | LeavesOut ↦ λ fits. no_reply conn n now later (λ over. fits)
      | Outside answer ↦ λ fits. ap (option_map (with_stray (record { command = k; answer = answer }))) (no_reply conn n now later (λ over. fits))
      | Belongs item ↦ λ fits. no_reply conn n (Some (items_of now ++ item ∷ [])) later (λ over. absurd (last_not (is_over later) fits over))
      | Closes item close ending ↦ λ fits.
          let t : ℕ → Transaction = λ o. record { conn = conn; ordinal = o; items = items_of now ++ item ∷ []; close = close; ending = ending } in
          let same : n ≡ n + 0 = omega arith in
          ap (option_map (with_closed (t n))) (no_reply conn (n + 1) None later (λ over. refl))
          ∙ ap (λ (o : ℕ). Some (record { closed = t o ∷ []; unfinished = None; strays = [] })) same
      | Misses ↦ λ fits. refl
    ] (move_fits (is_some now) (is_over later) k r)

-- one more reply says what it says after the cut of the replies before
pub next_cut : (conn n : ℕ) (now : Option (List Item)) (before : List Command) (k : Command) (later : List Command) (replies : List Reply) (r : Reply) (c : Cut)
    → length replies ≡ length before → cut conn n now (before ++ k ∷ later) replies ≡ Some c
    → cut conn n now (before ++ k ∷ later) (replies ++ r ∷ []) ≡ after_move conn n k (move (is_some c.unfinished) (is_over later) k r) c
next_cut conn n now [] k later [] r c same is =
    subst (λ (d : Cut). cut conn n now (k ∷ later) (r ∷ []) ≡ after_move conn n k (move (is_some d.unfinished) (is_over later) k r) d)
    (same_Some (empty_cut now) c is) (first_reply conn n now k later r)
next_cut conn n now [] k later (q ∷ replies) r c same is = absurd (omega (arith, same))
next_cut conn n now (d ∷ before) k later [] r c same is = absurd (omega (arith, same))
next_cut conn n now (d ∷ before) k later (q ∷ replies) r c same is =
    let fewer : length replies ≡ length before = omega (arith, same) in
    elim (move (is_some now) (is_over (before ++ k ∷ later)) d q) as (λ m. elim m [
      | LeavesOut ↦ cut conn n now (before ++ k ∷ later) replies
      | Outside answer ↦ option_map (with_stray (record { command = d; answer = answer })) (cut conn n now (before ++ k ∷ later) replies)
      | Belongs item ↦ cut conn n (Some (items_of now ++ item ∷ [])) (before ++ k ∷ later) replies
      | Closes item close ending ↦ option_map
          (with_closed (record { conn = conn; ordinal = n; items = items_of now ++ item ∷ []; close = close; ending = ending }))
          (cut conn (n + 1) None (before ++ k ∷ later) replies)
      | Misses ↦ None
    ] ≡ Some c → elim m [
      | LeavesOut ↦ cut conn n now (before ++ k ∷ later) (replies ++ r ∷ [])
      | Outside answer ↦ option_map (with_stray (record { command = d; answer = answer })) (cut conn n now (before ++ k ∷ later) (replies ++ r ∷ []))
      | Belongs item ↦ cut conn n (Some (items_of now ++ item ∷ [])) (before ++ k ∷ later) (replies ++ r ∷ [])
      | Closes item close ending ↦ option_map
          (with_closed (record { conn = conn; ordinal = n; items = items_of now ++ item ∷ []; close = close; ending = ending }))
          (cut conn (n + 1) None (before ++ k ∷ later) (replies ++ r ∷ []))
      | Misses ↦ None
    ] ≡ after_move conn n k (move (is_some c.unfinished) (is_over later) k r) c) [
      | LeavesOut ↦ λ found. next_cut conn n now before k later replies r c fewer found
      | Outside answer ↦ λ found.
          let stray : Stray = record { command = d; answer = answer } in
          let rest = mapped (with_stray stray) (cut conn n now (before ++ k ∷ later) replies) c found in
          subst (λ (e : Cut). option_map (with_stray stray) (cut conn n now (before ++ k ∷ later) (replies ++ r ∷ []))
          ≡ after_move conn n k (move (is_some e.unfinished) (is_over later) k r) e) rest.2
          (ap (option_map (with_stray stray)) (next_cut conn n now before k later replies r rest.0 fewer rest.1)
          ∙ under_stray conn n k stray (move (is_some rest.0.unfinished) (is_over later) k r) rest.0)
      | Belongs item ↦ λ found. next_cut conn n (Some (items_of now ++ item ∷ [])) before k later replies r c fewer found
      | Closes item close ending ↦ λ found.
          let t : Transaction = record { conn = conn; ordinal = n; items = items_of now ++ item ∷ []; close = close; ending = ending } in
          let rest = mapped (with_closed t) (cut conn (n + 1) None (before ++ k ∷ later) replies) c found in
          subst (λ (e : Cut). option_map (with_closed t) (cut conn (n + 1) None (before ++ k ∷ later) (replies ++ r ∷ []))
          ≡ after_move conn n k (move (is_some e.unfinished) (is_over later) k r) e) rest.2
          (ap (option_map (with_closed t)) (next_cut conn (n + 1) None before k later replies r rest.0 fewer rest.1)
          ∙ under_closed conn n k t (move (is_some rest.0.unfinished) (is_over later) k r) rest.0)
      | Misses ↦ λ found. absurd (none-some c found)
    ] is
