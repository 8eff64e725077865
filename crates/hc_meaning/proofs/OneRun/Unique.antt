-- A right run of one connection is the serial run of its statements.
use Rattle.std.proofs.Common.{◌≡◌, ◌∙◌, refl, sym, ap, subst, ℕ, ◌+◌, ◌<◌, ◌≤◌, true, List, [], ◌∷◌, Option, Some, arith}
use Rattle.std.specs.Prelude.{Contains}
use Rattle.std.proofs.lemmas.List.Elements.{Contains-append_right}
use Rattle.std.proofs.lemmas.Option.{slice_get_within}
use Rattle.hc_transcript.specs.declared.reply.Ending.{Ending}
use Rattle.hc_transcript.specs.declared.reply.Ending.TheVariants.{Commit, Snapshot, RolledBack}
use Rattle.hc_transcript.specs.declared.reply.Reply.{Reply}
use Rattle.hc_meaning.specs.declared.answer.Answer.{Answer}
use Rattle.hc_meaning.specs.declared.statement.Statement.{Statement}
use Rattle.hc_meaning.specs.declared.transaction.Transaction.{Transaction}
use Rattle.hc_meaning.specs.Database.{Db}
use Rattle.hc_meaning.specs.Run.{run, answer_of}
use Rattle.hc_transcript.specs.Text.{ending_number}
use Rattle.hc_meaning.specs.Transactions.{cut, may_end, own}
use Rattle.hc_meaning.specs.History.{state, GivesReplies, IsHistory, IsLegal}
use Rattle.hc_meaning.specs.Played.{ending_after, commits_at, commits_after, reply_to, played}
use Rattle.hc_meaning.specs.RightOutput.{IsCommitted, IsReadAt, IsReadUnlessCommitted}
use Rattle.hc_meaning.proofs.SerialRun.AfterEach.{IsAfter}
use Rattle.hc_meaning.proofs.OneRun.Peeled.{peeled, all_from}
use Rattle.hc_meaning.proofs.OneRun.Steps.{EndsWith, commits-is, snapshot-is, rolled_back-is}
use Rattle.hc_meaning.proofs.OneRun.Walk.{IsAt, state-more, is_left, goes_on, commit-next, other-stays}

-- a reply with this answer and ending is the serial run's
pub reply-is : (commits : ℕ) (db : Db) (statement : Statement) (reply : Reply) (ending : Ending) → (run db statement).answer ≡ answer_of reply → reply.ending ≡ Some ending
    → ending_after commits statement (run db statement).answer.last ≡ ending → reply ≡ reply_to commits db statement
reply-is commits db statement reply ending answers ended is =
    ap (λ (e : Option Ending). record { rows = reply.rows; last = reply.last; ending = e }) (ended ∙ ap Some (sym is))
    ∙ ap (λ (a : Answer). record { rows = a.rows; last = a.last; ending = Some (ending_after commits statement (run db statement).answer.last) }) (sym answers)

-- the one answer of a statement that is a transaction of its own
answer-is : (db : Db) (ordinal : ℕ) (statement : Statement) (reply : Reply) (ending : Ending) → GivesReplies db (own 0 ordinal statement reply ending) → (run db statement).answer ≡ answer_of reply
answer-is db ordinal statement reply ending replies = cc

module _ (transactions history : List Transaction) (is_history : IsHistory transactions history) (is_legal : IsLegal history) (others : (t : Transaction) → Contains transactions t → IsReadUnlessCommitted history t t.ending)
    (rising : (t u : Transaction) → Contains transactions t → Contains transactions u → t.conn ≡ u.conn → t.ordinal < u.ordinal → (ending_number t.ending ≤ ending_number u.ending) × (IsCommitted u.ending → ending_number t.ending < ending_number u.ending)) where
  -- the statement's reply is the serial run's, and the walk goes on as that does
  record IsStep (commits : ℕ) (statement : Statement) (reply : Reply) (later : List Transaction) : Type 0 where
    pub reply_is : reply ≡ reply_to commits (state history commits) statement
    pub db : (run (state history commits) statement).db ≡ state history (commits_after commits (state history commits) statement)
    pub is_at : IsAt transactions history is_history (commits_after commits (state history commits) statement) later

  module _ (commits ordinal : ℕ) (statement : Statement) (reply : Reply) (later : List Transaction) (following : (u : Transaction) → Contains later u → (u.conn ≡ 0) × (ordinal + 1 ≤ u.ordinal)) where
    -- the db that the statement runs on
    abbrev now : Db
    now = state history commits

    -- the transaction that the statement is, with this ending
    abbrev first : Ending → Transaction
    first ending = own 0 ordinal statement reply ending

    -- the walk is before it
    abbrev Starts : Ending → Type 0
    Starts ending = IsAt transactions history is_history commits (first ending ∷ later)

    -- it is one of the transactions, and the later ones come after it
    first_among : (ending : Ending) → Starts ending → Contains transactions (first ending)
    first_among ending is_at = is_at.among (first ending) (is_left (first ending) later)

    is_before : (ending : Ending) → Starts ending → (u : Transaction) → Contains later u → IsAfter (first ending) u
    is_before ending is_at u there =
        let among : Contains transactions u = is_at.among u (Contains-append_right (first ending ∷ []) later u there) in
        let r = rising (first ending) u (first_among ending is_at) among (sym (following u there).0) (omega (arith, (following u there).1)) in
        record { no_fall = r.0; above = r.1 }

    -- the statement, run on the db now, gives the reply's answer, and the ending may follow that
    record IsAnswered (ending : Ending) : Type 0 where
      pub answers : (run now statement).answer ≡ answer_of reply
      pub may : may_end (run now statement).answer.last ending ≡ true

    -- a transaction that gives these replies is answered so
    answered : (ending : Ending) → GivesReplies now (first ending) → may_end reply.last ending ≡ true → IsAnswered ending
    answered ending replies may =
        let answers : (run now statement).answer ≡ answer_of reply = answer-is now ordinal statement reply ending replies in
        record { answers = answers; may = subst (λ (a : Answer). may_end a.last ending ≡ true) (sym answers) may }

    -- a commit is the next one, and the db after it is the statement's
    commit-step : (k : ℕ) → reply.ending ≡ Some (Commit k) → may_end reply.last (Commit k) ≡ true → Starts (Commit k) → IsStep commits statement reply later
    commit-step k ended may is_at =
        let t : Transaction = first (Commit k) in
        let n = commit-next transactions history is_history commits t later is_at (is_before (Commit k) is_at) k refl in
        let legal = is_legal commits t n.0 in
        let a = answered (Commit k) legal.replies may in
        let is = commits-is commits k now statement legal.writes a.may in
        let goes : commits_after commits now statement ≡ commits + 1 = ap (commits_at commits) is in
        record {
          reply_is = reply-is commits now statement reply (Commit k) a.answers ended (is ∙ ap Commit (sym n.1));
          db = sym (ap (state history) goes ∙ state-more history commits t n.0);
          is_at = subst (λ c. IsAt transactions history is_history c later) (sym goes)
              (goes_on transactions history is_history commits t later is_at (is_before (Commit k) is_at) (commits + 1) n.1 (omega (arith, slice_get_within history commits t n.0)));
        }

    -- an ending that is no commit leaves the db and the count
    other-step : (ending : Ending) → reply.ending ≡ Some ending → Starts ending → ending_number ending ≡ commits → commits_at commits ending ≡ commits → (run now statement).answer ≡ answer_of reply
        → EndsWith commits now statement ending (run now statement) → IsStep commits statement reply later
    other-step ending ended is_at counts stays answers ends =
        let goes : commits_after commits now statement ≡ commits = ap (commits_at commits) ends.0 ∙ stays in
        record {
          reply_is = reply-is commits now statement reply ending answers ended ends.0;
          db = ends.1 ∙ ap (state history) (sym goes);
          is_at = subst (λ c. IsAt transactions history is_history c later) (sym goes)
              (goes_on transactions history is_history commits (first ending) later is_at (is_before ending is_at) commits counts is_at.within);
        }

    -- it was read on the db now
    read-now : (ending : Ending) → Starts ending → (IsCommitted ending → ⊥) → IsReadAt history (ending_number ending) (first ending) → (ending_number ending ≡ commits) × IsReadAt history commits (first ending)
    read-now ending is_at other read =
        let same : ending_number ending ≡ commits = other-stays transactions history is_history commits (first ending) later is_at (is_before ending is_at) other read.within in
        (same, subst (λ c. IsReadAt history c (first ending)) same read)

    -- with a snapshot the statement is a step of the walk, and so it is where it was rolled back
    snapshot-step : (s : ℕ) → reply.ending ≡ Some (Snapshot s) → may_end reply.last (Snapshot s) ≡ true → Starts (Snapshot s) → IsStep commits statement reply later
    snapshot-step s ended may is_at =
        let r = read-now (Snapshot s) is_at (λ no. no) (others (first (Snapshot s)) (first_among (Snapshot s) is_at)) in
        let a = answered (Snapshot s) r.1.replies may in
        let ends = snapshot-is commits s now statement (r.1.snapshot (ap Snapshot r.0)) a.may in
        other-step (Snapshot s) ended is_at r.0 refl a.answers (ends.0 ∙ ap Snapshot (sym r.0), ends.1)

    rolled_back-step : (s : ℕ) → reply.ending ≡ Some (RolledBack s) → may_end reply.last (RolledBack s) ≡ true → Starts (RolledBack s) → IsStep commits statement reply later
    rolled_back-step s ended may is_at =
        let r = read-now (RolledBack s) is_at (λ no. no) (others (first (RolledBack s)) (first_among (RolledBack s) is_at)) in
        let a = answered (RolledBack s) r.1.replies may in
        let ends = rolled_back-is commits s now statement a.may in
        other-step (RolledBack s) ended is_at r.0 refl a.answers (ends.0 ∙ ap RolledBack (sym r.0), ends.1)

    -- whatever its ending, the statement is a step of the walk
    step : (ending : Ending) → reply.ending ≡ Some ending → may_end reply.last ending ≡ true → Starts ending → IsStep commits statement reply later
    step (Commit k) ended may is_at = commit-step k ended may is_at
    step (Snapshot s) ended may is_at = snapshot-step s ended may is_at
    step (RolledBack s) ended may is_at = rolled_back-step s ended may is_at

  -- all statements from a place on
  pub played-is : (statements : List Statement) (replies : List Reply) (commits ordinal : ℕ) (left : List Transaction) → cut 0 ordinal statements replies ≡ Some left → IsAt transactions history is_history commits left
      → replies ≡ played commits (state history commits) statements
  played-is [] [] commits ordinal left is is_at = refl
  played-is [] (reply ∷ replies) commits ordinal left is is_at = cc
  played-is (statement ∷ statements) [] commits ordinal left is is_at = cc
  played-is (statement ∷ statements) (reply ∷ replies) commits ordinal left is is_at =
      let p = peeled 0 ordinal statement statements reply replies left is in
      let now : Db = state history commits in
      let s = step commits ordinal statement reply p.later (all_from 0 (ordinal + 1) statements replies p.later p.rest) p.ending p.ended p.may
      (subst (λ (all : List Transaction). IsAt transactions history is_history commits all) (sym p.both) is_at) in
      let rest = played-is statements replies (commits_after commits now statement) (ordinal + 1) p.later p.rest s.is_at in
      ap (λ (r : Reply). r ∷ replies) s.reply_is
      ∙ ap (λ (l : List Reply). reply_to commits now statement ∷ l) (rest ∙ ap (λ (db : Db). played (commits_after commits now statement) db statements) (sym s.db))
