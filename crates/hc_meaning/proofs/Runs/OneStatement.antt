-- One statement that is carried out: which ending is right for it.
use Rattle.std.proofs.Common.{◌≡◌, ◌≢◌, ◌↔◌, ◌∙◌, inl, ⊎_elim, refl, sym, ap, subst, ℕ, zero, suc, ◌+◌, ◌-◌, ◌<◌, ◌≤◌, Some, None, List, [], ◌∷◌, length, map, arith}
use Rattle.std.specs.Prelude.{slice_get}
use Rattle.std.specs.List.{AllByRecursion}
use Rattle.std.proofs.lemmas.Option.{none-some, same_Some}
use Rattle.hc_ast.specs.declared.statement.Stmt.{Stmt}
use Rattle.hc_base.specs.Lookup.{Among}
use Rattle.hc_transcript.specs.declared.refusal.Refusal.{Refusal as Reason}
use Rattle.hc_transcript.specs.declared.refusal.Refusal.TheVariants.{Busy, Full}
use Rattle.hc_transcript.specs.declared.reply.Ending.{Ending}
use Rattle.hc_transcript.specs.declared.reply.Ending.TheVariants.{Commit, Snapshot, RolledBack}
use Rattle.hc_transcript.specs.declared.reply.Line.TheVariants.{Ok}
use Rattle.hc_transcript.specs.declared.reply.Transcript.{Transcript}
use Rattle.hc_meaning.specs.declared.command.Command.TheVariants as command
use Rattle.hc_meaning.specs.Runs.Commits.{IsLegal, IsLegalAt}
use Rattle.hc_meaning.specs.Runs.Cut.{Connection, IsCutOf, Script, Transaction, cut}
use Rattle.hc_meaning.specs.Runs.Examples.{AnswersFirst, OneStatementIsJudged, one_item, one_reply, one_script}
use Rattle.hc_meaning.specs.Runs.Language.{Language}
use Rattle.hc_meaning.specs.Runs.RightRun.{IsInOrder, IsReadAt, IsReadUnlessCommitted, IsRightRun}
use Rattle.hc_meaning.specs.Runs.Walk.{Finished, Refused}
use Rattle.hc_meaning.specs.Runs.Writes.{writes}

abbrev one : Stmt → ℕ → Ending → Transaction
one statement count ending = record { conn = 0; ordinal = 1; items = one_item statement (Ok count); close = Finished; ending = ending }

abbrev connection : Stmt → ℕ → Ending → Connection
connection statement count ending = record {
  script = record { conn = 0; commands = command.Run statement ∷ [] };
  transcript = record { conn = 0; replies = record { rows = []; last = Ok count; ending = Some ending } ∷ [] };
  cut = record { closed = one statement count ending ∷ []; unfinished = None; strays = [] };
}

-- what is among one is that one
only : {A : Type 0} (P : A → Type 0) (x y : A) → P y → Among x (y ∷ []) → P x
only P x y p there = ⊎_elim (λ here. subst P (sym here) p) (λ none. absurd none) there

finished_not_refused : (reason : Reason) → Finished ≡ Refused reason → ⊥
finished_not_refused reason is = let e : Finished ≡ Refused reason = is in cc

-- a finished transaction alone has no refusal
never_refused : (t u : Transaction) → u.close ≡ Finished → Among t (u ∷ []) → (reason : Reason) → t.close ≡ Refused reason → ⊥
never_refused t u finished there reason closed = ⊎_elim
    (λ here. finished_not_refused reason (sym finished ∙ ap (λ (v : Transaction). v.close) (sym here) ∙ closed))
    (λ none. none)
    there

order_of : (t : Transaction) (history : List Transaction) (setup : ℕ) → t.conn ≡ 0 → setup ≤ length history
    → ((k : ℕ) (u : Transaction) → slice_get history k ≡ Some u → (u.conn ≡ 0) ↔ (k < setup)) → IsInOrder (t ∷ []) history
order_of t history setup conn within first = record {
  rising = λ u v u_there v_there same below. ⊎_elim
      (λ u_here. ⊎_elim
      (λ v_here.
      let at : u.ordinal ≡ t.ordinal = ap (λ (w : Transaction). w.ordinal) u_here in
      let too : v.ordinal ≡ t.ordinal = ap (λ (w : Transaction). w.ordinal) v_here in
      absurd (omega (arith, at, too, below)))
      (λ none. absurd none) v_there)
      (λ none. absurd none) u_there;
  setup = setup;
  setup_within = within;
  setup_first = first;
  after_setup = λ u there other. ⊎_elim (λ here. absurd (other (ap (λ (w : Transaction). w.conn) here ∙ conn))) (λ none. absurd none) there;
}

module _ (L : Language) (statement : Stmt) (count : ℕ) (answers : AnswersFirst L statement (Ok count)) where
  printed : (k : ℕ) (t : Transaction) → slice_get (one statement count (Commit 1) ∷ []) k ≡ Some t
      → (t.ending ≡ Commit (k + 1)) × Among t (one statement count (Commit 1) ∷ [])
  printed zero t at =
      let is : one statement count (Commit 1) ≡ t = same_Some (one statement count (Commit 1)) t at in
      subst (λ (u : Transaction). (u.ending ≡ Commit 1) × Among u (one statement count (Commit 1) ∷ [])) is (refl, inl refl)
  printed (suc k) t at = absurd (none-some t at)

  placed : (k : ℕ) → Commit 1 ≡ Commit k → (k ≢ 0) × (slice_get (one statement count (Commit 1) ∷ []) (k - 1) ≡ Some (one statement count (Commit 1)))
  placed k is =
      let number : 1 ≡ k = cc in
      subst (λ (n : ℕ). (n ≢ 0) × (slice_get (one statement count (Commit 1) ∷ []) (n - 1) ≡ Some (one statement count (Commit 1)))) number
      ((λ none. omega (arith, none)), refl)

  legal : writes L L.start (one_item statement (Ok count)) ≢ [] → IsLegal L (one statement count (Commit 1) ∷ [])
  legal some zero t at =
      subst (IsLegalAt L L.start) (same_Some (one statement count (Commit 1)) t at) (record { replies = (answers, tt); writes_some = some })
  legal some (suc k) t at = absurd (none-some t at)

  first : (k : ℕ) (t : Transaction) → slice_get (one statement count (Commit 1) ∷ []) k ≡ Some t → (t.conn ≡ 0) ↔ (k < 1)
  first zero t at = (λ is. omega arith, λ below. ap (λ (u : Transaction). u.conn) (sym (same_Some (one statement count (Commit 1)) t at)))
  first (suc k) t at = absurd (none-some t at)

  commits : writes L L.start (one_item statement (Ok count)) ≢ [] → IsRightRun L (one_script statement) (one_reply (Ok count) (Commit 1))
  commits some = record {
    connections = connection statement count (Commit 1) ∷ [];
    form = record { by_number = λ k below. absurd (omega (arith, below)); scripts_are = refl; transcripts_are = refl };
    cut = (record { same = refl; each = refl; cut = refl }, tt);
    strays = (tt, tt);
    history = one statement count (Commit 1) ∷ [];
    commits = record {
      printed = printed;
      placed = λ k t there is.
          only (λ (u : Transaction). u.ending ≡ Commit k → (k ≢ 0) × (slice_get (one statement count (Commit 1) ∷ []) (k - 1) ≡ Some u))
          t (one statement count (Commit 1)) (placed k) there is;
    };
    legal = legal some;
    others = λ t there. only (λ (u : Transaction). IsReadUnlessCommitted L (one statement count (Commit 1) ∷ []) u u.ending) t (one statement count (Commit 1)) tt there;
    conflicts = λ t there conn ordinal key closed. absurd (never_refused t (one statement count (Commit 1)) refl there (Busy conn ordinal key) closed);
    in_order = order_of (one statement count (Commit 1)) (one statement count (Commit 1) ∷ []) 1 refl (omega arith) first;
    used_up = λ t there full closed. absurd (never_refused t (one statement count (Commit 1)) refl there (Full full) closed);
  }

  read_first : writes L L.start (one_item statement (Ok count)) ≡ [] → IsReadAt L [] 0 (one statement count (Snapshot 0))
  read_first none = record {
    within = omega arith;
    replies = (answers, tt);
    snapshot = λ is. none;
    refused = λ reason closed. absurd (finished_not_refused reason closed);
  }

  reads : writes L L.start (one_item statement (Ok count)) ≡ [] → IsRightRun L (one_script statement) (one_reply (Ok count) (Snapshot 0))
  reads none = record {
    connections = connection statement count (Snapshot 0) ∷ [];
    form = record { by_number = λ k below. absurd (omega (arith, below)); scripts_are = refl; transcripts_are = refl };
    cut = (record { same = refl; each = refl; cut = refl }, tt);
    strays = (tt, tt);
    history = [];
    commits = record {
      printed = λ k t at. absurd (none-some t at);
      placed = λ k t there is.
          absurd (only (λ (u : Transaction). u.ending ≡ Commit k → ⊥) t (one statement count (Snapshot 0))
          (λ e. let wrong : Snapshot 0 ≡ Commit k = e in cc) there is);
    };
    legal = λ k t at. absurd (none-some t at);
    others = λ t there. only (λ (u : Transaction). IsReadUnlessCommitted L [] u u.ending) t (one statement count (Snapshot 0)) (read_first none) there;
    conflicts = λ t there conn ordinal key closed. absurd (never_refused t (one statement count (Snapshot 0)) refl there (Busy conn ordinal key) closed);
    in_order = order_of (one statement count (Snapshot 0)) [] 0 refl (omega arith) (λ k t at. absurd (none-some t at));
    used_up = λ t there full closed. absurd (never_refused t (one statement count (Snapshot 0)) refl there (Full full) closed);
  }

  -- no cut has an ending that undoes what was carried out
  undone : (s : ℕ) (cs : List Connection) → map (λ (c : Connection). c.script) cs ≡ one_script statement
      → map (λ (c : Connection). c.transcript) cs ≡ one_reply (Ok count) (RolledBack s) → AllByRecursion IsCutOf cs → ⊥
  undone s [] scripts transcripts all = let e : [] ≡ one_script statement = scripts in cc
  undone s (c ∷ cs) scripts transcripts all =
      let script : c.script ≡ record { conn = 0; commands = command.Run statement ∷ [] } = cc in
      let transcript : c.transcript ≡ record { conn = 0; replies = record { rows = []; last = Ok count; ending = Some (RolledBack s) } ∷ [] } = cc in
      let found : cut 0 1 None (command.Run statement ∷ []) (record { rows = []; last = Ok count; ending = Some (RolledBack s) } ∷ []) ≡ Some c.cut =
      subst (λ (t : Transcript). cut 0 1 None (command.Run statement ∷ []) t.replies ≡ Some c.cut) transcript
      (subst (λ (q : Script). cut q.conn 1 None q.commands c.transcript.replies ≡ Some c.cut) script all.0.cut) in
      none-some c.cut found

pub judged : (L : Language) → OneStatementIsJudged L
judged L statement count answers = record {
  commits = commits L statement count answers;
  reads = reads L statement count answers;
  not_undone = λ s right. undone L statement count answers s right.connections right.form.scripts_are right.form.transcripts_are right.cut;
}
