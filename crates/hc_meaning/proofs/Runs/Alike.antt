-- A transaction runs alike on two databases that agree on what it reads.
use Rattle.std.proofs.Common.{◌≡◌, ◌↔◌, ◌∙◌, ⊎_elim, refl, sym, ap, ℕ, Bool, true, false, cond, List, [], ◌∷◌, ◌++◌}
use Rattle.std.specs.Prelude.{fold}
use Rattle.std.specs.List.{AllZip}
use Rattle.std.specs.Str.{str_eq_ignore_ascii_case}
use Rattle.hc_base.specs.Lookup.{Among}
use Rattle.hc_core.specs.declared.cells.Write.{Write}
use Rattle.hc_range.proofs.Normal.{InAny-cases, InAny-left, InAny-right}
use Rattle.hc_range.specs.Ranges.{InAny}
use Rattle.hc_range.specs.declared.range.Range.{Range}
use Rattle.hc_ast.specs.declared.statement.Stmt.{Stmt}
use Rattle.hc_transcript.specs.declared.refusal.Refusal.TheVariants.{NoSavepoint, Within as InTransaction}
use Rattle.hc_meaning.specs.declared.answer.Answer.{Answer}
use Rattle.hc_meaning.specs.declared.command.Command.{Command}
use Rattle.hc_meaning.specs.declared.command.Command.TheVariants as command
use Rattle.hc_meaning.specs.Runs.Language.{AgreeOn, IsLanguage, Language, record_at}
use Rattle.hc_meaning.specs.Runs.Laws.{AgreementCarries, RunsAlike}
use Rattle.hc_meaning.specs.Runs.Running.{Mark, Running, after_command, answer_to, begun_on, db_of_newest, done, is_marked, is_named, marks_outside, marks_upto, reads_of, refused}
use Rattle.hc_meaning.specs.Runs.Walk.{Item, Answered, CommitRefused, OutOfMemory}
use Rattle.hc_meaning.specs.Runs.Writes.{AreGivenFrom, IsGiven, after_item, item_reads, left_by, reads, reads_from, writes}
use Rattle.hc_meaning.proofs.Runs.Cells.{stable}
use Rattle.hc_meaning.proofs.Runs.Changes.{change_from, change_into}
use Rattle.hc_meaning.proofs.Runs.Databases.{OnDbs, item_on_dbs, left_is}
use Rattle.hc_meaning.proofs.Runs.Holding.{begun_holds}
use Rattle.hc_meaning.proofs.Runs.Reads.{changed_read, known_in}

either_of : {A : Type 0} (P : A → A → Type 0) (b c : Bool) (one other one' other' : A) → b ≡ c → P one one' → P other other' → P (cond b one other) (cond c one' other')
either_of P true true one other one' other' is first second = first
either_of P false false one other one' other' is first second = second
either_of P true false one other one' other' is first second = cc
either_of P false true one other one' other' is first second = cc

module _ (L : Language) (laws : IsLanguage L) (ranges : List Range) where
  abbrev Agree : L.Db → L.Db → Type 0
  Agree a b = AgreeOn L ranges a b

  abbrev SameMark : Mark L → Mark L → Type 0
  SameMark m n = (m.name ≡ n.name) × Agree m.db n.db

  abbrev SameMarks : List (Mark L) → List (Mark L) → Type 0
  SameMarks ms ns = AllZip SameMark ms ns

  pub record Alike (one other : Running L) : Type 0 where
    pub fresh : one.fresh ≡ other.fresh
    pub db : Agree one.db other.db
    pub marks : SameMarks one.marks other.marks

  same_name : (name : List ℕ) (m n : Mark L) → SameMark m n → is_named name m ≡ is_named name n
  same_name name m n same = ap (λ (x : List ℕ). str_eq_ignore_ascii_case name x) same.0

  same_marked : (name : List ℕ) (ms ns : List (Mark L)) → SameMarks ms ns → is_marked name ms ≡ is_marked name ns
  same_marked name [] [] same = refl
  same_marked name [] (n ∷ ns) same = absurd same
  same_marked name (m ∷ ms) [] same = absurd same
  same_marked name (m ∷ ms) (n ∷ ns) same = rw (same_name name m n same.0, same_marked name ms ns same.1) refl

  same_outside : (name : List ℕ) (ms ns : List (Mark L)) → SameMarks ms ns → SameMarks (marks_outside name ms) (marks_outside name ns)
  same_outside name [] [] same = tt
  same_outside name [] (n ∷ ns) same = absurd same
  same_outside name (m ∷ ms) [] same = absurd same
  same_outside name (m ∷ ms) (n ∷ ns) same = either_of SameMarks (is_named name m) (is_named name n) ms (marks_outside name ms) ns (marks_outside name ns)
      (same_name name m n same.0) same.1 (same_outside name ms ns same.1)

  same_upto : (name : List ℕ) (ms ns : List (Mark L)) → SameMarks ms ns → SameMarks (marks_upto name ms) (marks_upto name ns)
  same_upto name [] [] same = tt
  same_upto name [] (n ∷ ns) same = absurd same
  same_upto name (m ∷ ms) [] same = absurd same
  same_upto name (m ∷ ms) (n ∷ ns) same = either_of SameMarks (is_named name m) (is_named name n) (m ∷ ms) (marks_upto name ms) (n ∷ ns) (marks_upto name ns)
      (same_name name m n same.0) same (same_upto name ms ns same.1)

  same_newest : (a b : L.Db) (ms ns : List (Mark L)) → Agree a b → SameMarks ms ns → Agree (db_of_newest a ms) (db_of_newest b ns)
  same_newest a b [] [] agree same = agree
  same_newest a b [] (n ∷ ns) agree same = absurd same
  same_newest a b (m ∷ ms) [] agree same = absurd same
  same_newest a b (m ∷ ms) (n ∷ ns) agree same = same.0.1

  abbrev Within : List Range → Type 0
  Within some = (key : List ℕ) → InAny some key → InAny ranges key

  -- a statement that reads within the ranges leaves what agrees
  statement_agrees : (a b : L.Db) (statement : Stmt) → L.IsDb a → L.IsDb b → Within (L.reads a statement) → Agree a b
      → Agree (L.run a statement).db (L.run b statement).db
  statement_agrees a b statement is_a is_b within agree key there =
      let agree_here : AgreeOn L (L.reads a statement) a b = λ k k_there. agree k (within k k_there) in
      ⊎_elim
      (λ read. laws.same_changes a b statement is_a is_b agree_here key read)
      (λ unread.
      let kept_a = stable (record_at (L.cells (L.run a statement).db) key) (record_at (L.cells a) key)
      (λ other. unread (laws.changes_read a statement key is_a other)) in
      let kept_b = stable (record_at (L.cells (L.run b statement).db) key) (record_at (L.cells b) key)
      (λ other. unread ((laws.same_reads a b statement is_a is_b agree_here key).1 (laws.changes_read b statement key is_b other))) in
      kept_a ∙ agree key there ∙ sym kept_b)
      (known_in (L.reads a statement) key)

  -- what a command answers and reads on two that are alike, and what it leaves
  pub record Together (first other_first : L.Db) (one other : Running L) (c : Command) : Type 0 where
    pub answer : answer_to L one c ≡ answer_to L other c
    pub reads : (key : List ℕ) → InAny (reads_of L one c) key ↔ InAny (reads_of L other c) key
    pub after : Alike (after_command L first one c) (after_command L other_first other c)

  nothing_read : (key : List ℕ) → InAny [] key ↔ InAny [] key
  nothing_read key = (λ h. h, λ h. h)

  command_alike : (a b : L.Db) (one other : Running L) (c : Command) → Agree a b → OnDbs L laws one → OnDbs L laws other
      → Within (reads_of L one c) → Alike one other → Together a b one other c
  command_alike a b one other (command.Run statement) agree is_one is_other within alike =
      let here : AgreeOn L (L.reads one.db statement) one.db other.db = λ k there. alike.db k (within k there) in
      record {
        answer = laws.same_answer one.db other.db statement is_one.db is_other.db here;
        reads = laws.same_reads one.db other.db statement is_one.db is_other.db here;
        after = record { fresh = refl; db = statement_agrees one.db other.db statement is_one.db is_other.db within alike.db; marks = alike.marks };
      }
  command_alike a b one other command.Begin agree is_one is_other within alike = record {
    answer = ap (λ (fresh : Bool). cond {A = Answer} fresh done (refused InTransaction)) alike.fresh;
    reads = nothing_read;
    after = record { fresh = refl; db = alike.db; marks = alike.marks };
  }
  command_alike a b one other command.Commit agree is_one is_other within alike =
      record { answer = refl; reads = nothing_read; after = record { fresh = refl; db = alike.db; marks = alike.marks } }
  command_alike a b one other command.Rollback agree is_one is_other within alike =
      record { answer = refl; reads = nothing_read; after = record { fresh = refl; db = agree; marks = tt } }
  command_alike a b one other (command.Savepoint name) agree is_one is_other within alike =
      record { answer = refl; reads = nothing_read; after = record { fresh = refl; db = alike.db; marks = ((refl, alike.db), alike.marks) } }
  command_alike a b one other (command.Release name) agree is_one is_other within alike =
      let marked = same_marked name one.marks other.marks alike.marks in
      record {
        answer = ap (λ (is : Bool). cond {A = Answer} is done (refused (NoSavepoint name))) marked;
        reads = nothing_read;
        after = record {
          fresh = refl;
          db = alike.db;
          marks = either_of SameMarks (is_marked name one.marks) (is_marked name other.marks) (marks_outside name one.marks) one.marks
              (marks_outside name other.marks) other.marks marked (same_outside name one.marks other.marks alike.marks) alike.marks;
        };
      }
  command_alike a b one other (command.RollbackTo name) agree is_one is_other within alike =
      let marked = same_marked name one.marks other.marks alike.marks in
      let upto = same_upto name one.marks other.marks alike.marks in
      record {
        answer = ap (λ (is : Bool). cond {A = Answer} is done (refused (NoSavepoint name))) marked;
        reads = nothing_read;
        after = record {
          fresh = refl;
          db = same_newest one.db other.db (marks_upto name one.marks) (marks_upto name other.marks) alike.db upto;
          marks = either_of SameMarks (is_marked name one.marks) (is_marked name other.marks) (marks_upto name one.marks) one.marks
              (marks_upto name other.marks) other.marks marked upto alike.marks;
        };
      }
  command_alike a b one other (command.Fault refusal) agree is_one is_other within alike =
      record { answer = refl; reads = nothing_read; after = record { fresh = refl; db = alike.db; marks = alike.marks } }

  pub record ItemTogether (first other_first : L.Db) (one other : Running L) (item : Item) : Type 0 where
    pub given : IsGiven L one item ↔ IsGiven L other item
    pub reads : (key : List ℕ) → InAny (item_reads L one item) key ↔ InAny (item_reads L other item) key
    pub after : Alike (after_item L first one item) (after_item L other_first other item)

  item_alike : (a b : L.Db) (one other : Running L) (item : Item) → Agree a b → OnDbs L laws one → OnDbs L laws other
      → Within (item_reads L one item) → Alike one other → ItemTogether a b one other item
  item_alike a b one other (Answered c answer) agree is_one is_other within alike =
      let both = command_alike a b one other c agree is_one is_other within alike in
      record { given = (λ e. sym both.answer ∙ e, λ e. both.answer ∙ e); reads = both.reads; after = both.after }
  item_alike a b one other (CommitRefused c) agree is_one is_other within alike =
      let both = command_alike a b one other c agree is_one is_other within alike in
      record { given = (λ e. tt, λ e. tt); reads = both.reads; after = both.after }
  item_alike a b one other (OutOfMemory c) agree is_one is_other within alike =
      record { given = (λ e. tt, λ e. tt); reads = nothing_read; after = alike }

  -- the same of items that run one after another
  pub record ItemsTogether (first other_first : L.Db) (one other : Running L) (items : List Item) : Type 0 where
    pub given : AreGivenFrom L first one items ↔ AreGivenFrom L other_first other items
    pub reads : (key : List ℕ) → InAny (reads_from L first one items) key ↔ InAny (reads_from L other_first other items) key
    pub after : Alike (fold (after_item L first) one items) (fold (after_item L other_first) other items)

  joined : (some rest others left : List Range) → ((key : List ℕ) → InAny some key ↔ InAny others key) → ((key : List ℕ) → InAny rest key ↔ InAny left key)
      → (key : List ℕ) → InAny (some ++ rest) key ↔ InAny (others ++ left) key
  joined some rest others left front back key = (
    λ there. ⊎_elim (λ h. InAny-left others left key ((front key).0 h)) (λ h. InAny-right others left key ((back key).0 h)) (InAny-cases some rest key there),
    λ there. ⊎_elim (λ h. InAny-left some rest key ((front key).1 h)) (λ h. InAny-right some rest key ((back key).1 h)) (InAny-cases others left key there),
  )

  pub items_alike : (a b : L.Db) (one other : Running L) (items : List Item) → Agree a b → L.IsDb a → L.IsDb b → OnDbs L laws one → OnDbs L laws other
      → Within (reads_from L a one items) → Alike one other → ItemsTogether a b one other items
  items_alike a b one other [] agree is_a is_b is_one is_other within alike =
      record { given = (λ e. tt, λ e. tt); reads = nothing_read; after = alike }
  items_alike a b one other (item ∷ items) agree is_a is_b is_one is_other within alike =
      let here = item_alike a b one other item agree is_one is_other
      (λ key there. within key (InAny-left (item_reads L one item) (reads_from L a (after_item L a one item) items) key there)) alike in
      let rest = items_alike a b (after_item L a one item) (after_item L b other item) items agree is_a is_b
      (item_on_dbs L laws a one item is_a is_one) (item_on_dbs L laws b other item is_b is_other)
      (λ key there. within key (InAny-right (item_reads L one item) (reads_from L a (after_item L a one item) items) key there)) here.after in
      record {
        given = (λ e. (here.given.0 e.0, rest.given.0 e.1), λ e. (here.given.1 e.0, rest.given.1 e.1));
        reads = joined (item_reads L one item) (reads_from L a (after_item L a one item) items)
            (item_reads L other item) (reads_from L b (after_item L b other item) items) here.reads rest.reads;
        after = rest.after;
      }

-- what a transaction writes on one database it writes on the other
module _ (L : Language) (laws : IsLanguage L) (items : List Item) where
  together : (a b : L.Db) → L.IsDb a → L.IsDb b → AgreeOn L (reads L a items) a b
      → ItemsTogether L laws (reads L a items) a b (begun_on L a) (begun_on L b) items
  together a b is_a is_b agree = items_alike L laws (reads L a items) a b (begun_on L a) (begun_on L b) items agree is_a is_b
      (begun_holds L L.IsDb a is_a) (begun_holds L L.IsDb b is_b) (λ key there. there) (record { fresh = refl; db = agree; marks = tt })

  carried : (a b : L.Db) → L.IsDb a → L.IsDb b → AgreeOn L (reads L a items) a b → (w : Write) → Among w (writes L a items) → Among w (writes L b items)
  carried a b is_a is_b agree w there =
      let both = together a b is_a is_b agree in
      let change = change_from (L.cells a) (L.cells (left_by L a items)) (laws.ascending a is_a) (laws.ascending (left_by L a items) (left_is L laws a items is_a)) w there in
      let read = changed_read L laws a items w.key is_a (λ same. change.1 (sym same ∙ change.0)) in
      change_into (L.cells b) (L.cells (left_by L b items)) (laws.ascending b is_b) (laws.ascending (left_by L b items) (left_is L laws b items is_b)) w.key w.rec
      (sym (both.after.db w.key read) ∙ change.0, λ was. change.1 (agree w.key read ∙ was))

  pub carries : (a b : L.Db) → L.IsDb a → L.IsDb b → AgreeOn L (reads L a items) a b → RunsAlike L items a b
  carries a b is_a is_b agree =
      let both = together a b is_a is_b agree in
      let back : AgreeOn L (reads L b items) b a = λ key there. sym (agree key ((both.reads key).1 there)) in
      record {
        answers = both.given;
        reads = both.reads;
        writes = λ w. (carried a b is_a is_b agree w, carried b a is_b is_a back w);
      }

pub agreement_carries : (L : Language) → AgreementCarries L
agreement_carries L laws items a b is_a is_b agree = carries L laws items a b is_a is_b agree
