-- Work that changes two databases which agree on the keys that it reads on the first: it comes to the same, reads the same, and
-- leaves what has been asked for. Here of steps after each other, and of the tables that a statement names.
use Rattle.std.proofs.Common.{◌≡◌, ℕ, List, ◌++◌, map, Bool, true, false, Option, Some, None, Result, Ok, Err, refl, sym, ap, subst}
use Rattle.std.specs.List.{AllByRecursion}
use Rattle.hc_range.specs.declared.range.Range.{Range}
use Rattle.hc_range.specs.Ranges.{InAny}
use Rattle.hc_ast.specs.declared.statement.Stmt.{Stmt}
use Rattle.hc_record.specs.Laws.{NoEncodingBeginsAnother}
use Rattle.hc_key.specs.Laws.{KeysDiffer, RangesHoldTheirKeys}
use Rattle.hc_key.proofs.Prefix.{TiesAreSame}
use Rattle.hc_base.specs.Lookup.{Among}
use Rattle.hc_core.specs.declared.cells.Cell.{Cell}
use Rattle.hc_transcript.specs.declared.refusal.Refusal.{Refusal}
use Rattle.hc_schema.specs.declared.entry.Entry.{Entry}
use Rattle.hc_schema.specs.declared.table.Table.{Table}
use Rattle.hc_schema.specs.Cells.{cell_of}
use Rattle.hc_schema.specs.Databases.{Database, IsDatabase, Agree, HasCell, entries_of}
use Rattle.hc_schema.specs.Binding.Faults.{Judged}
use Rattle.hc_schema.specs.Binding.Statements as bound
use Rattle.hc_schema.proofs.Orders.{among_map, from_map}
use Rattle.hc_schema.proofs.SamePlaces.{all_weaker}
use Rattle.hc_schema.proofs.SameDatabases.{into_order, from_order}
use Rattle.hc_sql.specs.Work.{Work, Done, go_on, next, refuse_if}
use Rattle.hc_sql.specs.Tests.{unless}
use Rattle.hc_sql.specs.Results.{Reply}
use Rattle.hc_sql.specs.ChangeLaws.{IsDecidedByItsReads}
use Rattle.hc_sql.specs.Statements.{named_tables, carry_out, if_bound, over_tables, work_of, ran, reads}
use Rattle.hc_sql.proofs.Endings.{OnValue}
use Rattle.hc_sql.proofs.Decided.{IsDecided, in_front, in_back}
use Rattle.hc_sql.proofs.DecidedLooks.{Has}
use Rattle.hc_sql.proofs.DecidedQueries.{Shares, named_decided, same_reply}
use Rattle.hc_sql.proofs.BoundTables.{OnMeaning}
use Rattle.hc_sql.proofs.Shared.{IsAt}

-- ---- two databases that have the same entries at some keys agree on them

cell_over : (Keys : List ℕ → Type 0) (a b : Database) → ((e : Entry) → IsAt Keys e → Among e (entries_of a) → Among e (entries_of b)) → (cell : Cell) → Keys cell.key → HasCell a cell → HasCell b cell
cell_over Keys a b over cell at has =
    let from = from_map cell_of cell (entries_of a) (from_order cell (map cell_of (entries_of a)) has) in
    let there : Among from.x (entries_of b) = over from.x (subst (λ (c : Cell). Keys c.key) from.is at) from.among in
    into_order cell (map cell_of (entries_of b)) (subst (λ (c : Cell). Among c (map cell_of (entries_of b))) (sym from.is) (among_map cell_of from.x (entries_of b) there))

pub agree_from : (Keys : List ℕ → Type 0) (a b : Database) → ((e : Entry) → IsAt Keys e → Among e (entries_of a) → Among e (entries_of b)) → ((e : Entry) → IsAt Keys e → Among e (entries_of b) → Among e (entries_of a)) → Agree Keys a b
agree_from Keys a b over back cell at = (cell_over Keys a b over cell at, cell_over Keys b a back cell at)

-- ---- steps after each other

module _ (Keys : List ℕ → Type 0) where
  -- all that is read is among the keys
  abbrev pub Inside : List Range → Type 0
  Inside ranges = (key : List ℕ) → InAny ranges key → Keys key

  -- both come to the same and read the same; what is left of both databases, with the value, has Post
  pub record Same {A : Type 0} (Post : A → Database → Database → Type 0) (x y : Done A) : Type 0 where
    pub result : x.result ≡ y.result
    pub reads : x.reads ≡ y.reads
    pub left : OnValue (λ v. Post v x.db y.db) x.result

  abbrev pub Goes : {A : Type 0} → (Database → Database → Type 0) → (A → Database → Database → Type 0) → Work A → Type 0
  Goes Inv Post work = (a b : Database) → Inv a b → Inside (work a).reads → Same Post (work a) (work b)

  module _ {A B : Type 0} (Mid : A → Database → Database → Type 0) (Post : B → Database → Database → Type 0) (more : A → Work B) (rest : (x : A) → Goes (Mid x) Post (more x)) where
    front : (r : Result A Refusal) (db : Database) (reads : List Range) → Inside (go_on r db reads more).reads → Inside reads
    front (Ok x) db reads inside key here = inside key (in_front key reads (more x db).reads here)
    front (Err refusal) db reads inside key here = inside key here

    both : (r : Result A Refusal) (da db : Database) (reads : List Range) → OnValue (λ x. Mid x da db) r → Inside (go_on r da reads more).reads → Same Post (go_on r da reads more) (go_on r db reads more)
    both (Ok x) da db reads mid inside =
        let later = rest x da db mid (λ key here. inside key (in_back key reads (more x da).reads here)) in
        record { result = later.result; reads = ap (λ l. reads ++ l) later.reads; left = later.left }
    both (Err refusal) da db reads mid inside = record { result = refl; reads = refl; left = tt }

    pub next_goes : (Inv : Database → Database → Type 0) (work : Work A) → Goes Inv Mid work → Goes Inv Post (next work more)
    next_goes Inv work first a b inv inside =
        let one = first a b inv (front (work a).result (work a).db (work a).reads inside) in
        let there = both (work a).result (work a).db (work b).db (work a).reads one.left inside in
        let moved = subst (λ r. Same Post (go_on (work a).result (work a).db (work a).reads more) (go_on r (work b).db (work a).reads more)) one.result there in
        subst (λ l. Same Post (go_on (work a).result (work a).db (work a).reads more) (go_on (work b).result (work b).db l more)) one.reads moved

  pub unless_goes : (Inv : Database → Database → Type 0) (found : Option Refusal) → Goes Inv (λ done. Inv) (unless found)
  unless_goes Inv None = λ a b inv inside. record { result = refl; reads = refl; left = inv }
  unless_goes Inv (Some refusal) = λ a b inv inside. record { result = refl; reads = refl; left = tt }

  pub refuse_if_goes : (Inv : Database → Database → Type 0) (fails : Bool) (refusal : Refusal) → Goes Inv (λ done. Inv) (refuse_if fails refusal)
  refuse_if_goes Inv true refusal = λ a b inv inside. record { result = refl; reads = refl; left = tt }
  refuse_if_goes Inv false refusal = λ a b inv inside. record { result = refl; reads = refl; left = inv }

  -- ---- two databases that agree on the keys

  pub record Twins (a b : Database) : Type 0 where
    pub is_a : IsDatabase a
    pub is_b : IsDatabase b
    pub agree : Agree Keys a b

  -- both have the table
  abbrev pub InBoth : Database → Database → Table → Type 0
  InBoth a b t = Has a t × Has b t

  abbrev pub WithTables : List Table → Database → Database → Type 0
  WithTables tables a b = Twins a b × AllByRecursion (InBoth a b) tables

  -- what the work leaves agrees on the keys
  abbrev pub Agrees : {A : Type 0} → A → Database → Database → Type 0
  Agrees x a b = Agree Keys a b

  module _ (keys : KeysDiffer) (encodings : NoEncodingBeginsAnother) (ties : TiesAreSame) (ranges : RangesHoldTheirKeys) where
    -- tables that are found
    pub tables_goes : (work : Work (List Table)) → ((a b : Database) (twins : Twins a b) → IsDecided Keys a b (AllByRecursion (Shares keys encodings ties ranges Keys a b twins.is_a twins.is_b twins.agree)) work) → Goes Twins WithTables work
    tables_goes work decided a b twins inside =
        let same = decided a b twins inside in
        record { result = same.result; reads = same.reads; left = by_result (work a).result (work a).db (work b).db same.left same.right same.holds }
      where
        by_result : (r : Result (List Table) Refusal) (da db : Database) → da ≡ a → db ≡ b → OnValue (AllByRecursion (Shares keys encodings ties ranges Keys a b twins.is_a twins.is_b twins.agree)) r → OnValue (λ tables. WithTables tables da db) r
        by_result (Ok tables) da db left right holds =
            subst (λ d. WithTables tables d db) (sym left) (subst (λ d. WithTables tables a d) (sym right)
            (twins, all_weaker (Shares keys encodings ties ranges Keys a b twins.is_a twins.is_b twins.agree) (InBoth a b) tables (λ t both. (both.on_a, both.on_b)) holds))
        by_result (Err refusal) da db left right holds = tt

    named_goes : (names : List (List ℕ)) → Goes Twins WithTables (named_tables names)
    named_goes names = tables_goes (named_tables names) (λ a b twins. named_decided keys encodings ties ranges Keys a b twins.is_a twins.is_b twins.agree names)

    -- a bound statement comes to the same
    abbrev pub Carried : Database → Database → bound.Binding → Type 0
    Carried a b what = Inside (carry_out what a).reads → Same Agrees (carry_out what a) (carry_out what b)

    pub over_goes : (names : List (List ℕ)) (s : Stmt) → ((tables : List Table) (a b : Database) → Twins a b → AllByRecursion (InBoth a b) tables → OnMeaning (Carried a b) (bound.binding tables s)) → Goes Twins Agrees (over_tables names s)
    over_goes names s carried =
        next_goes WithTables Agrees (λ tables. if_bound (bound.binding tables s)) (λ tables a b with. by_meaning a b (bound.binding tables s) (carried tables a b with.0 with.1)) Twins (named_tables names) (named_goes names)
      where
        by_meaning : (a b : Database) (j : Judged bound.Binding) → OnMeaning (Carried a b) j → Inside (if_bound j a).reads → Same Agrees (if_bound j a) (if_bound j b)
        by_meaning a b (Ok what) carried inside = carried inside
        by_meaning a b (Err fault) carried inside = record { result = refl; reads = refl; left = tt }

-- ---- the end of a statement

-- what is left agrees, or the databases are as they were
pub ran_agree : (Keys : List ℕ → Type 0) (a b da db : Database) (r s : Result Reply Refusal) → r ≡ s → Agree Keys a b → OnValue (λ reply. Agree Keys da db) r → Agree Keys (ran a r da).db (ran b s db).db
ran_agree Keys a b da db r s same agree left = subst (λ t. Agree Keys (ran a r da).db (ran b t db).db) same (by_result r left)
  where
    by_result : (t : Result Reply Refusal) → OnValue (λ reply. Agree Keys da db) t → Agree Keys (ran a t da).db (ran b t db).db
    by_result (Ok reply) there = there
    by_result (Err refusal) there = agree

-- a statement is decided by what it reads where its work goes so
pub decided_by : (s : Stmt) → ((Keys : List ℕ → Type 0) → Goes Keys (Twins Keys) (Agrees Keys) (work_of s)) → IsDecidedByItsReads s
decided_by s goes a b is_a is_b agree =
    let work = work_of s in
    let same = goes (InAny (reads a s)) a b (record { is_a = is_a; is_b = is_b; agree = agree }) (λ key here. here) in (
      same_reply a b (work a).db (work b).db (work a).result (work b).result same.result,
      same.reads,
      ran_agree (InAny (reads a s)) a b (work a).db (work b).db (work a).result (work b).result same.result agree same.left,
    )
