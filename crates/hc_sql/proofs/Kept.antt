-- Work that changes no key but those that it reads. Here of steps after each other, and of work that changes nothing.
use Rattle.std.proofs.Common.{◌≡◌, ℕ, List, [], ◌∷◌, ◌++◌, Option, Some, None, Bool, true, false, Result, Ok, Err, refl, sym, subst, ◌∙◌, if◌then◌else◌}
use Rattle.hc_range.specs.declared.range.Range.{Range}
use Rattle.hc_range.specs.Ranges.{InAny}
use Rattle.hc_base.specs.Lookup.{Among}
use Rattle.hc_transcript.specs.declared.refusal.Refusal.{Refusal}
use Rattle.hc_schema.specs.declared.entry.Entry.{Entry}
use Rattle.hc_schema.specs.Databases.{Database, entries_of}
use Rattle.hc_sql.specs.Work.{Work, Done, Task, give, go_on, next, in_turn, for_each, need, refuse_if}
use Rattle.hc_sql.specs.Tests.{unless}
use Rattle.hc_sql.proofs.Endings.{OnValue}
use Rattle.hc_sql.proofs.Decided.{in_front, in_back}
use Rattle.hc_sql.proofs.Shared.{IsAt}

-- two databases have the same entries but at these keys
pub record Kept (Keys : List ℕ → Type 0) (a b : Database) : Type 0 where
  pub over : (e : Entry) → (IsAt Keys e → ⊥) → Among e (entries_of a) → Among e (entries_of b)
  pub back : (e : Entry) → (IsAt Keys e → ⊥) → Among e (entries_of b) → Among e (entries_of a)

pub kept_same : (Keys : List ℕ → Type 0) (a b : Database) → b ≡ a → Kept Keys a b
kept_same Keys a b same = record { over = λ e off among. subst (λ d. Among e (entries_of d)) (sym same) among; back = λ e off among. subst (λ d. Among e (entries_of d)) same among }

kept_then : (Keys Others All : List ℕ → Type 0) (a b c : Database) → ((key : List ℕ) → Keys key → All key) → ((key : List ℕ) → Others key → All key) → Kept Keys a b → Kept Others b c → Kept All a c
kept_then Keys Others All a b c first second one other = record {
  over = λ e off among. other.over e (λ at. off (second _ at)) (one.over e (λ at. off (first _ at)) among);
  back = λ e off among. one.back e (λ at. off (first _ at)) (other.back e (λ at. off (second _ at)) among);
}

-- what is true of a value and of the database with it
abbrev pub After : {A : Type 0} → (A → Database → Type 0) → Done A → Type 0
After Post done = OnValue (λ a. Post a done.db) done.result

-- Work on a database that has Inv changes it at keys that it reads alone, and then Post is true.
abbrev pub IsConfined : {A : Type 0} → (Database → Type 0) → (A → Database → Type 0) → Work A → Type 0
IsConfined Inv Post work = (db : Database) → Inv db → Kept (InAny (work db).reads) db (work db).db × After Post (work db)

pub next_confined : {A B : Type 0} (Inv : Database → Type 0) (Mid : A → Database → Type 0) (Post : B → Database → Type 0) (work : Work A) (more : A → Work B)
    → IsConfined Inv Mid work → ((x : A) → IsConfined (Mid x) Post (more x)) → IsConfined Inv Post (next work more)
next_confined {A} {B} Inv Mid Post work more first rest db is =
    let one = first db is in by_result (work db).result (work db).db (work db).reads one.0 one.1
  where
    by_result : (r : Result A Refusal) (after : Database) (reads : List Range) → Kept (InAny reads) db after → OnValue (λ a. Mid a after) r
        → Kept (InAny (go_on r after reads more).reads) db (go_on r after reads more).db × After Post (go_on r after reads more)
    by_result (Ok x) after reads kept mid =
        let two = rest x after mid in (
          kept_then (InAny reads) (InAny (more x after).reads) (InAny (reads ++ (more x after).reads)) db after (more x after).db
              (λ key here. in_front key reads (more x after).reads here) (λ key here. in_back key reads (more x after).reads here) kept two.0,
          two.1,
        )
    by_result (Err refusal) after reads kept mid = (kept, tt)

pub for_each_confined : {X : Type 0} (Inv : Database → Type 0) (task : X → Task) (xs : List X) → ((x : X) → IsConfined Inv (λ done. Inv) (task x)) → IsConfined Inv (λ done. Inv) (for_each task xs)
for_each_confined Inv task [] each = λ db is. (kept_same (InAny []) db db refl, is)
for_each_confined Inv task (x ∷ xs) each =
    next_confined Inv (λ done. Inv) (λ done. Inv) (task x) (λ done. for_each task xs) (each x) (λ done. for_each_confined Inv task xs each)

pub weaker : {A : Type 0} (Inv : Database → Type 0) (Post Less : A → Database → Type 0) (work : Work A) → ((x : A) (db : Database) → Post x db → Less x db) → IsConfined Inv Post work → IsConfined Inv Less work
weaker {A} Inv Post Less work implies confined db is = let both = confined db is in (both.0, by_result (work db).result (work db).db both.1)
  where
    by_result : (r : Result A Refusal) (after : Database) → OnValue (λ a. Post a after) r → OnValue (λ a. Less a after) r
    by_result (Ok x) after holds = implies x after holds
    by_result (Err refusal) after holds = tt

-- ---- work that changes nothing

abbrev pub IsStill : {A : Type 0} → Work A → Type 0
IsStill work = (db : Database) → (work db).db ≡ db

pub still_confined : {A : Type 0} (Inv : Database → Type 0) (work : Work A) → IsStill work → IsConfined Inv (λ x. Inv) work
still_confined {A} Inv work still db is = (kept_same (InAny (work db).reads) db (work db).db (still db), by_result (work db).result (subst Inv (sym (still db)) is))
  where
    by_result : (r : Result A Refusal) → Inv (work db).db → OnValue (λ x. Inv (work db).db) r
    by_result (Ok x) holds = holds
    by_result (Err refusal) holds = tt

pub give_still : {A : Type 0} (x : A) → IsStill (give x)
give_still x db = refl

pub next_still : {A B : Type 0} (work : Work A) (more : A → Work B) → IsStill work → ((x : A) → IsStill (more x)) → IsStill (next work more)
next_still {A} work more first rest db = by_result (work db).result (work db).db (work db).reads (first db)
  where
    by_result : (r : Result A Refusal) (after : Database) (reads : List Range) → after ≡ db → (go_on r after reads more).db ≡ db
    by_result (Ok x) after reads same = rest x after ∙ same
    by_result (Err refusal) after reads same = same

pub in_turn_still : {X A : Type 0} (work : X → Work A) (xs : List X) → ((x : X) → IsStill (work x)) → IsStill (in_turn work xs)
in_turn_still work [] each = λ db. refl
in_turn_still work (x ∷ xs) each =
    next_still (work x) (λ a. next (in_turn work xs) (λ rest. give (a ∷ rest))) (each x)
    (λ a. next_still (in_turn work xs) (λ rest. give (a ∷ rest)) (in_turn_still work xs each) (λ rest db. refl))

pub for_each_still : {X : Type 0} (task : X → Task) (xs : List X) → ((x : X) → IsStill (task x)) → IsStill (for_each task xs)
for_each_still task [] each = λ db. refl
for_each_still task (x ∷ xs) each = next_still (task x) (λ done. for_each task xs) (each x) (λ done. for_each_still task xs each)

pub need_still : {A : Type 0} (refusal : Refusal) (found : Option A) → IsStill (need refusal found)
need_still refusal None db = refl
need_still refusal (Some x) db = refl

pub unless_still : (found : Option Refusal) → IsStill (unless found)
unless_still None db = refl
unless_still (Some refusal) db = refl

pub if_still : {A : Type 0} (c : Bool) (one other : Work A) → IsStill one → IsStill other → IsStill (if c then one else other)
if_still true one other a b = a
if_still false one other a b = b

pub refuse_if_still : (fails : Bool) (refusal : Refusal) → IsStill (refuse_if fails refusal)
refuse_if_still true refusal db = refl
refuse_if_still false refusal db = refl
