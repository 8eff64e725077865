-- A statement is read part by part: each part of one at the front is the part that was read.
use Rattle.std.proofs.Common.{◌≡◌, ◌≢◌, ◌∙◌, inl, inr, sym, subst, ap, ℕ, ℤ, List, ◌++◌, codes, w64}
use Rattle.std.proofs.lemmas.List.{append_cancel_left}
use Rattle.std.specs.Int.RustNames.{FitsSigned}
use Rattle.hc_meaning.specs.declared.statement.Statement.{Statement}
use Rattle.hc_meaning.specs.declared.statement.Statement.TheVariants.{Insert, Select}
use Rattle.hc_meaning.specs.Front.{BeginsWith, BeginsWithNumber}
use Rattle.hc_meaning.specs.Input.{IsStatement}
use Rattle.hc_meaning.proofs.Language.Numbers.{number_fits, number_once}
use Rattle.hc_meaning.proofs.Language.Statements.{InsertTail, SelectTail, insert_from_tail, insert_tail, select_from_tail, select_tail, statement_head}

-- a number at the front is an i64
pub number_at_front_fits : (bytes : List ℕ) (n : ℤ) (rest : List ℕ) → BeginsWithNumber bytes n rest → FitsSigned w64 n
number_at_front_fits bytes n rest ((text, is_number, whole), outside) = number_fits text n is_number

-- id' and v' are the numbers as they are stored
pub insert_read : (bytes after_id after after_v rest : List ℕ) (id v id' v' : ℤ) → id' ≡ id → v' ≡ v → BeginsWithNumber bytes id after_id → after_id ≡ codes "," ++ after → BeginsWithNumber after v after_v → after_v ≡ codes ");" ++ rest
    → BeginsWith IsStatement (codes "INSERT INTO t VALUES(" ++ bytes) (Insert id' v') rest
insert_read bytes after_id after after_v rest id v id' v' same_id same_v id_read comma v_read close =
    insert_from_tail bytes (Insert id' v') rest (record {
      id = id;
      v = v;
      after = after;
      is = ap (λ (n : ℤ). Insert n v') same_id ∙ ap (λ (n : ℤ). Insert id n) same_v;
      id_read = subst (λ (l : List ℕ). BeginsWithNumber bytes id l) comma id_read;
      v_read = subst (λ (l : List ℕ). BeginsWithNumber after v l) close v_read;
    })

-- the same of a query: its parts, read one after another, are the statement
pub select_read : (bytes after_id rest : List ℕ) (id id' : ℤ) → id' ≡ id → BeginsWithNumber bytes id after_id → after_id ≡ codes ";" ++ rest → BeginsWith IsStatement (codes "SELECT v FROM t WHERE id=" ++ bytes) (Select id') rest
select_read bytes after_id rest id id' same_id id_read close =
    select_from_tail bytes (Select id') rest (record {
      id = id;
      is = ap (λ (n : ℤ). Select n) same_id;
      id_read = subst (λ (l : List ℕ). BeginsWithNumber bytes id l) close id_read;
    })

-- an INSERT goes on with a number after its head
pub insert_has_id : (bytes : List ℕ) (statement : Statement) (rest : List ℕ) → ((n : ℤ) (following : List ℕ) → ¬ BeginsWithNumber bytes n following) → BeginsWith IsStatement (codes "INSERT INTO t VALUES(" ++ bytes) statement rest → ⊥
insert_has_id bytes statement rest none begins =
    let tail : InsertTail bytes statement rest = insert_tail bytes statement rest begins in
    none tail.id _ tail.id_read

-- the id that was read is followed by a comma
insert_comma : (bytes after_id : List ℕ) (id : ℤ) (statement : Statement) (rest : List ℕ) → BeginsWithNumber bytes id after_id → (tail : InsertTail bytes statement rest) → after_id ≡ codes "," ++ tail.after
insert_comma bytes after_id id statement rest id_read tail = (number_once bytes id tail.id after_id (codes "," ++ tail.after) id_read tail.id_read).1

-- an INSERT has a comma after its id
pub insert_has_comma : (bytes after_id : List ℕ) (id : ℤ) (statement : Statement) (rest : List ℕ) → BeginsWithNumber bytes id after_id → ((after : List ℕ) → after_id ≢ codes "," ++ after) → BeginsWith IsStatement (codes "INSERT INTO t VALUES(" ++ bytes) statement rest → ⊥
insert_has_comma bytes after_id id statement rest id_read none begins =
    let tail : InsertTail bytes statement rest = insert_tail bytes statement rest begins in
    none tail.after (insert_comma bytes after_id id statement rest id_read tail)

-- that comma is followed by the value and the end
insert_after : (bytes after_id after : List ℕ) (id : ℤ) (statement : Statement) (rest : List ℕ) → BeginsWithNumber bytes id after_id → after_id ≡ codes "," ++ after → (tail : InsertTail bytes statement rest) → BeginsWithNumber after tail.v (codes ");" ++ rest)
insert_after bytes after_id after id statement rest id_read comma tail =
    let same : after ≡ tail.after = append_cancel_left (codes ",") after tail.after (sym comma ∙ insert_comma bytes after_id id statement rest id_read tail) in
    subst (λ (l : List ℕ). BeginsWithNumber l tail.v (codes ");" ++ rest)) (sym same) tail.v_read

-- an INSERT has a number after its comma
pub insert_has_value : (bytes after_id after : List ℕ) (id : ℤ) (statement : Statement) (rest : List ℕ) → BeginsWithNumber bytes id after_id → after_id ≡ codes "," ++ after → ((n : ℤ) (following : List ℕ) → ¬ BeginsWithNumber after n following) → BeginsWith IsStatement (codes "INSERT INTO t VALUES(" ++ bytes) statement rest → ⊥
insert_has_value bytes after_id after id statement rest id_read comma none begins =
    let tail : InsertTail bytes statement rest = insert_tail bytes statement rest begins in
    none tail.v _ (insert_after bytes after_id after id statement rest id_read comma tail)

-- an INSERT ends with a closing bracket and a semicolon after its value
pub insert_has_close : (bytes after_id after after_v : List ℕ) (id v : ℤ) (statement : Statement) (rest : List ℕ) → BeginsWithNumber bytes id after_id → after_id ≡ codes "," ++ after → BeginsWithNumber after v after_v → ((following : List ℕ) → after_v ≢ codes ");" ++ following) → BeginsWith IsStatement (codes "INSERT INTO t VALUES(" ++ bytes) statement rest → ⊥
insert_has_close bytes after_id after after_v id v statement rest id_read comma v_read none begins =
    let tail : InsertTail bytes statement rest = insert_tail bytes statement rest begins in
    none rest (number_once after v tail.v after_v (codes ");" ++ rest) v_read (insert_after bytes after_id after id statement rest id_read comma tail)).1

-- a SELECT goes on with a number after its head
pub select_has_id : (bytes : List ℕ) (statement : Statement) (rest : List ℕ) → ((n : ℤ) (following : List ℕ) → ¬ BeginsWithNumber bytes n following) → BeginsWith IsStatement (codes "SELECT v FROM t WHERE id=" ++ bytes) statement rest → ⊥
select_has_id bytes statement rest none begins =
    let tail : SelectTail bytes statement rest = select_tail bytes statement rest begins in
    none tail.id _ tail.id_read

-- a SELECT ends with a semicolon after its id
pub select_has_close : (bytes after_id : List ℕ) (id : ℤ) (statement : Statement) (rest : List ℕ) → BeginsWithNumber bytes id after_id → ((following : List ℕ) → after_id ≢ codes ";" ++ following) → BeginsWith IsStatement (codes "SELECT v FROM t WHERE id=" ++ bytes) statement rest → ⊥
select_has_close bytes after_id id statement rest id_read none begins =
    let tail : SelectTail bytes statement rest = select_tail bytes statement rest begins in
    none rest (number_once bytes id tail.id after_id (codes ";" ++ rest) id_read tail.id_read).1

-- without one of the two heads there is no statement at the front
pub statement_has_head : (bytes : List ℕ) (statement : Statement) (rest : List ℕ) → ((following : List ℕ) → bytes ≢ codes "INSERT INTO t VALUES(" ++ following) → ((following : List ℕ) → bytes ≢ codes "SELECT v FROM t WHERE id=" ++ following) → BeginsWith IsStatement bytes statement rest → ⊥
statement_has_head bytes statement rest no_insert no_select begins =
    elim (statement_head bytes statement rest begins) [ inl head ↦ no_insert head.0 head.1 | inr head ↦ no_select head.0 head.1 ]
