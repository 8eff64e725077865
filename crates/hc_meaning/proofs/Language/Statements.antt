-- A statement's text is its head and its tail, and is read in one way.
use Rattle.std.proofs.Common.{◌≡◌, ◌∙◌, ap, sym, subst, refl, arith, append_assoc, ◌⊎◌, inl, inr, get_or, lit<, ℕ, ◌<◌, ℤ, List, ◌++◌, codes}
use Rattle.std.proofs.lemmas.List.{append_cancel_left}
use Rattle.hc_meaning.specs.declared.statement.Statement.{Statement}
use Rattle.hc_meaning.specs.declared.statement.Statement.TheVariants.{Insert, Select}
use Rattle.hc_meaning.specs.Front.{BeginsWith, BeginsWithNumber}
use Rattle.hc_meaning.specs.Input.{IsStatement}
use Rattle.hc_meaning.proofs.Language.Numbers.{number_once}

-- what follows the head of an INSERT
pub record InsertTail (bytes : List ℕ) (statement : Statement) (rest : List ℕ) : Type 0 where
  pub id : ℤ
  pub v : ℤ
  pub after : List ℕ
  pub is : statement ≡ Insert id v
  pub id_read : BeginsWithNumber bytes id (codes "," ++ after)
  pub v_read : BeginsWithNumber after v (codes ");" ++ rest)

-- what follows the head of a SELECT
pub record SelectTail (bytes : List ℕ) (statement : Statement) (rest : List ℕ) : Type 0 where
  pub id : ℤ
  pub is : statement ≡ Select id
  pub id_read : BeginsWithNumber bytes id (codes ";" ++ rest)

-- the parts of a statement's text, each with all that follows it
regroup_insert : (head a comma b close rest : List ℕ) → ((((head ++ a) ++ comma) ++ b) ++ close) ++ rest ≡ head ++ (a ++ (comma ++ (b ++ (close ++ rest))))
regroup_insert head a comma b close rest = simp append_assoc

regroup_select : (head a close rest : List ℕ) → ((head ++ a) ++ close) ++ rest ≡ head ++ (a ++ (close ++ rest))
regroup_select head a close rest = simp append_assoc

-- a lower byte is another
less_is_other : (a b : ℕ) → a < b → a ≡ b → ⊥
less_is_other a b less e = omega arith

-- the byte at the front tells an INSERT from a SELECT
heads_differ : (x y : List ℕ) → codes "INSERT INTO t VALUES(" ++ x ≡ codes "SELECT v FROM t WHERE id=" ++ y → ⊥
heads_differ x y e = less_is_other 73 83 (lit< tt) (ap (λ (l : List ℕ). get_or l 0 0) e)

-- the text of a SELECT has not the head of an INSERT, nor the other way round
select_is_no_insert : (bytes text a rest : List ℕ) → text ≡ codes "SELECT v FROM t WHERE id=" ++ a ++ codes ";" → codes "INSERT INTO t VALUES(" ++ bytes ≡ text ++ rest → ⊥
select_is_no_insert bytes text a rest text_is e =
    heads_differ bytes (a ++ (codes ";" ++ rest))
    (e ∙ ap (λ (l : List ℕ). l ++ rest) text_is ∙ regroup_select (codes "SELECT v FROM t WHERE id=") a (codes ";") rest)

insert_is_no_select : (bytes text a b rest : List ℕ) → text ≡ codes "INSERT INTO t VALUES(" ++ a ++ codes "," ++ b ++ codes ");" → codes "SELECT v FROM t WHERE id=" ++ bytes ≡ text ++ rest → ⊥
insert_is_no_select bytes text a b rest text_is e =
    heads_differ (a ++ (codes "," ++ (b ++ (codes ");" ++ rest)))) bytes
    (sym (e ∙ ap (λ (l : List ℕ). l ++ rest) text_is ∙ regroup_insert (codes "INSERT INTO t VALUES(") a (codes ",") b (codes ");") rest))

-- the head of an INSERT is followed by the tail of one; the same of a SELECT
pub insert_tail : (bytes : List ℕ) (statement : Statement) (rest : List ℕ) → BeginsWith IsStatement (codes "INSERT INTO t VALUES(" ++ bytes) statement rest → InsertTail bytes statement rest
insert_tail bytes (Insert id v) rest (text, (a, b, is_id, is_v, text_is), e) =
    let following : bytes ≡ a ++ (codes "," ++ (b ++ (codes ");" ++ rest))) =
    append_cancel_left (codes "INSERT INTO t VALUES(") bytes (a ++ (codes "," ++ (b ++ (codes ");" ++ rest))))
    (e ∙ ap (λ (l : List ℕ). l ++ rest) text_is ∙ regroup_insert (codes "INSERT INTO t VALUES(") a (codes ",") b (codes ");") rest) in
    record {
      id = id;
      v = v;
      after = b ++ (codes ");" ++ rest);
      is = refl;
      id_read = ((a, is_id, following), omega arith);
      v_read = ((b, is_v, refl), omega arith);
    }
insert_tail bytes (Select id) rest (text, (a, is_id, text_is), e) = absurd (select_is_no_insert bytes text a rest text_is e)

pub select_tail : (bytes : List ℕ) (statement : Statement) (rest : List ℕ) → BeginsWith IsStatement (codes "SELECT v FROM t WHERE id=" ++ bytes) statement rest → SelectTail bytes statement rest
select_tail bytes (Insert id v) rest (text, (a, b, is_id, is_v, text_is), e) = absurd (insert_is_no_select bytes text a b rest text_is e)
select_tail bytes (Select id) rest (text, (a, is_id, text_is), e) =
    let following : bytes ≡ a ++ (codes ";" ++ rest) =
    append_cancel_left (codes "SELECT v FROM t WHERE id=") bytes (a ++ (codes ";" ++ rest))
    (e ∙ ap (λ (l : List ℕ). l ++ rest) text_is ∙ regroup_select (codes "SELECT v FROM t WHERE id=") a (codes ";") rest) in
    record { id = id; is = refl; id_read = ((a, is_id, following), omega arith) }

-- and the other way: a head and a tail are a statement
pub insert_from_tail : (bytes : List ℕ) (statement : Statement) (rest : List ℕ) → InsertTail bytes statement rest → BeginsWith IsStatement (codes "INSERT INTO t VALUES(" ++ bytes) statement rest
insert_from_tail bytes statement rest t =
    let a : List ℕ = t.id_read.0.0 in
    let b : List ℕ = t.v_read.0.0 in
    let whole : codes "INSERT INTO t VALUES(" ++ bytes ≡ (codes "INSERT INTO t VALUES(" ++ a ++ codes "," ++ b ++ codes ");") ++ rest =
    ap (λ (l : List ℕ). codes "INSERT INTO t VALUES(" ++ l) (t.id_read.0.2 ∙ ap (λ (l : List ℕ). a ++ (codes "," ++ l)) t.v_read.0.2)
    ∙ sym (regroup_insert (codes "INSERT INTO t VALUES(") a (codes ",") b (codes ");") rest) in
    subst (λ (s : Statement). BeginsWith IsStatement (codes "INSERT INTO t VALUES(" ++ bytes) s rest) (sym t.is)
    (codes "INSERT INTO t VALUES(" ++ a ++ codes "," ++ b ++ codes ");", (a, b, t.id_read.0.1, t.v_read.0.1, refl), whole)

-- the same of a SELECT
pub select_from_tail : (bytes : List ℕ) (statement : Statement) (rest : List ℕ) → SelectTail bytes statement rest → BeginsWith IsStatement (codes "SELECT v FROM t WHERE id=" ++ bytes) statement rest
select_from_tail bytes statement rest t =
    let a : List ℕ = t.id_read.0.0 in
    let whole : codes "SELECT v FROM t WHERE id=" ++ bytes ≡ (codes "SELECT v FROM t WHERE id=" ++ a ++ codes ";") ++ rest =
    ap (λ (l : List ℕ). codes "SELECT v FROM t WHERE id=" ++ l) t.id_read.0.2
    ∙ sym (regroup_select (codes "SELECT v FROM t WHERE id=") a (codes ";") rest) in
    subst (λ (s : Statement). BeginsWith IsStatement (codes "SELECT v FROM t WHERE id=" ++ bytes) s rest) (sym t.is)
    (codes "SELECT v FROM t WHERE id=" ++ a ++ codes ";", (a, t.id_read.0.1, refl), whole)

-- a statement begins with one of the two heads
pub statement_head : (bytes : List ℕ) (statement : Statement) (rest : List ℕ) → BeginsWith IsStatement bytes statement rest
    → ((following : List ℕ) × (bytes ≡ codes "INSERT INTO t VALUES(" ++ following)) ⊎ ((following : List ℕ) × (bytes ≡ codes "SELECT v FROM t WHERE id=" ++ following))
statement_head bytes (Insert id v) rest (text, (a, b, is_id, is_v, text_is), e) =
    inl (a ++ (codes "," ++ (b ++ (codes ");" ++ rest))), e ∙ ap (λ (l : List ℕ). l ++ rest) text_is ∙ regroup_insert (codes "INSERT INTO t VALUES(") a (codes ",") b (codes ");") rest)
statement_head bytes (Select id) rest (text, (a, is_id, text_is), e) =
    inr (a ++ (codes ";" ++ rest), e ∙ ap (λ (l : List ℕ). l ++ rest) text_is ∙ regroup_select (codes "SELECT v FROM t WHERE id=") a (codes ";") rest)

-- what follows a head is read in one way
insert_once : (bytes : List ℕ) (s t : Statement) (x y : List ℕ) → InsertTail bytes s x → InsertTail bytes t y → (s ≡ t) × (x ≡ y)
insert_once bytes s t x y one two =
    let ids : (one.id ≡ two.id) × (codes "," ++ one.after ≡ codes "," ++ two.after) = number_once bytes one.id two.id _ _ one.id_read two.id_read in
    let afters : one.after ≡ two.after = append_cancel_left (codes ",") one.after two.after ids.1 in
    let same : BeginsWithNumber two.after one.v (codes ");" ++ x) = subst (λ (l : List ℕ). BeginsWithNumber l one.v (codes ");" ++ x)) afters one.v_read in
    let vs : (one.v ≡ two.v) × (codes ");" ++ x ≡ codes ");" ++ y) = number_once two.after one.v two.v _ _ same two.v_read in
    (one.is ∙ ap (λ (id : ℤ). Insert id one.v) ids.0 ∙ ap (λ (v : ℤ). Insert two.id v) vs.0 ∙ sym two.is, append_cancel_left (codes ");") x y vs.1)

select_once : (bytes : List ℕ) (s t : Statement) (x y : List ℕ) → SelectTail bytes s x → SelectTail bytes t y → (s ≡ t) × (x ≡ y)
select_once bytes s t x y one two =
    let ids : (one.id ≡ two.id) × (codes ";" ++ x ≡ codes ";" ++ y) = number_once bytes one.id two.id _ _ one.id_read two.id_read in
    (one.is ∙ ap (λ (id : ℤ). Select id) ids.0 ∙ sym two.is, append_cancel_left (codes ";") x y ids.1)

-- the statement at the front is read in one way
pub statement_once : (bytes : List ℕ) (s t : Statement) (x y : List ℕ) → BeginsWith IsStatement bytes s x → BeginsWith IsStatement bytes t y → (s ≡ t) × (x ≡ y)
statement_once bytes s t x y one two =
    elim (statement_head bytes s x one) [
      | inl head ↦ insert_once head.0 s t x y
          (insert_tail head.0 s x (subst (λ (l : List ℕ). BeginsWith IsStatement l s x) head.1 one))
          (insert_tail head.0 t y (subst (λ (l : List ℕ). BeginsWith IsStatement l t y) head.1 two))
      | inr head ↦ select_once head.0 s t x y
          (select_tail head.0 s x (subst (λ (l : List ℕ). BeginsWith IsStatement l s x) head.1 one))
          (select_tail head.0 t y (subst (λ (l : List ℕ). BeginsWith IsStatement l t y) head.1 two))
    ]
