-- Work that is decided by what it reads: on two databases that agree on the keys that it reads on the first, it comes to the same
-- and reads the same. Here of work that changes nothing.
use Rattle.std.proofs.Common.{◌≡◌, ℕ, List, [], ◌∷◌, ◌++◌, inl, inr, Option, Some, None, Bool, true, false, Result, Ok, Err, refl, sym, ap, subst, if◌then◌else◌}
use Rattle.std.specs.List.{AllByRecursion}
use Rattle.hc_range.specs.declared.range.Range.{Range}
use Rattle.hc_range.specs.Ranges.{InAny}
use Rattle.hc_base.specs.Lookup.{Among}
use Rattle.hc_transcript.specs.declared.refusal.Refusal.{Refusal}
use Rattle.hc_schema.specs.Databases.{Database}
use Rattle.hc_sql.specs.Work.{Work, Done, give, refuse, go_on, next, in_turn, need, look}
use Rattle.hc_sql.proofs.Endings.{OnValue}

pub in_front : (key : List ℕ) (xs ys : List Range) → InAny xs key → InAny (xs ++ ys) key
in_front key [] ys within = absurd within
in_front key (x ∷ xs) ys (inl here) = inl here
in_front key (x ∷ xs) ys (inr later) = inr (in_front key xs ys later)

pub in_back : (key : List ℕ) (xs ys : List Range) → InAny ys key → InAny (xs ++ ys) key
in_back key [] ys within = within
in_back key (x ∷ xs) ys within = inr (in_back key xs ys within)

module _ (Keys : List ℕ → Type 0) (a b : Database) where
  -- all that is read is among the keys
  abbrev pub Within : List Range → Type 0
  Within ranges = (key : List ℕ) → InAny ranges key → Keys key

  -- both come to the same, which has P, read the same and leave their databases as they were
  pub record Alike {A : Type 0} (P : A → Type 0) (x y : Done A) : Type 0 where
    pub result : x.result ≡ y.result
    pub reads : x.reads ≡ y.reads
    pub left : x.db ≡ a
    pub right : y.db ≡ b
    pub holds : OnValue P x.result

  abbrev pub IsDecided : {A : Type 0} → (A → Type 0) → Work A → Type 0
  IsDecided P work = Within (work a).reads → Alike P (work a) (work b)

  pub give_decided : {A : Type 0} (P : A → Type 0) (x : A) → P x → IsDecided P (give x)
  give_decided P x holds within = record { result = refl; reads = refl; left = refl; right = refl; holds = holds }

  pub refuse_decided : {A : Type 0} (P : A → Type 0) (refusal : Refusal) → IsDecided P (refuse {A = A} refusal)
  refuse_decided P refusal within = record { result = refl; reads = refl; left = refl; right = refl; holds = tt }

  pub need_decided : {A : Type 0} (P : A → Type 0) (refusal : Refusal) (found : Option A) → ((x : A) → found ≡ Some x → P x) → IsDecided P (need refusal found)
  need_decided P refusal None holds = refuse_decided P refusal
  need_decided P refusal (Some x) holds = give_decided P x (holds x refl)

  pub look_decided : {A : Type 0} (P : A → Type 0) (range : Range) (what : Database → A) → (Within (range ∷ []) → what a ≡ what b) → (Within (range ∷ []) → P (what a)) → IsDecided P (look range what)
  look_decided P range what same holds within = record { result = ap Ok (same within); reads = refl; left = refl; right = refl; holds = holds within }

  pub if_decided : {A : Type 0} (P : A → Type 0) (c : Bool) (one other : Work A) → IsDecided P one → IsDecided P other → IsDecided P (if c then one else other)
  if_decided P true one other p q = p
  if_decided P false one other p q = q

  module _ {A B : Type 0} (P : A → Type 0) (Q : B → Type 0) (more : A → Work B) (decided : (x : A) → P x → IsDecided Q (more x)) where
    -- what was read first is among all that was read
    front : (r : Result A Refusal) (db : Database) (reads : List Range) → Within (go_on r db reads more).reads → Within reads
    front (Ok x) db reads within key here = within key (in_front key reads (more x db).reads here)
    front (Err refusal) db reads within key here = within key here

    both : (r : Result A Refusal) (reads : List Range) → OnValue P r → Within (go_on r a reads more).reads → Alike Q (go_on r a reads more) (go_on r b reads more)
    both (Ok x) reads holds within =
        let rest = decided x holds (λ key here. within key (in_back key reads (more x a).reads here)) in
        record { result = rest.result; reads = ap (λ l. reads ++ l) rest.reads; left = rest.left; right = rest.right; holds = rest.holds }
    both (Err refusal) reads holds within = record { result = refl; reads = refl; left = refl; right = refl; holds = tt }

    -- the two works before left their databases
    moved : (r s : Result A Refusal) (da db : Database) (read other : List Range) → r ≡ s → read ≡ other → da ≡ a → db ≡ b → OnValue P r
        → Within (go_on r da read more).reads → Alike Q (go_on r da read more) (go_on s db other more)
    moved r s da db read other same reads left right holds within =
        let on_a : Within (go_on r a read more).reads = subst (λ d. Within (go_on r d read more).reads) left within in
        let there = both r read holds on_a in
        let at_a : Alike Q (go_on r da read more) (go_on r b read more) = subst (λ d. Alike Q (go_on r d read more) (go_on r b read more)) (sym left) there in
        let at_b : Alike Q (go_on r da read more) (go_on r db read more) = subst (λ d. Alike Q (go_on r da read more) (go_on r d read more)) (sym right) at_a in
        let with_s : Alike Q (go_on r da read more) (go_on s db read more) = subst (λ t. Alike Q (go_on r da read more) (go_on t db read more)) same at_b in
        subst (λ l. Alike Q (go_on r da read more) (go_on s db l more)) reads with_s

    pub next_decided : (work : Work A) → IsDecided P work → IsDecided Q (next work more)
    next_decided work first within =
        let same = first (front (work a).result (work a).db (work a).reads within) in
        moved (work a).result (work b).result (work a).db (work b).db (work a).reads (work b).reads same.result same.reads same.left same.right same.holds within

  pub in_turn_decided : {X A : Type 0} (P : A → Type 0) (work : X → Work A) (xs : List X) → ((x : X) → Among x xs → IsDecided P (work x)) → IsDecided (AllByRecursion P) (in_turn work xs)
  in_turn_decided {X} {A} P work [] each = give_decided (AllByRecursion P) [] tt
  in_turn_decided {X} {A} P work (x ∷ xs) each =
      next_decided P (AllByRecursion P) (λ first. next (in_turn work xs) (λ rest. give (first ∷ rest)))
      (λ first holds. next_decided (AllByRecursion P) (AllByRecursion P) (λ rest. give (first ∷ rest)) (λ rest all. give_decided (AllByRecursion P) (first ∷ rest) (holds, all))
      (in_turn work xs) (in_turn_decided P work xs (λ y among. each y (inr among))))
      (work x) (each x (inl refl))
