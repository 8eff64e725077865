-- Where statements and replies are cut, the first statement has a reply with an ending that it may have, and
-- the others are cut too.
use Rattle.std.proofs.Common.{◌≡◌, ◌⊎◌, inl, inr, refl, sym, ℕ, ◌+◌, ◌≤◌, Bool, true, false, List, [], ◌∷◌, Option, None, Some, arith, ⊎_elim, subst, ap}
use Rattle.std.specs.Prelude.{if◌then◌else◌, option_and_then, option_map, Contains}
use Rattle.std.proofs.lemmas.List.Elements.{Contains-append_cases, Contains-push_cases}
use Rattle.hc_transcript.specs.declared.reply.Ending.{Ending}
use Rattle.hc_transcript.specs.declared.reply.Reply.{Reply}
use Rattle.hc_meaning.specs.declared.statement.Statement.{Statement}
use Rattle.hc_meaning.specs.declared.transaction.Transaction.{Transaction}
use Rattle.hc_meaning.specs.Transactions.{cut, may_end, own, own_if_ended}

-- the first transaction, and the cut of the others
pub record IsPeeled (conn ordinal : ℕ) (statement : Statement) (statements : List Statement) (reply : Reply) (replies : List Reply) (transactions : List Transaction) : Type 0 where
  pub ending : Ending
  pub later : List Transaction
  pub ended : reply.ending ≡ Some ending
  pub may : may_end reply.last ending ≡ true
  pub rest : cut conn (ordinal + 1) statements replies ≡ Some later
  pub both : own conn ordinal statement reply ending ∷ later ≡ transactions

-- the walk's turn at an ending, with what it finds later
abbrev opened : ℕ → ℕ → Statement → Reply → Option (List Transaction) → Option Ending → Option (List Transaction)
opened conn ordinal statement reply rest ending = option_and_then (λ first. option_map (λ later. first ∷ later) rest) (own_if_ended conn ordinal statement reply ending)

-- the first transaction, if its ending may be, and then the others if they are cut
abbrev joined_if : Transaction → Bool → Option (List Transaction) → Option (List Transaction)
joined_if t may rest = option_and_then (λ first. option_map (λ later. first ∷ later) rest) (if may then Some t else None)

-- what the ending and the later cut have to be, by the cases of both
pub peeled : (conn ordinal : ℕ) (statement : Statement) (statements : List Statement) (reply : Reply) (replies : List Reply) (transactions : List Transaction)
    → cut conn ordinal (statement ∷ statements) (reply ∷ replies) ≡ Some transactions → IsPeeled conn ordinal statement statements reply replies transactions
peeled conn ordinal statement statements reply replies transactions is = by_ending reply.ending refl
  where
    by_rest : (ending : Ending) (may : Bool) (found : Option (List Transaction)) → reply.ending ≡ Some ending → may_end reply.last ending ≡ may → cut conn (ordinal + 1) statements replies ≡ found
        → joined_if (own conn ordinal statement reply ending) may found ≡ Some transactions → IsPeeled conn ordinal statement statements reply replies transactions
    by_rest ending false found ended may rest both = cc
    by_rest ending true None ended may rest both = cc
    by_rest ending true (Some later) ended may rest both = record { ending = ending; later = later; ended = ended; may = may; rest = rest; both = cc }

    by_ending : (ending : Option Ending) → reply.ending ≡ ending → IsPeeled conn ordinal statement statements reply replies transactions
    by_ending None ended =
        let none : ◌≡◌ {A = Option (List Transaction)} None (Some transactions) = subst (λ (e : Option Ending). opened conn ordinal statement reply (cut conn (ordinal + 1) statements replies) e ≡ Some transactions) ended is in cc
    by_ending (Some ending) ended =
        by_rest ending (may_end reply.last ending) (cut conn (ordinal + 1) statements replies) ended refl refl (subst (λ (e : Option Ending). opened conn ordinal statement reply (cut conn (ordinal + 1) statements replies) e ≡ Some transactions) ended is)

-- the elements of a list with one more in front
pub cons_cases : (t : Transaction) (later : List Transaction) (u : Transaction) → Contains (t ∷ later) u → (t ≡ u) ⊎ Contains later u
cons_cases t later u among =
    ⊎_elim (λ first. ⊎_elim (λ none. absurd (omega (arith, none.1))) (λ is. inl is) (Contains-push_cases [] t u first)) (λ there. inr there) (Contains-append_cases (t ∷ []) later u among)

-- each is the connection's, and its place is no earlier than the first's
pub all_from : (conn ordinal : ℕ) (statements : List Statement) (replies : List Reply) (transactions : List Transaction) → cut conn ordinal statements replies ≡ Some transactions
    → (t : Transaction) → Contains transactions t → (t.conn ≡ conn) × (ordinal ≤ t.ordinal)
all_from conn ordinal [] [] transactions is t among =
    let none : [] ≡ transactions = cc in
    let there : Contains [] t = subst (λ (all : List Transaction). Contains all t) (sym none) among in
    absurd (omega (arith, there.1))
all_from conn ordinal [] (reply ∷ replies) transactions is t among = cc
all_from conn ordinal (statement ∷ statements) [] transactions is t among = cc
all_from conn ordinal (statement ∷ statements) (reply ∷ replies) transactions is t among =
    let p = peeled conn ordinal statement statements reply replies transactions is in
    ⊎_elim (λ (first : own conn ordinal statement reply p.ending ≡ t). (ap (λ (v : Transaction). v.conn) (sym first), omega (arith, ap (λ (v : Transaction). v.ordinal) first)))
    (λ there. let later = all_from conn (ordinal + 1) statements replies p.later p.rest t there in (later.0, omega (arith, later.1)))
    (cons_cases (own conn ordinal statement reply p.ending) p.later t (subst (λ (all : List Transaction). Contains all t) (sym p.both) among))
