-- Small facts that the steps of the machine share.
use Rattle.std.proofs.Common.{◌≡◌, ◌≢◌, ◌∙◌, ◌↔◌, ◌^◌, inl, inr, ⊎_elim, ◌⊎◌, max, not, Bool, refl, sym, ap, subst, ℕ, ◌-◌, ◌<◌, ◌≤◌, true, false, Option, Some, None, MatchOption, Result, Ok, Err, IfOk, List, [], ◌∷◌, length, map, get_or, slice_set, arith, Vec, Global, vec_len}
use Rattle.std.specs.Option.{is_some}
use Rattle.std.proofs.lemmas.Bool.{cases_eq, false_from_ne_true}
use Rattle.std.proofs.lemmas.List.{get_or_default, get_or-set_same, length-map}
use Rattle.std.specs.Str.{bytes_eq}
use Rattle.hc_base.specs.Lookup.{Among}
use Rattle.hc_core.specs.Account.{Txn, HoldsKey, HasWritten, WhenOpen, after_entry, after_event, newest_changed, txns, without}
use Rattle.hc_core.specs.Diary.{entry_of}
use Rattle.hc_core.specs.Kept.{IsKept, machine_of}
use Rattle.hc_core.specs.Machine.{Answers, IsAnswer, IsEnabled, Machine, account_of, after, entered, txns_of, with_entry}
use Rattle.hc_core.specs.Running.{HaveSameWrites, Matches, greatest_ord, holds_key}
use Rattle.hc_core.specs.Sound.{IsSound}
use Rattle.hc_core.specs.declared.account.Entry.{Entry}
use Rattle.hc_core.specs.declared.cells.Write.{Write}
use Rattle.hc_core.specs.declared.commit.Commit.{Commit}
use Rattle.hc_core.specs.declared.event.Event.{Event}
use Rattle.hc_core.specs.declared.event.Event.TheVariants.{Draw}
use Rattle.hc_core.specs.declared.outcome.Outcome.{Outcome}
use Rattle.hc_core.specs.declared.running.Running.{Running}
use Rattle.hc_core.proofs.Counted.{log_below}
use Rattle.hc_core.proofs.Elements.{among_filter}
use Rattle.hc_core.proofs.Entered.{opened, in_range}
use Rattle.hc_core.proofs.LogEntries.{holds_from, holds_into}
use Rattle.hc_core.proofs.Upheld.{Settles, kept_changed}

-- the new account is the old one with an entry
pub entry_is : (account old : List Entry) (accounts : List (List Entry)) (i : ℕ) (d : List Entry) (event : Event) (result outcome : Outcome)
    → account ≡ entry_of event result ∷ old → old ≡ get_or accounts i d → i < length accounts → result ≡ outcome
    → account ≡ entry_of event outcome ∷ get_or accounts i []
entry_is account old accounts i d event result outcome is was within gave =
    is ∙ rw (gave, was, get_or_default accounts i d [] within) refl

-- the log's length, as the vector has it
pub log_length : (log : Vec Commit Global) → length (map (λ (commit : Commit). commit.tid) log.items) ≡ vec_len log
log_length log = length-map log.items (λ (commit : Commit). commit.tid) ∙ sym log.ok.0

-- no transaction is open where none was found
pub none_idle : {A : Type 0} (found : Option A) (P : Type 0) (Q : A → Type 0) → MatchOption found P Q → is_some found ≡ false → P
none_idle None P Q h none = h
none_idle (Some x) P Q h none = absurd (let e : true ≡ false = none in cc)

-- a fact of the open transaction gives another
pub when_map : (P Q : Txn → Type 0) (ts : List Txn) → ((t : Txn) → P t → Q t) → WhenOpen ts P → WhenOpen ts Q
when_map P Q [] k h = h
when_map P Q (t ∷ ts) k h = (h.0, k t h.1)

-- facts that cannot hold of it together: it is not open
pub when_never : (P Q : Txn → Type 0) (ts : List Txn) → ((t : Txn) → P t → Q t → ⊥) → WhenOpen ts P → WhenOpen ts Q → ⊥
when_never P Q [] k p q = p
when_never P Q (t ∷ ts) k p q = k t p.1 q.1

-- while a transaction that drew an id is undecided, the next commit number has 32 bits
pub number_bounded : (m : Machine) (i : ℕ) → IsSound m → m.drawn < 2 ^ 32 → WhenOpen (txns_of m i) (λ t. (t.id ≢ 0) × (t.place ≡ 0))
    → length m.log < m.drawn
number_bounded m i sound bounded open_now =
    let o = opened (txns_of m i) (λ t. (t.id ≢ 0) × (t.place ≡ 0)) open_now in
    log_below m sound i o.t (subst (Among o.t) (sym o.is) (inl refl)) (o.holds).0 (o.holds).1

-- a change that leaves the place, the id, the ordinal and what is
pub settles_same : (t new : Txn) → new.place ≡ t.place → new.id ≡ t.id → new.ord ≡ t.ord → new.write_set ≡ t.write_set → Settles t new
settles_same t new place id ord write_set = record {
  decided = λ some. (place, id, ord, write_set);
  short = λ short key written. short key (subst (λ (ws : List Write). HoldsKey ws key) write_set written);
}

-- a key taken out of an undecided transaction
pub settles_without : (key : List ℕ) (t : Txn) → t.place ≡ 0 → Settles t (record t { write_set = without key t.write_set })
settles_without key t undecided = record {
  decided = λ some. absurd (some undecided);
  short = λ short other written. short other
      (written.0, ((among_filter (λ (w : Write). not (bytes_eq w.key key)) (record { key = other; rec = written.0 }) t.write_set).0 written.1).0);
}

-- what was found open, said of the machine that is held
pub found_open : (held now : Machine) (i : ℕ) (r : Running) (Q : Txn → Type 0) → held ≡ now → WhenOpen (txns_of now i) (Matches r)
    → ((t : Txn) → Matches r t → Q t) → WhenOpen (txns_of held i) Q
found_open held now i r Q is h k =
    when_map (Matches r) Q (txns_of held i) k (subst (λ (m : Machine). WhenOpen (txns_of m i) (Matches r)) (sym is) h)

-- an open transaction's connection is in range
pub open_in_range : (m : Machine) (i : ℕ) (P : Txn → Type 0) → WhenOpen (txns_of m i) P → i < length m.accounts
open_in_range m i P h = let o = opened (txns_of m i) P h in in_range m i o.t o.rest o.is

-- a key among writes is among those that are the same in some order
pub holds_there : (writes others : List Write) (key : List ℕ) → HaveSameWrites writes others → HoldsKey writes key → HoldsKey others key
holds_there writes others key same h = (h.0, (same (record { key = key; rec = h.0 })).0 h.1)

-- and the other way round
pub holds_back : (writes others : List Write) (key : List ℕ) → HaveSameWrites writes others → HoldsKey others key → HoldsKey writes key
holds_back writes others key same h = (h.0, (same (record { key = key; rec = h.0 })).1 h.1)

-- nothing is among no writes
pub nothing_written : (writes others : List Write) → HaveSameWrites writes others → writes ≡ [] → others ≡ []
nothing_written writes [] same none = refl
nothing_written writes (w ∷ others) same none = absurd (subst (λ ws. Among w ws) none ((same w).1 (inl refl)))

-- and the other way round
pub nothing_back : (writes others : List Write) → HaveSameWrites writes others → others ≡ [] → writes ≡ []
nothing_back [] others same none = refl
nothing_back (w ∷ writes) others same none = absurd (subst (λ ws. Among w ws) none ((same w).0 (inl refl)))

-- two ways of one test
pub not_both_ways : (b : Bool) → b ≡ true → b ≡ false → ⊥
not_both_ways b is_so is_not = let e : true ≡ false = sym is_so ∙ is_not in cc

-- what is kept tells whether a key is, until it is decided
pub written_of : (r : Running) (t : Txn) (key : List ℕ) → Matches r t → r.place ≡ 0 → holds_key key r.writes.put ≡ true → HasWritten t key × (t.place ≡ 0)
written_of r t key h none held =
    let undecided = sym h.place ∙ none in
    (holds_there r.writes.put t.write_set key (h.writes undecided) (holds_into key r.writes.put held), undecided)

-- a key that is in the write set in an undecided transaction is among the writes that are kept
pub held_of : (r : Running) (t : Txn) (key : List ℕ) → Matches r t → t.place ≡ 0 → HasWritten t key → holds_key key r.writes.put ≡ true
held_of r t key h undecided written = holds_from key r.writes.put (holds_back r.writes.put t.write_set key (h.writes undecided) written)

-- and one that is not in the write set is not
pub free_of : (r : Running) (t : Txn) (key : List ℕ) → Matches r t → t.place ≡ 0 → (HasWritten t key → ⊥) → holds_key key r.writes.put ≡ false
free_of r t key h undecided free =
    false_from_ne_true (holds_key key r.writes.put) (λ held. free ((written_of r t key h (h.place ∙ undecided) held).0))

-- what is kept tells whether a transaction may end
pub may_end_of : (r : Running) (t : Txn) → Matches r t
    → ((r.place ≢ 0) ⊎ (r.writes.put ≡ [])) ↔ ((t.place ≢ 0) ⊎ (t.write_set ≡ []))
may_end_of r t h = (
  λ may. elim may [
    | inl some ↦ inl (λ none. some (h.place ∙ none))
    | inr none ↦ ⊎_elim (λ (undecided : t.place ≡ 0). inr (nothing_written r.writes.put t.write_set (h.writes undecided) none)) (λ some. inl some) (cases_eq t.place 0)
  ],
  λ may. elim may [
    | inl some ↦ inl (λ none. some (sym h.place ∙ none))
    | inr none ↦ ⊎_elim (λ (undecided : t.place ≡ 0). inr (nothing_back r.writes.put t.write_set (h.writes undecided) none)) (λ some. inl (λ none. some (sym h.place ∙ none))) (cases_eq t.place 0)
  ],
)

-- the greatest ordinal is at or above each
pub ord_within : (ts : List Txn) (u : Txn) → Among u ts → u.ord ≤ greatest_ord ts
ord_within [] u there = absurd there
ord_within (t ∷ ts) u there =
    elim there [
      | inl same ↦ subst (λ (v : Txn). v.ord ≤ max t.ord (greatest_ord ts)) (sym same) (omega arith)
      | inr rest ↦ omega (arith, ord_within ts u rest)
    ]

-- and below what is above each
pub ord_below : (ts : List Txn) (ord : ℕ) → 0 < ord → ((u : Txn) → Among u ts → u.ord < ord) → greatest_ord ts < ord
ord_below [] ord some below = some
ord_below (t ∷ ts) ord some below = omega (arith, below t (inl refl), ord_below ts ord some (λ u there. below u (inr there)))

-- an account that was looked up
pub account_is : (accounts : List (List Entry)) (i : ℕ) (d old : List Entry) → old ≡ get_or accounts i d → i < length accounts → old ≡ get_or accounts i []
account_is accounts i d old is within = is ∙ get_or_default accounts i d [] within

-- an id and an ordinal for a transaction that had none
pub settles_drawn : (t : Txn) (id ord : ℕ) → t.place ≡ 0 → Settles t (record t { id = id; ord = ord })
settles_drawn t id ord undecided = record { decided = λ some. absurd (some undecided); short = λ short. short }

-- a draw is enabled
pub draw_enabled : (m : Machine) (i ord last : ℕ) (r : Running) (old d : List Entry) → WhenOpen (txns_of m i) (Matches r) → r.tid ≡ 0
    → old ≡ get_or m.accounts i d → last ≡ greatest_ord (txns old) → last < ord → m.drawn < 2 ^ 32 → (m.drawn ≡ 4294967295 → ⊥)
    → IsEnabled m (Draw i ord)
draw_enabled m i ord last r old d h none is greatest above bounded left =
    let here = account_is m.accounts i d old is (open_in_range m i (Matches r) h) in
    let most : last ≡ greatest_ord (txns_of m i) = greatest ∙ ap (λ a. greatest_ord (txns a)) here in
    when_map (Matches r) (λ t. (t.id ≡ 0) × (0 < ord) × ((u : Txn) → Among u (txns_of m i) → u.ord < ord) × (m.drawn < 2 ^ 32 - 1)) (txns_of m i)
    (λ t k. (
      sym k.id ∙ none,
      omega (arith, above),
      (λ u there. omega (arith, ord_within (txns_of m i) u there, most, above)),
      omega (arith, bounded, left),
    ))
    h

-- what an optional answer says, turned into something else that it says
pub match_map : {A : Type 0} (found : Option A) (P R : Type 0) (Q S : A → Type 0) → MatchOption found P Q → (P → R) → ((x : A) → Q x → S x) → MatchOption found R S
match_map None P R Q S h none some = none h
match_map (Some x) P R Q S h none some = some x h

-- an event of an open transaction is entered, that leaves the log and the number of ids
pub kept_event : (drawn room : ℕ) (commits : List Commit) (accounts : List (List Entry)) (i : ℕ) (account old d : List Entry) (event : Event) (outcome : Outcome) (f : Txn → Txn)
    → IsKept drawn commits room accounts → account ≡ entry_of event outcome ∷ old → old ≡ get_or accounts i d
    → Answers (machine_of drawn commits accounts) event outcome
    → after (machine_of drawn commits accounts) event outcome ≡ entered (machine_of drawn commits accounts) i event outcome
    → ((ts : List Txn) → after_event event outcome ts ≡ newest_changed f ts)
    → WhenOpen (txns_of (machine_of drawn commits accounts) i) (λ t. Settles t (f t)) → IsKept drawn commits room (slice_set accounts i account)
kept_event drawn room commits accounts i account old d event outcome f kept is was answers as_after as_change open_now =
    let within = open_in_range (machine_of drawn commits accounts) i (λ t. Settles t (f t)) open_now in
    kept_changed drawn commits accounts i account event event outcome (entry_is account old accounts i d event outcome outcome is was within refl) refl
    room f kept answers as_after as_change open_now

-- what is open in the machine that is held is open in the account that was looked up
pub there_open : (held now : Machine) (i : ℕ) (old d : List Entry) (P Q : Txn → Type 0) → held ≡ now → old ≡ get_or held.accounts i d
    → WhenOpen (txns_of now i) P → ((t : Txn) → P t → Q t) → WhenOpen (txns old) Q
there_open held now i old d P Q is was h k =
    let here : WhenOpen (txns_of held i) P = subst (λ (m : Machine). WhenOpen (txns_of m i) P) (sym is) h in
    subst (λ a. WhenOpen (txns a) Q) (sym (account_is held.accounts i d old was (open_in_range held i P here))) (when_map P Q (txns_of held i) k here)

-- what is open in one is open in the other
pub held_open : (held now : Machine) (i : ℕ) (P : Txn → Type 0) → held ≡ now → WhenOpen (txns_of now i) P → WhenOpen (txns_of held i) P
held_open held now i P is = subst (λ (m : Machine). WhenOpen (txns_of m i) P) (sym is)

-- what an answer that is not an error says, turned into something else that it says
pub ok_map : {A E : Type 0} (r : Result A E) (P Q : A → Type 0) → IfOk r P → ((x : A) → P x → Q x) → IfOk r Q
ok_map (Ok x) P Q h k = k x h
ok_map (Err e) P Q h k = h

-- an answer to an event that is enabled
pub answer_of : (m : Machine) (event : Event) (outcome : Outcome) → IsEnabled m event → Answers m event outcome → IsAnswer m event outcome
answer_of m event outcome enabled answers = ⊎_elim (λ is. is.1) (λ refused. absurd (refused.0 enabled)) answers

-- a draw is enabled for an ordinal above all, where an id is left
pub draw_may : (m : Machine) (i ord : ℕ) → WhenOpen (txns_of m i) (λ t. t.id ≡ 0) → greatest_ord (txns_of m i) < ord → m.drawn < 2 ^ 32 - 1 → IsEnabled m (Draw i ord)
draw_may m i ord reading above left =
    when_map (λ t. t.id ≡ 0) _ (txns_of m i) (λ t none. (none, omega (arith, above), (λ u there. omega (arith, ord_within (txns_of m i) u there, above)), left)) reading

-- the transactions of the connection of an entry
pub txns_here : (m : Machine) (i : ℕ) (entry : Entry) → i < length m.accounts → txns_of (with_entry m i entry) i ≡ after_entry entry (txns_of m i)
txns_here m i entry within = ap txns (get_or-set_same m.accounts i (entry ∷ account_of m i) [] within)
