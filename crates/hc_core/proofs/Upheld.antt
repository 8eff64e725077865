-- What the machine keeps holds again after an event whose answer the table gives.
use Rattle.std.proofs.Common.{◌≡◌, ◌≢◌, ◌∙◌, inl, refl, sym, ap, subst, ℕ, ◌+◌, ◌<◌, ◌≤◌, ◌^◌, List, [], ◌∷◌, ◌++◌, length, get_or, slice_set, replicate, arith, None}
use Rattle.hc_core.specs.Keys.{IsShortKey}
use Rattle.std.proofs.lemmas.List.{length-replicate, length-set}
use Rattle.hc_base.specs.Lookup.{Among, but}
use Rattle.hc_core.specs.Account.{Txn, HasWritten, WhenOpen, after_entry, after_event, after_reserve, begun_at, newest_changed}
use Rattle.hc_core.specs.Commits.{IsCommitOf, AreCommits}
use Rattle.hc_core.specs.Diary.{entry_of}
use Rattle.hc_core.specs.Kept.{IsKept, machine_of}
use Rattle.hc_core.specs.Machine.{Machine, Answers, after, entered, txns_of, with_entry}
use Rattle.hc_core.specs.Running.{HaveSameWrites}
use Rattle.hc_core.specs.Sound.{IsSound}
use Rattle.hc_core.specs.declared.account.Entry.{Entry}
use Rattle.hc_core.specs.declared.account.Entry.TheVariants.{Reserved}
use Rattle.hc_core.specs.declared.cells.Write.{Write}
use Rattle.hc_core.specs.declared.commit.Commit.{Commit}
use Rattle.hc_core.specs.declared.event.Event.{Event}
use Rattle.hc_core.specs.declared.outcome.Outcome.{Outcome}
use Rattle.hc_base.proofs.Lookups.{new_here, rest_here, others_here, each_old, each_either, each_grown, grown_here}
use Rattle.hc_core.proofs.Entered.{opened, in_range, txns_of-entered, txns_of-start}
use Rattle.hc_core.proofs.SoundRuns.{sound_with, start_sound, step_sound}

-- what the log and the bound on keys rest on: where it is decided, who it is and what it put; and short keys
pub record Settles (t new : Txn) : Type 0 where
  pub decided : t.place ≢ 0 → (new.place ≡ t.place) × (new.id ≡ t.id) × (new.ord ≡ t.ord) × (new.write_set ≡ t.write_set)
  pub short : ((key : List ℕ) → HasWritten t key → IsShortKey key) → (key : List ℕ) → HasWritten new key → IsShortKey key

-- an entry of the log stays one where the newest transaction of a connection changes
commit_changed : (of : ℕ → List Txn) (i : ℕ) (t new : Txn) (rest : List Txn) (c : ℕ) (commit : Commit) → of i ≡ t ∷ rest → Settles t new → 0 < c
    → IsCommitOf of c commit → IsCommitOf (but of i (new ∷ rest)) c commit
commit_changed of i t new rest c commit is settles some h =
    each_old of i t rest is
    (λ j u. commit.conn ≡ j → u.place ≡ c → u.id ≡ commit.tid → u.ord ≡ commit.ord → HaveSameWrites commit.writes.items u.write_set → IsCommitOf (but of i (new ∷ rest)) c commit)
    (λ conn place id ord writes.
    let same = settles.decided (λ none. omega (arith, none, place, some)) in (
      new,
      subst (λ j. Among new (but of i (new ∷ rest) j)) (sym conn) (new_here of i new rest),
      same.0 ∙ place,
      same.1 ∙ id,
      same.2 ∙ ord,
      subst (HaveSameWrites commit.writes.items) (sym same.3) writes,
    ))
    (λ u there conn place id ord writes.
    (u, subst (λ j. Among u (but of i (new ∷ rest) j)) (sym conn) (rest_here of i new rest u there), place, id, ord, writes))
    (λ j u differ there conn place id ord writes.
    (u, subst (λ k. Among u (but of i (new ∷ rest) k)) (sym conn) (others_here of i new rest j u differ there), place, id, ord, writes))
    commit.conn h.0 h.1 refl h.2 h.3 h.4 h.5

-- the entries of the log stay so where the newest transaction of a connection changes
pub commits_changed : (of : ℕ → List Txn) (i : ℕ) (t new : Txn) (rest : List Txn) (c : ℕ) (commits : List Commit) → of i ≡ t ∷ rest → Settles t new → 0 < c
    → AreCommits of c commits → AreCommits (but of i (new ∷ rest)) c commits
commits_changed of i t new rest c [] is settles some h = tt
commits_changed of i t new rest c (commit ∷ commits) is settles some h = (
  commit_changed of i t new rest c commit is settles some h.0,
  commits_changed of i t new rest (c + 1) commits is settles (omega (arith, some)) h.1,
)

-- and where a connection gets a transaction
pub commits_grown : (of : ℕ → List Txn) (i : ℕ) (new : Txn) (c : ℕ) (commits : List Commit) → AreCommits of c commits → AreCommits (but of i (new ∷ of i)) c commits
commits_grown of i new c [] h = tt
commits_grown of i new c (commit ∷ commits) h = (
  (h.0.0, grown_here of i new commit.conn h.0.0 h.0.1, h.0.2, h.0.3, h.0.4, h.0.5),
  commits_grown of i new (c + 1) commits h.1,
)

-- a log with one more entry
pub commits_pushed : (of : ℕ → List Txn) (c : ℕ) (commits : List Commit) (commit : Commit) → AreCommits of c commits → IsCommitOf of (c + length commits) commit
    → AreCommits of c (commits ++ commit ∷ [])
commits_pushed of c [] commit h last = (subst (λ n. IsCommitOf of n commit) (omega arith) last, tt)
commits_pushed of c (first ∷ commits) commit h last =
    (h.0, commits_pushed of (c + 1) commits commit h.1 (subst (λ n. IsCommitOf of n commit) (omega arith) last))

-- whatever an entry does to the connection's transactions and to the log
kept_with : (drawn room larger more : ℕ) (commits longer : List Commit) (accounts : List (List Entry)) (i : ℕ) (account : List Entry) (entry : Entry) (now : List Txn)
    → IsKept drawn commits room accounts → account ≡ entry ∷ get_or accounts i [] → i < length accounts
    → IsSound (machine_of more longer (with_entry (machine_of drawn commits accounts) i entry).accounts)
    → after_entry entry (txns_of (machine_of drawn commits accounts) i) ≡ now → AreCommits (but (txns_of (machine_of drawn commits accounts)) i now) 1 longer
    → ((j : ℕ) (u : Txn) → Among u (but (txns_of (machine_of drawn commits accounts)) i now j) → (key : List ℕ) → HasWritten u key → IsShortKey key)
    → more < 2 ^ 32 → more ≤ larger → IsKept more longer larger (slice_set accounts i account)
kept_with drawn room larger more commits longer accounts i account entry now kept is within sound as_now logged short bounded roomy =
    let m = machine_of drawn commits accounts in
    let is_now : txns_of (with_entry m i entry) ≡ but (txns_of m) i now = txns_of-entered m i entry within ∙ ap (but (txns_of m) i) as_now in
    let there : slice_set accounts i account ≡ (with_entry m i entry).accounts = rw is refl in
    rw there record {
      sound = sound;
      logged = subst (λ (of : ℕ → List Txn). AreCommits of 1 longer) (sym is_now) logged;
      short = λ j u key there_now written. short j u (subst (λ (of : ℕ → List Txn). Among u (of j)) is_now there_now) key written;
      few = rw (length-set accounts i (entry ∷ get_or accounts i [])) kept.few;
      bounded = bounded;
      roomy = roomy;
    }

-- a short key is where one was, and where one comes
short_with : (drawn room : ℕ) (commits : List Commit) (accounts : List (List Entry)) (i : ℕ) (t new : Txn) (rest : List Txn)
    → IsKept drawn commits room accounts → txns_of (machine_of drawn commits accounts) i ≡ t ∷ rest → Settles t new
    → (j : ℕ) (u : Txn) → Among u (but (txns_of (machine_of drawn commits accounts)) i (new ∷ rest) j) → (key : List ℕ) → HasWritten u key → IsShortKey key
short_with drawn room commits accounts i t new rest kept is settles =
    each_either (txns_of (machine_of drawn commits accounts)) i t rest is new (λ j u. (key : List ℕ) → HasWritten u key → IsShortKey key)
    (settles.short (λ key written. kept.short i t key (subst (Among t) (sym is) (inl refl)) written))
    (λ j u there key written. kept.short j u key there written)

-- room is made for the writes of an open transaction, which is a note
pub kept_room : (drawn room : ℕ) (commits : List Commit) (accounts : List (List Entry)) (i : ℕ) (account : List Entry) (writes : List Write)
    → IsKept drawn commits room accounts → account ≡ Reserved i writes ∷ get_or accounts i []
    → WhenOpen (txns_of (machine_of drawn commits accounts) i) (λ t. (t.id ≢ 0) × (t.weight ≡ None)) → IsKept drawn commits room (slice_set accounts i account)
kept_room drawn room commits accounts i account writes kept is open_now =
    let m = machine_of drawn commits accounts in
    let o = opened (txns_of m i) (λ t. (t.id ≢ 0) × (t.weight ≡ None)) open_now in
    let settles : Settles o.t (after_reserve writes o.t) = record { decided = λ some. (refl, refl, refl, refl); short = λ short. short } in
    kept_with drawn room room drawn commits commits accounts i account (Reserved i writes) (after_reserve writes o.t ∷ o.rest) kept is (in_range m i o.t o.rest o.is)
    (step_sound m (Reserved i writes) kept.sound open_now) (ap (newest_changed (after_reserve writes)) o.is)
    (commits_changed (txns_of m) i o.t (after_reserve writes o.t) o.rest 1 commits o.is settles (omega arith) kept.logged)
    (short_with drawn room commits accounts i o.t (after_reserve writes o.t) o.rest kept o.is settles) kept.bounded kept.roomy

-- the accounts after an entry are those of the table
module _ (drawn : ℕ) (commits : List Commit) (accounts : List (List Entry)) (i : ℕ) (account : List Entry) (event same : Event) (outcome : Outcome)
    (is : account ≡ entry_of event outcome ∷ get_or accounts i []) (form : event ≡ same) where
  abbrev m : Machine
  m = machine_of drawn commits accounts

  -- whatever the event does to the connection's transactions and to the log
  pub kept_entered : (room larger more : ℕ) (longer : List Commit) (now : List Txn) → IsKept drawn commits room accounts → Answers m same outcome
      → i < length accounts → after m same outcome ≡ machine_of more longer (entered m i same outcome).accounts
      → after_event same outcome (txns_of m i) ≡ now → AreCommits (but (txns_of m) i now) 1 longer
      → ((j : ℕ) (u : Txn) → Among u (but (txns_of m) i now j) → (key : List ℕ) → HasWritten u key → IsShortKey key)
      → more < 2 ^ 32 → more ≤ larger → IsKept more longer larger (slice_set accounts i account)
  kept_entered room larger more longer now kept answers within as_after as_now logged short bounded roomy =
      kept_with drawn room larger more commits longer accounts i account (entry_of same outcome) now kept (is ∙ ap (λ e. entry_of e outcome ∷ get_or accounts i []) form) within
      (subst IsSound as_after (sound_with m same outcome kept.sound answers)) as_now logged short bounded roomy

  -- a short key is where one was, and where one comes
  pub short_changed : (room : ℕ) (t new : Txn) (rest : List Txn) → IsKept drawn commits room accounts → txns_of m i ≡ t ∷ rest → Settles t new
      → (j : ℕ) (u : Txn) → Among u (but (txns_of m) i (new ∷ rest) j) → (key : List ℕ) → HasWritten u key → IsShortKey key
  short_changed room t new rest = short_with drawn room commits accounts i t new rest

  -- the newest transaction changes, and neither the log nor the number of ids does
  pub kept_changed : (room : ℕ) (f : Txn → Txn) → IsKept drawn commits room accounts → Answers m same outcome
      → after m same outcome ≡ entered m i same outcome → ((ts : List Txn) → after_event same outcome ts ≡ newest_changed f ts)
      → WhenOpen (txns_of m i) (λ t. Settles t (f t)) → IsKept drawn commits room (slice_set accounts i account)
  kept_changed room f kept answers as_after as_change open_now =
      let o = opened (txns_of m i) (λ t. Settles t (f t)) open_now in
      kept_entered room room drawn commits (f o.t ∷ o.rest) kept answers (in_range m i o.t o.rest o.is) as_after
      (as_change (txns_of m i) ∙ ap (newest_changed f) o.is)
      (commits_changed (txns_of m) i o.t (f o.t) o.rest 1 commits o.is o.holds (omega arith) kept.logged)
      (short_changed room o.t (f o.t) o.rest kept o.is o.holds) kept.bounded kept.roomy

  -- a transaction begins
  pub kept_begun : (room snapshot : ℕ) → IsKept drawn commits room accounts → Answers m same outcome → i < length accounts
      → after m same outcome ≡ entered m i same outcome → ((ts : List Txn) → after_event same outcome ts ≡ begun_at snapshot ∷ ts)
      → IsKept drawn commits room (slice_set accounts i account)
  kept_begun room snapshot kept answers within as_after as_change =
      kept_entered room room drawn commits (begun_at snapshot ∷ txns_of m i) kept answers within as_after (as_change (txns_of m i))
      (commits_grown (txns_of m) i (begun_at snapshot) 1 commits kept.logged)
      (each_grown (txns_of m) i (begun_at snapshot) (λ j u. (key : List ℕ) → HasWritten u key → IsShortKey key)
      (λ key written. absurd written.1) (λ j u there key written. kept.short j u key there written))
      kept.bounded kept.roomy

-- a new machine keeps nothing
pub kept_start : (conns room : ℕ) → conns < 2 ^ 32 → IsKept 0 [] room (replicate conns [])
kept_start conns room few = record {
  sound = start_sound conns;
  logged = tt;
  short = λ i t key there. absurd (subst (Among t) (txns_of-start conns i) there);
  few = subst (λ n. n < 2 ^ 32) (sym (length-replicate conns [])) few;
  bounded = omega arith;
  roomy = omega arith;
}
