-- What reads, puts, checks and purges are answered, by what is kept of an open transaction and what was found.
use Rattle.std.proofs.Common.{◌≡◌, ◌≢◌, ◌∙◌, ⊎_elim, refl, sym, ap, subst, inl, inr, ℕ, ◌+◌, ◌<◌, ◌≤◌, true, false, Option, List, [], ◌∷◌, length, arith, get_or, slice_set}
use Rattle.hc_core.specs.Keys.{IsShortKey}
use Rattle.std.proofs.lemmas.Bool.{cases_lt}
use Rattle.std.proofs.lemmas.List.{set-get_or}
use Rattle.hc_range.specs.declared.range.Range.{Range}
use Rattle.hc_core.specs.Account.{Txn, HasWritten, WhenOpen, part_of}
use Rattle.hc_core.specs.Calls.{AreSnapshotCells, MayPutReserved}
use Rattle.hc_core.specs.Kept.{IsKept}
use Rattle.hc_core.specs.Machine.{Answers, IsEnabled, IsFree, IsUnchanged, Machine, Names, txns_of}
use Rattle.hc_core.specs.Running.{Matches, MayPut, holds_key}
use Rattle.hc_base.specs.Lookup.{Among}
use Rattle.hc_core.specs.Sound.{AreInOrder, IsSound}
use Rattle.hc_core.specs.Versions.{AreCellsAfter, IsFound, IsInTheWay}
use Rattle.hc_core.specs.declared.account.Entry.{Entry}
use Rattle.hc_core.specs.declared.cells.Cell.{Cell}
use Rattle.hc_core.specs.declared.cells.Write.{Write}
use Rattle.hc_core.specs.declared.commit.Commit.{Commit}
use Rattle.hc_core.specs.declared.event.Event.TheVariants.{Read, Put, Check}
use Rattle.hc_core.specs.declared.outcome.Met.{Met as MetRecord}
use Rattle.hc_core.specs.declared.outcome.Outcome.TheVariants.{Done, Cells, Met}
use Rattle.hc_core.specs.declared.running.Running.{Running}
use Rattle.hc_core.proofs.Conns.{of_both}
use Rattle.hc_core.proofs.Entered.{opened}
use Rattle.hc_core.proofs.Ordered.{after_each, newest_sound}
use Rattle.hc_core.proofs.Upheld.{Settles}
use Rattle.hc_core.proofs.Steps.{held_of, not_both_ways, written_of, when_map, when_never}

-- a snapshot is not above the log's end
pub snapshot_within : (m : Machine) (i : ℕ) (r : Running) → IsSound m → WhenOpen (txns_of m i) (Matches r) → r.snapshot ≤ length m.log
snapshot_within m i r sound h =
    let o = opened (txns_of m i) (Matches r) h in
    subst (λ n. n ≤ length m.log) (sym (o.holds).snapshot) ((newest_sound sound.sound i o.t o.rest o.is).numbers.snapshot_within)

-- nothing has changed
pub kept_same : (drawn : ℕ) (commits : List Commit) (room : ℕ) (accounts : List (List Entry)) (i : ℕ) (account old d : List Entry)
    → IsKept drawn commits room accounts → account ≡ old → old ≡ get_or accounts i d → IsKept drawn commits room (slice_set accounts i account)
kept_same drawn commits room accounts i account old d kept same was =
    let whole : slice_set accounts i account ≡ accounts = ap (slice_set accounts i) (same ∙ was) ∙ set-get_or accounts i d in
    subst (IsKept drawn commits room) (sym whole) kept

-- a read is answered with the cells of the snapshot
pub read_is : (m : Machine) (i : ℕ) (part : Range) (cells : List Cell) → WhenOpen (txns_of m i) (λ t. t.id ≡ 0) → AreSnapshotCells m i part cells
    → Answers m (Read i part.lo part.hi) (Cells (record { cells = cells }))
read_is m i part cells reading are = inl (
  reading,
  when_map (λ t. AreCellsAfter (txns_of m) t.snapshot part cells) _ (txns_of m i) (λ t h. (cells, h, refl)) are,
)

-- who may put
pub put_enabled : (m : Machine) (i : ℕ) (key : List ℕ) (rec : Option (List ℕ)) (r : Running) → WhenOpen (txns_of m i) (Matches r) → MayPut r key → IsEnabled m (Put i key rec)
put_enabled m i key rec r h may =
    when_map (Matches r) _ (txns_of m i)
    (λ t k. (
      (λ none. may.0 (k.id ∙ none)),
      sym k.place ∙ may.1,
      sym k.proposed ∙ may.2,
      λ written. not_both_ways (holds_key key r.writes.put) (held_of r t key k (sym k.place ∙ may.1) written) may.3,
    )) h

-- who may not put has no put that is enabled
pub put_disabled : (m : Machine) (i : ℕ) (key : List ℕ) (rec : Option (List ℕ)) (r : Running) → WhenOpen (txns_of m i) (Matches r) → (MayPut r key → ⊥)
    → IsEnabled m (Put i key rec) → ⊥
put_disabled m i key rec r h not_may enabled =
    when_never (Matches r) _ (txns_of m i)
    (λ t k q. not_may (
      (λ none. q.0 (sym k.id ∙ none)),
      k.place ∙ q.1,
      k.proposed ∙ q.2,
      false_from (holds_key key r.writes.put) (λ held. q.3 ((written_of r t key k (k.place ∙ q.1) held).0)),
    )) h enabled
  where
    false_from : (b : _) → (b ≡ true → ⊥) → b ≡ false
    false_from true never = absurd (never refl)
    false_from false never = refl

-- a put that is enabled and meets nothing is done
pub put_done_of : (m : Machine) (i : ℕ) (key : List ℕ) (rec : Option (List ℕ)) (r : Running) → WhenOpen (txns_of m i) (Matches r) → IsEnabled m (Put i key rec)
    → IsFree (txns_of m) i r.snapshot key → Answers m (Put i key rec) Done
put_done_of m i key rec r h enabled free = inl (
  enabled,
  when_map (Matches r) _ (txns_of m i) (λ t k. inr (subst (λ n. IsFree (txns_of m) i n key) k.snapshot free, refl)) h,
)

-- one that meets another is refused with its name
pub put_refused_of : (m : Machine) (i : ℕ) (key : List ℕ) (rec : Option (List ℕ)) (r : Running) (met : MetRecord) → WhenOpen (txns_of m i) (Matches r) → IsEnabled m (Put i key rec)
    → (j : ℕ) × (u : Txn) × IsInTheWay (txns_of m) i r.snapshot key j u × Names met j u key → Answers m (Put i key rec) (Met met)
put_refused_of m i key rec r met h enabled way = inl (
  enabled,
  when_map (Matches r) _ (txns_of m i)
      (λ t k. inl (met, way.0, way.1, subst (λ n. IsInTheWay (txns_of m) i n key way.0 way.1) k.snapshot way.2, way.3, refl)) h,
)

-- likewise by what is kept
pub put_done : (m : Machine) (i : ℕ) (key : List ℕ) (rec : Option (List ℕ)) (r : Running) → WhenOpen (txns_of m i) (Matches r) → MayPut r key
    → IsFree (txns_of m) i r.snapshot key → Answers m (Put i key rec) Done
put_done m i key rec r h may = put_done_of m i key rec r h (put_enabled m i key rec r h may)

pub put_refused : (m : Machine) (i : ℕ) (key : List ℕ) (rec : Option (List ℕ)) (r : Running) (met : MetRecord) → WhenOpen (txns_of m i) (Matches r) → MayPut r key
    → (j : ℕ) × (u : Txn) × IsInTheWay (txns_of m) i r.snapshot key j u × Names met j u key → Answers m (Put i key rec) (Met met)
put_refused m i key rec r met h may = put_refused_of m i key rec r met h (put_enabled m i key rec r h may)

-- the connection's own open transaction does not have the key
pub own_free : (m : Machine) (i : ℕ) (key : List ℕ) → WhenOpen (txns_of m i) (λ t. HasWritten t key → ⊥)
    → WhenOpen (txns_of m i) (λ t. (t.place ≡ 0) × HasWritten t key) → ⊥
own_free m i key free written = when_never (λ t. HasWritten t key → ⊥) _ (txns_of m i) (λ t never q. never q.1) free written

pub own_closed : (m : Machine) (i : ℕ) (key : List ℕ) (r : Running) → WhenOpen (txns_of m i) (Matches r) → MayPut r key
    → WhenOpen (txns_of m i) (λ t. (t.place ≡ 0) × HasWritten t key) → ⊥
own_closed m i key r h may written =
    when_never (Matches r) _ (txns_of m i) (λ t k q. not_both_ways (holds_key key r.writes.put) (held_of r t key k q.0 q.1) may.3) h written

-- a check that finds nothing is done
pub check_done : (m : Machine) (i : ℕ) (from : List ℕ) (upto : Option (List ℕ)) (r : Running) → WhenOpen (txns_of m i) (Matches r) → (r.proposed ≡ 0 → ⊥)
    → IsUnchanged (txns_of m) r.snapshot r.proposed (part_of from upto) → Answers m (Check i from upto) Done
check_done m i from upto r h some free = inl (
  when_map (Matches r) _ (txns_of m i) (λ t k none. some (k.proposed ∙ none)) h,
  when_map (Matches r) _ (txns_of m i)
      (λ t k. inr (
        subst (λ n. IsUnchanged (txns_of m) n t.proposed (part_of from upto)) k.snapshot
            (subst (λ n. IsUnchanged (txns_of m) r.snapshot n (part_of from upto)) k.proposed free),
        refl,
      )) h,
)

-- a check that finds a commit between is refused with its name
pub check_refused : (m : Machine) (i : ℕ) (from : List ℕ) (upto : Option (List ℕ)) (r : Running) (met : MetRecord) → WhenOpen (txns_of m i) (Matches r)
    → (r.proposed ≡ 0 → ⊥) → (j : ℕ) × (u : Txn) × IsFound (txns_of m) r.snapshot r.proposed (part_of from upto) met.key j u × Names met j u met.key
    → Answers m (Check i from upto) (Met met)
check_refused m i from upto r met h some found = inl (
  when_map (Matches r) _ (txns_of m i) (λ t k none. some (k.proposed ∙ none)) h,
  when_map (Matches r) _ (txns_of m i)
      (λ t k. inl (
        met,
        met.key,
        found.0,
        found.1,
        subst (λ n. IsFound (txns_of m) n t.proposed (part_of from upto) met.key found.0 found.1) k.snapshot
            (subst (λ n. IsFound (txns_of m) r.snapshot n (part_of from upto) met.key found.0 found.1) k.proposed found.2),
        found.3,
        refl,
      )) h,
)

-- a short key put by an undecided transaction
pub settles_put : (key : List ℕ) (rec : Option (List ℕ)) (t : Txn) → t.place ≡ 0 → IsShortKey key
    → Settles t (record t { write_set = record { key = key; rec = rec } ∷ t.write_set; puts = record { key = key; rec = rec } ∷ t.puts })
settles_put key rec t undecided short = record {
  decided = λ some. absurd (some undecided);
  short = λ all other written. elim (written.1) [
    | inl same ↦ subst (λ k. IsShortKey k) (sym (ap (λ (w : Write). w.key) same)) short
    | inr there ↦ all other (written.0, there)
  ];
}

-- an open transaction is the newest of its connection
pub open_newest : (ts : List Txn) (t : Txn) (Q : Txn → Type 0) → AreInOrder ts → Among t ts → t.ended ≡ false → Q t → WhenOpen ts Q
open_newest [] t Q ordered there running q = absurd there
open_newest (u ∷ us) t Q ordered there running q =
    elim there [
      | inl same ↦ (subst (λ (v : Txn). v.ended ≡ false) same running, subst Q same q)
      | inr older ↦ absurd (not_both_ways t.ended ((after_each u t us ordered.0 older).ended) running)
    ]

-- each open transaction sees the commit at a place
pub seen_by_all : (m : Machine) (place : ℕ) → IsSound m → ((i : ℕ) → WhenOpen (txns_of m i) (λ t. t.snapshot ≤ place) → ⊥)
    → (i : ℕ) (t : Txn) → Among t (txns_of m i) → t.ended ≡ false → place + 1 ≤ t.snapshot
seen_by_all m place sound all i t there running =
    ⊎_elim (λ (high : place < t.snapshot). omega (arith, high))
    (λ (low : t.snapshot ≤ place). absurd (all i (open_newest (txns_of m i) t (λ u. u.snapshot ≤ place) (sound.sound.in_order i) there running low)))
    (cases_lt place t.snapshot)

-- and the other way round: where each sees it, none has a snapshot without it
pub seen_by_each : (m : Machine) (place : ℕ) → ((i : ℕ) (t : Txn) → Among t (txns_of m i) → t.ended ≡ false → place + 1 ≤ t.snapshot)
    → (i : ℕ) → WhenOpen (txns_of m i) (λ t. t.snapshot ≤ place) → ⊥
seen_by_each m place all i low =
    let o = opened (txns_of m i) (λ t. t.snapshot ≤ place) low in
    omega (arith, o.holds, all i o.t (subst (Among o.t) (sym o.is) (inl refl)) o.running)

-- a transaction that proposes has something proposed
pub something_proposed : (ts : List Txn) (r : Running) → WhenOpen ts (Matches r) → WhenOpen ts (λ t. t.proposed ≢ 0) → r.proposed ≡ 0 → ⊥
something_proposed ts r h proposing none = when_never (Matches r) (λ t. t.proposed ≢ 0) ts (λ t k some. some (sym k.proposed ∙ none)) h proposing

-- a write for which there is room has a short key
pub reserved_short : (ts : List Txn) (r : Running) (key : List ℕ) (rec : Option (List ℕ)) → WhenOpen ts (Matches r) → WhenOpen ts (MayPutReserved key rec) → IsShortKey key
reserved_short ts r key rec h may = of_both (Matches r) (MayPutReserved key rec) (IsShortKey key) ts h may (λ t k q. k.short (record { key = key; rec = rec }) q.3)
