-- A sound machine answers each event: what is enabled can be decided, and what the table asks for is there.
use Rattle.std.proofs.Common.{◌≡◌, ◌≢◌, ◌⊎◌, ◌^◌, inl, inr, ⊎_elim, refl, sym, ap, subst, ℕ, zero, suc, ◌+◌, ◌-◌, ◌<◌, ◌≤◌, true, false, Option, Some, None, List, [], ◌∷◌, ◌↔◌, length, arith}
use Rattle.std.proofs.lemmas.Bool.{cases_eq, cases_lt}
use Rattle.hc_range.specs.declared.range.Range.{Range}
use Rattle.hc_range.specs.Ranges.{Includes}
use Rattle.hc_base.specs.Lookup.{Among}
use Rattle.hc_core.specs.Account.{Txn, HoldsKey, IsIdle, PartRead, HasWritten, HasWrittenAs, WhenOpen, part_of}
use Rattle.hc_core.specs.Commits.{cells_with, holds_tombstone, is_in, least_with}
use Rattle.hc_core.specs.Machine.{Answers, IsAnswer, IsCheckAnswer, IsDecideAnswer, IsEnabled, IsForgettable, IsPutAnswer, Machine, Names, next_number, txns_of}
use Rattle.hc_core.specs.Sound.{IsSound}
use Rattle.hc_core.specs.Versions.{AreCellsAfter, IsBetween, IsLatestVersion, IsFound, PutAt}
use Rattle.hc_core.specs.declared.cells.Cell.{Cell}
use Rattle.hc_core.specs.declared.event.Event.{Event}
use Rattle.hc_core.specs.declared.event.Event.TheVariants.{Begin, Draw, Read, Put, Propose, Check, Decide, Unput, End, Purge}
use Rattle.hc_core.specs.declared.outcome.Met.{Met as MetRecord}
use Rattle.hc_core.specs.declared.outcome.Outcome.{Outcome}
use Rattle.hc_core.specs.declared.outcome.Outcome.TheVariants.{Done, Cells, Met, NotNow}
use Rattle.hc_core.proofs.Asked.{seen_by_all, seen_by_each}
use Rattle.hc_core.proofs.Entered.{opened}
use Rattle.hc_core.proofs.Included.{known_included}
use Rattle.hc_core.proofs.Known.{IsLast, Known, known_as, known_below, known_both, known_each, known_either, known_holds, known_none, known_not, known_open, known_true, last_below}
use Rattle.hc_core.proofs.LogAnswers.{open_in_the_way, writer_placed}
use Rattle.hc_core.proofs.LogCells.{cells_first, cells_next, once_one}
use Rattle.hc_core.proofs.LogEntries.{tombstone_from, tombstone_into}
use Rattle.hc_core.proofs.LogLeast.{IsLeast, in_range, in_test, least_same, least_writes}
use Rattle.hc_core.proofs.OneAnswer.{first_one}
use Rattle.hc_core.proofs.Ordered.{newest_sound, one_place}
use Rattle.hc_core.proofs.Steps.{open_in_range, when_map}

-- whether a number is 0
known_zero : (n : ℕ) → Known (n ≡ 0)
known_zero n = cases_eq n 0

-- whether no transaction is open
known_idle : (ts : List Txn) → Known (IsIdle ts)
known_idle [] = inl tt
known_idle (t ∷ ts) = known_true t.ended

-- what holds of the open transaction
when_is : (ts : List Txn) (t : Txn) (rest : List Txn) (P : Txn → Type 0) → ts ≡ t ∷ rest → t.ended ≡ false → P t → WhenOpen ts P
when_is ts t rest P is running p = subst (λ (us : List Txn). WhenOpen us P) (sym is) (running, p)

-- how a refusal names a transaction
met_of : ℕ → Txn → List ℕ → MetRecord
met_of j u key = record { tid = record { 0 = u.id }; conn = j; ord = u.ord; key = key }

-- what is so made of a transaction and a key names them
names_of : (j : ℕ) (u : Txn) (key : List ℕ) → Names (met_of j u key) j u key
unfolding met_of
names_of j u key = (refl, refl, refl, refl)

module _ (m : Machine) (s : IsSound m) where
  -- the commit with the number c + 1 put a key
  abbrev HasPut : List ℕ → ℕ → Type 0
  HasPut key c = (rec : Option (List ℕ)) × PutAt (txns_of m) (c + 1) key rec

  -- it put what is written in the transaction that the log has there
  puts_are : (c : ℕ) (within : c < length m.log) (key : List ℕ) (rec : Option (List ℕ))
      → PutAt (txns_of m) (c + 1) key rec ↔ Among (record { key = key; rec = rec }) (s.sound.entries c within).1.write_set
  puts_are c within key rec =
      let e = s.sound.entries c within in (
        λ put.
            let same = one_place s.sound put.0 e.0 put.1 e.1 put.2 e.2 (λ none. omega (arith, none, put.3)) (omega (arith, put.3, e.3)) in
            subst (λ (t : Txn). Among (record { key = key; rec = rec }) t.write_set) same.1 put.5,
        λ there. (e.0, e.1, e.2, e.3, omega arith, there),
      )

  -- whether a commit put a key
  known_put : (key : List ℕ) (c : ℕ) → c < length m.log → Known (HasPut key c)
  known_put key c within =
      let ws = (s.sound.entries c within).1.write_set in
      known_as (HoldsKey ws key) (HasPut key c) (λ held. (held.0, (puts_are c within key held.0).1 held.1))
      (λ put. (put.0, (puts_are c within key put.0).0 put.1)) (known_holds key ws)

  -- the last of the first commits that put a key, or that none of them did
  last_put : (key : List ℕ) (n : ℕ) → n ≤ length m.log → ((c : ℕ) × IsLast (HasPut key) n c) ⊎ ((c : ℕ) → c < n → HasPut key c → ⊥)
  last_put key n within = last_below (HasPut key) n (λ c below. known_put key c (omega (arith, below, within)))

  -- what is written in a committed transaction is what its commit put
  was_put : (key : List ℕ) (j : ℕ) (u : Txn) → Among u (txns_of m j) → u.place ≢ 0 → HasWritten u key → (u.place - 1 < length m.log) × HasPut key (u.place - 1)
  was_put key j u there placed written =
      let at : u.place ≡ (u.place - 1) + 1 = omega arith in
      (omega (arith, at, ((s.sound.each j u there).numbers.place_within placed).1), (written.0, (j, u, there, at, omega arith, written.1)))

  -- nothing that put the key is newer than the last commit that did
  not_newer : (key : List ℕ) (n c : ℕ) → IsLast (HasPut key) n c → (j : ℕ) (u : Txn) → Among u (txns_of m j) → u.place ≤ n → HasWritten u key → u.place ≤ c + 1
  not_newer key n c last j u there upto written =
      ⊎_elim
      (λ (above : c + 1 < u.place).
      let placed : u.place ≢ 0 = (λ none. omega (arith, none, above)) in
      absurd (last.2 (u.place - 1) (omega (arith, above)) (omega (arith, above, upto)) (was_put key j u there placed written).1))
      (λ within. within) (cases_lt (c + 1) u.place)

  -- an open transaction that is undecided and has the key
  abbrev IsOpenWith : List ℕ → ℕ → Type 0
  IsOpenWith key j = WhenOpen (txns_of m j) (λ u. (u.place ≡ 0) × HasWritten u key)

  -- there is such a connection, or none
  open_with : (key : List ℕ) → ((j : ℕ) × IsOpenWith key j) ⊎ ((j : ℕ) → IsOpenWith key j → ⊥)
  open_with key =
      ⊎_elim
      (λ found. inl (found.0, found.1.1))
      (λ none. inr (λ j running. none j (open_in_range m j (λ u. (u.place ≡ 0) × HasWritten u key) running) running))
      (last_below (IsOpenWith key) (length m.accounts)
      (λ j below. known_open (λ u. (u.place ≡ 0) × HasWritten u key) (txns_of m j) (λ u. known_both (u.place ≡ 0) (HasWritten u key) (known_zero u.place) (known_holds key u.write_set))))

  -- where no open transaction has the key, the last commit that put it has its first version
  first_is : (key : List ℕ) → ((j : ℕ) → IsOpenWith key j → ⊥) → (c : ℕ) → (last : IsLast (HasPut key) (length m.log) c)
      → IsLatestVersion (txns_of m) key last.1.1.0 last.1.1.1
  first_is key none_open c last =
      let put = last.1.1 in (
        put.2,
        (last.1.0, put.5),
        inr (
          (λ none. omega (arith, none, put.3)),
          λ j v there written.
              let placed = writer_placed s.sound key none_open j v there written in
              (placed, omega (arith, put.3, not_newer key (length m.log) c last j v there ((s.sound.each j v there).numbers.place_within placed).1 written)),
        ),
      )

  -- a put of a key that is not in the write set has an answer
  put_answer : (i : ℕ) (key : List ℕ) (t : Txn) (rest : List Txn) → txns_of m i ≡ t ∷ rest → (HasWritten t key → ⊥) → (outcome : Outcome) × IsPutAnswer m i key t outcome
  put_answer i key t rest is not_written =
      ⊎_elim
      (λ w. ⊎_elim
      (λ (own : w.0 ≡ i). absurd (
      let here : IsOpenWith key i = subst (λ (j : ℕ). IsOpenWith key j) own w.1 in
      not_written ((subst (λ (ts : List Txn). WhenOpen ts (λ u. (u.place ≡ 0) × HasWritten u key)) is here).1.1)))
      (λ differ.
      let way = open_in_the_way s.sound i t.snapshot key w.0 differ (λ _. Unit {0})
      (when_map (λ u. (u.place ≡ 0) × HasWritten u key) (λ u. (u.place ≡ 0) × HasWritten u key × Unit {0}) (txns_of m w.0) (λ u both. (both.0, both.1, tt)) w.1) in
      (Met (met_of w.0 way.0 key), inl (met_of w.0 way.0 key, w.0, way.0, way.1, names_of w.0 way.0 key, refl)))
      (cases_eq w.0 i))
      (λ none_open. ⊎_elim
      (λ l. by_log none_open l.0 l.1)
      (λ none. (
        Done,
        inr (
          (λ j v there written.
              let placed = writer_placed s.sound key none_open j v there written in
              let put = was_put key j v there placed written in
              absurd (none (v.place - 1) put.0 put.1)),
          refl,
        ),
      ))
      (last_put key (length m.log) (omega arith)))
      (open_with key)
    where
      by_log : ((j : ℕ) → IsOpenWith key j → ⊥) → (c : ℕ) → IsLast (HasPut key) (length m.log) c → (outcome : Outcome) × IsPutAnswer m i key t outcome
      by_log none_open c last =
          let put = last.1.1 in
          ⊎_elim
          (λ (above : t.snapshot < c + 1). (
            Met (met_of put.0 put.1 key),
            inl (met_of put.0 put.1 key, put.0, put.1, (first_is key none_open c last, inr (omega (arith, above, put.3))), names_of put.0 put.1 key, refl),
          ))
          (λ (seen : c + 1 ≤ t.snapshot). (
            Done,
            inr (
              (λ j v there written.
                  let placed = writer_placed s.sound key none_open j v there written in
                  (inl placed, omega (arith, seen, not_newer key (length m.log) c last j v there ((s.sound.each j v there).numbers.place_within placed).1 written))),
              refl,
            ),
          ))
          (cases_lt t.snapshot (c + 1))

  -- one of the commits with the numbers from `from` + 1 up to n put a key
  abbrev IsPutFrom : ℕ → ℕ → List ℕ → Type 0
  IsPutFrom from n key = (c : ℕ) × (from ≤ c) × (c < n) × HasPut key c

  -- the least key of the part that they put
  least_from : (part : Range) (from n : ℕ) → n ≤ length m.log → (best : Option (List ℕ)) × IsLeast (λ key. (is_in part key ≡ true) × IsPutFrom from n key) best
  least_from part from zero within = (None, λ key p. omega (arith, p.1.2))
  least_from part from (suc n) within =
      let before = least_from part from n (omega (arith, within)) in
      let here : n < length m.log = omega (arith, within) in
      ⊎_elim
      (λ (low : n < from). (
        before.0,
        least_same (λ key. (is_in part key ≡ true) × IsPutFrom from n key) (λ key. (is_in part key ≡ true) × IsPutFrom from (suc n) key) before.0
            (λ key. (
              λ p. (p.0, (p.1.0, p.1.1, omega (arith, p.1.2), p.1.3)),
              λ p. (p.0, (p.1.0, p.1.1, omega (arith, low, p.1.1, p.1.2), p.1.3)),
            )) before.1,
      ))
      (λ (at : from ≤ n).
      let e = s.sound.entries n here in (
        least_with part before.0 e.1.write_set,
        least_same (λ key. ((is_in part key ≡ true) × IsPutFrom from n key) ⊎ ((is_in part key ≡ true) × HoldsKey e.1.write_set key))
            (λ key. (is_in part key ≡ true) × IsPutFrom from (suc n) key) (least_with part before.0 e.1.write_set)
            (λ key. (
              λ p. ⊎_elim
                  (λ was. (was.0, (was.1.0, was.1.1, omega (arith, was.1.2), was.1.3)))
                  (λ now. (now.0, (n, at, omega arith, (now.1.0, (puts_are n here key now.1.0).1 now.1.1)))) p,
              λ p. ⊎_elim
                  (λ (last : p.1.0 ≡ n). inr (p.0, (p.1.3.0, (puts_are n here key p.1.3.0).0 (subst (λ (c : ℕ). PutAt (txns_of m) (c + 1) key p.1.3.0) last p.1.3.1))))
                  (λ differ. inl (p.0, (p.1.0, p.1.1, omega (arith, p.1.2, differ), p.1.3))) (cases_eq p.1.0 n),
            ))
            (least_writes (λ key. (is_in part key ≡ true) × IsPutFrom from n key) part before.0 e.1.write_set before.1),
      ))
      (cases_lt n from)

  -- a commit between is one of them
  between_put : (snapshot number : ℕ) (key : List ℕ) (j : ℕ) (u : Txn) → IsBetween (txns_of m) snapshot number key j u → IsPutFrom snapshot (number - 1) key
  between_put snapshot number key j u between =
      let placed : u.place ≢ 0 = (λ none. omega (arith, none, between.1)) in
      (u.place - 1, omega (arith, between.1), omega (arith, between.1, between.2), (was_put key j u between.0 placed between.3).1)

  -- a check has an answer
  check_answer : (part : Range) (t : Txn) → t.proposed - 1 ≤ length m.log → (outcome : Outcome) × IsCheckAnswer m part t outcome
  check_answer part t within = let least = least_from part t.snapshot (t.proposed - 1) within in by_least least.0 least.1
    where
      by_last : (key : List ℕ) → IsLeast (λ k. (is_in part k ≡ true) × IsPutFrom t.snapshot (t.proposed - 1) k) (Some key)
          → (c : ℕ) → IsLast (HasPut key) (t.proposed - 1) c → (outcome : Outcome) × IsCheckAnswer m part t outcome
      by_last key least c last =
          let put = last.1.1 in
          let first = least.0.1 in
          let above : t.snapshot ≤ c = ⊎_elim
          (λ later. absurd (last.2 first.0 later first.2 first.3)) (λ not_later. omega (arith, first.1, not_later)) (cases_lt c first.0) in
          let found : IsFound (txns_of m) t.snapshot t.proposed part key put.0 put.1 =
          record {
            between = (put.2, omega (arith, put.3, above), omega (arith, put.3, last.0), (last.1.0, put.5));
            inside = in_range part key least.0.0;
            least = λ other k v inside between. least.1 other (in_test part other inside, between_put t.snapshot t.proposed other k v between);
            newest = λ k v between. omega (arith, put.3, not_newer key (t.proposed - 1) c last k v between.0 (omega (arith, between.1, between.2)) between.3);
          } in
          (Met (met_of put.0 put.1 key), inl (met_of put.0 put.1 key, key, put.0, put.1, found, names_of put.0 put.1 key, refl))

      by_least : (best : Option (List ℕ)) → IsLeast (λ k. (is_in part k ≡ true) × IsPutFrom t.snapshot (t.proposed - 1) k) best
          → (outcome : Outcome) × IsCheckAnswer m part t outcome
      by_least None none = (Done, inr ((λ key j u inside between. none key (in_test part key inside, between_put t.snapshot t.proposed key j u between)), refl))
      by_least (Some key) least =
          ⊎_elim (λ l. by_last key least l.0 l.1) (λ none. absurd (none least.0.1.0 least.0.1.2 least.0.1.3)) (last_put key (t.proposed - 1) within)

  -- the cells of a part after the first commits are there
  cells_there : (part : Range) (k : ℕ) → k ≤ length m.log → (cells : List Cell) × AreCellsAfter (txns_of m) k part cells
  cells_there part zero within = ([], cells_first (txns_of m) part)
  cells_there part (suc k) within =
      let before = cells_there part k (omega (arith, within)) in
      let here : k < length m.log = omega (arith, within) in
      let e = s.sound.entries k here in
      let next : k + 1 ≡ suc k = omega arith in (
        cells_with part before.0 e.1.write_set,
        subst (λ (n : ℕ). AreCellsAfter (txns_of m) n part (cells_with part before.0 e.1.write_set)) next
            (cells_next (txns_of m) part k before.0 e.1.write_set (once_one e.1.write_set (s.sound.each e.0 e.1 e.2).writes.once) (puts_are k here) before.1),
      )

  -- a decision has an answer
  decide_answer : (t : Txn) → (outcome : Outcome) × IsDecideAnswer m t outcome
  decide_answer t = ⊎_elim (λ same. (_, inl (same, refl))) (λ differ. (_, inr (differ, refl))) (cases_eq t.proposed (next_number m))

  -- an enabled event has an answer
  answer_of : (event : Event) → IsEnabled m event → (outcome : Outcome) × IsAnswer m event outcome
  answer_of (Begin i) enabled = (_, refl)
  answer_of (Draw i ord) enabled = (_, refl)
  answer_of (Read i from upto) enabled =
      let o = opened (txns_of m i) (λ t. t.id ≡ 0) enabled in
      let c = cells_there (part_of from upto) o.t.snapshot (newest_sound s.sound i o.t o.rest o.is).numbers.snapshot_within in
      (Cells (record { cells = c.0 }), when_is (txns_of m i) o.t o.rest _ o.is o.running (c.0, c.1, refl))
  answer_of (Put i key rec) enabled =
      let o = opened (txns_of m i) (λ t. (t.id ≢ 0) × (t.place ≡ 0) × (t.proposed ≡ 0) × (HasWritten t key → ⊥)) enabled in
      let a = put_answer i key o.t o.rest o.is (o.holds).3 in
      (a.0, when_is (txns_of m i) o.t o.rest (λ t. IsPutAnswer m i key t a.0) o.is o.running a.1)
  answer_of (Propose i) enabled = (_, refl)
  answer_of (Check i from upto) enabled =
      let o = opened (txns_of m i) (λ t. t.proposed ≢ 0) enabled in
      let a = check_answer (part_of from upto) o.t (omega (arith, (newest_sound s.sound i o.t o.rest o.is).numbers.proposed_within)) in
      (a.0, when_is (txns_of m i) o.t o.rest (λ t. IsCheckAnswer m (part_of from upto) t a.0) o.is o.running a.1)
  answer_of (Decide i) enabled =
      let o = opened (txns_of m i) (λ t. (t.proposed ≢ 0) × (t.place ≡ 0) × ((read : PartRead) → Among read t.reads → Includes t.checked read.part)) enabled in
      let a = decide_answer o.t in
      (a.0, when_is (txns_of m i) o.t o.rest (λ t. IsDecideAnswer m t a.0) o.is o.running a.1)
  answer_of (Unput i key) enabled = (Done, refl)
  answer_of (End i) enabled = (Done, refl)
  answer_of (Purge key) enabled = (Done, refl)

  -- each open transaction sees the commit with the number c + 1, or one does not
  known_seen : (c : ℕ) → Known ((i : ℕ) (t : Txn) → Among t (txns_of m i) → t.ended ≡ false → c + 1 ≤ t.snapshot)
  known_seen c =
      ⊎_elim
      (λ found. inr (λ all. seen_by_each m c all found.0 found.1.1))
      (λ none. inl (seen_by_all m c s (λ i low. none i (open_in_range m i (λ t. t.snapshot ≤ c) low) low)))
      (last_below (λ i. WhenOpen (txns_of m i) (λ t. t.snapshot ≤ c)) (length m.accounts)
      (λ i below. known_open (λ t. t.snapshot ≤ c) (txns_of m i)
      (λ t. ⊎_elim (λ above. inr (λ low. omega (arith, above, low))) (λ low. inl low) (cases_lt c t.snapshot))))

  -- whether a key is forgettable
  known_forgettable : (key : List ℕ) → Known (IsForgettable (txns_of m) key)
  known_forgettable key =
      ⊎_elim
      (λ w. inr (λ f.
      let o = opened (txns_of m w.0) (λ u. (u.place ≡ 0) × HasWritten u key) w.1 in
      ⊎_elim (λ none. f.3 none) (λ placed. (placed.1 w.0 o.t (subst (Among o.t) (sym o.is) (inl refl)) (o.holds).1).0 (o.holds).0) f.2.2))
      (λ none_open. ⊎_elim
      (λ l. by_log none_open l.0 l.1)
      (λ none. inr (λ f. let put = was_put key f.0 f.1 f.2.0 f.3 f.2.1 in none (f.1.place - 1) put.0 put.1))
      (last_put key (length m.log) (omega arith)))
      (open_with key)
    where
      by_log : ((j : ℕ) → IsOpenWith key j → ⊥) → (c : ℕ) → IsLast (HasPut key) (length m.log) c → Known (IsForgettable (txns_of m) key)
      by_log none_open c last =
          let put = last.1.1 in
          let first = first_is key none_open c last in
          known_as (HasWrittenAs put.1 key None × ((i : ℕ) (t : Txn) → Among t (txns_of m i) → t.ended ≡ false → c + 1 ≤ t.snapshot)) (IsForgettable (txns_of m) key)
          (λ both. (put.0, put.1, first, (λ none. omega (arith, none, put.3)), both.0, λ i t there running. omega (arith, put.3, both.1 i t there running)))
          (λ f.
          let same = (first_one s.sound key f.0 put.0 f.1 put.1 f.2 first).1 in (
            subst (λ (u : Txn). HasWrittenAs u key None) same f.4,
            λ i t there running. omega (arith, put.3, ap (λ (u : Txn). u.place) same, f.5 i t there running),
          ))
          (known_both (HasWrittenAs put.1 key None) ((i : ℕ) (t : Txn) → Among t (txns_of m i) → t.ended ≡ false → c + 1 ≤ t.snapshot)
          (known_as (holds_tombstone key put.1.write_set ≡ true) (HasWrittenAs put.1 key None) (tombstone_into key put.1.write_set) (tombstone_from key put.1.write_set)
          (known_true (holds_tombstone key put.1.write_set)))
          (known_seen c))

  -- whether all parts that were read lie in some parts
  known_includes : (parts : List Range) (reads : List PartRead) → Known ((read : PartRead) → Among read reads → Includes parts read.part)
  known_includes parts reads = known_each (λ (read : PartRead). Includes parts read.part) reads (λ read. known_included parts read.part)

  -- whether an event is enabled
  known_enabled : (event : Event) → Known (IsEnabled m event)
  known_enabled (Begin i) = known_both (i < length m.accounts) (IsIdle (txns_of m i)) (known_below i (length m.accounts)) (known_idle (txns_of m i))
  known_enabled (Draw i ord) =
      known_open (λ t. (t.id ≡ 0) × (0 < ord) × ((u : Txn) → Among u (txns_of m i) → u.ord < ord) × (m.drawn < 2 ^ 32 - 1)) (txns_of m i)
      (λ t. known_as ((t.id ≡ 0) × ((0 < ord) × (((u : Txn) → Among u (txns_of m i) → u.ord < ord) × (m.drawn < 2 ^ 32 - 1)))) _
      (λ p. (p.0, p.1.0, p.1.1.0, p.1.1.1)) (λ p. (p.0, (p.1, (p.2, p.3))))
      (known_both (t.id ≡ 0) _ (known_zero t.id) (known_both (0 < ord) _ (known_below 0 ord)
      (known_both ((u : Txn) → Among u (txns_of m i) → u.ord < ord) (m.drawn < 2 ^ 32 - 1)
      (known_each (λ (u : Txn). u.ord < ord) (txns_of m i) (λ u. known_below u.ord ord)) (known_below m.drawn (2 ^ 32 - 1))))))
  known_enabled (Read i from upto) = known_open (λ t. t.id ≡ 0) (txns_of m i) (λ t. known_zero t.id)
  known_enabled (Put i key rec) =
      known_open (λ t. (t.id ≢ 0) × (t.place ≡ 0) × (t.proposed ≡ 0) × (HasWritten t key → ⊥)) (txns_of m i)
      (λ t. known_as ((t.id ≢ 0) × ((t.place ≡ 0) × ((t.proposed ≡ 0) × (HasWritten t key → ⊥)))) _
      (λ p. (p.0, p.1.0, p.1.1.0, p.1.1.1)) (λ p. (p.0, (p.1, (p.2, p.3))))
      (known_both (t.id ≢ 0) _ (known_not (t.id ≡ 0) (known_zero t.id)) (known_both (t.place ≡ 0) _ (known_zero t.place)
      (known_both (t.proposed ≡ 0) (HasWritten t key → ⊥) (known_zero t.proposed) (known_not (HasWritten t key) (known_holds key t.write_set))))))
  known_enabled (Propose i) =
      known_open (λ t. (t.id ≢ 0) × (t.place ≡ 0)) (txns_of m i)
      (λ t. known_both (t.id ≢ 0) (t.place ≡ 0) (known_not (t.id ≡ 0) (known_zero t.id)) (known_zero t.place))
  known_enabled (Check i from upto) = known_open (λ t. t.proposed ≢ 0) (txns_of m i) (λ t. known_not (t.proposed ≡ 0) (known_zero t.proposed))
  known_enabled (Decide i) =
      known_open (λ t. (t.proposed ≢ 0) × (t.place ≡ 0) × ((read : PartRead) → Among read t.reads → Includes t.checked read.part)) (txns_of m i)
      (λ t. known_as ((t.proposed ≢ 0) × ((t.place ≡ 0) × ((read : PartRead) → Among read t.reads → Includes t.checked read.part))) _
      (λ p. (p.0, p.1.0, p.1.1)) (λ p. (p.0, (p.1, p.2)))
      (known_both (t.proposed ≢ 0) _ (known_not (t.proposed ≡ 0) (known_zero t.proposed))
      (known_both (t.place ≡ 0) ((read : PartRead) → Among read t.reads → Includes t.checked read.part) (known_zero t.place) (known_includes t.checked t.reads))))
  known_enabled (Unput i key) =
      known_open (λ t. HasWritten t key × (t.place ≡ 0)) (txns_of m i) (λ t. known_both (HasWritten t key) (t.place ≡ 0) (known_holds key t.write_set) (known_zero t.place))
  known_enabled (End i) =
      known_open (λ t. (t.place ≢ 0) ⊎ (t.write_set ≡ [])) (txns_of m i)
      (λ t. known_either (t.place ≢ 0) (t.write_set ≡ []) (known_not (t.place ≡ 0) (known_zero t.place)) (known_none t.write_set))
  known_enabled (Purge key) = known_forgettable key

-- each event of a sound machine has an answer
pub answer_there : (m : Machine) (event : Event) → IsSound m → (outcome : Outcome) × Answers m event outcome
answer_there m event s =
    ⊎_elim
    (λ enabled. let a = answer_of m s event enabled in (a.0, inl (enabled, a.1)))
    (λ not_enabled. (NotNow, inr (not_enabled, refl)))
    (known_enabled m s event)
