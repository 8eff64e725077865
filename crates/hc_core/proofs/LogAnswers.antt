-- What questions to the log say of the transactions: what a check finds, what a put meets, and which version is the latest.
use Rattle.std.proofs.Common.{◌≡◌, ◌≢◌, ◌∙◌, inl, inr, ⊎_elim, refl, sym, ap, subst, ℕ, zero, suc, ◌+◌, ◌-◌, ◌<◌, ◌≤◌, true, false, Some, None, List, [], ◌∷◌, length, get_or, take, drop, arith}
use Rattle.std.proofs.lemmas.Bool.{true≢false, cases_Bool, cases_lt}
use Rattle.std.proofs.lemmas.List.{get_or_default, length-take}
use Rattle.hc_range.specs.declared.range.Range.{Range}
use Rattle.hc_base.specs.Lookup.{Among}
use Rattle.hc_core.specs.Account.{Txn, HasWritten, WhenOpen}
use Rattle.hc_core.specs.Versions.{IsLatestVersion, IsInTheWay, IsBetween, IsFound}
use Rattle.hc_core.specs.Machine.{IsForgettable, IsFree, IsUnchanged}
use Rattle.hc_core.specs.Running.{holds_key}
use Rattle.hc_core.specs.Sound.{AreSound, AreInOrder}
use Rattle.hc_core.specs.Commits.{IsNoneAbove, AreCommits, IsLastWith, NoneIsWith, writes_at, holds_tombstone, is_in, least_of}
use Rattle.hc_core.specs.declared.commit.Commit.{Commit}
use Rattle.hc_core.proofs.Ordered.{after_each}
use Rattle.hc_core.proofs.WriteSets.{nothing_written}
use Rattle.hc_core.proofs.LogEntries.{written_at_place, tombstone_at_place, same_at_place, entry_is, holds_from, holds_into}
use Rattle.hc_core.proofs.LogLeast.{IsLeast, IsPutBy, in_range, in_test, least_is, put_from, put_into}

-- where nothing is between, nothing between put a key
pub nothing_between : (of : ℕ → List Txn) (snapshot number : ℕ) (part : Range) → number ≤ snapshot + 1 → IsUnchanged of snapshot number part
nothing_between of snapshot number part near key j u inside between = omega (arith, near, between.1, between.2)

-- an open transaction is the newest of its connection
open_newest : (P : Txn → Type 0) (ts : List Txn) (t : Txn) → AreInOrder ts → Among t ts → t.ended ≡ false → P t → WhenOpen ts P
open_newest P [] t ordered there opened p = there
open_newest P (v ∷ ts) t ordered there opened p =
    ⊎_elim
    (λ (same : t ≡ v). subst (λ (x : Txn). (x.ended ≡ false) × P x) same (opened, p))
    (λ following. absurd (true≢false (sym (after_each v t ts ordered.0 following).ended ∙ opened)))
    there

-- what is so of the open transaction is so of one that is there
open_there : (P : Txn → Type 0) (ts : List Txn) → WhenOpen ts P → (t : Txn) × Among t ts × (t.ended ≡ false) × P t
open_there P [] opened = absurd opened
open_there P (t ∷ ts) opened = (t, inl refl, opened.0, opened.1)

-- a place among the first entries of the log has the writes that it has in the whole log
pub writes_of_front : (commits : List Commit) (upto place : ℕ) → place < upto → writes_at (take upto commits) place ≡ writes_at commits place
writes_of_front commits zero place below = absurd (omega arith)
writes_of_front [] (suc upto) place below = refl
writes_of_front (commit ∷ commits) (suc upto) zero below = refl
writes_of_front (commit ∷ commits) (suc upto) (suc place) below = writes_of_front commits upto place (omega arith)

-- there is an entry at each place
there_is : (commits : List Commit) (place : ℕ) → place < length commits → (commit : Commit) × (commit ≡ get_or commits place commit)
there_is [] place within = absurd (omega arith)
there_is (commit ∷ commits) place within =
    let found : Commit = get_or (commit ∷ commits) place commit in (found, get_or_default (commit ∷ commits) place commit found within)

-- the last entry of those up to a place that puts a key is within them and puts it, and no later one of them does
last_of_front : (commits : List Commit) (upto place : ℕ) (key : List ℕ) → IsLastWith key (take upto commits) place
    → (place < upto) × (place < length commits) × (holds_key key (writes_at commits place) ≡ true)
    × ((other : ℕ) → place < other → other < upto → other < length commits → holds_key key (writes_at commits other) ≡ false)
last_of_front commits upto place key last =
    let front : (place < upto) × (place < length commits) = (omega (arith, last.0, length-take upto commits), omega (arith, last.0, length-take upto commits)) in (
      front.0,
      front.1,
      ap (holds_key key) (sym (writes_of_front commits upto place front.0)) ∙ last.1,
      λ other above below there. ap (holds_key key) (sym (writes_of_front commits upto other below)) ∙ last.2 other above (omega (arith, below, there, length-take upto commits)),
    )

module _ {size : ℕ} {log : ℕ → ℕ} {of : ℕ → List Txn} (s : AreSound size log of) where
  -- a transaction that has something in its write set is decided, or it is open and undecided
  pub writer_placed : (key : List ℕ) → ((j : ℕ) → WhenOpen (of j) (λ t. (t.place ≡ 0) × HasWritten t key) → ⊥)
      → (j : ℕ) (u : Txn) → Among u (of j) → HasWritten u key → u.place ≢ 0
  writer_placed key none_open j u there written undecided =
      ⊎_elim
      (λ (ended : u.ended ≡ true). nothing_written u ((s.each j u there).writes.rolled_back ended undecided) key written)
      (λ opened. none_open j (open_newest (λ t. (t.place ≡ 0) × HasWritten t key) (of j) u (s.in_order j) there opened (undecided, written)))
      (cases_Bool u.ended)

  -- an open transaction that is undecided and has the key is in the way of another connection
  pub open_in_the_way : (i snapshot : ℕ) (key : List ℕ) (j : ℕ) → j ≢ i → (P : Txn → Type 0) → WhenOpen (of j) (λ t. (t.place ≡ 0) × HasWritten t key × P t)
      → (u : Txn) × IsInTheWay of i snapshot key j u × P u
  open_in_the_way i snapshot key j other P opened =
      let o = open_there (λ t. (t.place ≡ 0) × HasWritten t key × P t) (of j) opened in
      (o.0, ((o.1, o.3.1, inl o.3.0), inl (o.3.0, other)), o.3.2)

  module _ (commits : List Commit) (are : AreCommits of 1 commits) (long : length commits ≡ size) where
    -- a commit's entry puts the keys that it put
    placed_holds : (j : ℕ) (u : Txn) (key : List ℕ) → Among u (of j) → u.place ≢ 0 → HasWritten u key
        → (u.place - 1 < length commits) × (holds_key key (writes_at commits (u.place - 1)) ≡ true)
    placed_holds j u key there placed written =
        let at : u.place ≡ (u.place - 1) + 1 = omega arith in
        ((same_at_place s commits are long j u (u.place - 1) there at).0, (written_at_place s commits are long j u (u.place - 1) key there at).0 written)

    -- no commit that put a key is above the last entry with it
    below_last : (key : List ℕ) (place : ℕ) → IsLastWith key commits place → (j : ℕ) (u : Txn) → Among u (of j) → HasWritten u key → u.place ≤ place + 1
    below_last key place last j u there written =
        ⊎_elim (λ above. absurd (
        let placed : u.place ≢ 0 = (λ none. omega (arith, none, above)) in
        let holds = placed_holds j u key there placed written in
        true≢false (sym holds.1 ∙ last.2 (u.place - 1) (omega (arith, above)) holds.0)))
        (λ within. within) (cases_lt (place + 1) u.place)

    -- the last entry with a key is that of a transaction in which it is
    last_written : (key : List ℕ) (place : ℕ) (commit : Commit) → place < length commits → holds_key key (writes_at commits place) ≡ true → commit ≡ get_or commits place commit
        → (u : Txn) × Among u (of commit.conn) × (u.place ≡ place + 1) × HasWritten u key × (u.id ≡ commit.tid) × (u.ord ≡ commit.ord)
    last_written key place commit within holds is =
        let e = entry_is s commits are long place commit within is in
        (e.0, e.1, e.2, (written_at_place s commits are long commit.conn e.0 place key e.1 e.2).1 holds, e.3, e.4)

    -- no commit put a key that no entry puts
    none_written : (key : List ℕ) → NoneIsWith key commits → (j : ℕ) (u : Txn) → Among u (of j) → HasWritten u key → u.place ≢ 0 → ⊥
    none_written key none j u there written placed =
        let holds = placed_holds j u key there placed written in true≢false (sym holds.1 ∙ none (u.place - 1) holds.0)

    -- a commit between is an entry between
    between_put : (snapshot number : ℕ) (key : List ℕ) (j : ℕ) (u : Txn) → IsBetween of snapshot number key j u
        → IsPutBy (drop snapshot (take (number - 1) commits)) key
    between_put snapshot number key j u between =
        let placed : u.place ≢ 0 = (λ none. omega (arith, none, between.1)) in
        let holds = placed_holds j u key between.0 placed between.3 in
        put_from commits snapshot (number - 1) (u.place - 1) key (omega (arith, between.1)) (omega (arith, between.1, between.2)) holds.0
        (holds_into key (writes_at commits (u.place - 1)) holds.1)

    -- where no entry between puts a key of the part, no commit between put one
    pub none_found : (snapshot number : ℕ) (part : Range) → least_of part None (drop snapshot (take (number - 1) commits)) ≡ None → IsUnchanged of snapshot number part
    none_found snapshot number part none key j u inside between =
        let least : IsLeast (λ k. (is_in part k ≡ true) × IsPutBy (drop snapshot (take (number - 1) commits)) k) None =
        subst (IsLeast (λ k. (is_in part k ≡ true) × IsPutBy (drop snapshot (take (number - 1) commits)) k)) none (least_is part (drop snapshot (take (number - 1) commits))) in
        least key (in_test part key inside, between_put snapshot number key j u between)

    -- the least key of the part that entries between put, and the last of them with it, are what a check finds
    pub found_is : (snapshot number : ℕ) (part : Range) (key : List ℕ) (place : ℕ) (commit : Commit)
        → least_of part None (drop snapshot (take (number - 1) commits)) ≡ Some key → IsLastWith key (take (number - 1) commits) place
        → commit ≡ get_or commits place commit
        → (u : Txn) × IsFound of snapshot number part key commit.conn u × (u.id ≡ commit.tid) × (u.ord ≡ commit.ord)
    found_is snapshot number part key place commit is_least is_last is =
        let least : IsLeast (λ k. (is_in part k ≡ true) × IsPutBy (drop snapshot (take (number - 1) commits)) k) (Some key) =
        subst (IsLeast (λ k. (is_in part k ≡ true) × IsPutBy (drop snapshot (take (number - 1) commits)) k)) is_least (least_is part (drop snapshot (take (number - 1) commits))) in
        let last = last_of_front commits (number - 1) place key is_last in
        let e = last_written key place commit last.1 last.2 is in
        let put = put_into commits snapshot (number - 1) key least.0.1 in
        let above : snapshot ≤ place = ⊎_elim
        (λ later. absurd (true≢false (sym (holds_from key (writes_at commits put.0) put.4) ∙ last.3 put.0 later put.2 put.3)))
        (λ not_later. omega (arith, put.1, not_later)) (cases_lt place put.0) in (
          e.0,
          record {
            between = (e.1, omega (arith, e.2, above), omega (arith, e.2, last.0), e.3);
            inside = in_range part key least.0.0;
            least = λ other k v inside between. least.1 other (in_test part other inside, between_put snapshot number other k v between);
            newest = λ k v between.
                let placed : v.place ≢ 0 = (λ none. omega (arith, none, between.1)) in
                let holds = placed_holds k v key between.0 placed between.3 in
                ⊎_elim
                (λ later. absurd (true≢false (sym holds.1 ∙ last.3 (v.place - 1) later (omega (arith, between.1, between.2)) holds.0)))
                (λ not_later. omega (arith, not_later, e.2)) (cases_lt place (v.place - 1));
          },
          e.4,
          e.5,
        )

    module _ (key : List ℕ) (none_open : (j : ℕ) → WhenOpen (of j) (λ t. (t.place ≡ 0) × HasWritten t key) → ⊥) where
      -- a put meets nothing where no open transaction has the key, and no entry above the snapshot
      pub none_is_free : (i snapshot : ℕ) → IsNoneAbove snapshot key commits → IsFree of i snapshot key
      none_is_free i snapshot none j u there written =
          let placed = writer_placed key none_open j u there written in
          let holds = placed_holds j u key there placed written in (
            inl placed,
            ⊎_elim
                (λ (above : snapshot < u.place). absurd (true≢false (sym holds.1 ∙ none (u.place - 1) (omega (arith, above)) holds.0)))
                (λ low. low) (cases_lt snapshot u.place),
          )

      -- the last entry with a key has its first version, where no open transaction has one
      pub newest_is_first : (place : ℕ) (commit : Commit) → IsLastWith key commits place → commit ≡ get_or commits place commit
          → (u : Txn) × IsLatestVersion of key commit.conn u × (u.place ≡ place + 1) × (u.id ≡ commit.tid) × (u.ord ≡ commit.ord)
      newest_is_first place commit last is =
          let e = last_written key place commit last.0 last.1 is in (
            e.0,
            (
              e.1,
              e.3,
              inr (
                (λ none. omega (arith, none, e.2)),
                λ j v there written. (writer_placed key none_open j v there written, omega (arith, below_last key place last j v there written, e.2)),
              ),
            ),
            e.2,
            e.4,
            e.5,
          )

      -- what a put meets where the last entry with the key is above the snapshot
      pub newest_in_the_way : (place : ℕ) (commit : Commit) → IsLastWith key commits place → commit ≡ get_or commits place commit → (i snapshot : ℕ) → snapshot < place + 1
          → (u : Txn) × IsInTheWay of i snapshot key commit.conn u × (u.id ≡ commit.tid) × (u.ord ≡ commit.ord)
      newest_in_the_way place commit last is i snapshot above =
          let f = newest_is_first place commit last is in (f.0, (f.1, inr (omega (arith, f.2, above))), f.3, f.4)

      -- a key is forgettable where its last entry puts a tombstone that each open transaction sees
      pub newest_forgettable : (place : ℕ) → IsLastWith key commits place → holds_tombstone key (writes_at commits place) ≡ true
          → ((i : ℕ) (t : Txn) → Among t (of i) → t.ended ≡ false → place + 1 ≤ t.snapshot) → IsForgettable of key
      newest_forgettable place last tombstone seen =
          let w = there_is commits place last.0 in
          let commit : Commit = w.0 in
          let f = newest_is_first place commit last w.1 in (
            commit.conn,
            f.0,
            f.1,
            (λ none. omega (arith, none, f.2)),
            (tombstone_at_place s commits are long commit.conn f.0 place key f.1.0 f.2).1 tombstone,
            λ i t there opened. omega (arith, seen i t there opened, f.2),
          )

    -- a forgettable key is in the write set of no open undecided transaction
    pub forgettable_closed : (key : List ℕ) → IsForgettable of key → (j : ℕ) → WhenOpen (of j) (λ t. (t.place ≡ 0) × HasWritten t key) → ⊥
    forgettable_closed key f j opened =
        let o = open_there (λ t. (t.place ≡ 0) × HasWritten t key) (of j) opened in
        ⊎_elim (λ none. f.3 none) (λ placed. (placed.1 j o.0 o.1 o.3.1).0 o.3.0) f.2.2

    -- some entry puts it
    pub forgettable_logged : (key : List ℕ) → IsForgettable of key → NoneIsWith key commits → ⊥
    forgettable_logged key f none = none_written key none f.0 f.1 f.2.0 f.2.1 f.3

    -- and the last one puts a tombstone, which each open transaction sees
    pub forgettable_last : (key : List ℕ) (place : ℕ) → IsForgettable of key → IsLastWith key commits place
        → (holds_tombstone key (writes_at commits place) ≡ true) × ((i : ℕ) (t : Txn) → Among t (of i) → t.ended ≡ false → place + 1 ≤ t.snapshot)
    forgettable_last key place f last =
        let w = there_is commits place last.0 in
        let e = last_written key place w.0 last.0 last.1 w.1 in
        let greatest : e.0.place ≤ f.1.place = ⊎_elim (λ none. absurd (f.3 none)) (λ placed. (placed.1 w.0.conn e.0 e.1 e.3).1) f.2.2 in
        let at : f.1.place ≡ place + 1 = omega (arith, greatest, e.2, below_last key place last f.0 f.1 f.2.0 f.2.1) in
        ((tombstone_at_place s commits are long f.0 f.1 place key f.2.0 at).0 f.4, λ i t there opened. omega (arith, f.5 i t there opened, at))
