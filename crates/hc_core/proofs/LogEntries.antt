-- What the entries of the log say: of which transaction each is, and which keys it puts.
use Rattle.std.proofs.Common.{◌≡◌, ◌≢◌, ◌∙◌, ◌↔◌, inl, inr, ⊎_elim, refl, sym, ap, subst, ℕ, zero, suc, ◌+◌, ◌<◌, true, Option, Some, None, List, [], ◌∷◌, length, get_or, bytes_eq, arith}
use Rattle.std.proofs.lemmas.List.{get_or-map}
use Rattle.std.proofs.lemmas.Bool.{false≢true, or_left, or_right, or_cases, and_parts, and_from}
use Rattle.std.proofs.lemmas.Slice.Eq.{bytes_eq-Decides}
use Rattle.hc_base.specs.Lookup.{Among}
use Rattle.hc_core.specs.Account.{Txn, HoldsKey, HasWritten, HasWrittenAs}
use Rattle.hc_core.specs.Versions.{PutAt}
use Rattle.hc_core.specs.Running.{HaveSameWrites, holds_key}
use Rattle.hc_core.specs.Sound.{AreSound}
use Rattle.hc_core.specs.Commits.{IsCommitOf, AreCommits, writes_at, is_none, is_tombstone, holds_tombstone}
use Rattle.hc_core.specs.declared.cells.Write.{Write}
use Rattle.hc_core.specs.declared.commit.Commit.{Commit}
use Rattle.hc_core.proofs.Ordered.{one_place}

-- a key that is among writes is found there
pub holds_from : (key : List ℕ) (ws : List Write) → HoldsKey ws key → holds_key key ws ≡ true
holds_from key [] held = absurd held.1
holds_from key (w ∷ ws) held =
    ⊎_elim
    (λ same. or_left (bytes_eq w.key key) (holds_key key ws) ((bytes_eq-Decides w.key key).1 (sym (ap (λ (v : Write). v.key) same))))
    (λ following. or_right (bytes_eq w.key key) (holds_key key ws) (holds_from key ws (held.0, following)))
    held.1

-- and the other way round
pub holds_into : (key : List ℕ) (ws : List Write) → holds_key key ws ≡ true → HoldsKey ws key
holds_into key [] held = absurd (false≢true held)
holds_into key (w ∷ ws) held =
    ⊎_elim
    (λ same. (w.rec, inl (ap (λ (k : List ℕ). record { key = k; rec = w.rec }) (sym ((bytes_eq-Decides w.key key).0 same)))))
    (λ following. let there = holds_into key ws following in (there.0, inr there.1))
    (or_cases (bytes_eq w.key key) (holds_key key ws) held)

-- what tests as none is none
none_is : (rec : Option (List ℕ)) → is_none rec ≡ true → rec ≡ None
none_is None is = refl
none_is (Some rec) is = absurd (false≢true is)

-- a tombstone that is among writes is found there
pub tombstone_from : (key : List ℕ) (ws : List Write) → Among (record { key = key; rec = None }) ws → holds_tombstone key ws ≡ true
tombstone_from key [] there = absurd there
tombstone_from key (w ∷ ws) there =
    ⊎_elim
    (λ same. or_left (is_tombstone key w) (holds_tombstone key ws)
    (and_from (is_none w.rec) (bytes_eq w.key key) (ap (λ (v : Write). is_none v.rec) (sym same)) ((bytes_eq-Decides w.key key).1 (sym (ap (λ (v : Write). v.key) same)))))
    (λ following. or_right (is_tombstone key w) (holds_tombstone key ws) (tombstone_from key ws following))
    there

-- and the other way round
pub tombstone_into : (key : List ℕ) (ws : List Write) → holds_tombstone key ws ≡ true → Among (record { key = key; rec = None }) ws
tombstone_into key [] held = absurd (false≢true held)
tombstone_into key (w ∷ ws) held =
    ⊎_elim
    (λ test. let both = and_parts (is_none w.rec) (bytes_eq w.key key) test in
    inl (ap (λ (k : List ℕ). record { key = k; rec = None }) (sym ((bytes_eq-Decides w.key key).0 both.1))
    ∙ ap (λ (r : Option (List ℕ)). record { key = w.key; rec = r }) (sym (none_is w.rec both.0))))
    (λ following. inr (tombstone_into key ws following))
    (or_cases (is_tombstone key w) (holds_tombstone key ws) held)

-- the entry at a place
pub entry_at : (of : ℕ → List Txn) (commits : List Commit) (c place : ℕ) (d : Commit) → AreCommits of c commits → place < length commits
    → IsCommitOf of (c + place) (get_or commits place d)
entry_at of [] c place d are within = absurd (omega arith)
entry_at of (commit ∷ commits) c zero d are within =
    let same : c ≡ c + zero = omega arith in subst (λ n. IsCommitOf of n commit) same are.0
entry_at of (commit ∷ commits) c (suc place) d are within =
    let same : (c + 1) + place ≡ c + suc place = omega arith in
    subst (λ n. IsCommitOf of n (get_or commits place d)) same (entry_at of commits (c + 1) place d are.1 (omega arith))

-- what the entry at a place puts
pub writes_there : (commits : List Commit) (place : ℕ) (d : Commit) → place < length commits → writes_at commits place ≡ (get_or commits place d).writes.items
writes_there commits place d within = get_or-map (λ (commit : Commit). commit.writes.items) commits place d [] within

-- the entry at a place has a transaction, which put what it puts
pub writer_at : (of : ℕ → List Txn) (commits : List Commit) (c place : ℕ) → AreCommits of c commits → place < length commits
    → (i : ℕ) × (t : Txn) × Among t (of i) × (t.place ≡ c + place) × HaveSameWrites (writes_at commits place) t.write_set
writer_at of [] c place are within = absurd (omega arith)
writer_at of (commit ∷ commits) c zero are within =
    let e = are.0 in (commit.conn, e.0, e.1, omega (arith, e.2), e.5)
writer_at of (commit ∷ commits) c (suc place) are within =
    let w = writer_at of commits (c + 1) place are.1 (omega arith) in (w.0, w.1, w.2, omega (arith, w.3), w.4)

module _ {size : ℕ} {log : ℕ → ℕ} {of : ℕ → List Txn} (s : AreSound size log of) (commits : List Commit) (are : AreCommits of 1 commits) (long : length commits ≡ size) where
  -- a transaction with a commit number has an entry, which puts what it put
  pub same_at_place : (i : ℕ) (t : Txn) (c : ℕ) → Among t (of i) → t.place ≡ c + 1 → (c < length commits) × HaveSameWrites (writes_at commits c) t.write_set
  same_at_place i t c there at =
      let placed : t.place ≢ 0 = λ none. omega (arith, at, none) in
      let within : c < length commits = omega (arith, ((s.each i t there).numbers.place_within placed).1, at, long) in
      let w = writer_at of commits 1 c are within in
      let same : t.place ≡ w.1.place = omega (arith, at, w.3) in
      (within, subst (λ (v : Txn). HaveSameWrites (writes_at commits c) v.write_set) (sym (one_place s i w.0 t w.1 there w.2 placed same).1) w.4)

  -- what the transaction with a commit number put is what the entry puts
  pub put_at_place : (c : ℕ) (key : List ℕ) (rec : Option (List ℕ))
      → PutAt of (c + 1) key rec ↔ ((c < length commits) × Among (record { key = key; rec = rec }) (writes_at commits c))
  put_at_place c key rec = (
    λ put. let same = same_at_place put.0 put.1 c put.2 put.3 in (same.0, (same.1 (record { key = key; rec = rec })).1 put.5),
    λ puts. let w = writer_at of commits 1 c are puts.0 in
        (w.0, w.1, w.2, omega (arith, w.3), omega arith, (w.4 (record { key = key; rec = rec })).0 puts.1),
  )

  -- a key is in the write set of a committed transaction where its entry puts it
  pub written_at_place : (i : ℕ) (t : Txn) (c : ℕ) (key : List ℕ) → Among t (of i) → t.place ≡ c + 1 → HasWritten t key ↔ (holds_key key (writes_at commits c) ≡ true)
  written_at_place i t c key there at =
      let same = (same_at_place i t c there at).1 in (
        λ written. holds_from key (writes_at commits c) (written.0, (same (record { key = key; rec = written.0 })).1 written.1),
        λ holds. let held = holds_into key (writes_at commits c) holds in (held.0, (same (record { key = key; rec = held.0 })).0 held.1),
      )

  -- a tombstone is in the write set of a committed transaction where its entry puts one
  pub tombstone_at_place : (i : ℕ) (t : Txn) (c : ℕ) (key : List ℕ) → Among t (of i) → t.place ≡ c + 1 → HasWrittenAs t key None ↔ (holds_tombstone key (writes_at commits c) ≡ true)
  tombstone_at_place i t c key there at =
      let same = (same_at_place i t c there at).1 (record { key = key; rec = None }) in (
        λ written. tombstone_from key (writes_at commits c) (same.1 written),
        λ holds. same.0 (tombstone_into key (writes_at commits c) holds),
      )

  -- the entry at a place names its transaction
  pub entry_is : (place : ℕ) (commit : Commit) → place < length commits → commit ≡ get_or commits place commit
      → (t : Txn) × Among t (of commit.conn) × (t.place ≡ place + 1) × (t.id ≡ commit.tid) × (t.ord ≡ commit.ord)
  entry_is place commit within is =
      let e = subst (λ (x : Commit). IsCommitOf of (1 + place) x) (sym is) (entry_at of commits 1 place commit are within) in
      (e.0, e.1, omega (arith, e.2), e.3, e.4)
