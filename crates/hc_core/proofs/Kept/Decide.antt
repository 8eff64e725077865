-- A transaction takes the next commit number: all that it read was checked for it, so nobody put that since its snapshot.
use Rattle.std.proofs.Common.{◌≡◌, ◌≢◌, ◌∙◌, inl, inr, ⊎_elim, refl, sym, subst, ℕ, ◌+◌, ◌<◌, ◌≤◌, List, [], ◌∷◌, Option, arith}
use Rattle.std.proofs.lemmas.Bool.{cases_lt}
use Rattle.hc_range.specs.declared.range.Range.{Range}
use Rattle.hc_range.specs.Ranges.{InRange, InAny, Includes}
use Rattle.hc_base.specs.Lookup.{Among, but}
use Rattle.hc_core.specs.Account.{IsAskedFor, IsPart, Txn, PartRead, Refusal, HoldsKey, HasWritten, HasWrittenAs, HasRead}
use Rattle.hc_core.specs.Versions.{PutAt}
use Rattle.hc_core.specs.Sound.{AreSound, TxnIsSound, AreInOrder, NamesWriter, NonePutBetween}
use Rattle.hc_base.proofs.Lookups.{each_but, but-same, but-other, new_here, rest_here, others_here, each_new, each_old, old_there, rest_there}
use Rattle.hc_core.proofs.Agreeing.{AgreeUpto, checks-agree, none-agree, reads-agree, sound-agree}
use Rattle.hc_core.proofs.Ordered.{after_each, newest_after, distinct_with}
use Rattle.hc_core.proofs.WriteSets.{nothing_written}
use Rattle.hc_core.proofs.Kept.Same.{same_after}

-- a key that lies in one of the ranges lies in a range that is among them
range_of : (ranges : List Range) (key : List ℕ) → InAny ranges key → (range : Range) × Among range ranges × InRange range key
range_of [] key inside = elim inside [ ]
range_of (range ∷ ranges) key inside =
    ⊎_elim (λ here. (range, inl refl, here)) (λ later. let r = range_of ranges key later in (r.0, inr r.1, r.2)) inside

module _ {size : ℕ} {log : ℕ → ℕ} {of : ℕ → List Txn} (s : AreSound size log of) (i : ℕ) (t : Txn) (rest : List Txn) (is : of i ≡ t ∷ rest)
    (drawn : t.id ≢ 0) (undecided : t.place ≡ 0) (proposes : t.proposed ≡ size + 1) (included : (read : PartRead) → Among read t.reads → Includes t.checked read.part) where
  abbrev new : Txn
  new = record t { place = size + 1 }

  abbrev now : ℕ → List Txn
  now = but of i (new ∷ rest)

  t_there : Among t (of i)
  t_there = old_there of i t rest is

  h : TxnIsSound size of i t
  h = s.each i t t_there

  -- the commits put what they put before, and those up to the old size nothing else
  put_there : (c : ℕ) (key : List ℕ) (rec : Option (List ℕ)) → PutAt of c key rec → PutAt now c key rec
  put_there c key rec put =
      each_old of i t rest is (λ j u. u.place ≡ c → HasWrittenAs u key rec → PutAt now c key rec)
      (λ at written. absurd (put.4 (sym at ∙ undecided)))
      (λ u there at written. (i, u, rest_here of i new rest u there, at, put.4, written))
      (λ j u differ there at written. (j, u, others_here of i new rest j u differ there, at, put.4, written))
      put.0 put.1 put.2 put.3 put.5

  put_back : (c : ℕ) (key : List ℕ) (rec : Option (List ℕ)) → c ≤ size → PutAt now c key rec → PutAt of c key rec
  put_back c key rec within put =
      each_new of i new rest (λ j u. u.place ≡ c → HasWrittenAs u key rec → PutAt of c key rec)
      (λ at written. absurd (omega (arith, at, within)))
      (λ u there at written. (i, u, rest_there of i t rest is u there, at, put.4, written))
      (λ j u differ there at written. (j, u, there, at, put.4, written))
      put.0 put.1 put.2 put.3 put.5

  agree : AgreeUpto size of now
  agree = record { there = λ c key rec within. put_there c key rec; back = put_back }

  -- whom a refusal named, it names still
  named : (j snapshot : ℕ) (r : Refusal) → snapshot ≤ size → NamesWriter of j snapshot r → NamesWriter now j snapshot r
  named j snapshot r within n =
      each_old of i t rest is
      (λ k u. k ≢ j → r.met.conn ≡ k → r.met.tid.0 ≡ u.id → r.met.ord ≡ u.ord → HoldsKey u.puts r.met.key → (u.place ≢ 0 → snapshot < u.place) → (IsPart r.asked → u.place ≢ 0) → IsAskedFor r.asked r.met.key → NamesWriter now j snapshot r)
      (λ other conn id ord put above committed asked. (i, new, new_here of i new rest, other, conn, id, ord, put, λ placed. omega arith, λ of_part none. absurd (omega (arith, none)), asked))
      (λ u there other conn id ord put above committed asked. (i, u, rest_here of i new rest u there, other, conn, id, ord, put, above, committed, asked))
      (λ k u differ there other conn id ord put above committed asked. (k, u, others_here of i new rest k u differ there, other, conn, id, ord, put, above, committed, asked))
      n.0 n.1 n.2 n.3 n.4 n.5 n.6 n.7 n.8 n.9 n.10

  -- another transaction stays sound, since no undecided one has a key that is in the write set here
  carried : (j : ℕ) (v : Txn) → TxnIsSound size of j v → (v.place ≡ 0 → (key : List ℕ) → HasWritten v key → HasWritten t key → ⊥) → TxnIsSound (size + 1) now j v
  carried j v g apart = sound-agree size (size + 1) of now agree (omega arith) j v g
      (record {
        alone = λ v_undecided k u key among u_undecided written u_written.
            each_new of i new rest (λ k u. u.place ≡ 0 → HasWritten u key → k ≡ j)
            (λ is_undecided is_written. absurd (omega (arith, is_undecided)))
            (λ u there is_undecided is_written. g.holds.alone v_undecided i u key (rest_there of i t rest is u there) is_undecided written is_written)
            (λ k u differ there is_undecided is_written. g.holds.alone v_undecided k u key there is_undecided written is_written)
            k u among u_undecided u_written;
        newest = λ v_undecided k u key among written u_written.
            each_new of i new rest (λ k u. HasWritten u key → u.place ≤ v.snapshot)
            (λ is_written. absurd (apart v_undecided key written is_written))
            (λ u there is_written. g.holds.newest v_undecided i u key (rest_there of i t rest is u there) written is_written)
            (λ k u differ there is_written. g.holds.newest v_undecided k u key there written is_written)
            k u among u_written;
      })
      (λ r among. named j v.snapshot r g.numbers.snapshot_within (g.refusals r among))

  -- what it read was checked for its number
  none_read : (key : List ℕ) → HasRead t key → NonePutBetween of t.snapshot (size + 1) key
  none_read key read =
      let r = range_of t.checked key (included read.0 read.1 key read.2) in
      subst (λ n. NonePutBetween of t.snapshot n key) proposes (h.checks.current r.0 r.1 key r.2)

  -- no commit above its snapshot put what it put
  none_put : (key : List ℕ) → HasWritten t key → NonePutBetween of t.snapshot (size + 1) key
  none_put key written c rec above below put =
      let low : put.1.place ≤ t.snapshot = h.holds.newest undecided put.0 put.1 key put.2 written (rec, put.5) in
      omega (arith, low, put.3, above)

  -- the decided transaction is sound with the longer log
  new_sound : TxnIsSound (size + 1) now i new
  new_sound = record {
    numbers = record {
      snapshot_within = omega (arith, h.numbers.snapshot_within);
      undrawn = λ none. absurd (drawn none);
      place_within = λ placed. (omega (arith, h.numbers.snapshot_within), omega arith);
      proposed_within = omega (arith, proposes);
      chosen = λ placed. proposes;
    };
    writes = record { undrawn = h.writes.undrawn; rolled_back = λ ended none. absurd (omega (arith, none)); once = h.writes.once; listed = h.writes.listed };
    holds = record { alone = λ none. absurd (omega (arith, none)); newest = λ none. absurd (omega (arith, none)) };
    reads = reads-agree size of now agree t.snapshot t.reads h.numbers.snapshot_within h.reads;
    checks = checks-agree size (size + 1) of now agree (omega arith) h.numbers.proposed_within h.checks;
    first = λ placed key has. none-agree size of now agree t.snapshot (size + 1) key (omega arith) (⊎_elim (none_read key) (none_put key) has);
    refusals = λ r among. named i t.snapshot r h.numbers.snapshot_within (h.refusals r among);
  }

  -- who has an id had it
  was : (j : ℕ) (u : Txn) → Among u (now j) → (v : Txn) × Among v (of j) × (u.id ≡ v.id)
  was = each_new of i new rest (λ j u. (v : Txn) × Among v (of j) × (u.id ≡ v.id))
      (t, t_there, refl) (λ u there. (u, rest_there of i t rest is u there, refl)) (λ j u differ there. (u, there, refl))

  -- a decided transaction has the id of the log at its place
  decided_now : (j : ℕ) (u : Txn) (c : ℕ) → Among u (now j) → u.place ≡ c + 1 → but log size t.id c ≡ u.id
  decided_now j u c among =
      each_new of i new rest (λ j u. u.place ≡ c + 1 → but log size t.id c ≡ u.id)
      (λ at. let last : size ≡ c = omega (arith, at) in subst (λ n. but log size t.id n ≡ t.id) last (but-same log size t.id))
      (λ u there at. earlier i u (rest_there of i t rest is u there) at)
      (λ j u differ there at. earlier j u there at)
      j u among
    where
      earlier : (k : ℕ) (v : Txn) → Among v (of k) → v.place ≡ c + 1 → but log size t.id c ≡ v.id
      earlier k v there at =
          let within : v.place ≤ size = ((s.each k v there).numbers.place_within (λ none. omega (arith, none, at))).1 in
          but-other log size c t.id (λ last. omega (arith, last, within, at)) ∙ s.decided k v c there at

  -- each entry of the longer log has its transaction
  entries_now : (c : ℕ) → c < size + 1 → (j : ℕ) × (u : Txn) × Among u (now j) × (u.place ≡ c + 1)
  entries_now c below =
      ⊎_elim
      (λ (old : c < size). let e = s.entries c old in
      each_old of i t rest is (λ j u. u.place ≡ c + 1 → (k : ℕ) × (v : Txn) × Among v (now k) × (v.place ≡ c + 1))
      (λ at. absurd (omega (arith, at, undecided)))
      (λ u there at. (i, u, rest_here of i new rest u there, at))
      (λ j u differ there at. (j, u, others_here of i new rest j u differ there, at))
      e.0 e.1 e.2 e.3)
      (λ (last : size ≤ c). (i, new, new_here of i new rest, omega arith))
      (cases_lt c size)

  -- the transaction takes the next commit number, and all is sound
  pub kept_decide : AreSound (size + 1) (but log size t.id) (but of i (record t { place = size + 1 } ∷ rest))
  kept_decide = record {
    distinct = distinct_with s i t t_there drawn undecided;
    entries = entries_now;
    decided = decided_now;
    ids = λ j k u v among v_among u_drawn same.
        let a = was j u among in
        let b = was k v v_among in
        s.ids j k a.0 b.0 a.1 b.1 (λ none. u_drawn (a.2 ∙ none)) (sym a.2 ∙ (same ∙ b.2));
    in_order = each_but of i (new ∷ rest) (λ j ts. AreInOrder ts)
        (same_after t new rest (record { id = refl; ord = refl; snapshot = refl }) (newest_after s i t rest is), (subst AreInOrder is (s.in_order i)).1)
        (λ j differ. s.in_order j);
    each = each_new of i new rest (TxnIsSound (size + 1) now) new_sound
        (λ u there. let g = s.each i u (rest_there of i t rest is u there) in
        carried i u g (λ u_undecided key written t_written. nothing_written u (g.writes.rolled_back (after_each t u rest (newest_after s i t rest is) there).ended u_undecided) key written))
        (λ j u differ there. let g = s.each j u there in
        carried j u g (λ u_undecided key written t_written. differ (g.holds.alone u_undecided i t key t_there undecided written t_written)));
  }
