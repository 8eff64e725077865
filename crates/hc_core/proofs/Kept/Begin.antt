-- A transaction begins where none is open: its snapshot is all that is committed.
use Rattle.std.proofs.Common.{◌≡◌, ◌≢◌, ◌∙◌, ⊎_elim, refl, ap, ℕ, ◌+◌, ◌≤◌, true, List, [], ◌∷◌, Option, arith}
use Rattle.std.proofs.lemmas.Bool.{cases_eq}
use Rattle.hc_base.specs.Lookup.{Among, but}
use Rattle.hc_core.specs.Account.{Txn, HasWritten, HasWrittenAs, IsIdle, begun_at}
use Rattle.hc_core.specs.Versions.{PutAt}
use Rattle.hc_core.specs.Sound.{AreSound, TxnIsSound, AreInOrder, ComesAfterEach}
use Rattle.hc_base.proofs.Lookups.{each_but, each_grown, grown_here}
use Rattle.hc_core.proofs.Agreeing.{AgreeUpto, sound-agree}
use Rattle.hc_core.proofs.Ordered.{after_each, each_after}

-- where no transaction is open, each has ended
pub all_ended : (ts : List Txn) → AreInOrder ts → IsIdle ts → (u : Txn) → Among u ts → u.ended ≡ true
all_ended [] ordered idle u there = elim there [ ]
all_ended (t ∷ ts) ordered idle u there = ⊎_elim (λ (same : u ≡ t). ap (λ (v : Txn). v.ended) same ∙ idle) (λ following. (after_each t u ts ordered.0 following).ended) there

module _ {size : ℕ} {log : ℕ → ℕ} {of : ℕ → List Txn} (s : AreSound size log of) (i : ℕ) (idle : IsIdle (of i)) where
  abbrev new : Txn
  new = begun_at size

  abbrev now : ℕ → List Txn
  now = but of i (new ∷ of i)

  -- the commits put what they put before, and nothing else
  put_there : (c : ℕ) (key : List ℕ) (rec : Option (List ℕ)) → PutAt of c key rec → PutAt now c key rec
  put_there c key rec put = (put.0, put.1, grown_here of i new put.0 put.1 put.2, put.3, put.4, put.5)

  put_back : (c : ℕ) (key : List ℕ) (rec : Option (List ℕ)) → PutAt now c key rec → PutAt of c key rec
  put_back c key rec put =
      each_grown of i new (λ j u. u.place ≡ c → HasWrittenAs u key rec → PutAt of c key rec)
      (λ at written. absurd written)
      (λ j u there at written. (j, u, there, at, put.4, written))
      put.0 put.1 put.2 put.3 put.5

  agree : AgreeUpto size of now
  agree = record { there = λ c key rec within. put_there c key rec; back = λ c key rec within. put_back c key rec }

  -- a transaction that was sound stays so
  carried : (j : ℕ) (v : Txn) → TxnIsSound size of j v → TxnIsSound size now j v
  carried j v h = sound-agree size size of now agree (omega arith) j v h
      (record {
        alone = λ undecided k u key among u_undecided written u_written.
            each_grown of i new (λ k u. u.place ≡ 0 → HasWritten u key → k ≡ j)
            (λ is_undecided is_written. absurd is_written.1)
            (λ k u there is_undecided is_written. h.holds.alone undecided k u key there is_undecided written is_written)
            k u among u_undecided u_written;
        newest = λ undecided k u key among written u_written.
            each_grown of i new (λ k u. HasWritten u key → u.place ≤ v.snapshot)
            (λ is_written. absurd is_written.1)
            (λ k u there is_written. h.holds.newest undecided k u key there written is_written)
            k u among u_written;
      })
      (λ r among. let n = h.refusals r among in (n.0, n.1, grown_here of i new n.0 n.1 n.2, n.3, n.4, n.5, n.6, n.7, n.8, n.9, n.10))

  -- the new transaction is sound
  new_sound : TxnIsSound size now i new
  new_sound = record {
    numbers = record {
      snapshot_within = omega arith;
      undrawn = λ none. (refl, refl);
      place_within = λ placed. absurd (placed refl);
      proposed_within = omega arith;
      chosen = λ placed. absurd (placed refl);
    };
    writes = record { undrawn = λ none. (refl, refl); rolled_back = λ ended undecided. refl; once = tt; listed = λ w written. absurd written };
    holds = record { alone = λ undecided k u key among u_undecided written. absurd written.1; newest = λ undecided k u key among written. absurd written.1 };
    reads = λ read among. absurd among;
    checks = record { current = λ part among. absurd among; ever = λ found among. absurd among };
    first = λ placed. absurd (placed refl);
    refusals = λ r among. absurd among;
  }

  -- the new transaction comes after each of its connection
  comes_after : ComesAfterEach new (of i)
  comes_after = each_after new (of i) (λ u there. record {
    ended = all_ended (of i) (s.in_order i) idle u there;
    id = λ drawn. absurd (drawn refl);
    ord = λ drawn. absurd (drawn refl);
    snapshot = (s.each i u there).numbers.snapshot_within;
    place = ⊎_elim (λ (none : u.place ≡ 0). omega arith) (λ placed. ((s.each i u there).numbers.place_within placed).1) (cases_eq u.place 0);
  })

  -- where no transaction of a connection is open, a new one leaves all sound
  pub kept_begin : AreSound size log (but of i (begun_at size ∷ of i))
  kept_begin = record {
    distinct = s.distinct;
    entries = λ c below. let e = s.entries c below in (e.0, e.1, grown_here of i new e.0 e.1 e.2, e.3);
    decided = λ j u c among.
        each_grown of i new (λ j u. u.place ≡ c + 1 → log c ≡ u.id) (λ at. absurd (omega (arith, at))) (λ j u there at. s.decided j u c there at) j u among;
    ids = λ j k u v among v_among.
        each_grown of i new (λ j u. u.id ≢ 0 → u.id ≡ v.id → j ≡ k)
        (λ drawn. absurd (drawn refl))
        (λ j u there drawn same.
        each_grown of i new (λ k v. u.id ≡ v.id → j ≡ k) (λ none. absurd (drawn none)) (λ k v v_there equal. s.ids j k u v there v_there drawn equal) k v v_among same)
        j u among;
    in_order = each_but of i (new ∷ of i) (λ j ts. AreInOrder ts) (comes_after, s.in_order i) (λ j differ. s.in_order j);
    each = each_grown of i new (TxnIsSound size now) new_sound (λ j u there. carried j u (s.each j u there));
  }
