-- The newest transaction of a connection changes, and what others rest on stays: all is sound as before.
use Rattle.std.proofs.Common.{◌≡◌, ◌≢◌, ◌∙◌, ⊎_elim, refl, sym, subst, ℕ, ◌+◌, ◌<◌, ◌≤◌, List, ◌∷◌, Option, arith}
use Rattle.std.proofs.lemmas.Bool.{cases_eq}
use Rattle.hc_base.specs.Lookup.{Among, but}
use Rattle.hc_core.specs.Account.{IsAskedFor, IsPart, Txn, Refusal, HoldsKey, HasWritten, HasWrittenAs}
use Rattle.hc_core.specs.Versions.{PutAt}
use Rattle.hc_core.specs.Sound.{TxnIsSound, NamesWriter, ComesAfterEach, AreInOrder, AreSound}
use Rattle.hc_core.specs.declared.cells.Write.{Write}
use Rattle.hc_base.proofs.Lookups.{each_but, new_here, rest_here, others_here, old_there, each_old, each_either}
use Rattle.hc_core.proofs.Agreeing.{AgreeUpto, sound-agree}

-- what others rest on: its place, what it put where it is decided, and who it is where it has put a key
pub record Keeps (t new : Txn) : Type 0 where
  pub place : new.place ≡ t.place
  pub write_set : t.place ≢ 0 → new.write_set ≡ t.write_set
  pub id : t.place ≢ 0 → new.id ≡ t.id
  pub named : (key : List ℕ) → HoldsKey t.puts key → (new.id ≡ t.id) × (new.ord ≡ t.ord) × HoldsKey new.puts key

module _ (size : ℕ) (log : ℕ → ℕ) (of : ℕ → List Txn) (i : ℕ) (t new : Txn) (rest : List Txn) (s : AreSound size log of) (is : of i ≡ t ∷ rest) (keeps : Keeps t new) where
  abbrev now : ℕ → List Txn
  now = but of i (new ∷ rest)

  -- it is decided now just where it was
  was_placed : new.place ≢ 0 → t.place ≢ 0
  was_placed placed none = placed (keeps.place ∙ none)

  is_placed : t.place ≢ 0 → new.place ≢ 0
  is_placed placed none = placed (sym keeps.place ∙ none)

  -- the commits put what they put before, and nothing else
  put_there : (c : ℕ) (key : List ℕ) (rec : Option (List ℕ)) → PutAt of c key rec → PutAt now c key rec
  put_there c key rec put =
      each_old of i t rest is (λ j u. u.place ≡ c → HasWrittenAs u key rec → PutAt now c key rec)
      (λ at written. (i, new, new_here of i new rest, keeps.place ∙ at, put.4, subst (λ (ws : List Write). Among (record { key = key; rec = rec }) ws) (sym (keeps.write_set (λ none. put.4 (sym at ∙ none)))) written))
      (λ u there at written. (i, u, rest_here of i new rest u there, at, put.4, written))
      (λ j u differ there at written. (j, u, others_here of i new rest j u differ there, at, put.4, written))
      put.0 put.1 put.2 put.3 put.5

  put_back : (c : ℕ) (key : List ℕ) (rec : Option (List ℕ)) → PutAt now c key rec → PutAt of c key rec
  put_back c key rec put =
      each_either of i t rest is new (λ j u. u.place ≡ c → HasWrittenAs u key rec → PutAt of c key rec)
      (λ at written. (i, t, old_there of i t rest is, sym keeps.place ∙ at, put.4, subst (λ (ws : List Write). Among (record { key = key; rec = rec }) ws) (keeps.write_set (was_placed (λ none. put.4 (sym at ∙ none)))) written))
      (λ j u there at written. (j, u, there, at, put.4, written))
      put.0 put.1 put.2 put.3 put.5

  agree : AgreeUpto size of now
  agree = record { there = λ c key rec within. put_there c key rec; back = λ c key rec within. put_back c key rec }

  -- whom a refusal named, it names still
  named : (j snapshot : ℕ) (r : Refusal) → NamesWriter of j snapshot r → NamesWriter now j snapshot r
  named j snapshot r n =
      each_old of i t rest is
      (λ k u. k ≢ j → r.met.conn ≡ k → r.met.tid.0 ≡ u.id → r.met.ord ≡ u.ord → HoldsKey u.puts r.met.key → (u.place ≢ 0 → snapshot < u.place) → (IsPart r.asked → u.place ≢ 0) → IsAskedFor r.asked r.met.key → NamesWriter now j snapshot r)
      (λ other conn id ord put above committed asked.
      let same = keeps.named r.met.key put in (
        i,
        new,
        new_here of i new rest,
        other,
        conn,
        id ∙ sym same.0,
        ord ∙ sym same.1,
        same.2,
        λ placed. subst (λ p. snapshot < p) (sym keeps.place) (above (was_placed placed)),
        λ of_part. is_placed (committed of_part),
        asked,
      ))
      (λ u there other conn id ord put above committed asked. (i, u, rest_here of i new rest u there, other, conn, id, ord, put, above, committed, asked))
      (λ k u differ there other conn id ord put above committed asked. (k, u, others_here of i new rest k u differ there, other, conn, id, ord, put, above, committed, asked))
      n.0 n.1 n.2 n.3 n.4 n.5 n.6 n.7 n.8 n.9 n.10

  -- what is sound stays so, given how it is to the new one
  carried : (j : ℕ) (v : Txn) → TxnIsSound size of j v
      → (v.place ≡ 0 → new.place ≡ 0 → (key : List ℕ) → HasWritten v key → HasWritten new key → i ≡ j)
      → (v.place ≡ 0 → (key : List ℕ) → HasWritten v key → HasWritten new key → new.place ≤ v.snapshot)
      → TxnIsSound size now j v
  carried j v h alone newest = sound-agree size size of now agree (omega arith) j v h
      (record {
        alone = λ undecided k u key among u_undecided written u_written.
            each_either of i t rest is new (λ k u. u.place ≡ 0 → HasWritten u key → k ≡ j)
            (λ is_undecided is_written. alone undecided is_undecided key written is_written)
            (λ k u there is_undecided is_written. h.holds.alone undecided k u key there is_undecided written is_written)
            k u among u_undecided u_written;
        newest = λ undecided k u key among written u_written.
            each_either of i t rest is new (λ k u. HasWritten u key → u.place ≤ v.snapshot)
            (λ is_written. newest undecided key written is_written)
            (λ k u there is_written. h.holds.newest undecided k u key there written is_written)
            k u among u_written;
      })
      (λ r among. named j v.snapshot r (h.refusals r among))

  module _ (new_sound : TxnIsSound size of i new) where
    -- each of the old ones stays sound beside the new one
    old_carried : (j : ℕ) (v : Txn) → Among v (of j) → TxnIsSound size now j v
    old_carried j v there =
        let h = s.each j v there in
        carried j v h
        (λ undecided is_undecided key written is_written. sym (new_sound.holds.alone is_undecided j v key there undecided is_written written))
        (λ undecided key written is_written.
        ⊎_elim (λ none. omega (arith, none, keeps.place))
        (λ placed. let was : HasWritten t key = (is_written.0, subst (λ (ws : List Write). Among (record { key = key; rec = is_written.0 }) ws) (keeps.write_set placed) is_written.1) in
        subst (λ p. p ≤ v.snapshot) (sym keeps.place) (h.holds.newest undecided i t key (old_there of i t rest is) written was))
        (cases_eq t.place 0))

    -- the newest transaction of a connection changes, and all is sound
    pub kept_changed : ComesAfterEach new rest → ((j : ℕ) (u : Txn) → Among u (of j) → new.id ≢ 0 → new.id ≡ u.id → i ≡ j) → AreSound size log now
    kept_changed comes_after ids = record {
      distinct = s.distinct;
      entries = λ c below. let e = s.entries c below in
          each_old of i t rest is (λ j u. u.place ≡ c + 1 → (k : ℕ) × (v : Txn) × Among v (now k) × (v.place ≡ c + 1))
          (λ at. (i, new, new_here of i new rest, keeps.place ∙ at))
          (λ u there at. (i, u, rest_here of i new rest u there, at))
          (λ j u differ there at. (j, u, others_here of i new rest j u differ there, at))
          e.0 e.1 e.2 e.3;
      decided = λ j u c among.
          each_either of i t rest is new (λ j u. u.place ≡ c + 1 → log c ≡ u.id)
          (λ at. s.decided i t c (old_there of i t rest is) (sym keeps.place ∙ at) ∙ sym (keeps.id (was_placed (λ none. omega (arith, none, at)))))
          (λ j u there at. s.decided j u c there at)
          j u among;
      ids = λ j k u v among v_among.
          each_either of i t rest is new (λ j u. u.id ≢ 0 → u.id ≡ v.id → j ≡ k)
          (each_either of i t rest is new (λ k v. new.id ≢ 0 → new.id ≡ v.id → i ≡ k)
          (λ drawn same. refl)
          (λ k v there drawn same. ids k v there drawn same)
          k v v_among)
          (λ j u u_there.
          each_either of i t rest is new (λ k v. u.id ≢ 0 → u.id ≡ v.id → j ≡ k)
          (λ drawn same. sym (ids j u u_there (λ none. drawn (same ∙ none)) (sym same)))
          (λ k v there drawn same. s.ids j k u v u_there there drawn same)
          k v v_among)
          j u among;
      in_order = each_but of i (new ∷ rest) (λ j ts. AreInOrder ts) (comes_after, (subst AreInOrder is (s.in_order i)).1) (λ j differ. s.in_order j);
      each = each_either of i t rest is new (λ j u. TxnIsSound size now j u)
          (carried i new new_sound (λ undecided is_undecided key written is_written. refl) (λ undecided key written is_written. omega (arith, undecided)))
          old_carried;
    }
