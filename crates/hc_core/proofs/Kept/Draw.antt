-- A transaction draws an id that no other has, with an ordinal above all of its connection.
use Rattle.std.proofs.Common.{◌≡◌, ◌≢◌, refl, sym, ℕ, ◌<◌, List, ◌∷◌}
use Rattle.hc_base.specs.Lookup.{Among, but}
use Rattle.hc_core.specs.Account.{Txn}
use Rattle.hc_core.specs.Sound.{AreSound}
use Rattle.hc_base.proofs.Lookups.{rest_there}
use Rattle.hc_core.proofs.Changed.{kept_changed}
use Rattle.hc_core.proofs.Ordered.{newest_sound, newest_after, after_each, each_after}
use Rattle.hc_core.proofs.WriteSets.{nothing_put}

-- a transaction draws an id that no other has and an ordinal above all, and all stays sound
pub kept_draw : {size : ℕ} {log : ℕ → ℕ} {of : ℕ → List Txn} (s : AreSound size log of) (i : ℕ) (t : Txn) (rest : List Txn) (is : of i ≡ t ∷ rest)
    (id ord : ℕ) → t.id ≡ 0 → id ≢ 0 → ((j : ℕ) (u : Txn) → Among u (of j) → u.id ≢ id) → ((u : Txn) → Among u (of i) → u.ord < ord)
    → AreSound size log (but of i (record t { id = id; ord = ord } ∷ rest))
kept_draw {size} {log} {of} s i t rest is id ord undrawn some fresh above =
    let h = newest_sound s i t rest is in
    kept_changed size log of i t (record t { id = id; ord = ord }) rest s is
    (record {
      place = refl;
      write_set = λ placed. refl;
      id = λ placed. absurd (placed (h.numbers.undrawn undrawn).0);
      named = λ key put. absurd (nothing_put t (h.writes.undrawn undrawn).1 key put);
    })
    (record {
      numbers = record { snapshot_within = h.numbers.snapshot_within; undrawn = λ is_none. absurd (some is_none); place_within = h.numbers.place_within; proposed_within = h.numbers.proposed_within; chosen = h.numbers.chosen };
      writes = record { undrawn = λ is_none. absurd (some is_none); rolled_back = h.writes.rolled_back; once = h.writes.once; listed = h.writes.listed };
      holds = h.holds;
      reads = h.reads;
      checks = h.checks;
      first = h.first;
      refusals = h.refusals;
    })
    (each_after (record t { id = id; ord = ord }) rest (λ u there.
    let old = after_each t u rest (newest_after s i t rest is) there in
    let u_there = rest_there of i t rest is u there in
    record {
      ended = old.ended;
      id = λ drawn. fresh i u u_there;
      ord = λ drawn. above u u_there;
      snapshot = old.snapshot;
      place = old.place;
    }))
    (λ j u there drawn same. absurd (fresh j u there (sym same)))
