-- A key is taken out: less is in the write set than before.
use Rattle.std.proofs.Common.{◌≡◌, refl, ap, ℕ, List, ◌∷◌}
use Rattle.hc_base.specs.Lookup.{but}
use Rattle.hc_core.specs.Account.{Txn, without}
use Rattle.hc_core.specs.Sound.{AreSound}
use Rattle.hc_core.proofs.Ordered.{newest_sound}
use Rattle.hc_core.proofs.WriteSets.{among_without, written_without, once_without}
use Rattle.hc_core.proofs.Kept.Same.{kept_same}

-- a key of an undecided transaction is taken out, and all stays sound
pub kept_unput : {size : ℕ} {log : ℕ → ℕ} {of : ℕ → List Txn} (s : AreSound size log of) (i : ℕ) (t : Txn) (rest : List Txn) (is : of i ≡ t ∷ rest)
    (key : List ℕ) → t.place ≡ 0 → AreSound size log (but of i (record t { write_set = without key t.write_set } ∷ rest))
kept_unput {size} {log} {of} s i t rest is key undecided =
    let h = newest_sound s i t rest is in
    kept_same s i t (record t { write_set = without key t.write_set }) rest is
    (record { place = refl; write_set = λ placed. absurd (placed undecided); id = λ placed. refl; named = λ key put. (refl, refl, put) })
    (record { id = refl; ord = refl; snapshot = refl })
    (record {
      numbers = h.numbers;
      writes = record {
        undrawn = λ none. let all = h.writes.undrawn none in (ap (without key) all.0, all.1);
        rolled_back = λ ended open_t. ap (without key) (h.writes.rolled_back ended open_t);
        once = once_without key t.write_set h.writes.once;
        listed = λ w written. h.writes.listed w (among_without key w t.write_set written);
      };
      holds = record {
        alone = λ open_t j u other among u_undecided written u_written. h.holds.alone open_t j u other among u_undecided (written_without key t.write_set other written) u_written;
        newest = λ open_t j u other among written u_written. h.holds.newest open_t j u other among (written_without key t.write_set other written) u_written;
      };
      reads = h.reads;
      checks = h.checks;
      first = λ placed. absurd (placed undecided);
      refusals = h.refusals;
    })
