-- A key is put: no other undecided transaction has it, and no commit above the snapshot put it.
use Rattle.std.proofs.Common.{◌≡◌, ◌≢◌, ◌∙◌, inl, inr, ⊎_elim, true≢false, refl, sym, subst, ℕ, false, List, ◌∷◌, Option}
use Rattle.hc_base.specs.Lookup.{but}
use Rattle.hc_core.specs.Account.{Txn, HasWritten}
use Rattle.hc_core.specs.Machine.{IsFree}
use Rattle.hc_core.specs.Sound.{AreSound}
use Rattle.hc_core.proofs.Ordered.{newest_sound}
use Rattle.hc_core.proofs.WriteSets.{written_front, absent}
use Rattle.hc_core.proofs.Kept.Same.{kept_same}

-- an open, undecided transaction puts a key that is free for it and is not in its write set, and all stays sound
pub kept_put : {size : ℕ} {log : ℕ → ℕ} {of : ℕ → List Txn} (s : AreSound size log of) (i : ℕ) (t : Txn) (rest : List Txn) (is : of i ≡ t ∷ rest)
    (key : List ℕ) (rec : Option (List ℕ)) → t.ended ≡ false → t.id ≢ 0 → t.place ≡ 0 → (HasWritten t key → ⊥)
    → IsFree of i t.snapshot key
    → AreSound size log (but of i (record t { write_set = record { key = key; rec = rec } ∷ t.write_set; puts = record { key = key; rec = rec } ∷ t.puts } ∷ rest))
kept_put {size} {log} {of} s i t rest is key rec running drawn undecided not_yet free =
    let h = newest_sound s i t rest is in
    kept_same s i t (record t { write_set = record { key = key; rec = rec } ∷ t.write_set; puts = record { key = key; rec = rec } ∷ t.puts }) rest is
    (record { place = refl; write_set = λ placed. absurd (placed undecided); id = λ placed. refl; named = λ key put. (refl, refl, (put.0, inr put.1)) })
    (record { id = refl; ord = refl; snapshot = refl })
    (record {
      numbers = h.numbers;
      writes = record {
        undrawn = λ none. absurd (drawn none);
        rolled_back = λ ended. absurd (true≢false (sym ended ∙ running));
        once = (absent key t.write_set not_yet, h.writes.once);
        listed = λ w written. ⊎_elim (λ same. inl same) (λ old. inr (h.writes.listed w old)) written;
      };
      holds = record {
        alone = λ open_t j u other among u_undecided written u_written.
            ⊎_elim (λ same. ⊎_elim (λ placed. absurd (placed u_undecided)) (λ own. own) (free j u among (subst (HasWritten u) same u_written)).0) (λ old. h.holds.alone open_t j u other among u_undecided old u_written)
            (written_front key rec t.write_set other written);
        newest = λ open_t j u other among written u_written.
            ⊎_elim (λ same. (free j u among (subst (HasWritten u) same u_written)).1) (λ old. h.holds.newest open_t j u other among old u_written)
            (written_front key rec t.write_set other written);
      };
      reads = h.reads;
      checks = h.checks;
      first = λ placed. absurd (placed undecided);
      refusals = h.refusals;
    })
