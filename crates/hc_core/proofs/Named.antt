-- What a put or a check meets is a transaction of another connection that put the key.
use Rattle.std.proofs.Common.{◌≡◌, ◌≢◌, ⊎_elim, sym, subst, ℕ, ◌<◌, List, ◌∷◌, arith}
use Rattle.hc_range.specs.declared.range.Range.{Range}
use Rattle.hc_range.specs.Ranges.{InRange}
use Rattle.hc_base.specs.Lookup.{Among}
use Rattle.hc_core.specs.Account.{KeyAsked, PartAsked, Txn, HoldsKey, HasWritten}
use Rattle.hc_core.specs.Versions.{IsInTheWay, IsBetween, IsFound}
use Rattle.hc_core.specs.Machine.{Names}
use Rattle.hc_core.specs.Sound.{AreSound, NamesWriter}
use Rattle.hc_core.specs.declared.outcome.Met.{Met}
use Rattle.hc_core.proofs.Ordered.{newest_or_older, newest_sound}

-- a key that is in the write set was put
put_listed : {size : ℕ} {log : ℕ → ℕ} {of : ℕ → List Txn} → AreSound size log of → (j : ℕ) (u : Txn) → Among u (of j) → (key : List ℕ) → HasWritten u key → HoldsKey u.puts key
put_listed s j u there key written = (written.0, (s.each j u there).writes.listed (record { key = key; rec = written.0 }) written.1)

module _ {size : ℕ} {log : ℕ → ℕ} {of : ℕ → List Txn} (s : AreSound size log of) (i : ℕ) (t : Txn) (rest : List Txn) (is : of i ≡ t ∷ rest) where
  -- what is in the way of an undecided transaction is another connection's
  in_the_way_other : t.place ≡ 0 → (key : List ℕ) (j : ℕ) (u : Txn) → IsInTheWay of i t.snapshot key j u → j ≢ i
  in_the_way_other undecided key j u way =
      ⊎_elim (λ open_u. open_u.1)
      (λ above same.
      newest_or_older s i t rest is (λ v. t.snapshot < v.place → ⊥)
      (λ above_own. omega (arith, above_own, undecided))
      (λ v following after above_own. omega (arith, above_own, after.place))
      u (subst (λ k. Among u (of k)) same way.0.0) above)
      way.1

  -- a refused put names another connection's transaction that put the key
  pub names_in_the_way : t.place ≡ 0 → (met : Met) (key : List ℕ) (j : ℕ) (u : Txn) → IsInTheWay of i t.snapshot key j u → Names met j u key
      → NamesWriter of i t.snapshot (record { asked = KeyAsked key; met = met })
  names_in_the_way undecided met key j u way names = (
    j,
    u,
    way.0.0,
    in_the_way_other undecided key j u way,
    names.1,
    names.0,
    names.2,
    subst (HoldsKey u.puts) (sym names.3) (put_listed s j u way.0.0 key way.0.1),
    λ placed. ⊎_elim (λ open_u. absurd (placed open_u.0)) (λ above. above) way.1,
    λ of_key. absurd of_key,
    names.3,
  )

  -- what a check finds is another connection's
  between_other : (key : List ℕ) (j : ℕ) (u : Txn) → IsBetween of t.snapshot t.proposed key j u → j ≢ i
  between_other key j u between same =
      newest_or_older s i t rest is (λ v. t.snapshot < v.place → v.place < t.proposed → ⊥)
      (λ above below. let own : t.proposed ≡ t.place = (newest_sound s i t rest is).numbers.chosen (λ none. omega (arith, none, above)) in omega arith)
      (λ v following after above below. omega (arith, above, after.place))
      u (subst (λ k. Among u (of k)) same between.0) between.1 between.2

  -- a refused check names another connection's decided transaction that put the key
  pub names_found : (met : Met) (part : Range) (key : List ℕ) (j : ℕ) (u : Txn) → IsFound of t.snapshot t.proposed part key j u → Names met j u key
      → NamesWriter of i t.snapshot (record { asked = PartAsked part; met = met })
  names_found met part key j u found names =
      let b = found.between in (
        j,
        u,
        b.0,
        between_other key j u b,
        names.1,
        names.0,
        names.2,
        subst (HoldsKey u.puts) (sym names.3) (put_listed s j u b.0 key b.3),
        λ placed. b.1,
        λ of_part none. omega (arith, none, b.1),
        subst (InRange part) (sym names.3) found.inside,
      )
