-- What the log names where a check or a put meets something.
use Rattle.std.proofs.Common.{◌≡◌, ◌∙◌, ⊎_elim, refl, sym, ap, subst, ℕ, ◌-◌, ◌<◌, true, false, Option, Some, None, List, length, take, drop, arith}
use Rattle.std.proofs.lemmas.Bool.{true≢false}
use Rattle.std.proofs.lemmas.List.{length-take}
use Rattle.hc_range.specs.declared.range.Range.{Range}
use Rattle.hc_core.specs.Account.{Txn, HasWritten, WhenOpen}
use Rattle.hc_core.specs.Versions.{IsInTheWay, IsFound}
use Rattle.hc_core.specs.Machine.{IsForgettable, IsFree, IsUnchanged, Names}
use Rattle.hc_core.specs.Running.{holds_key}
use Rattle.hc_core.specs.Sound.{AreSound}
use Rattle.hc_core.specs.Commits.{AreCommits, HasNoTombstone, IsLastWith, IsMetAbove, IsMetAt, IsMetBetween, IsNoneAbove, NoneIsWith, is_in, least_between, least_of, writes_at}
use Rattle.hc_core.specs.declared.commit.Commit.{Commit}
use Rattle.hc_core.specs.declared.outcome.Met.{Met}
use Rattle.hc_core.proofs.LogAnswers.{forgettable_last, forgettable_logged, found_is, newest_in_the_way, none_found, none_is_free, writes_of_front}
use Rattle.hc_core.proofs.LogEntries.{holds_from}
use Rattle.hc_core.proofs.LogLeast.{IsLeast, IsPutBy, least_is, put_into}

-- the least key, with the last entry that puts it, is what the refusal names
pub met_between : (snapshot number : ℕ) (range : Range) (commits : List Commit) (key looked : List ℕ) (place : ℕ) (met : Met) (found : Option (List ℕ))
    → found ≡ least_of range None (drop snapshot (take (number - 1) commits)) → found ≡ Some key → looked ≡ key
    → IsLastWith looked (take (number - 1) commits) place → IsMetAt commits place key met → IsMetBetween snapshot number range commits met
met_between snapshot number range commits key looked place met found is some same last names =
    let own : met.key ≡ key = names.5 in (
      place,
      sym is ∙ some ∙ ap Some (sym own),
      subst (λ (k : List ℕ). IsLastWith k (take (number - 1) commits) place) (same ∙ sym own) last,
      (names.0, names.1, names.2, names.3, names.4, refl),
    )

-- some entry puts the least key
pub least_is_put : (snapshot number : ℕ) (range : Range) (commits : List Commit) (key looked : List ℕ) (found : Option (List ℕ))
    → found ≡ least_of range None (drop snapshot (take (number - 1) commits)) → found ≡ Some key → looked ≡ key → NoneIsWith looked (take (number - 1) commits) → ⊥
least_is_put snapshot number range commits key looked found is some same none =
    let least : IsLeast (λ k. (is_in range k ≡ true) × IsPutBy (drop snapshot (take (number - 1) commits)) k) (Some key) =
    subst (IsLeast (λ k. (is_in range k ≡ true) × IsPutBy (drop snapshot (take (number - 1) commits)) k)) (sym is ∙ some) (least_is range (drop snapshot (take (number - 1) commits))) in
    let put = put_into commits snapshot (number - 1) key least.0.1 in
    let within : put.0 < length (take (number - 1) commits) = omega (arith, put.2, put.3, length-take (number - 1) commits) in
    true≢false (sym (ap (holds_key key) (writes_of_front commits (number - 1) put.0 put.2) ∙ holds_from key (writes_at commits put.0) put.4)
    ∙ subst (λ (k : List ℕ). holds_key k (writes_at (take (number - 1) commits) put.0) ≡ false) same (none put.0 within))

module _ {size : ℕ} {log : ℕ → ℕ} {of : ℕ → List Txn} (s : AreSound size log of) (commits : List Commit) (are : AreCommits of 1 commits) (long : length commits ≡ size) where
  -- what a check finds
  pub check_met : (snapshot number : ℕ) (part : Range) (met : Met) → IsMetBetween snapshot number part commits met
      → (j : ℕ) × (u : Txn) × IsFound of snapshot number part met.key j u × Names met j u met.key
  check_met snapshot number part met found =
      let m = found.3 in
      let f = found_is s commits are long snapshot number part met.key found.0 m.0 found.1 found.2 m.1 in
      (m.0.conn, f.0, f.1, (m.2 ∙ sym f.2, m.3, m.4 ∙ sym f.3, refl))

  -- and that it finds nothing
  pub check_none : (snapshot number : ℕ) (part : Range) → least_between snapshot number part commits ≡ None → IsUnchanged of snapshot number part
  check_none snapshot number part none = none_found s commits are long snapshot number part none

  module _ (key : List ℕ) (none_open : (j : ℕ) → WhenOpen (of j) (λ t. (t.place ≡ 0) × HasWritten t key) → ⊥) where
    -- what a put meets in the log
    pub put_met : (i snapshot : ℕ) (met : Met) → IsMetAbove snapshot key commits met → (j : ℕ) × (u : Txn) × IsInTheWay of i snapshot key j u × Names met j u key
    put_met i snapshot met above =
        let m = above.3 in
        let w = newest_in_the_way s commits are long key none_open above.0 m.0 above.1 m.1 i snapshot above.2 in
        (m.0.conn, w.0, w.1, (m.2 ∙ sym w.2, m.3, m.4 ∙ sym w.3, m.5))

    -- and that it meets nothing
    pub put_free : (i snapshot : ℕ) → IsNoneAbove snapshot key commits → IsFree of i snapshot key
    put_free i snapshot none = none_is_free s commits are long key none_open i snapshot none

  -- a key whose last entry puts no tombstone is not forgettable
  pub no_tombstone : (key : List ℕ) → HasNoTombstone key commits → IsForgettable of key → ⊥
  no_tombstone key none f =
      ⊎_elim (λ nowhere. forgettable_logged s commits are long key f nowhere)
      (λ record_put. true≢false (sym (forgettable_last s commits are long key record_put.0 f record_put.1).0 ∙ record_put.2)) none
