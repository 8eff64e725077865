-- The runs that were worked out by hand.
use Rattle.std.proofs.Common.{◌≡◌, ◌≢◌, ◌∙◌, ◌⊎◌, inl, inr, ⊎_elim, refl, sym, subst, ℕ, zero, suc, ◌+◌, ◌<◌, ◌≤◌, false, Some, List, [], ◌∷◌, take, get_or, arith, lit<}
use Rattle.std.proofs.lemmas.Bool.{true≢false}
use Rattle.hc_range.specs.declared.range.Range.{Range}
use Rattle.hc_range.specs.Order.{is_below}
use Rattle.hc_range.specs.Ranges.{InRange, Includes}
use Rattle.hc_base.specs.Lookup.{Among}
use Rattle.hc_core.specs.Account.{Txn, PartRead, HoldsKey, HasWritten, begun_at, part_of, txns}
use Rattle.hc_core.specs.Laws.{IsTheRun}
use Rattle.hc_core.specs.Examples.{key_a, key_b, key_c, key_p, one_commit, under_a_newer_one, write_skew}
use Rattle.hc_core.specs.Machine.{IsFree, Machine, Runs, after_step, start, txns_of}
use Rattle.hc_core.specs.Running.{holds_key}
use Rattle.hc_core.specs.Versions.{IsFound}
use Rattle.hc_core.specs.declared.account.Entry.{Entry}
use Rattle.hc_core.specs.declared.cells.Write.{Write}
use Rattle.hc_core.proofs.LogAnswers.{nothing_between}
use Rattle.hc_core.proofs.LogEntries.{holds_from}
use Rattle.hc_core.proofs.LogCells.{cells_first}
use Rattle.hc_core.proofs.Played.{the_run}

-- the machine after steps
abbrev after_all : Machine → List Entry → Machine
after_all m [] = m
after_all m (step ∷ steps) = after_all (after_step m step) steps

-- what holds of each of a list
abbrev EachIn : {A : Type 0} → (A → Type 0) → List A → Type 0
EachIn P [] = Unit {0}
EachIn P (x ∷ xs) = P x × EachIn P xs

-- what holds of each of a list holds of one that is in it
each_in : {A : Type 0} (P : A → Type 0) (xs : List A) → EachIn P xs → (y : A) → Among y xs → P y
each_in P [] all y there = absurd there
each_in P (x ∷ xs) all y there = ⊎_elim (λ same. subst P (sym same) all.0) (λ following. each_in P xs all.1 y following) there

-- what holds of each transaction of each account, the first one being connection 0's
abbrev EachOf : (ℕ → Txn → Type 0) → List (List Entry) → Type 0
EachOf P [] = Unit {0}
EachOf P (account ∷ accounts) = EachIn (P 0) (txns account) × EachOf (λ j. P (suc j)) accounts

-- what holds of each transaction of the accounts holds of one that is in one of them
each_of : (P : ℕ → Txn → Type 0) (accounts : List (List Entry)) → EachOf P accounts → (j : ℕ) (u : Txn) → Among u (txns (get_or accounts j [])) → P j u
each_of P [] all j u there = absurd there
each_of P (account ∷ accounts) all zero u there = each_in (P 0) (txns account) all.0 u there
each_of P (account ∷ accounts) all (suc j) u there = each_of (λ k. P (suc k)) accounts all.1 j u there

-- a put is free where it is so by each transaction of each account
free_by : (m : Machine) (i snapshot : ℕ) (key : List ℕ) → EachOf (λ j u. HasWritten u key → ((u.place ≢ 0) ⊎ (j ≡ i)) × (u.place ≤ snapshot)) m.accounts
    → IsFree (txns_of m) i snapshot key
free_by m i snapshot key all = each_of (λ j u. HasWritten u key → ((u.place ≢ 0) ⊎ (j ≡ i)) × (u.place ≤ snapshot)) m.accounts all

-- the parts that were read lie in the parts that were checked
includes_by : (parts : List Range) (reads : List PartRead) → EachIn (λ (read : PartRead). Includes parts read.part) reads → (read : PartRead) → Among read reads
    → Includes parts read.part
includes_by parts reads all = each_in (λ (read : PartRead). Includes parts read.part) reads all

-- a key that is not among writes
not_there : (key : List ℕ) (writes : List Write) → holds_key key writes ≡ false → HoldsKey writes key → ⊥
not_there key writes none held = true≢false (sym (holds_from key writes held) ∙ none)

-- the parts from one key up to the next, and what a read of them found
abbrev part_a : Range
part_a = part_of key_a (Some key_b)

abbrev part_b : Range
part_b = part_of key_b (Some key_c)

abbrev none_in : Range → PartRead
none_in part = record { part = part; cells = [] }

-- the key a lies in the part that begins with it
a_inside : InRange part_a key_a
unfolding is_below
a_inside = (refl, refl)

abbrev put_of : List ℕ → Write
put_of key = record { key = key; rec = Some [] }

-- a check of the part of the first key for the number 2 finds the commit with the number 1
found_first : (m : Machine) (j : ℕ) (u : Txn) → Among u (txns_of m j) → u.place ≡ 1 → HasWritten u key_a → IsFound (txns_of m) 0 2 part_a key_a j u
found_first m j u there place written = record {
  between = (there, omega (arith, place), omega (arith, place), written);
  inside = a_inside;
  least = λ other k v inside between. inside.0;
  newest = λ k v between. omega (arith, place, between.2);
}

-- the newest transaction of a connection that has one
abbrev newest_of : Machine → ℕ → Txn
newest_of m i = get_or (txns_of m i) 0 (begun_at 0)

-- the machine after some first steps of a run
abbrev at : ℕ → List Entry → ℕ → Machine
at conns steps n = after_all (start conns) (take n steps)

-- the first draw of a connection whose transaction is its only one
ords_below : (m : Machine) (i : ℕ) → EachIn (λ (u : Txn). u.ord < 1) (txns_of m i) → (u : Txn) → Among u (txns_of m i) → u.ord < 1
ords_below m i all = each_in (λ (u : Txn). u.ord < 1) (txns_of m i) all

-- a number after another is not 0
some : (n : ℕ) → n + 1 ≢ 0
some n none = omega (arith, none)

-- one commit: its steps run
one_commit_runs : Runs (start 2) one_commit (at 2 one_commit 7)
one_commit_runs = (
  inr (λ enabled. enabled, refl),
  (
    inl ((omega arith, tt), refl),
    (
      inl ((refl, (refl, omega arith, ords_below (at 2 one_commit 2) 0 (omega arith, tt), lit< tt)), refl),
      (
        inl ((refl, (some 0, refl, refl, λ written. absurd written.1)), (refl, inr (free_by (at 2 one_commit 3) 0 0 key_a (((λ written. absurd written.1), tt), (tt, tt)), refl))),
        (
          inl ((refl, (some 0, refl)), refl),
          (
            inl ((refl, (some 0, refl, λ read there. absurd there)), (refl, inl (refl, refl))),
            (
              inl ((refl, inl (some 0)), refl),
              refl,
            ),
          ),
        ),
      ),
    ),
  ),
)

-- one commit: the run is the only one over its events
pub one_commit_is : IsTheRun 2 one_commit
one_commit_is = the_run 2 one_commit (at 2 one_commit 7, one_commit_runs)

-- write skew: its steps run
write_skew_runs : Runs (start 2) write_skew (at 2 write_skew 17)
write_skew_runs = (
  inl ((omega arith, tt), refl),
  (
    inl ((omega arith, tt), refl),
    (
      inl ((refl, refl), (refl, ([], cells_first (txns_of (at 2 write_skew 2)) part_b, refl))),
      (
        inl ((refl, refl), (refl, ([], cells_first (txns_of (at 2 write_skew 3)) part_a, refl))),
        (
          inl ((refl, (refl, omega arith, ords_below (at 2 write_skew 4) 0 (omega arith, tt), lit< tt)), refl),
          (
            inl ((refl, (refl, omega arith, ords_below (at 2 write_skew 5) 1 (omega arith, tt), lit< tt)), refl),
            (
              inl (
                (refl, (some 0, refl, refl, λ written. absurd written.1)),
                (
                  refl,
                  inr (
                    free_by (at 2 write_skew 6) 0 0 key_a (((λ written. absurd written.1), tt), (((λ written. absurd written.1), tt), tt)),
                    refl,
                  ),
                ),
              ),
              (
                inl (
                  (refl, (some 1, refl, refl, λ written. absurd written.1)),
                  (
                    refl,
                    inr (
                      free_by (at 2 write_skew 7) 1 0 key_b (((λ written. absurd (not_there key_b (put_of key_a ∷ []) refl written)), tt), (((λ written. absurd written.1), tt), tt)),
                      refl,
                    ),
                  ),
                ),
                (
                  inl ((refl, (some 0, refl)), refl),
                  (
                    inl ((refl, some 0), (refl, inr (nothing_between (txns_of (at 2 write_skew 9)) 0 1 part_b (omega arith), refl))),
                    (
                      inl ((refl, (some 0, refl, includes_by (part_b ∷ []) (none_in part_b ∷ []) ((λ key inside. inl inside), tt))), (refl, inl (refl, refl))),
                      (
                        inl ((refl, (some 1, refl)), refl),
                        (
                          inr (λ enabled. enabled.1.2 (none_in part_a) (inl refl) key_a a_inside, refl),
                          (
                            inl (
                              (refl, some 1),
                              (
                                refl,
                                inl (
                                  record { tid = record { 0 = 1 }; conn = 0; ord = 1; key = key_a },
                                  key_a,
                                  0,
                                  newest_of (at 2 write_skew 13) 0,
                                  found_first (at 2 write_skew 13) 0 (newest_of (at 2 write_skew 13) 0) (inl refl) refl (Some [], inl refl),
                                  (refl, refl, refl, refl),
                                  refl,
                                ),
                              ),
                            ),
                            (
                              inl ((refl, ((Some [], inl refl), refl)), refl),
                              (
                                inl ((refl, inr refl), refl),
                                (
                                  inl ((refl, inl (some 0)), refl),
                                  refl,
                                ),
                              ),
                            ),
                          ),
                        ),
                      ),
                    ),
                  ),
                ),
              ),
            ),
          ),
        ),
      ),
    ),
  ),
)

-- write skew: the run is the only one over its events
pub write_skew_is : IsTheRun 2 write_skew
write_skew_is = the_run 2 write_skew (at 2 write_skew 17, write_skew_runs)

-- a version under a newer one: its steps run
under_a_newer_one_runs : Runs (start 3) under_a_newer_one (at 3 under_a_newer_one 18)
under_a_newer_one_runs = (
  inl ((omega arith, tt), refl),
  (
    inl ((refl, refl), (refl, ([], cells_first (txns_of (at 3 under_a_newer_one 1)) part_a, refl))),
    (
      inl ((omega arith, tt), refl),
      (
        inl ((refl, (refl, omega arith, ords_below (at 3 under_a_newer_one 3) 1 (omega arith, tt), lit< tt)), refl),
        (
          inl (
            (refl, (some 0, refl, refl, λ written. absurd written.1)),
            (
              refl,
              inr (
                free_by (at 3 under_a_newer_one 4) 1 0 key_a (((λ written. absurd written.1), tt), (((λ written. absurd written.1), tt), (tt, tt))),
                refl,
              ),
            ),
          ),
          (
            inl ((refl, (some 0, refl)), refl),
            (
              inl ((refl, (some 0, refl, λ read there. absurd there)), (refl, inl (refl, refl))),
              (
                inl ((refl, inl (some 0)), refl),
                (
                  inl ((refl, (refl, omega arith, ords_below (at 3 under_a_newer_one 8) 0 (omega arith, tt), lit< tt)), refl),
                  (
                    inl (
                      (refl, (some 1, refl, refl, λ written. absurd written.1)),
                      (
                        refl,
                        inr (
                          free_by (at 3 under_a_newer_one 9) 0 0 key_p
                              (((λ written. absurd written.1), tt), (((λ written. absurd (not_there key_p (put_of key_a ∷ []) refl written)), tt), (tt, tt))),
                          refl,
                        ),
                      ),
                    ),
                    (
                      inl ((refl, (some 1, refl)), refl),
                      (
                        inl ((omega arith, tt), refl),
                        (
                          inl ((refl, (refl, omega arith, ords_below (at 3 under_a_newer_one 12) 2 (omega arith, tt), lit< tt)), refl),
                          (
                            inl (
                              (refl, (some 2, refl, refl, λ written. absurd written.1)),
                              (
                                refl,
                                inr (
                                  free_by (at 3 under_a_newer_one 13) 2 1 key_a
                                      (((λ written. absurd (not_there key_a (put_of key_p ∷ []) refl written)), tt), (((λ written. (inl (some 0), omega arith)), tt), (((λ written. absurd written.1), tt), tt))),
                                  refl,
                                ),
                              ),
                            ),
                            (
                              inl ((refl, (some 2, refl)), refl),
                              (
                                inl ((refl, (some 1, refl, λ read there. absurd there)), (refl, inl (refl, refl))),
                                (
                                  inl ((refl, inl (some 1)), refl),
                                  (
                                    inl (
                                      (refl, some 1),
                                      (
                                        refl,
                                        inl (
                                          record { tid = record { 0 = 1 }; conn = 1; ord = 1; key = key_a },
                                          key_a,
                                          1,
                                          newest_of (at 3 under_a_newer_one 17) 1,
                                          found_first (at 3 under_a_newer_one 17) 1 (newest_of (at 3 under_a_newer_one 17) 1) (inl refl) refl (Some [], inl refl),
                                          (refl, refl, refl, refl),
                                          refl,
                                        ),
                                      ),
                                    ),
                                    refl,
                                  ),
                                ),
                              ),
                            ),
                          ),
                        ),
                      ),
                    ),
                  ),
                ),
              ),
            ),
          ),
        ),
      ),
    ),
  ),
)

-- a version under a newer one: the run is the only one over its events
pub under_a_newer_one_is : IsTheRun 3 under_a_newer_one
under_a_newer_one_is = the_run 3 under_a_newer_one (at 3 under_a_newer_one 18, under_a_newer_one_runs)
