-- What a commit's 13 tells is true of the transactions that asked to commit.
use Rattle.std.proofs.Common.{◌≡◌, ◌≢◌, ◌∙◌, inl, inr, ⊎_elim, refl, sym, ap, subst, ℕ, zero, suc, ◌+◌, ◌<◌, ◌≤◌, Bool, true, false, cond, List, [], ◌∷◌, ◌++◌, length, map, filter, reverse, arith}
use Rattle.std.specs.List.{AllByRecursion, AllZip}
use Rattle.std.proofs.lemmas.Bool.{cases_Bool}
use mathlib.Core.List.{reverse-cons}
use Rattle.hc_base.specs.declared.full.Full.{Full as Shortage}
use Rattle.hc_base.specs.declared.full.Full.TheVariants.{Pages, Numbers, Transactions}
use Rattle.hc_core.specs.Account.{Txn, weight_of}
use Rattle.hc_base.specs.Lookup.{Among}
use Rattle.hc_core.specs.Sound.{AreSound}
use Rattle.hc_core.specs.declared.cells.Write.{Write}
use Rattle.hc_core.proofs.Elements.{among_filter}
use Rattle.hc_transcript.specs.Text.{ending_number}
use Rattle.hc_transcript.specs.declared.refusal.Refusal.{Refusal}
use Rattle.hc_transcript.specs.declared.refusal.Refusal.TheVariants.{Full}
use Rattle.hc_transcript.specs.declared.reply.Ending.{Ending}
use Rattle.hc_transcript.specs.declared.reply.Ending.TheVariants.{Commit, Snapshot, RolledBack}
use Rattle.hc_meaning.specs.Runs.Commits.{base, writes_at_base}
use Rattle.hc_meaning.specs.Runs.Cut.{Connection, Script, Transaction}
use Rattle.hc_meaning.specs.Runs.Fitting.{EndsAs, FitsOne, PutsFitOn}
use Rattle.hc_meaning.specs.Runs.Language.{Language, IsLanguage}
use Rattle.hc_meaning.specs.Runs.Orders.{FullsAreTrue, IsTrueFull, weight_drawn, weight_of_conns, weight_of_each}
use Rattle.hc_meaning.specs.Runs.RightRun.{IsUsedUp, TellsWhatIsUsedUp, asks, committing, has_some, transactions_of, weight_committing}
use Rattle.hc_meaning.specs.Runs.Walk.{Close, Refused}
use Rattle.hc_meaning.proofs.Runs.Boths.{Both, all_boths, all_fit, all_have, all_ts}
use Rattle.hc_meaning.proofs.Runs.Closed.{EndsSo}
use Rattle.hc_meaning.proofs.Runs.Conflicts.{puts_on_base}
use Rattle.hc_meaning.proofs.Runs.Connections.{Fitted, txn_of}
use Rattle.hc_meaning.proofs.Runs.Counting.{as_many, filter_length, weighed, weighed_is, weighed_joined}
use Rattle.hc_meaning.proofs.Runs.History.{Shown}
use Rattle.hc_meaning.proofs.Runs.Joined.{among_mapped}
use Rattle.hc_meaning.proofs.Runs.Paired.{among_reversed}
use Rattle.hc_meaning.proofs.Runs.Rising.{AreRising, known_script}

some_there : (ws : List Write) → ws ≢ [] → has_some ws ≡ true
some_there [] some = absurd (some refl)
some_there (w ∷ ws) some = refl

both_true : (a b : Bool) → a ≡ true → b ≡ true → cond a b false ≡ true
both_true true b one other = other
both_true false b one other = one

refused_number : (close : Close) (ending : Ending) (reason : Refusal) (x : Txn) → close ≡ Refused reason → EndsSo close ending → EndsAs ending x
    → x.snapshot ≡ ending_number ending
refused_number close (Commit k) reason x is so ends = absurd (subst (λ (c : Close). EndsSo c (Commit k)) is so)
refused_number close (Snapshot s) reason x is so ends = ends.1
refused_number close (RolledBack s) reason x is so ends = ends.1

-- the weight of a list of transactions from the other end
joined_weight : (xs ys : List Txn) → weight_of_each (xs ++ ys) ≡ weight_of_each xs + weight_of_each ys
joined_weight [] ys = omega arith
joined_weight (x ∷ xs) ys = omega (arith, joined_weight xs ys)

reversed_weight : (xs : List Txn) → weight_of_each (reverse xs) ≡ weight_of_each xs
reversed_weight [] = refl
reversed_weight (x ∷ xs) =
    let e : weight_of_each (reverse (x ∷ xs)) ≡ weight_of_each (reverse xs ++ x ∷ []) = ap weight_of_each (reverse-cons x xs) in
    omega (arith, e, joined_weight (reverse xs) (x ∷ []), reversed_weight xs)

-- scripts of connections that had no transaction add nothing
pub conns_weight : (of : ℕ → List Txn) (p : Script → Bool) (scripts : List Script) → ((s : Script) → Among s scripts → p s ≡ false → of s.conn ≡ [])
    → weight_of_conns of (map (λ (s : Script). s.conn) scripts) ≡ weight_of_conns of (map (λ (s : Script). s.conn) (filter p scripts))
conns_weight of p [] none = refl
conns_weight of p (s ∷ scripts) none =
    let rest = conns_weight of p scripts (λ u there. none u (inr there)) in
    ⊎_elim
    (λ kept. rw kept (ap (λ (n : ℕ). weight_of_each (of s.conn) + n) rest))
    (λ dropped.
    let nothing : weight_of_each (of s.conn) ≡ 0 = ap weight_of_each (none s (inl refl) dropped) in
    rw dropped (omega (arith, rest, nothing)))
    (cases_Bool (p s))

module _ (L : Language) (laws : IsLanguage L) {size : ℕ} {log : ℕ → ℕ} {of : ℕ → List Txn} (sound : AreSound size log of)
    (cs : List Connection) (each : AllByRecursion (Fitted L of) cs) (rising : AreRising (map (λ (c : Connection). c.script) cs))
    (shown : Shown L laws sound cs size)
    (no_other : (i : ℕ) → ((s : Script) → Among s (map (λ (c : Connection). c.script) cs) → s.conn ≢ i) → of i ≡ []) where
  abbrev past : List Transaction
  past = shown.history

  abbrev commits_some : Transaction → Bool
  commits_some t = cond (asks t.close t.ending) (has_some (writes_at_base L past t)) false

  abbrev weight_at : Transaction → ℕ
  weight_at t = weight_of (writes_at_base L past t)

  at_base : (t : Transaction) (i : ℕ) (x : Txn) → Among x (of i) → FitsOne L t x → PutsFitOn L t x (base L past t)
  at_base t i x there fits = puts_on_base L laws sound cs each rising shown no_other t i x there fits

  -- one that drew an id asked to commit something
  drawn_commits : (t : Transaction) (i : ℕ) (x : Txn) → Among x (of i) → FitsOne L t x → x.id ≢ 0 → commits_some t ≡ true
  drawn_commits t i x there fits drew = both_true (asks t.close t.ending) (has_some (writes_at_base L past t)) (fits.asked drew)
      (some_there (writes_at_base L past t) ((at_base t i x there fits).drew drew))

  weight_by : (t : Transaction) (i : ℕ) (x : Txn) → Among x (of i) → FitsOne L t x → (id : ℕ) → x.id ≡ id
      → weight_drawn id x.weight ≤ cond (commits_some t) (weight_at t) 0
  weight_by t i x there fits zero is = omega arith
  weight_by t i x there fits (suc n) is =
      let drew : x.id ≢ 0 = λ none. omega (arith, is, none) in
      rw (drawn_commits t i x there fits drew, (at_base t i x there fits).weight drew) (omega arith)

  zip_weight : (i : ℕ) (ts : List Transaction) (xs : List Txn) → ((x : Txn) → Among x xs → Among x (of i)) → AllZip (FitsOne L) ts xs
      → weight_of_each xs ≤ weighed commits_some weight_at ts
  zip_weight i [] [] there zip = omega arith
  zip_weight i [] (x ∷ xs) there zip = absurd zip
  zip_weight i (t ∷ ts) [] there zip = absurd zip
  zip_weight i (t ∷ ts) (x ∷ xs) there zip =
      let here = weight_by t i x (there x (inl refl)) zip.0 x.id refl in
      let rest = zip_weight i ts xs (λ y later. there y (inr later)) zip.1 in
      omega (arith, here, rest)

  conns_within : (ds : List Connection) → AllByRecursion (Fitted L of) ds
      → weight_of_conns of (map (λ (s : Script). s.conn) (map (λ (c : Connection). c.script) ds)) ≤ weighed commits_some weight_at (transactions_of ds)
  conns_within [] fit = omega arith
  conns_within (c ∷ ds) fit =
      let here : weight_of_each (of c.script.conn) ≡ weight_of_each fit.0.closed = ap weight_of_each fit.0.account ∙ reversed_weight fit.0.closed in
      let own = zip_weight c.script.conn c.cut.closed fit.0.closed
      (λ x there. subst (λ (l : List Txn). Among x l) (sym fit.0.account) (among_reversed x fit.0.closed there)) fit.0.each in
      let rest = conns_within ds fit.1 in
      omega (arith, here, own, rest, weighed_joined commits_some weight_at c.cut.closed (transactions_of ds))

  -- what the accounts made room for is at most the weight of what asked to commit
  pub weight_within : weight_of_conns of (map (λ (s : Script). s.conn) (map (λ (c : Connection). c.script) cs))
      ≤ weight_committing L (transactions_of cs) past
  weight_within =
      let sums = weighed_is commits_some weight_at (transactions_of cs) in
      let within = conns_within cs each in
      omega (arith, sums, within)

  abbrev HasId : Both → ℕ → Type 0
  HasId b k = b.x.id ≡ k

  abbrev passes : Both → Bool
  passes b = commits_some b.t

  kept : (b : Both) → Among b (all_boths L of cs each) → commits_some b.t ≡ true → Among b (filter passes (all_boths L of cs each))
  kept b there commits = (among_filter passes b (all_boths L of cs each)).1 (there, commits)

  with_id : (k i : ℕ) (u : Txn) → Among u (of i) → u.id ≡ suc k → (b : Both) × Among b (filter passes (all_boths L of cs each)) × HasId b (suc k)
  with_id k i u there id = ⊎_elim
      (λ script.
      let in_own : Among u (of script.0.conn) = subst (λ (j : ℕ). Among u (of j)) (sym script.2) there in
      let found = all_have L of cs each script.0 script.1 u in_own in
      let b : Both = found.0 in
      let fit = all_fit L of cs each b found.1 in
      let has : b.x.id ≡ suc k = ap (λ (y : Txn). y.id) found.2 ∙ id in
      (b, kept b found.1 (drawn_commits b.t fit.0 b.x fit.1 fit.2 (λ none. omega (arith, none, has))), has))
      (λ none. absurd (subst (λ (l : List Txn). Among u l) (no_other i none) there))
      (known_script i (map (λ (c : Connection). c.script) cs))

  more_than : (n : ℕ) (b : Both) → Among b (all_boths L of cs each) → commits_some b.t ≡ true → b.x.id ≡ 0
      → ((id : ℕ) → 0 < id → id ≤ n → (i : ℕ) × (t : Txn) × Among t (of i) × (t.id ≡ id)) → n < length (committing L (transactions_of cs) past)
  more_than n b there commits undrawn drawn =
      let has : (k : ℕ) → k < suc n → (c : Both) × Among c (filter passes (all_boths L of cs each)) × HasId c k = at_id in
      let many = as_many HasId (λ c j k one other. sym one ∙ other) (suc n) (filter passes (all_boths L of cs each)) has in
      let same : length (filter commits_some (transactions_of cs)) ≡ length (filter passes (all_boths L of cs each)) =
      ap (λ (l : List Transaction). length (filter commits_some l)) (sym (all_ts L of cs each))
      ∙ filter_length commits_some (λ (c : Both). c.t) (all_boths L of cs each) in
      omega (arith, many, same)
    where
      at_id : (k : ℕ) → k < suc n → (c : Both) × Among c (filter passes (all_boths L of cs each)) × HasId c k
      at_id zero below = (b, kept b there commits, undrawn)
      at_id (suc k) below = let found = drawn (suc k) (omega arith) (omega (arith, below)) in with_id k found.0 found.1 found.2 found.3

  used_by : (b : Both) → Among b (all_boths L of cs each) → commits_some b.t ≡ true → (conns : List ℕ)
      → weight_of_conns of conns ≤ weight_committing L (transactions_of cs) past → (number : ℕ) → b.x.snapshot ≡ number
      → (full : Shortage) → IsTrueFull of conns b.x full
      → IsUsedUp (length (committing L (transactions_of cs) past)) (weight_committing L (transactions_of cs) past) number full
  used_by b there commits conns within number at (Transactions n) true_full = more_than n b there commits true_full.0 true_full.1
  used_by b there commits conns within number at (Numbers n) true_full = omega (arith, true_full, within)
  used_by b there commits conns within number at (Pages n floor) true_full =
      (omega (arith, true_full.0, within), subst (λ (m : ℕ). floor.0 ≤ m) at true_full.1)

  told_by : (b : Both) → Among b (all_boths L of cs each) → EndsSo b.t.close b.t.ending → (conns : List ℕ)
      → weight_of_conns of conns ≤ weight_committing L (transactions_of cs) past → FullsAreTrue of conns
      → TellsWhatIsUsedUp L (transactions_of cs) past b.t
  told_by b there ends conns within fulls full closed =
      let fit = all_fit L of cs each b there in
      let asked : asks b.t.close b.t.ending ≡ true = ap (λ (c : Close). asks c b.t.ending) closed in
      let some = (at_base b.t fit.0 b.x fit.1 fit.2).refused (Full full) closed in
      let commits = both_true (asks b.t.close b.t.ending) (has_some (writes_at_base L past b.t)) asked (some_there (writes_at_base L past b.t) some) in
      used_by b there commits conns within (ending_number b.t.ending) (refused_number b.t.close b.t.ending (Full full) b.x closed ends fit.2.number) full
      (fulls fit.0 b.x fit.1 full (fit.2.full full closed))

  pub used_up : (conns : List ℕ) → weight_of_conns of conns ≤ weight_committing L (transactions_of cs) past → FullsAreTrue of conns
      → (t : Transaction) → Among t (transactions_of cs) → TellsWhatIsUsedUp L (transactions_of cs) past t
  used_up conns within fulls t among =
      let pair = (txn_of L of cs each t among).2 in
      let found = among_mapped (λ (b : Both). b.t) t (all_boths L of cs each) (subst (λ (l : List Transaction). Among t l) (sym (all_ts L of cs each)) among) in
      let ends : EndsSo found.0.t.close found.0.t.ending = subst (λ (u : Transaction). EndsSo u.close u.ending) found.2 pair.ends in
      subst (TellsWhatIsUsedUp L (transactions_of cs) past) (sym found.2) (told_by found.0 found.1 ends conns within fulls)
