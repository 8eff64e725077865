-- Each transaction of the connections beside the one of the account that it fits, in one list.
use Rattle.std.proofs.Common.{◌≡◌, ◌∙◌, inl, inr, ⊎_elim, refl, sym, ap, subst, ℕ, List, [], ◌∷◌, ◌++◌, map, reverse}
use Rattle.std.specs.List.{AllByRecursion, AllZip}
use Rattle.hc_core.specs.Account.{Txn}
use Rattle.hc_base.specs.Lookup.{Among}
use Rattle.hc_meaning.specs.Runs.Cut.{Connection, Script, Transaction}
use Rattle.hc_meaning.specs.Runs.Fitting.{FitsOne}
use Rattle.hc_meaning.specs.Runs.Language.{Language}
use Rattle.hc_meaning.specs.Runs.RightRun.{transactions_of}
use Rattle.hc_meaning.proofs.Runs.Connections.{Fitted}
use Rattle.hc_meaning.proofs.Runs.Joined.{among_back, among_either, among_front}
use Rattle.hc_meaning.proofs.Runs.Paired.{among_reversed, reverse_among}

pub record Both : Type 0 where
  pub t : Transaction
  pub x : Txn

abbrev pub boths : List Transaction → List Txn → List Both
boths [] xs = []
boths (t ∷ ts) [] = []
boths (t ∷ ts) (x ∷ xs) = record { t = t; x = x } ∷ boths ts xs

joined_map : {A B : Type 0} (f : A → B) (xs ys : List A) → map f (xs ++ ys) ≡ map f xs ++ map f ys
joined_map f [] ys = refl
joined_map f (x ∷ xs) ys = ap (λ (l : List _). f x ∷ l) (joined_map f xs ys)

module _ (L : Language) (of : ℕ → List Txn) where
  boths_ts : (ts : List Transaction) (xs : List Txn) → AllZip (FitsOne L) ts xs → map (λ (b : Both). b.t) (boths ts xs) ≡ ts
  boths_ts [] [] zip = refl
  boths_ts [] (x ∷ xs) zip = absurd zip
  boths_ts (t ∷ ts) [] zip = absurd zip
  boths_ts (t ∷ ts) (x ∷ xs) zip = ap (λ (l : List Transaction). t ∷ l) (boths_ts ts xs zip.1)

  boths_fit : (ts : List Transaction) (xs : List Txn) → AllZip (FitsOne L) ts xs → (b : Both) → Among b (boths ts xs) → FitsOne L b.t b.x × Among b.x xs
  boths_fit [] [] zip b there = absurd there
  boths_fit [] (x ∷ xs) zip b there = absurd there
  boths_fit (t ∷ ts) [] zip b there = absurd there
  boths_fit (t ∷ ts) (x ∷ xs) zip b there = ⊎_elim
      (λ here. subst (λ (d : Both). FitsOne L d.t d.x × Among d.x (x ∷ xs)) (sym here) (zip.0, inl refl))
      (λ following. let rest = boths_fit ts xs zip.1 b following in (rest.0, inr rest.1))
      there

  boths_have : (ts : List Transaction) (xs : List Txn) → AllZip (FitsOne L) ts xs → (x : Txn) → Among x xs → (b : Both) × Among b (boths ts xs) × (b.x ≡ x)
  boths_have [] [] zip x there = absurd there
  boths_have [] (y ∷ xs) zip x there = absurd zip
  boths_have (t ∷ ts) [] zip x there = absurd there
  boths_have (t ∷ ts) (y ∷ xs) zip x there = ⊎_elim
      (λ here. (record { t = t; x = y }, inl refl, sym here))
      (λ following. let rest = boths_have ts xs zip.1 x following in (rest.0, inr rest.1, rest.2))
      there

  -- those of all connections
  abbrev pub all_boths : (cs : List Connection) → AllByRecursion (Fitted L of) cs → List Both
  all_boths [] each = []
  all_boths (c ∷ cs) each = boths c.cut.closed each.0.closed ++ all_boths cs each.1

  pub all_ts : (cs : List Connection) (each : AllByRecursion (Fitted L of) cs) → map (λ (b : Both). b.t) (all_boths cs each) ≡ transactions_of cs
  all_ts [] each = refl
  all_ts (c ∷ cs) each =
      joined_map (λ (b : Both). b.t) (boths c.cut.closed each.0.closed) (all_boths cs each.1)
      ∙ ap (λ (l : List Transaction). l ++ map (λ (b : Both). b.t) (all_boths cs each.1)) (boths_ts c.cut.closed each.0.closed each.0.each)
      ∙ ap (λ (l : List Transaction). c.cut.closed ++ l) (all_ts cs each.1)

  pub all_fit : (cs : List Connection) (each : AllByRecursion (Fitted L of) cs) → (b : Both) → Among b (all_boths cs each)
      → (i : ℕ) × Among b.x (of i) × FitsOne L b.t b.x
  all_fit [] each b there = absurd there
  all_fit (c ∷ cs) each b there = ⊎_elim
      (λ front.
      let fit = boths_fit c.cut.closed each.0.closed each.0.each b front in
      (c.script.conn, subst (λ (l : List Txn). Among b.x l) (sym each.0.account) (among_reversed b.x each.0.closed fit.1), fit.0))
      (λ back. all_fit cs each.1 b back)
      (among_either b (boths c.cut.closed each.0.closed) (all_boths cs each.1) there)

  pub all_have : (cs : List Connection) (each : AllByRecursion (Fitted L of) cs) (s : Script) → Among s (map (λ (c : Connection). c.script) cs)
      → (x : Txn) → Among x (of s.conn) → (b : Both) × Among b (all_boths cs each) × (b.x ≡ x)
  all_have [] each s there x x_there = absurd there
  all_have (c ∷ cs) each s there x x_there = ⊎_elim
      (λ here.
      let account : of s.conn ≡ reverse each.0.closed = ap (λ (u : Script). of u.conn) here ∙ each.0.account in
      let found = boths_have c.cut.closed each.0.closed each.0.each x
      (reverse_among x each.0.closed (subst (λ (l : List Txn). Among x l) account x_there)) in
      (found.0, among_front found.0 (boths c.cut.closed each.0.closed) (all_boths cs each.1) found.1, found.2))
      (λ following.
      let found = all_have cs each.1 s following x x_there in
      (found.0, among_back found.0 (boths c.cut.closed each.0.closed) (all_boths cs each.1) found.1, found.2))
      there
