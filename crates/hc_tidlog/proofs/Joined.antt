-- The accounts of all connections and the words of the log, as lists, are a machine.
use Rattle.std.proofs.Common.{◌≡◌, ◌≢◌, ◌∙◌, refl, sym, ap, subst, ℕ, zero, suc, ◌+◌, ◌<◌, ◌≤◌, List, [], ◌∷◌, length, get_or, slice_index, arith}
use Rattle.hc_base.specs.Lookup.{Among}
use Rattle.hc_core.specs.Account.{Txn, txns, AreOf}
use Rattle.hc_core.specs.Machine.{Machine, account_of, txns_of as machine_txns}
use Rattle.hc_core.specs.Sound.{AreSound, IsSound}
use Rattle.hc_rows.specs.declared.layout.Layout.{Layout}
use Rattle.hc_rule.specs.declared.view.View.{View}
use Rattle.hc_rule.specs.declared.view.Told.{Told}
use Rattle.hc_rule.specs.declared.view.Role.{Role}
use Rattle.hc_rule.specs.declared.view.Role.TheVariants.{Dealer, Connection}
use Rattle.hc_rule.specs.Views.{Knowledge, known}
use Rattle.hc_rule.specs.Accounts.{HasBegun}
use Rattle.hc_rule.specs.Rule.{Holds}
use Rattle.hc_rule.specs.Recorded.{IsRecorded, txns_of}
use Rattle.hc_tidlog.specs.OneMachine.{IsMachineOf}

-- a function's first answers as a list
abbrev first_of : {A : Type 0} → (ℕ → A) → ℕ → List A
first_of f zero = []
first_of f (suc n) = f 0 ∷ first_of (λ i. f (suc i)) n

length_first : {A : Type 0} (f : ℕ → A) (n : ℕ) → length (first_of f n) ≡ n
length_first f zero = refl
length_first f (suc n) = ap (λ k. suc k) (length_first (λ i. f (suc i)) n)

-- where the function answers the same from there on, the list with that past its end is the function
all_of : {A : Type 0} (f : ℕ → A) (n : ℕ) (d : A) → ((i : ℕ) → n ≤ i → f i ≡ d) → (i : ℕ) → get_or (first_of f n) i d ≡ f i
all_of f zero d past i = sym (past i (omega arith))
all_of f (suc n) d past zero = refl
all_of f (suc n) d past (suc i) = all_of (λ j. f (suc j)) n d (λ j from. past (suc j) (omega (arith, from))) i

-- what is sound over functions is sound over the lists
module _ (last : ℕ) (seat_at tid_at log : ℕ → ℕ) (role : ℕ → Role) (know : ℕ → Knowledge) (h : IsRecorded last seat_at tid_at log role know) (i n : ℕ) (dealer : role i ≡ Dealer n) where
  abbrev machine : Machine
  machine = record { drawn = h.drawn; log = first_of (λ c. log (c + 1)) h.size; accounts = first_of h.account n }

  pub log_is : (c : ℕ) → slice_index machine.log c ≡ log (c + 1)
  log_is c = all_of (λ k. log (k + 1)) h.size 0 (λ k from. h.logged.empty (k + 1) (omega (arith, from))) c

  pub account_is : (conn : ℕ) → account_of machine conn ≡ h.account conn
  account_is conn = all_of h.account n [] (λ k from. h.accounts.none i n k dealer from) conn

  pub size_is : length machine.log ≡ h.size
  size_is = length_first (λ c. log (c + 1)) h.size

  of_is : machine_txns machine ≡ txns_of h.account
  of_is = λ t j. ap txns (account_is j) t

  pub machine_sound : IsSound machine
  machine_sound = record {
    sound =
        subst (λ k. AreSound k (slice_index machine.log) (machine_txns machine)) (sym size_is)
        (subst (λ f. AreSound h.size f (machine_txns machine)) (sym (λ t c. log_is c t))
        (subst (λ f. AreSound h.size (λ c. log (c + 1)) f) (sym of_is) h.logged.sound));
    drawn = subst (λ f. (j : ℕ) (t : Txn) → Among t (f j) → t.id ≤ h.drawn) (sym of_is) h.logged.drawn_within;
    each_drawn = subst (λ f. (id : ℕ) → 0 < id → id ≤ h.drawn → (j : ℕ) × (t : Txn) × Among t (f j) × (t.id ≡ id)) (sym of_is) h.logged.each_drawn;
    entries = λ conn. subst (AreOf conn) (sym (account_is conn)) (h.accounts.entries conn);
  }

  -- the places up to the size are taken
  taken_is : (c : ℕ) → c < h.size → log (c + 1) ≢ 0
  taken_is c below none =
      let e = h.logged.sound.entries c below in
      let undecided = ((h.logged.sound.each e.0 e.1 e.2).numbers.undrawn (sym (h.logged.sound.decided e.0 e.1 c e.2 e.3) ∙ none)).0 in
      omega (arith, e.3, undecided)

  pub taken_there : (c : ℕ) → c < length machine.log → (slice_index machine.log c ≡ log (c + 1)) × (log (c + 1) ≢ 0)
  taken_there c below = (log_is c, taken_is c (subst (λ k. c < k) size_is below))

  pub ends_there : log (length machine.log + 1) ≡ 0
  ends_there = h.logged.empty (length machine.log + 1) (omega (arith, size_is))

  pub conns_are : length machine.accounts ≡ n
  conns_are = length_first h.account n

  pub account_there : (j conn : ℕ) → role j ≡ Connection conn → account_of machine conn ≡ (know j).account
  account_there j conn held = account_is conn ∙ sym (h.accounts.own j conn held)

  pub told_there : (j : ℕ) (x : Told) → Among x (know j).told → HasBegun (account_of machine) x
  told_there j x there = let b = h.accounts.told j x there in (b.0, account_is x.conn ∙ b.1)

pub one_machine : (y : Layout) (words : List ℕ) (views : List View) → Holds y words views → (i n : ℕ) → known (λ v. v.role) views i ≡ Dealer n → (m : Machine) × IsMachineOf y words views n m × IsSound m
one_machine y words views h i n dealer =
    let r = h.recorded in
    let last = y.transactions in (
      machine last _ _ _ _ _ r i n dealer,
      record {
        log = taken_there last _ _ _ _ _ r i n dealer;
        ends = ends_there last _ _ _ _ _ r i n dealer;
        conns = conns_are last _ _ _ _ _ r i n dealer;
        accounts = account_there last _ _ _ _ _ r i n dealer;
        told = told_there last _ _ _ _ _ r i n dealer;
      },
      machine_sound last _ _ _ _ _ r i n dealer,
    )
