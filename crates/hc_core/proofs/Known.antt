-- Facts that can be decided: each holds, or it does not.
use Rattle.std.proofs.Common.{◌≡◌, ◌⊎◌, inl, inr, ⊎_elim, refl, sym, ◌∙◌, subst, ℕ, zero, suc, ◌<◌, Bool, true, false, List, [], ◌∷◌, arith}
use Rattle.std.proofs.lemmas.Bool.{true≢false, cases_Bool, cases_eq, cases_lt}
use Rattle.hc_base.specs.Lookup.{Among}
use Rattle.hc_core.specs.Account.{Txn, HoldsKey, WhenOpen}
use Rattle.hc_core.specs.Running.{holds_key}
use Rattle.hc_core.specs.declared.cells.Write.{Write}
use Rattle.hc_core.proofs.LogEntries.{holds_from, holds_into}

abbrev pub Known : Type 0 → Type 0
Known P = P ⊎ (P → ⊥)

-- a fact is known where one that holds just when it does is known
pub known_as : (P Q : Type 0) → (P → Q) → (Q → P) → Known P → Known Q
known_as P Q there back known = ⊎_elim (λ p. inl (there p)) (λ never. inr (λ q. never (back q))) known

-- whether both of two known facts hold
pub known_both : (P Q : Type 0) → Known P → Known Q → Known (P × Q)
known_both P Q p q = ⊎_elim (λ yes. ⊎_elim (λ also. inl (yes, also)) (λ never. inr (λ both. never both.1)) q) (λ never. inr (λ both. never both.0)) p

-- whether one of two known facts holds
pub known_either : (P Q : Type 0) → Known P → Known Q → Known (P ⊎ Q)
known_either P Q p q = ⊎_elim (λ yes. inl (inl yes)) (λ no_p. ⊎_elim (λ yes. inl (inr yes)) (λ no_q. inr (λ either. ⊎_elim no_p no_q either)) q) p

-- whether a known fact does not hold
pub known_not : (P : Type 0) → Known P → Known (P → ⊥)
known_not P p = ⊎_elim (λ yes. inr (λ never. never yes)) (λ never. inl never) p

-- whether a number is below another
pub known_below : (a b : ℕ) → Known (a < b)
known_below a b = ⊎_elim (λ below. inl below) (λ above. inr (λ below. omega (arith, below, above))) (cases_lt a b)

-- whether a truth value is true
pub known_true : (b : Bool) → Known (b ≡ true)
known_true b = ⊎_elim (λ is. inl is) (λ is. inr (λ other. true≢false (sym other ∙ is))) (cases_Bool b)

-- whether a truth value is false
pub known_false : (b : Bool) → Known (b ≡ false)
known_false b = ⊎_elim (λ is. inr (λ other. true≢false (sym is ∙ other))) (λ is. inl is) (cases_Bool b)

-- whether a key is among writes
pub known_holds : (key : List ℕ) (ws : List Write) → Known (HoldsKey ws key)
known_holds key ws = known_as (holds_key key ws ≡ true) (HoldsKey ws key) (holds_into key ws) (holds_from key ws) (known_true (holds_key key ws))

-- whether there are no writes
pub known_none : (ws : List Write) → Known (ws ≡ [])
known_none [] = inl refl
known_none (w ∷ ws) = inr (λ none. cc none)

-- whether a transaction is open, and a fact holds of it
pub known_open : (P : Txn → Type 0) (ts : List Txn) → ((t : Txn) → Known (P t)) → Known (WhenOpen ts P)
known_open P [] known = inr (λ none. none)
known_open P (t ∷ ts) known = known_both (t.ended ≡ false) (P t) (known_false t.ended) (known t)

-- whether a fact holds of each of a list
pub known_each : {A : Type 0} (P : A → Type 0) (xs : List A) → ((x : A) → Known (P x)) → Known ((x : A) → Among x xs → P x)
known_each P [] known = inl (λ x there. absurd there)
known_each P (y ∷ ys) known =
    known_as (P y × ((x : _) → Among x ys → P x)) ((x : _) → Among x (y ∷ ys) → P x)
    (λ all x there. ⊎_elim (λ same. subst P (sym same) all.0) (λ following. all.1 x following) there)
    (λ all. (all y (inl refl), λ x following. all x (inr following)))
    (known_both (P y) ((x : _) → Among x ys → P x) (known y) (known_each P ys known))

-- the last one below n of the numbers with a fact
abbrev pub IsLast : (ℕ → Type 0) → ℕ → ℕ → Type 0
IsLast P n c = (c < n) × P c × ((d : ℕ) → c < d → d < n → P d → ⊥)

-- there is one, or no number below n has it
pub last_below : (P : ℕ → Type 0) (n : ℕ) → ((c : ℕ) → c < n → Known (P c)) → ((c : ℕ) × IsLast P n c) ⊎ ((c : ℕ) → c < n → P c → ⊥)
last_below P zero known = inr (λ c below p. omega (arith, below))
last_below P (suc n) known =
    ⊎_elim
    (λ here. inl (n, (omega arith, here, λ d above below p. omega (arith, above, below))))
    (λ not_here. ⊎_elim
    (λ earlier. inl (earlier.0, (omega (arith, earlier.1.0), earlier.1.1, λ d above below p. unless_last not_here d (λ before. earlier.1.2 d above before p) below p)))
    (λ none. inr (λ c below p. unless_last not_here c (λ before. none c before p) below p))
    (last_below P n (λ c below. known c (omega (arith, below)))))
    (known n (omega arith))
  where
    unless_last : (P n → ⊥) → (c : ℕ) → (c < n → ⊥) → c < suc n → P c → ⊥
    unless_last not_here c before below p =
        ⊎_elim (λ (same : c ≡ n). not_here (subst P same p)) (λ differ. before (omega (arith, below, differ))) (cases_eq c n)
