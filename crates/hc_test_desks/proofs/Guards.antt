-- What a guard knows of a transaction is what its calls ask for.
use Rattle.std.proofs.Common.{◌≡◌, ◌≢◌, ◌∙◌, ◌⊎◌, ⊎_elim, sym, subst, arith, ℕ, zero, suc, ◌<◌, true, false, None, List, [], ◌∷◌, inl, inr, get_or, length, take}
use Rattle.hc_core.specs.Account.{HoldsKey, Txn, WhenOpen, txns}
use Rattle.hc_core.specs.Desk.{MayProposeNow, MayPutNow, MayUnputNow}
use Rattle.hc_base.specs.Lookup.{Among}
use Rattle.hc_core.specs.Running.{holds_key}
use Rattle.hc_core.specs.declared.account.Entry.{Entry}
use Rattle.hc_core.specs.declared.cells.Write.{Write}
use Rattle.hc_core.proofs.LogEntries.{holds_from, holds_into}
use Rattle.hc_core.proofs.Steps.{when_map}
use Rattle.hc_test_desks.specs.Guarded.{Knows, KnowsOpen}
use Rattle.hc_test_desks.specs.declared.guard.Guard.{Guard}
use Rattle.hc_test_desks.specs.declared.guard.Stage.{Stage}
use Rattle.hc_test_desks.specs.declared.guard.Stage.TheVariants.{Writing, Proposing}

-- the write at a place is among them
pub among_at : (ws : List Write) (i : ℕ) (w d : Write) → i < length ws → w ≡ get_or ws i d → Among w ws
among_at [] i w d within is = absurd (omega (arith, within))
among_at (v ∷ vs) zero w d within is = inl is
among_at (v ∷ vs) (suc i) w d within is = inr (among_at vs i w d (omega (arith, within)) is)

-- what is known of a transaction that writes, whether or not it proposes a number
abbrev pub IsWriter : Guard → Txn → Type 0
IsWriter g t = (t.id ≢ 0) × (t.full ≡ None) × (t.place ≡ 0) × (t.reserved ≡ g.reserved.items) × (t.write_set ≡ g.put.items)

pub writer : (g : Guard) (stage : Stage) (account : List Entry) → (stage ≡ Writing) ⊎ (stage ≡ Proposing) → KnowsOpen stage g (txns account) → WhenOpen (txns account) (IsWriter g)
writer g stage account at knows =
    ⊎_elim
    (λ is. when_map _ _ _ (λ t p. (p.0.0, p.0.1, p.0.2, p.3, p.4)) (subst (λ s. KnowsOpen s g (txns account)) is knows))
    (λ is. when_map _ _ _ (λ t p. (p.0.0, p.0.1, p.0.2, p.3, p.4)) (subst (λ s. KnowsOpen s g (txns account)) is knows))
    at

-- where each write is put, a number may be proposed
pub may_propose : (g : Guard) (account : List Entry) → WhenOpen (txns account) (IsWriter g)
    → ((w : Write) → Among w g.reserved.items → HoldsKey g.put.items w.key) → MayProposeNow account
may_propose g account knows all =
    when_map (IsWriter g) _ (txns account) (λ t p. (
      p.0,
      p.1,
      p.2,
      λ w there. subst (λ (ws : List Write). HoldsKey ws w.key) (sym p.4) (all w (subst (Among w) p.3 there)),
    )) knows

-- a write for which there is room may be put, where its key is not put
pub may_put : (g : Guard) (account : List Entry) (w : Write) → WhenOpen (txns account) (Knows Writing g) → Among w g.reserved.items
    → holds_key w.key g.put.items ≡ false → MayPutNow account w.key w.rec
may_put g account w knows there new =
    when_map (Knows Writing g) _ (txns account) (λ t p. (
      p.0.0,
      p.0.1,
      p.0.2,
      p.0.3,
      subst (Among w) (sym p.3) there,
      λ written. let held : true ≡ false = sym (holds_from w.key g.put.items (subst (λ (ws : List Write). HoldsKey ws w.key) p.4 written)) ∙ new in cc,
    )) knows

-- a key that is put may be taken out
pub may_unput : (g : Guard) (account : List Entry) (key : List ℕ) → WhenOpen (txns account) (IsWriter g) → holds_key key g.put.items ≡ true
    → MayUnputNow account key
may_unput g account key knows there =
    when_map (IsWriter g) _ (txns account) (λ t p. (subst (λ (ws : List Write). HoldsKey ws key) (sym p.4) (holds_into key g.put.items there), p.2)) knows

-- one write more is a key more
pub all_more : (ws : List Write) (i : ℕ) (w d : Write) (P : Write → Type 0) → w ≡ get_or ws i d → P w
    → ((v : Write) → Among v (take i ws) → P v) → (v : Write) → Among v (take (suc i) ws) → P v
all_more [] i w d P is here before v there = absurd there
all_more (u ∷ us) zero w d P is here before v there = ⊎_elim (λ same. subst P (is ∙ sym same) here) (λ none. absurd none) there
all_more (u ∷ us) (suc i) w d P is here before v there =
    ⊎_elim (λ same. before v (inl same)) (λ later. all_more us i w d P is here (λ x among. before x (inr among)) v later) there
