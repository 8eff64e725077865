-- What is kept of an open transaction goes on matching its account as entries come.
use Rattle.std.proofs.Common.{◌≡◌, ℕ, ◌<◌, max, true, false, List, [], ◌∷◌, refl, sym, ◌∙◌, ap, subst, arith, Option, Some, None}
use Rattle.hc_core.specs.Account.{Txn, newest_changed, after_entry, WhenOpen, IsIdle, txns}
use Rattle.hc_core.specs.Running.{IsOpenIn, Matches, greatest_ord}
use Rattle.hc_core.specs.declared.account.Entry.{Entry}
use Rattle.hc_core.specs.Diary.{entry_of}
use Rattle.hc_core.specs.declared.event.Event.TheVariants.{Check}
use Rattle.hc_core.specs.declared.outcome.Outcome.{Outcome}
use Rattle.hc_core.specs.declared.running.Running.{Running}

-- no transaction is open and one is: that cannot be
pub not_both : (ts : List Txn) → IsIdle ts → WhenOpen ts (λ _. Unit {0}) → ⊥
not_both [] idle opened = opened
not_both (t ∷ ts) idle opened = let e : true ≡ false = sym idle ∙ opened.0 in cc

not_both_of : (P : Txn → Type 0) (ts : List Txn) → IsIdle ts → WhenOpen ts P → ⊥
not_both_of P [] idle opened = opened
not_both_of P (t ∷ ts) idle opened = let e : true ≡ false = sym idle ∙ opened.0 in cc

-- what is kept matches the open transaction
pub open_of : (kept : Option Running) (r : Running) (ts : List Txn) → kept ≡ Some r → IsOpenIn kept ts → WhenOpen ts (Matches r)
open_of kept r ts e h = subst (λ o. IsOpenIn o ts) e h

-- a change of the newest transaction that keeps it open keeps a fact of it open
pub when_changed : (f : Txn → Txn) (P Q : Txn → Type 0) (ts : List Txn) → WhenOpen ts P
    → ((t : Txn) → t.ended ≡ false → P t → ((f t).ended ≡ false) × Q (f t)) → WhenOpen (newest_changed f ts) Q
when_changed f P Q [] h k = h
when_changed f P Q (t ∷ ts) h k = k t h.0 h.1

-- a change of the newest transaction that keeps its ordinal keeps the greatest one
pub greatest_kept : (f : Txn → Txn) (ts : List Txn) → ((t : Txn) → (f t).ord ≡ t.ord)
    → greatest_ord (newest_changed f ts) ≡ greatest_ord ts
greatest_kept f [] k = refl
greatest_kept f (t ∷ ts) k = ap (λ n. max n (greatest_ord ts)) (k t)

-- an ordinal above all is the greatest
pub greatest_drawn : (ord : ℕ) (f : Txn → Txn) (P : Txn → Type 0) (ts : List Txn) → WhenOpen ts P → ((t : Txn) → (f t).ord ≡ ord)
    → greatest_ord ts < ord → ord ≡ greatest_ord (newest_changed f ts)
greatest_drawn ord f P [] h k above = absurd h
greatest_drawn ord f P (t ∷ ts) h k above = rw (k t) (omega (arith, above))

-- two facts of the open transaction give a third
pub when_both : (P Q R : Txn → Type 0) (ts : List Txn) → WhenOpen ts P → WhenOpen ts Q → ((t : Txn) → P t → Q t → R t) → WhenOpen ts R
when_both P Q R [] p q k = p
when_both P Q R (t ∷ ts) p q k = (p.0, k t p.1 q.1)

-- an entry that changes the newest transaction as what is kept of it was changed, given a fact of it
pub kept_open_with : (P : Txn → Type 0) (r new : Running) (kept : Option Running) (account after : List Entry) (entry : Entry)
    (f : Txn → Txn) (last : ℕ) → WhenOpen (txns account) P → kept ≡ Some r → IsOpenIn kept (txns account) → last ≡ greatest_ord (txns account)
    → after ≡ entry ∷ account
    → ((ts : List Txn) → after_entry entry ts ≡ newest_changed f ts) → ((t : Txn) → (f t).ord ≡ t.ord)
    → ((t : Txn) → t.ended ≡ false → P t → Matches r t → ((f t).ended ≡ false) × Matches new (f t))
    → WhenOpen (txns after) (Matches new) × (last ≡ greatest_ord (txns after))
kept_open_with P r new kept account after entry f last p is h top entered as_change ords step =
    let is_new : txns after ≡ newest_changed f (txns account) = ap txns entered ∙ as_change (txns account) in
    let both = when_both P (Matches r) (λ t. P t × Matches r t) (txns account) p (open_of kept r (txns account) is h) (λ t one other. (one, other)) in
    rw is_new (
      when_changed f (λ t. P t × Matches r t) (Matches new) (txns account) both (λ t e q. step t e q.0 q.1),
      top ∙ sym (greatest_kept f (txns account) ords),
    )

-- and where no fact is needed
pub kept_open : (r new : Running) (kept : Option Running) (account after : List Entry) (entry : Entry)
    (f : Txn → Txn) (last : ℕ) → kept ≡ Some r → IsOpenIn kept (txns account) → last ≡ greatest_ord (txns account)
    → after ≡ entry ∷ account
    → ((ts : List Txn) → after_entry entry ts ≡ newest_changed f ts) → ((t : Txn) → (f t).ord ≡ t.ord)
    → ((t : Txn) → t.ended ≡ false → Matches r t → ((f t).ended ≡ false) × Matches new (f t))
    → WhenOpen (txns after) (Matches new) × (last ≡ greatest_ord (txns after))
kept_open r new kept account after entry f last is h top entered as_change ords step =
    kept_open_with (Matches r) r new kept account after entry f last (open_of kept r (txns account) is h) is h top entered as_change ords
    (λ t e same k. step t e k)

-- an entry after which what is kept matches still
pub same_open : (P : Txn → Type 0) (kept : Option Running) (account after : List Entry) (entry : Entry) (f : Txn → Txn) (last : ℕ)
    → WhenOpen (txns account) P → IsOpenIn kept (txns account) → last ≡ greatest_ord (txns account) → after ≡ entry ∷ account
    → ((ts : List Txn) → after_entry entry ts ≡ newest_changed f ts) → ((t : Txn) → (f t).ord ≡ t.ord)
    → ((r : Running) (t : Txn) → t.ended ≡ false → P t → Matches r t → ((f t).ended ≡ false) × Matches r (f t))
    → IsOpenIn kept (txns after) × (last ≡ greatest_ord (txns after))
same_open P None account after entry f last p idle top entered as_change ords step = absurd (not_both_of P (txns account) idle p)
same_open P (Some r) account after entry f last p h top entered as_change ords step =
    kept_open_with P r r (Some r) account after entry f last p refl h top entered as_change ords (step r)

-- two facts of the open transaction, and what follows from both whatever transaction it is
pub of_both : (P Q : Txn → Type 0) (R : Type 0) (ts : List Txn) → WhenOpen ts P → WhenOpen ts Q → ((t : Txn) → P t → Q t → R) → R
of_both P Q R [] p q k = absurd p
of_both P Q R (t ∷ ts) p q k = k t p.1 q.1

-- a check as it is said: the ends of its part are those that were lent
pub check_said : (conn : ℕ) (from low : List ℕ) (upto high : Option (List ℕ)) (outcome : Outcome) (after account : List Entry)
    → after ≡ entry_of (Check conn from upto) outcome ∷ account → from ≡ low → upto ≡ high → after ≡ entry_of (Check conn low high) outcome ∷ account
check_said conn from low upto high outcome after account said is_low is_high = said ∙ rw (is_low, is_high) refl
