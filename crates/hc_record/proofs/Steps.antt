-- Steps of a reading, and choices by a test.
use Rattle.std.proofs.Common.{◌≡◌, ℕ, ◌<◌, ◌≤◌, Bool, true, false, cond, List, Result, Ok, Err, refl, ◌∙◌, inl, inr, nat_lt, ◌⊎◌}
use Rattle.std.proofs.lemmas.Bool.{cases_lt, lt-ltb, le-ltb}
use Rattle.std.specs.Prelude.{is_ok, OnOk}
use Rattle.hc_record.specs.declared.fault.RecordFault.{RecordFault}
use Rattle.hc_record.specs.Reading.{◌>>=◌}

-- what a step gave where the steps together gave something
pub first_step : {A B : Type 0} (r : Result A RecordFault) (f : A → Result B RecordFault) (y : B) → (r >>= f) ≡ Ok y → (x : A) × (r ≡ Ok x) × (f x ≡ Ok y)
first_step (Ok x) f y e = (x, refl, e)
first_step (Err d) f y e = absurd cc

-- which way a test went
pub chosen : {A : Type 0} (b : Bool) (x y z : A) → cond b x y ≡ z → ((b ≡ true) × (x ≡ z)) ⊎ ((b ≡ false) × (y ≡ z))
chosen true x y z e = inl (refl, e)
chosen false x y z e = inr (refl, e)

-- two successes that are the same gave the same
pub ok_same : {A : Type 0} (x y : A) → (let done : A → Result A RecordFault = λ a. Ok a in done x ≡ done y) → x ≡ y
ok_same x y e = cc

-- what holds either way
pub either_way : {A : Type 0} (P : A → Type 0) (n b : ℕ) (x y : A) → (n < b → P x) → (b ≤ n → P y) → P (cond (nat_lt n b) x y)
either_way P n b x y below above =
    elim (cases_lt n b) [ inl lt ↦ rw (lt-ltb n b lt) (below lt) | inr le ↦ rw (le-ltb n b le) (above le) ]

-- what holds where a call went through, from what it left either way
pub on_ok : {T E : Type 0} (r : Result T E) (x a b c : List ℕ) → x ≡ cond (is_ok r) a b → a ≡ c → OnOk r (x ≡ c)
on_ok (Ok t) x a b c left same = left ∙ same
on_ok (Err e) x a b c left same = tt
