use Rattle.std.proofs.Common.{◌≡◌, ℕ, ◌∷◌, ◌++◌, arith, subst}
use Rattle.hc_value.specs.declared.value.Value.TheVariants.{Null}
use Rattle.hc_key.specs.Keys.{value_bytes}
use Rattle.hc_key.proofs.Parts.{null_found, class_fault}
use Rattle.hc_key.proofs.reader.value_after.Goals as goal

pub returns-in-1-clause-found : goal.returns-in-1-clause-found
returns-in-1-clause-found c =
    let same : 1 ≡ c.args.class = omega arith in
    (tt, subst (λ (b : ℕ). b ∷ c.args.rest.now ≡ value_bytes Null ++ c.args.rest.now) same (null_found c.args.rest.now))

pub returns-in_default-clause-fault : goal.returns-in_default-clause-fault
returns-in_default-clause-fault c = class_fault c.args.class c.args.rest.now c.args.place (λ h. omega (arith, h.0, h.1))
