-- What is judged of a statement is a binding or a fault.
use Rattle.std.proofs.Common.{◌≡◌, ◌⊎◌, refl, inl, inr, Ok, Err}
use Rattle.hc_schema.specs.Binding.Faults.{Fault, Judged}
use Rattle.hc_schema.specs.Binding.Statements.{Binding}

pub bound_or_refused : (j : Judged Binding) → ((b : Binding) × (j ≡ Ok b)) ⊎ ((fault : Fault) × (j ≡ Err fault))
bound_or_refused (Ok b) = inl (b, refl)
bound_or_refused (Err fault) = inr (fault, refl)
