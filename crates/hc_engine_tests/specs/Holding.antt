-- What a seat has as before once it has given back what it claimed.
use Rattle.std.specs.Prelude.{◌≡◌, Bool, true, List, [], ◌∷◌}
use Rattle.hc_core.specs.Account.{Txn}
use Rattle.hc_rule.specs.declared.view.View.{View}

-- its pages with their rows, its stage and its account
pub record KeepsRest (v w : View) : Type 0 where
  pub pages : w.pages ≡ v.pages
  pub stage : w.stage ≡ v.stage
  pub account : w.account ≡ v.account

-- whether the newest of these transactions has ended, or there is none
abbrev pub has_ended : List Txn → Bool
has_ended [] = true
has_ended (t ∷ ts) = t.ended
