-- Reach: no page that a seat may reach is free or owned. What was loaded is kept, as it was; what a seat wrote is there.
use Rattle.std.specs.Prelude.{◌≡◌, ℕ, List}
use Rattle.hc_base.specs.Layout.{HasContent}
use Rattle.hc_base.specs.Lookup.{Among}
use Rattle.hc_rule.specs.declared.view.Row.{Row}
use Rattle.hc_rule.specs.States.{State, IsKept}

-- `row` has the rows of the pages, `loaded` and `hand` what the seats know
pub record IsReached (state : ℕ → State) (row : ℕ → List ℕ) (loaded hand : ℕ → List Row) : Type 0 where
  pub stays : (i : ℕ) (x : Row) → Among x (loaded i) → IsKept (state x.page.0) × (row x.page.0 ≡ x.words)
  pub written : (i : ℕ) (x : Row) → Among x (hand i) → row x.page.0 ≡ x.words
  pub content : (p : ℕ) → IsKept (state p) → HasContent (row p)
