-- What is looked up for ORDER BY: items by their aliases, and, where rows are distinct, by what they are.
use Rattle.std.specs.Prelude.{◌≡◌, ℕ, List, Bool, Option, Some, None, true, false, map}
use Rattle.hc_schema.specs.Binding.Expressions.{place_of}
use Rattle.hc_schema.specs.Binding.Queries.{Answer, has_alias, is_answer}
use Rattle.hc_bind.specs.declared.order.Sought.{Sought}
use Rattle.hc_bind.specs.declared.places.Places.{Places}
use Rattle.hc_bind.specs.First.{place_at}
use Rattle.hc_bind.specs.Settings.{answer_of}

abbrev pub KnowsAliases : Places → List Answer → Type 0
KnowsAliases places answers = (name : List ℕ) → place_at places name ≡ place_of (has_alias name) answers

abbrev pub KnowsItems : Places → List Answer → Type 0
KnowsItems places answers = (writing : List ℕ) → place_at places writing ≡ place_of (is_answer writing) answers

-- the items are known where rows are distinct, and only there
abbrev pub KnowsDistinct : Bool → Option Places → List Answer → Type 0
KnowsDistinct distinct None answers = distinct ≡ false
KnowsDistinct distinct (Some places) answers = (distinct ≡ true) × KnowsItems places answers

-- the items that are sought in
abbrev pub items_of : Sought → List Answer
items_of sought = map answer_of sought.answers.now
