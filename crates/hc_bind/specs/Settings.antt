-- What a query keeps on the way, as the rules see it.
use Rattle.std.specs.Prelude.{ℕ, List, Option, None, Ok, map, if◌then◌else◌}
use Rattle.std.specs.Option.{option_map}
use Rattle.hc_schema.specs.Binding.Faults.{Judged}
use Rattle.hc_schema.specs.Binding.Scopes.{Slot, is_of}
use Rattle.hc_schema.specs.Binding.Expressions.{Grouping}
use Rattle.hc_schema.specs.Binding.Queries as rule
use Rattle.hc_bind.specs.declared.query.From.{From}
use Rattle.hc_bind.specs.declared.query.Answer.{Answer}
use Rattle.hc_bind.specs.declared.setting.Setting.{Setting}
use Rattle.hc_bind.specs.Scopes.{seen}

-- results are read on rows
abbrev pub read_on : Setting → rule.Setting
read_on setting = record { scope = seen setting.scope; grouping = None }

abbrev pub from_of : From → rule.From
from_of from = record { tables = map (λ t. t.now) from.tables.items; scope = seen from.scope }

abbrev pub answer_of : Answer → rule.Answer
answer_of a = record { alias = option_map (λ name. name.now) a.alias; value = a.value }

-- a column in scope, where a star is for it
abbrev pub star_if : Option Grouping → Option (List ℕ) → List rule.Answer → Slot → Judged (List rule.Answer)
star_if grouping of before slot = if is_of of slot then rule.with_star grouping before slot else Ok before
