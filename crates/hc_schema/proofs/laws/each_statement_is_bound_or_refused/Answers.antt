use Rattle.hc_schema.specs.Binding.Statements.{binding}
use Rattle.hc_schema.proofs.Bindings.{bound_or_refused}
use Rattle.hc_schema.proofs.laws.each_statement_is_bound_or_refused.Goals as goal

pub returns-clause-either : goal.returns-clause-either
returns-clause-either c = λ tables s. bound_or_refused (binding tables s)
