use Rattle.hc_typing.proofs.ScopeReads.{reads_scope}
use Rattle.hc_typing.proofs.laws.a_bound_expression_reads_its_scope.Goals as goal

pub returns : goal.returns
returns c = λ scope e t row other is agree. reads_scope scope row other agree e t is
