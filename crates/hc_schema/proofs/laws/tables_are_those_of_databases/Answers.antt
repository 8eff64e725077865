use Rattle.std.proofs.Common.{[], ◌∷◌, refl, subst, inl}
use Rattle.hc_schema.specs.Cells.{IsTable}
use Rattle.hc_schema.proofs.Singles.{unfilled, alone, is_one}
use Rattle.hc_schema.proofs.laws.tables_are_those_of_databases.Goals as goal

pub returns : goal.returns
returns c = λ t. ((λ is. (unfilled t ∷ [], unfilled t, alone t is, inl refl, refl)), λ some. subst IsTable some.4 (is_one some.0 some.1 some.2.filled some.3))
