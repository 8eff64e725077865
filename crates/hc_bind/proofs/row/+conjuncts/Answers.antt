use Rattle.hc_schema.specs.Binding.Expressions.{reading_of}
use Rattle.hc_bind.specs.Scopes.{seen}
use Rattle.hc_bind.proofs.Conditions.{alone_told, both_told, conjoins_same}
use Rattle.hc_bind.proofs.Forms.{and_form, other_alone, single}
use Rattle.hc_bind.proofs.row.+conjuncts.Goals as goal

pub returns-in_ok-r-in-And : goal.returns-in_ok-r-in-And
returns-in_ok-r-in-And t c =
    conjoins_same _ _ c.args.out.now.items c.push_conjuncts-in-And.new.out.items c.both_int.result
    (and_form (seen c.args.scope.now) c.in-Binary.op c.args.e.now c.in-Binary.left c.in-Binary.right c.get.result.now c.get-in-And.result.now c.in-Binary.is c.in-And.is c.get.ensures c.get-in-And.ensures)
    (both_told (reading_of (seen c.args.scope.now) c.get.result.now) (reading_of (seen c.args.scope.now) c.get-in-And.result.now) c.args.out.now.items c.push_conjuncts.new.out.items c.push_conjuncts-in-And.new.out.items
    c.in_ok-l-in-And.l c.in_ok-r-in-And.r c.both_int.result c.in_ok-l-in-And.ensures c.in_ok-r-in-And.ensures c.both_int.ensures)

pub returns-in_default : goal.returns-in_default
returns-in_default t c =
    alone_told (reading_of (seen c.args.scope.now) c.args.e.now) c.args.out.now.items c.push_alone.new.out.items c.push_alone.result
    (other_alone (seen c.args.scope.now) c.in-Binary.op c.args.e.now c.in-Binary.left c.in-Binary.right c.in-Binary.is c.in_default.not-And) c.push_alone.ensures

pub returns-in-Value : goal.returns-in-Value
returns-in-Value t c =
    alone_told (reading_of (seen c.args.scope.now) c.args.e.now) c.args.out.now.items c.push_alone-in-Value.new.out.items c.push_alone-in-Value.result
    (single (seen c.args.scope.now) c.args.e.now c.in-Value.is) c.push_alone-in-Value.ensures
