use Rattle.std.proofs.Common.{string_bytes}
use Rattle.hc_ast.proofs.Lists.{list_written}
use Rattle.hc_ast.proofs.phrase.push_list.Goals as goal

pub returns : goal.returns
returns g c =
    list_written g.P.Phrase.words (string_bytes c.args.out.now) (string_bytes c.push.new.out) (string_bytes c.push_others.new.out) c.args.parts.now c.in-Some.others.now c.in-Some.first.now c.in-Some.ensures.cases.0 c.in_ok-push.ensures c.in_ok-push_others.ensures
