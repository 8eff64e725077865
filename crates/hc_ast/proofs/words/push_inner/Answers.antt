use Rattle.std.proofs.Common.{◌∙◌, sym, map-id, string_bytes}
use Rattle.std.proofs.lemmas.Iterator.{YieldsList-from_chars}
use Rattle.std.proofs.lemmas.Iterator.Consumers.{YieldsList-end}
use Rattle.hc_ast.proofs.Quotes.{one_more, inner_written}
use Rattle.hc_ast.proofs.words.push_inner.Goals as goal

pub loop-c-preserved : goal.loop-c-preserved
loop-c-preserved c =
    one_more (string_bytes c.args.out.now) (string_bytes c.loop-c.out) _ c.args.quote _ c.loop-c.yielded c.loop-c.invariant c.in_ok-push_doubled.ensures

pub returns : goal.returns
returns c =
    let done = YieldsList-end (YieldsList-from_chars c.args.text.now c.utf8.text cc) c.loop-c.yielded _ c.loop-c.yielded_by _ _ c.in-None.is c.next.ensures.steps in
    inner_written (string_bytes c.args.out.now) (string_bytes c.loop-c.out) c.args.quote c.args.text.now c.loop-c.yielded c.requires c.utf8.text c.loop-c.invariant (sym (map-id c.loop-c.yielded) ∙ done.0)
