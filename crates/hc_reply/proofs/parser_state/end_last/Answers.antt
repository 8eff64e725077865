use Rattle.std.proofs.Common.{◌∙◌, ap, sym, List}
use Rattle.hc_transcript.specs.declared.reply.Reply.{Reply}
use Rattle.hc_reply.specs.ParserStates.{with_ending}
use Rattle.hc_reply.proofs.States.{ends_last}
use Rattle.hc_reply.proofs.parser_state.end_last.Goals as goal

pub returns-clause-after : goal.returns-clause-after
returns-clause-after c =
    c.in_ok-push.ensures.ok ∙ sym (ap (λ (l : List Reply). with_ending l c.args.ending) c.in-Some.ensures ∙ ends_last c.pop.new.self c.in-Some.last c.args.ending)
