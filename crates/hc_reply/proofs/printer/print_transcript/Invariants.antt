-- The replies so far are written.
use Rattle.std.proofs.Common.{◌≡◌, ◌++◌, take, flat_map}
use Rattle.std.specs.List.{AllByRecursion}
use Rattle.hc_transcript.specs.Text.{reply_text}
use Rattle.hc_transcript.specs.Outputs.{IsReply}
use Rattle.hc_reply.proofs.printer.print_transcript.Given as goal

abbrev pub invariant-loop-reply : goal.invariant-loop-reply
invariant-loop-reply l = record {
  text : l.out.items ≡ l.initial.out.items ++ flat_map reply_text (take l.reply-index l.reply-items);
  told : AllByRecursion IsReply (take l.reply-index l.reply-items);
}
