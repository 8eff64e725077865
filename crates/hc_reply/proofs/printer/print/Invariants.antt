-- The transcripts so far are written.
use Rattle.std.proofs.Common.{◌≡◌, take}
use Rattle.std.specs.List.{AllByRecursion}
use Rattle.hc_transcript.specs.Text.{output_text}
use Rattle.hc_transcript.specs.Outputs.{IsTranscript}
use Rattle.hc_reply.proofs.printer.print.Given as goal

abbrev pub invariant-loop-transcript : goal.invariant-loop-transcript
invariant-loop-transcript l = record {
  text : l.out.items ≡ output_text (take l.transcript-index l.all);
  told : AllByRecursion IsTranscript (take l.transcript-index l.all);
}
