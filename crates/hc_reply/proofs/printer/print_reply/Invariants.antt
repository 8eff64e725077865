-- The rows so far are written.
use Rattle.std.proofs.Common.{◌≡◌, ◌++◌, take, flat_map}
use Rattle.std.specs.List.{AllByRecursion}
use Rattle.hc_transcript.specs.Text.{row_text}
use Rattle.hc_transcript.specs.Outputs.{IsRow}
use Rattle.hc_reply.proofs.printer.print_reply.Given as goal

abbrev pub invariant-loop-row : goal.invariant-loop-row
invariant-loop-row l = record {
  text : l.out.items ≡ l.fn.out.items ++ flat_map row_text (take l.row-index l.row-items);
  told : AllByRecursion IsRow (take l.row-index l.row-items);
}
