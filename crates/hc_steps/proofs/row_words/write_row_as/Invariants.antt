-- The words before are new.
use Rattle.std.proofs.Common.{◌≡◌, ◌<◌, length}
use Rattle.hc_rule.specs.Views.{bare}
use Rattle.hc_rule.specs.Kinds.Rows.{IsWhole}
use Rattle.hc_rule.proofs.Rewriting.{with_begun}
use Rattle.hc_steps.proofs.row_words.write_row_as.Given as goal

abbrev pub invariant-loop-word : goal.invariant-loop-word
invariant-loop-word l = record {
  table : l.seat.table_id ≡ l.initial.seat.table_id;
  whole : 0 < l.word → IsWhole l.p.0 l.initial.seat.me.0;
  long : 0 < l.word → length l.page.words ≡ 256;
  written : l.seat.me ≡ bare (with_begun l.p.0 l.word l.page.words l.initial.seat.me.0);
}
