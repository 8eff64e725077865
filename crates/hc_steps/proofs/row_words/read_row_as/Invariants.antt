-- The words before are those of the row that the seat knows, which has 256 words.
use Rattle.std.proofs.Common.{◌≡◌, ◌<◌, ℕ, length, get_or}
use Rattle.hc_base.specs.Lookup.{Among}
use Rattle.hc_rule.specs.declared.view.Row.{Row}
use Rattle.hc_rule.specs.Kinds.Rows.{IsWhole}
use Rattle.hc_steps.proofs.row_words.read_row_as.Given as goal

abbrev pub ghosts-load_row_as : goal.ghosts-load_row_as
ghosts-load_row_as a = record { page = a.p.0; word = a.word }

abbrev pub invariant-loop-word : goal.invariant-loop-word
invariant-loop-word l = record {
  long : length l.out.words ≡ 256;
  table : l.seat.table_id ≡ l.initial.seat.table_id;
  seat : l.seat.me ≡ l.initial.seat.me;
  whole : 0 < l.word → IsWhole l.p.0 l.initial.seat.me.0;
  read : (row : Row) → Among row l.initial.seat.me.0.pages → row.page.0 ≡ l.p.0 → (k : ℕ) → k < l.word → get_or l.out.words k 0 ≡ get_or row.words k 0;
}
