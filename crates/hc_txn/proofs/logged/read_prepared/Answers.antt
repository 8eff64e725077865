use Rattle.std.proofs.Common.{subst, ℕ, List, ◌⊎◌, ◌↔◌}
use Rattle.hc_range.specs.declared.range.Range.{Range}
use Rattle.hc_range.specs.Ranges.{InAny}
use Rattle.hc_txn.specs.Reading.{IsReadSoFar}
use Rattle.hc_txn.proofs.Logging.{logged_so_far, added_so_far}
use Rattle.hc_txn.proofs.logged.read_prepared.Goals as goal

pub returns-in_default : goal.returns-in_default
returns-in_default g c = record {
  read = tt;
  logged = logged_so_far _ c.args.range.now _ _ c.args.prepared.log c.united-log.result _ _ c.read_range-how_far.result c.read_range-how_far.ensures.read
      (subst (λ (range : Range). (key : List ℕ) → InAny c.united-log.result key ↔ (InAny c.args.prepared.log key ⊎ IsReadSoFar range c.read_range-how_far.result key)) c.requires.prepared c.united-log.ensures);
  whole = tt;
  out = added_so_far _ c.args.range.now _ _ c.args.prepared.log c.united-log.result _ _ c.read_range-how_far.result c.read_range-how_far.ensures.read;
  on = c.read_range-how_far.ensures.on;
}
