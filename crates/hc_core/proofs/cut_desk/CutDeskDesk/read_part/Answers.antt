use Rattle.hc_core.proofs.Cutting.{in_front, stops_by}
use Rattle.hc_core.proofs.cut_desk.CutDeskDesk.read_part.Goals as goal

-- it begins below the cut
pub read_part-requires-2-clause-from : goal.read_part-requires-2-clause-from
read_part-requires-2-clause-from g c = in_front _ _ c.args.range.now _ c.in-Some.cut.now.upto c.in-Some.ensures

-- it stops in the range
pub returns-clause-stop : goal.returns-clause-stop
returns-clause-stop g c =
    rw c.stopped_by.ensures (stops_by _ _ c.args.range.now _ c.in-Some.cut.now.upto c.in-Some.ensures c.requires.from c.in_ok-next.next c.in_ok-next.ensures.stop)
