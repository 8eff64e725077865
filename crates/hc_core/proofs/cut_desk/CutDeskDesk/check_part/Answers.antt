use Rattle.hc_core.proofs.Cutting.{in_front, met_in, stops_by}
use Rattle.hc_core.proofs.cut_desk.CutDeskDesk.check_part.Goals as goal

-- it begins below the cut
pub check_part-requires-2-clause-from : goal.check_part-requires-2-clause-from
check_part-requires-2-clause-from g c = in_front _ _ c.args.range.now _ c.in-Some.cut.now.upto c.in-Some.ensures

-- it stops in the range
pub returns-in-Ok-clause-stop : goal.returns-in-Ok-clause-stop
returns-in-Ok-clause-stop g c =
    rw c.stopped_by.ensures (stops_by _ _ c.args.range.now _ c.in-Some.cut.now.upto c.in-Some.ensures c.requires.from c.in-Ok.next c.in-Ok.ensures.stop)

-- what was refused below the cut was refused in the range
pub returns-in-Err-clause-met : goal.returns-in-Err-clause-met
returns-in-Err-clause-met g c =
    met_in _ _ c.args.range.now _ c.in-Some.cut.now.upto c.in-Some.ensures c.requires.from _ c.in-Err.met _ _ c.in-Err.ensures.met
