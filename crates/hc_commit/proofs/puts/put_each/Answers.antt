use Rattle.std.proofs.Common.{sym, subst, ℕ, List, Option, rules}
use Rattle.std.specs.Option.{option_copied}
use Rattle.hc_core.specs.Desk.{MayPutNow}
use Rattle.hc_commit.proofs.Putting.{next_put, put_met, put_next}
use Rattle.hc_commit.proofs.puts.put_each.Goals as goal

pub put-requires : goal.put-requires
put-requires g c =
    let may = next_put (g.D.Desk.conn c.args.desk.now) c.args.writes.now c.loop-i.i c.index-writes-i.result (g.D.Desk.account c.args.desk.now) (g.D.Desk.account c.loop-i.desk)
    c.loop-i-test.true c.index-writes-i.is c.loop-i.invariant.put c.requires.ascending c.requires.room in
    record {
      reserved = subst (λ (key : List ℕ). MayPutNow (g.D.Desk.account c.loop-i.desk) key (option_copied c.bytes_of.result)) (sym c.as_slice.ensures)
          (subst (λ (rec : Option (List ℕ)). MayPutNow (g.D.Desk.account c.loop-i.desk) c.index-writes-i.result.key rec) (sym c.bytes_of.ensures) may);
    }

pub returns-in-Err-clause-met : goal.returns-in-Err-clause-met
returns-in-Err-clause-met g c =
    put_met (g.D.Desk.conn c.args.desk.now) c.args.writes.now c.loop-i.i c.index-writes-i.result (g.D.Desk.account c.args.desk.now) (g.D.Desk.account c.loop-i.desk)
    c.loop-i-test.true c.index-writes-i.is c.loop-i.invariant.put (g.D.Desk.conn c.loop-i.desk) c.as_slice.result.now (option_copied c.bytes_of.result)
    c.loop-i.invariant.on.0 c.as_slice.ensures c.bytes_of.ensures (g.D.Desk.account c.put.new.self) c.in-Err.met c.in-Err.ensures.entry c.in-Err.ensures.met.0 c.in-Err.ensures.met.1

pub loop-i-preserved : goal.loop-i-preserved
loop-i-preserved g c = record {
  put = put_next (g.D.Desk.conn c.args.desk.now) c.args.writes.now c.loop-i.i c.index-writes-i.result (g.D.Desk.account c.args.desk.now) (g.D.Desk.account c.loop-i.desk)
      c.loop-i-test.true c.index-writes-i.is c.loop-i.invariant.put (g.D.Desk.conn c.loop-i.desk) c.as_slice.result.now (option_copied c.bytes_of.result)
      c.loop-i.invariant.on.0 c.as_slice.ensures c.bytes_of.ensures (g.D.Desk.account c.put.new.self) c.in_default.ensures.entry;
  on = search rules;
}
