use Rattle.std.proofs.Common.{◌∙◌, sym, ap, subst, ℕ, List, rules, arith}
use Rattle.std.proofs.lemmas.List.{take_all}
use Rattle.hc_core.specs.Desk.{MayUnputNow}
use Rattle.hc_core.specs.declared.cells.Write.{Write}
use Rattle.hc_commit.specs.Entries.{with_unputs}
use Rattle.hc_commit.proofs.Putting.{all_unput, next_unput, unput_next}
use Rattle.hc_commit.proofs.puts.unput_all.Goals as goal

pub unput-requires : goal.unput-requires
unput-requires g c = record {
  put = subst (λ (key : List ℕ). MayUnputNow (g.D.Desk.account c.loop-write.desk) key) (sym c.as_slice.ensures)
      (next_unput (g.D.Desk.conn c.args.desk.now) c.args.writes.now c.loop-write.write-index c.write-item.result (g.D.Desk.account c.args.desk.now) (g.D.Desk.account c.loop-write.desk)
      c.loop-write-test.true c.write-item.is c.loop-write.invariant.taken c.requires.ascending c.requires.put);
}

pub loop-write-preserved : goal.loop-write-preserved
loop-write-preserved g c = record {
  taken = unput_next (g.D.Desk.conn c.args.desk.now) c.args.writes.now c.loop-write.write-index c.write-item.result (g.D.Desk.account c.args.desk.now) (g.D.Desk.account c.loop-write.desk)
      c.loop-write-test.true c.write-item.is c.loop-write.invariant.taken (g.D.Desk.conn c.loop-write.desk) c.as_slice.result.now c.loop-write.invariant.on.0 c.as_slice.ensures
      (g.D.Desk.account c.unput.new.self) c.unput.ensures.entry;
  on = search rules;
}

pub returns-clause-none : goal.returns-clause-none
returns-clause-none g c =
    all_unput (g.D.Desk.conn c.args.desk.now) c.args.writes.now (g.D.Desk.account c.args.desk.now) (g.D.Desk.account c.loop-write.desk)
    (c.loop-write.invariant.taken ∙ ap (λ (ws : List Write). with_unputs (g.D.Desk.conn c.args.desk.now) ws (g.D.Desk.account c.args.desk.now)) (take_all c.loop-write.write-index c.args.writes.now (omega arith)))
    c.requires.ascending c.requires.put
