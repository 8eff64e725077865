use Rattle.std.proofs.Common.{◌≡◌, ◌∙◌, rules, sym, ap, List, Err, Ok}
use Rattle.hc_grammar.specs.Phrases.{listed}
use Rattle.hc_parse.specs.Coded.{Gives, from}
use Rattle.hc_parse.specs.Seen.{left, budget_of}
use Rattle.hc_parse.proofs.Gathers.{gathers_all}
use Rattle.hc_parse.proofs.Lists.{listed_on, listed_halt, listed_end, same_answer}
use Rattle.hc_parse.proofs.list.read_list.Goals as goal
use Rattle.hc_parse.proofs.list.read_list.Goals.{else-items-test, then-items-test+then-not-accept}

pub items-preserved : goal.items-preserved
items-preserved g c =
    listed_on g.P.Part.grammar 100 c.args.source.now c.items.cursor c.accept.new.cursor c.read-in-items.new.cursor
    c.items.invariant c.items-test.true c.if-not-accept.ensures c.in_ok-read.ensures c.in_ok-push.ensures.items

pub returns-in_err-read : goal.returns-in_err-read
returns-in_err-read g c =
    let s : Gives {A = List g.row.P.Denot} c.args.source.now (Err c.in_err-read.field-0.0) c.read-in-items.new.cursor (from c.args.source.now (listed g.P.Part.grammar) c.args.cursor.now) =
    listed_halt g.P.Part.grammar 100 c.args.source.now c.items.cursor c.accept.new.cursor c.read-in-items.new.cursor c.in_err-read.field-0.0
    c.items.invariant c.items-test.true c.if-not-accept.ensures c.in_err-read.ensures in
    search rules

pub returns : goal.returns
returns g c = elim c.items-test.branch [
  | else-items-test w ↦ same_answer c.args.source.now c.items.cursor c.items-test.cursor (gathers_all c.items.invariant w.items-test.false) c.finished.ensures w.cursor-is
  | then-items-test+then-not-accept w ↦ same_answer c.args.source.now w.accept.new.cursor c.items-test.cursor
      (listed_end c.args.source.now c.items.cursor w.accept.new.cursor c.items.invariant w.if-not-accept.ensures) c.finished.ensures w.cursor-is
]
