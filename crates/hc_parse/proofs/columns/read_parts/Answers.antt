use Rattle.std.proofs.Common.{◌≡◌, ◌∙◌, refl, rules, sym, Err}
use Rattle.hc_grammar.specs.Statements.{Parts, parts}
use Rattle.hc_parse.specs.Coded.{Gives, from}
use Rattle.hc_parse.proofs.TableParts.{parts_on, parts_halt, parts_end}
use Rattle.hc_parse.proofs.Gathers.{gathers_all}
use Rattle.hc_parse.proofs.Lists.{same_answer}
use Rattle.hc_parse.proofs.columns.read_parts.Goals as goal
use Rattle.hc_parse.proofs.columns.read_parts.Goals.{else-parts-test, then-parts-test+then-not-accept}

pub parts-preserved : goal.parts-preserved
parts-preserved c =
    parts_on c.args.source.now c.parts.cursor c.accept.new.cursor c.read_part.new.cursor c.parts.invariant c.parts-test.true c.if-not-accept.ensures c.in_ok-parts.ensures

pub returns-in_err-parts : goal.returns-in_err-parts
returns-in_err-parts c =
    let s : Gives {A = Parts} c.args.source.now (Err c.in_err-parts.field-0.0) c.read_part.new.cursor (from c.args.source.now parts c.args.cursor.now) =
    parts_halt c.args.source.now c.parts.cursor c.accept.new.cursor c.read_part.new.cursor c.in_err-parts.field-0.0
    c.parts.invariant c.parts-test.true c.if-not-accept.ensures c.in_err-parts.ensures in
    search rules

pub returns : goal.returns
returns c = elim c.parts-test.branch [
  | else-parts-test w ↦ same_answer c.args.source.now c.parts.cursor c.parts-test.cursor (gathers_all c.parts.invariant w.parts-test.false) refl w.cursor-is
  | then-parts-test+then-not-accept w ↦ same_answer c.args.source.now w.accept.new.cursor c.parts-test.cursor
      (parts_end c.args.source.now c.parts.cursor w.accept.new.cursor c.parts.invariant w.if-not-accept.ensures) refl w.cursor-is
]
