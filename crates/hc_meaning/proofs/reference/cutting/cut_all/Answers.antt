use Rattle.std.proofs.Common.{◌≡◌, ◌∙◌, ◌<◌, sym, length, get_or, [], arith, rules}
use Rattle.std.proofs.lemmas.Bool.{false≢true}
use Rattle.hc_meaning.proofs.Loops.AllCuts.{cut_each_from-more, cut_each_from-too_many}
use Rattle.hc_meaning.proofs.reference.cutting.cut_all.Goals as goal

pub loop-script-preserved : goal.loop-script-preserved
loop-script-preserved c =
    let inside : c.loop-script.at < length c.args.transcripts.now = search rules in
    let transcript_is : c.in-Some.transcript.now ≡ get_or c.args.transcripts.now c.loop-script.at c.in-Some.transcript.now = search rules in
    let found = rw c.in-Some-2.is at c.in_ok-found.ensures in
    record {
      counted = omega (arith, c.loop-script.invariant.counted);
      within = omega (arith, inside);
      cut_so_far = c.loop-script.invariant.cut_so_far
          ∙ cut_each_from-more c.args.scripts.now c.args.transcripts.now c.loop-script.transactions.items c.append.new.self.items c.in-Some-2.found.items c.loop-script.script-index c.loop-script.at c.script-item.result c.in-Some.transcript.now
          c.loop-script-test.true c.script-item.is (λ empty. false≢true (sym c.if-is_empty.false ∙ c.is_empty.ensures.1 empty)) inside transcript_is found c.in_ok-append.ensures.items;
    }

pub returns-then-at-transcripts : goal.returns-then-at-transcripts
returns-then-at-transcripts c =
    sym (c.loop-script.invariant.cut_so_far
    ∙ cut_each_from-too_many c.args.scripts.now c.args.transcripts.now c.loop-script.transactions.items c.loop-script.script-index c.loop-script.at (record { conn = 0; replies = [] }) c.loop-script-test.false c.if-at-transcripts.true)
