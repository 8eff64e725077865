use Rattle.std.proofs.Common.{subst}
use Rattle.hc_transcript.specs.declared.reply.Transcript.{Transcript}
use Rattle.hc_meaning.specs.Runs.Cut.{Script}
use Rattle.hc_judge.specs.Cuts.{IsCutInto}
use Rattle.hc_judge.proofs.Pairings.{cut_more, cut_whole}
use Rattle.hc_judge.proofs.pairing.cut_all.Goals as goal

pub loop-pair-preserved : goal.loop-pair-preserved
loop-pair-preserved c =
    let p = c.pair-item.result in
    let found : IsCutInto c.script.result.now c.transcript.result.now c.in-Some.own.items = rw c.in-Some.is at c.in_ok-own.ensures in
    let cut : IsCutInto p.script p.transcript c.in-Some.own.items =
    subst (λ (s : Script). IsCutInto s p.transcript c.in-Some.own.items) c.script.ensures
    (subst (λ (t : Transcript). IsCutInto c.script.result.now t c.in-Some.own.items) c.transcript.ensures found) in
    cut_more c.args.pairs.now c.loop-pair.pair-index p c.loop-pair-test.true c.pair-item.is c.loop-pair.transactions.items c.append.new.self.items c.in-Some.own.items cut c.in_ok-append.ensures.items c.loop-pair.invariant

pub returns : goal.returns
returns c = cut_whole c.args.pairs.now c.loop-pair.pair-index c.loop-pair.transactions.items c.loop-pair-test.false c.loop-pair.invariant
