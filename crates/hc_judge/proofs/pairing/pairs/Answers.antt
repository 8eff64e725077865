use Rattle.std.proofs.Common.{◌≡◌, ◌∙◌, ◌<◌, ◌≤◌, sym, subst, true, ℕ, [], ◌∷◌, ◌++◌, length, get_or, arith}
use Rattle.std.proofs.lemmas.Bool.{false≢true}
use Rattle.hc_meaning.specs.Runs.RightRun.{has_command}
use Rattle.hc_judge.specs.Pairs.{Paired}
use Rattle.hc_judge.proofs.Pairings.{has_one, none_there, not_one, one_there, pairs_more, too_few}
use Rattle.hc_judge.proofs.pairing.pairs.Goals as goal

pub returns-in_default : goal.returns-in_default
returns-in_default c =
    let s = c.script-item.result in
    let has : has_command s ≡ true = has_one s c.commands.result.now c.is_empty.result c.is_empty.ensures c.if-is_empty.false c.commands.ensures in
    let n_is : c.len.result ≡ length c.loop-script.pairs.items = omega (arith, c.len.ensures, c.loop-script.pairs.ok) in
    let past : length c.args.transcripts.now ≤ length c.loop-script.pairs.items = omega (arith, none_there c.args.transcripts.now c.len.result c.in_default.ensures, n_is) in
    too_few c.args.scripts.now c.args.transcripts.now c.loop-script.script-index c.loop-script.pairs.items s c.loop-script-test.true c.script-item.is has past c.loop-script.invariant

pub returns-then-not-is_one : goal.returns-then-not-is_one
returns-then-not-is_one c = λ ps are.
    let s = c.script-item.result in
    let t = c.in-Some.transcript.now in
    let has : has_command s ≡ true = has_one s c.commands.result.now c.is_empty.result c.is_empty.ensures c.if-is_empty.false c.commands.ensures in
    let n_is : c.len.result ≡ length c.loop-script.pairs.items = omega (arith, c.len.ensures, c.loop-script.pairs.ok) in
    let there = one_there c.args.transcripts.now c.len.result t c.in-Some.ensures in
    let t_is : t ≡ get_or c.args.transcripts.now (length c.loop-script.pairs.items) t = subst (λ (n : ℕ). t ≡ get_or c.args.transcripts.now n t) n_is there.1 in
    false≢true (sym c.if-not-is_one.true ∙ c.is_one.ensures.1
    (not_one c.args.scripts.now c.args.transcripts.now c.loop-script.script-index c.loop-script.pairs.items s t c.loop-script-test.true c.script-item.is has t_is c.loop-script.invariant ps are))

pub loop-script-preserved : goal.loop-script-preserved
loop-script-preserved c =
    let s = c.script-item.result in
    let t = c.in-Some.transcript.now in
    let has : has_command s ≡ true = has_one s c.commands.result.now c.is_empty.result c.is_empty.ensures c.if-is_empty.false c.commands.ensures in
    let n_is : c.len.result ≡ length c.loop-script.pairs.items = omega (arith, c.len.ensures, c.loop-script.pairs.ok) in
    let there = one_there c.args.transcripts.now c.len.result t c.in-Some.ensures in
    let t_is : t ≡ get_or c.args.transcripts.now (length c.loop-script.pairs.items) t = subst (λ (n : ℕ). t ≡ get_or c.args.transcripts.now n t) n_is there.1 in
    let inside : length c.loop-script.pairs.items < length c.args.transcripts.now = omega (arith, there.0, n_is) in
    pairs_more c.args.scripts.now c.args.transcripts.now c.loop-script.script-index c.loop-script.pairs.items c.push.new.self.items s t c.loop-script-test.true c.script-item.is has inside t_is
    (c.is_one.ensures.0 c.if-not-is_one.false)
    (subst (λ (p : Paired). c.push.new.self.items ≡ c.loop-script.pairs.items ++ p ∷ []) c.new.ensures c.in_ok-push.ensures.items)
    c.loop-script.invariant
