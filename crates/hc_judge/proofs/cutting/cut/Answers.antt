use Rattle.std.proofs.Common.{◌≡◌, ◌∙◌, ◌<◌, ◌≤◌, ap, sym, subst, arith, ℕ, Bool, List, [], None, length, Vec, Global}
use Rattle.std.specs.Prelude.{IsSome, is_some}
use Rattle.hc_transcript.specs.declared.reply.Reply.{Reply}
use Rattle.hc_meaning.specs.declared.command.Command.{Command}
use Rattle.hc_meaning.specs.Runs.Cut.{Transaction}
use Rattle.hc_meaning.specs.Runs.Walk.{move}
use Rattle.hc_judge.specs.Cuts.{IsCutInto, Leads, WalksTo}
use Rattle.hc_judge.specs.declared.shown.Shown.{Shown}
use Rattle.hc_judge.specs.Turns.{move_as}
use Rattle.hc_judge.proofs.Walks.{HasCome, answered_so, came_to_end, comes_nowhere, comes_on, has_begun}
use Rattle.hc_judge.proofs.cutting.cut.Goals as goal

-- the same of lists that are the same
moved : (conn : ℕ) (commands others : List Command) (replies more : List Reply) (ts : List Transaction) → commands ≡ others → replies ≡ more
    → WalksTo conn 1 None commands replies ts → WalksTo conn 1 None others more ts
moved conn commands others replies more ts same alike walks =
    subst (λ (l : List Command). WalksTo conn 1 None l more ts) same (subst (λ (l : List Reply). WalksTo conn 1 None commands l ts) alike walks)

pub loop-at-init : goal.loop-at-init
loop-at-init c =
    let begun : c.new-walk.result ≡ record { conn = c.args.script.now.conn; closed = []; opened = None } =
    c.new-walk.ensures ∙ ap (λ (n : ℕ). record { conn = n; closed = []; opened = None }) c.conn.ensures in
    subst (HasCome c.args.script.now.conn c.commands-commands.result.now c.as_slice-replies.result.now 0) (sym begun)
    (has_begun c.args.script.now.conn c.commands-commands.result.now c.as_slice-replies.result.now)

pub returns-then-not-branch : goal.returns-then-not-branch
returns-then-not-branch c = λ ts walks.
    let commands_are = c.commands-commands.ensures in
    let replies_are = c.as_slice-replies.ensures in
    let e1 = ap length commands_are in
    let e2 = ap length replies_are in
    let r_more : c.loop-at.at < length c.as_slice-replies.result.now = omega (arith, c.loop-at-test.true, e1, e2, c.requires) in
    let k = c.index-commands-at.result in
    let r = c.index-replies-at.result in
    let said = c.make_turn-said.ensures
    ∙ ap (λ (b : Bool). move b c.is_last.result k r) c.is_open.ensures
    ∙ ap (λ (b : Bool). move (is_some c.loop-at.walk.opened) b k r) c.is_last.ensures in
    comes_nowhere c.loop-at.walk c.commands-commands.result.now c.as_slice-replies.result.now c.loop-at.at k r c.loop-at-test.true c.index-commands-at.is r_more c.index-replies-at.is
    c.args.script.now.conn (move_as c.make_turn-said.result k r) said
    (subst (λ (b : Bool). Leads b c.loop-at.walk k (move_as c.make_turn-said.result k r) c.step.new.self) c.if-not-branch.true c.in_ok-step.ensures)
    c.loop-at.invariant ts
    (moved c.args.script.now.conn c.args.script.now.commands c.commands-commands.result.now c.args.transcript.now.replies c.as_slice-replies.result.now ts (sym commands_are) (sym replies_are) walks)

pub loop-at-preserved : goal.loop-at-preserved
loop-at-preserved c =
    let e1 = ap length c.commands-commands.ensures in
    let e2 = ap length c.as_slice-replies.ensures in
    let r_more : c.loop-at.at < length c.as_slice-replies.result.now = omega (arith, c.loop-at-test.true, e1, e2, c.requires) in
    let k = c.index-commands-at.result in
    let r = c.index-replies-at.result in
    let said = c.make_turn-said.ensures
    ∙ ap (λ (b : Bool). move b c.is_last.result k r) c.is_open.ensures
    ∙ ap (λ (b : Bool). move (is_some c.loop-at.walk.opened) b k r) c.is_last.ensures in
    comes_on c.loop-at.walk c.commands-commands.result.now c.as_slice-replies.result.now c.loop-at.at k r c.loop-at-test.true c.index-commands-at.is r_more c.index-replies-at.is
    c.args.script.now.conn (move_as c.make_turn-said.result k r) c.step.new.self said
    (subst (λ (b : Bool). Leads b c.loop-at.walk k (move_as c.make_turn-said.result k r) c.step.new.self) c.if-not-branch.false c.in_ok-step.ensures)
    c.loop-at.invariant

pub returns : goal.returns
returns c =
    let commands_are = c.commands-commands.ensures in
    let replies_are = c.as_slice-replies.ensures in
    let e1 = ap length commands_are in
    let e2 = ap length replies_are in
    let r_past : length c.as_slice-replies.result.now ≤ c.loop-at.at = omega (arith, c.loop-at-test.false, e1, e2, c.requires) in
    let end = came_to_end c.args.script.now.conn c.commands-commands.result.now c.as_slice-replies.result.now c.loop-at.at c.loop-at.walk c.loop-at.invariant c.loop-at-test.false r_past in
    answered_so (IsSome c.loop-at.walk.opened) ((ts : List Transaction) → IsCutInto c.args.script.now c.args.transcript.now ts → ⊥)
    (λ (closed : Vec Shown Global). (c.loop-at.walk.opened ≡ None) × (closed.items ≡ c.loop-at.walk.closed))
    (λ (closed : Vec Shown Global). IsCutInto c.args.script.now c.args.transcript.now closed.items)
    (λ some ts walks. end.0 some ts
    (moved c.args.script.now.conn c.args.script.now.commands c.commands-commands.result.now c.args.transcript.now.replies c.as_slice-replies.result.now ts (sym commands_are) (sym replies_are) walks))
    (λ closed is. subst (λ (l : List Transaction). IsCutInto c.args.script.now c.args.transcript.now l) (sym is.1)
    (moved c.args.script.now.conn c.commands-commands.result.now c.args.script.now.commands c.as_slice-replies.result.now c.args.transcript.now.replies c.loop-at.walk.closed commands_are replies_are (end.1 is.0)))
    c.into_closed.result c.into_closed.ensures
