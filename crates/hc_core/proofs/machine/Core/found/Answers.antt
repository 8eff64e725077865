use Rattle.std.proofs.Common.{◌≡◌, sym, subst, arith, List, None, MatchOption}
use Rattle.std.proofs.lemmas.List.{length-map}
use Rattle.hc_core.specs.Account.{part_of}
use Rattle.hc_core.specs.Commits.{AreShort, IsMetBetween, least_between}
use Rattle.hc_core.specs.Kept.{machine_of}
use Rattle.hc_core.specs.Machine.{Answers, Machine}
use Rattle.hc_core.specs.Running.{Matches}
use Rattle.hc_core.specs.declared.commit.Commit.{Commit}
use Rattle.hc_core.specs.declared.event.Event.TheVariants.{Check}
use Rattle.hc_core.specs.declared.outcome.Outcome.TheVariants.{Done, Met}
use Rattle.hc_core.proofs.Asked.{check_done, check_refused, something_proposed}
use Rattle.hc_core.proofs.LogFound.{check_met, check_none}
use Rattle.hc_core.proofs.LogShort.{short_logged}
use Rattle.hc_core.proofs.Steps.{found_open, log_length, match_map}
use Rattle.hc_core.proofs.Won.{proposed_within}
use Rattle.hc_core.proofs.machine.Core.found.Goals as goal

pub found_between-requires-clause-number : goal.found_between-requires-clause-number
found_between-requires-clause-number c =
    let m = machine_of c.self.inside.drawn c.self.inside.log.items c.self.inside.conns.items in
    let open_now = found_open m _ c.args.conn c.opened-running.result.now (Matches c.opened-running.result.now) c.self.view_is c.opened-running.ensures (λ t h. h) in (
      omega (arith, something_proposed _ _ c.opened-running.ensures c.requires.proposing),
      omega (arith, proposed_within m c.args.conn c.opened-running.result.now c.self.invariant.0.sound open_now, c.as_slice.ensures.len, log_length c.self.inside.log),
    )

-- each key in the log is short
pub found_between-requires-clause-short : goal.found_between-requires-clause-short
found_between-requires-clause-short c = subst AreShort (sym c.as_slice.ensures.value) (short_logged _ 1 c.self.inside.log.items c.self.invariant.0.logged c.self.invariant.0.short)

-- what the log has between is what the check meets
pub returns : goal.returns
returns c =
    let m = machine_of c.self.inside.drawn c.self.inside.log.items c.self.inside.conns.items in
    let r = c.opened-running.result.now in
    let part = part_of c.args.from.now c.args.upto.now in
    let open_now = found_open m _ c.args.conn r (Matches r) c.self.view_is c.opened-running.ensures (λ t h. h) in
    let sized = sym (length-map c.self.inside.log.items (λ (commit : Commit). commit.tid)) in
    let event = Check c.args.conn c.args.from.now c.args.upto.now in
    subst (λ (n : Machine). MatchOption c.found_between.result (Answers n event Done) (λ met. Answers n event (Met met))) c.self.view_is
    (match_map c.found_between.result _ (Answers m event Done) _ (λ met. Answers m event (Met met)) c.found_between.ensures
    (λ none. check_done m c.args.conn c.args.from.now c.args.upto.now r open_now (something_proposed _ r c.opened-running.ensures c.requires.proposing)
    (check_none c.self.invariant.0.sound.sound c.self.inside.log.items c.self.invariant.0.logged sized r.snapshot r.proposed part
    (subst (λ (log : List Commit). least_between r.snapshot r.proposed part log ≡ None) c.as_slice.ensures.value none)))
    (λ met is. check_refused m c.args.conn c.args.from.now c.args.upto.now r met open_now (something_proposed _ r c.opened-running.ensures c.requires.proposing)
    (check_met c.self.invariant.0.sound.sound c.self.inside.log.items c.self.invariant.0.logged sized r.snapshot r.proposed part met
    (subst (λ (log : List Commit). IsMetBetween r.snapshot r.proposed part log met) c.as_slice.ensures.value is))))
