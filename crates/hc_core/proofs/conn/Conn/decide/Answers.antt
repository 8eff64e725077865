use Rattle.std.proofs.Common.{◌≡◌, arith, refl}
use Rattle.hc_core.specs.Account.{WhenOpen, after_decide, txns}
use Rattle.hc_core.specs.Diary.{entry_of}
use Rattle.hc_core.specs.declared.event.Event.TheVariants.{Decide}
use Rattle.hc_core.specs.declared.outcome.Outcome.TheVariants.{Decided}
use Rattle.hc_core.proofs.Conns.{kept_open, open_of, when_both}
use Rattle.hc_core.proofs.Matching.{matches_decided}
use Rattle.hc_core.proofs.conn.Conn.decide.Goals as goal

-- the place is that of the account
pub invariant_of-self : goal.invariant_of-self
invariant_of-self c = kept_open c.taken-running.result _ _ _ _ (entry_of (Decide c.args.conn) (Decided (record { 0 = c.args.number }))) (after_decide (Decided (record { 0 = c.args.number }))) _
    c.taken-running.ensures c.self.invariant.0 c.self.invariant.1 c.note.ensures
    (λ ts. refl) (λ t. refl) (λ t e h. (e, matches_decided c.taken-running.result _ c.args.number t (λ z. omega (arith, z, c.requires.number)) h))

-- what was kept of the writes is what is in the write set
pub returns-clause-writes : goal.returns-clause-writes
returns-clause-writes c =
    let now = open_of _ c.taken-running.result _ c.taken-running.ensures c.self.invariant.0 in
    let undecided : WhenOpen (txns c.self.inside.diary) (λ t. t.place ≡ 0) = rw c.self.view_is c.requires.open in
    rw (← c.self.view_is) (when_both _ _ _ _ now undecided (λ t h none. rw (c.into_put-writes.ensures, c.replace.ensures.value) (h.writes none)))
