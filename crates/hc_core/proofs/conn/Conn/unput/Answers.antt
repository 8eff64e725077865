use Rattle.std.proofs.Common.{◌≡◌, refl}
use Rattle.hc_core.specs.Account.{HasWritten, after_unput}
use Rattle.hc_core.specs.Diary.{entry_of}
use Rattle.hc_core.specs.declared.event.Event.TheVariants.{Unput}
use Rattle.hc_core.specs.declared.outcome.Outcome.TheVariants.{Done}
use Rattle.hc_core.proofs.Conns.{kept_open, of_both, open_of}
use Rattle.hc_core.proofs.Matching.{matches_unput}
use Rattle.hc_core.proofs.Steps.{held_of}
use Rattle.hc_core.proofs.conn.Conn.unput.Goals as goal

-- the key is out of both
pub invariant_of-self : goal.invariant_of-self
invariant_of-self c = kept_open c.taken-running.result _ _ _ _ (entry_of (Unput c.args.conn c.args.key.now) Done) (after_unput c.args.key.now Done) _
    c.taken-running.ensures c.self.invariant.0 c.self.invariant.1 c.note.ensures
    (λ ts. refl) (λ t. refl) (λ t e h. (e, matches_unput c.taken-running.result _ c.args.key.now t c.take_back.ensures.put c.take_back.ensures.all h))

-- the key is put
pub take_back-requires : goal.take_back-requires
take_back-requires c =
    let now = open_of _ c.taken-running.result _ c.taken-running.ensures c.self.invariant.0 in
    record {
      there = of_both _ (λ t. HasWritten t c.args.key.now × (t.place ≡ 0)) _ _ now (rw c.self.view_is c.requires.open)
          (λ t h q. held_of c.taken-running.result t c.args.key.now h q.1 q.0);
    }
