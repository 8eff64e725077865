use Rattle.std.proofs.Common.{◌≡◌, refl}
use Rattle.std.specs.Option.{option_copied}
use Rattle.hc_core.specs.Account.{HasWritten, after_put}
use Rattle.hc_core.specs.Diary.{entry_of}
use Rattle.hc_core.specs.declared.event.Event.TheVariants.{Put}
use Rattle.hc_core.specs.declared.outcome.Outcome.TheVariants.{Done}
use Rattle.hc_core.proofs.Conns.{kept_open, of_both, open_of}
use Rattle.hc_core.proofs.Matching.{matches_put}
use Rattle.hc_core.proofs.Steps.{free_of}
use Rattle.hc_core.proofs.conn.Conn.put.Goals as goal

-- the write is put
pub invariant_of-self-2 : goal.invariant_of-self-2
invariant_of-self-2 c = kept_open c.taken-running.result _ _ _ _ (entry_of (Put c.args.conn c.args.key.now (option_copied c.args.rec)) Done) (after_put c.args.key.now (option_copied c.args.rec) Done) _
    c.taken-running.ensures c.self.invariant.0 c.self.invariant.1 c.note.ensures
    (λ ts. refl) (λ t. refl) (λ t e h. (e, matches_put c.taken-running.result _ (record { key = c.args.key.now; rec = option_copied c.args.rec }) t c.in_ok-added.ensures.put c.in_ok-added.ensures.all h))

-- nothing has changed
pub invariant_of-self : goal.invariant_of-self
invariant_of-self c = rw c.in_err-added.ensures.no_memory
    (open_of _ c.taken-running.result _ c.taken-running.ensures c.self.invariant.0, c.self.invariant.1)

-- the key is not put
pub add-added-requires : goal.add-added-requires
add-added-requires c =
    let now = open_of _ c.taken-running.result _ c.taken-running.ensures c.self.invariant.0 in
    record {
      new = of_both _ (λ t. (t.place ≡ 0) × (HasWritten t c.args.key.now → ⊥)) _ _ now (rw c.self.view_is c.requires.open)
          (λ t h q. free_of c.taken-running.result t c.args.key.now h q.0 q.1);
    }
