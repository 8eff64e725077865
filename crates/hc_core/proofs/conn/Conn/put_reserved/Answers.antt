use Rattle.std.proofs.Common.{◌≡◌, false, refl}
use Rattle.std.specs.Option.{option_copied}
use Rattle.hc_core.specs.Account.{HasWritten, after_put}
use Rattle.hc_core.specs.Diary.{entry_of}
use Rattle.hc_base.specs.Lookup.{Among}
use Rattle.hc_core.specs.Running.{holds_key}
use Rattle.hc_core.specs.declared.cells.Write.{Write}
use Rattle.hc_core.specs.declared.event.Event.TheVariants.{Put}
use Rattle.hc_core.specs.declared.outcome.Outcome.TheVariants.{Done}
use Rattle.hc_core.proofs.Conns.{kept_open, of_both, open_of}
use Rattle.hc_core.proofs.Matching.{matches_put}
use Rattle.hc_core.proofs.Steps.{free_of}
use Rattle.hc_core.proofs.conn.Conn.put_reserved.Goals as goal

-- the write is put
pub invariant_of-self : goal.invariant_of-self
invariant_of-self c = kept_open c.taken-running.result _ _ _ _ (entry_of (Put c.args.conn c.args.key.now (option_copied c.args.rec)) Done) (after_put c.args.key.now (option_copied c.args.rec) Done) _
    c.taken-running.ensures c.self.invariant.0 c.self.invariant.1 c.note.ensures
    (λ ts. refl) (λ t. refl) (λ t e h. (e, matches_put c.taken-running.result _ (record { key = c.args.key.now; rec = option_copied c.args.rec }) t c.put_held.ensures.put c.put_held.ensures.all h))

-- the write is held, and its key is not put
pub put_held-requires : goal.put_held-requires
put_held-requires c =
    let now = open_of _ c.taken-running.result _ c.taken-running.ensures c.self.invariant.0 in
    let w : Write = record { key = c.args.key.now; rec = option_copied c.args.rec } in
    let both = of_both _ (λ t. (t.place ≡ 0) × Among w t.reserved × (HasWritten t c.args.key.now → ⊥)) (Among w c.taken-running.result.writes.all × (holds_key c.args.key.now c.taken-running.result.writes.put ≡ false)) _ now (rw c.self.view_is c.requires.open)
    (λ t h q. (h.reserved q.0 w q.1, free_of c.taken-running.result t c.args.key.now h q.0 q.2)) in
    record { there = both.0; new = both.1 }
