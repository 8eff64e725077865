use Rattle.std.proofs.Common.{◌≡◌, ◌≢◌, List, [], ◌∷◌, ap, refl, ◌∙◌}
use Rattle.hc_core.specs.Account.{after_reserve}
use Rattle.hc_core.specs.declared.account.Entry.TheVariants.{Reserved}
use Rattle.hc_core.specs.declared.cells.Write.{Write}
use Rattle.hc_core.proofs.Conns.{kept_open_with}
use Rattle.hc_core.proofs.Matching.{matches_room}
use Rattle.hc_core.proofs.conn.Conn.make_room.Goals as goal

-- there is room for the writes, and none is put
pub invariant_of-self : goal.invariant_of-self
invariant_of-self c = kept_open_with (λ t. (t.id ≢ 0) × (t.write_set ≡ [])) c.taken-running.result _ _ _ _ (Reserved c.args.conn c.args.writes.items) (after_reserve c.args.writes.items) _
    (rw c.self.view_is c.requires.open) c.taken-running.ensures c.self.invariant.0 c.self.invariant.1 (c.note_room.ensures ∙ ap (λ (ws : List Write). Reserved c.args.conn ws ∷ c.self.inside.diary) c.as_slice.ensures.value)
    (λ ts. refl) (λ t. refl)
    (λ t e q h. (e, matches_room c.taken-running.result _ c.args.writes.items t c.of.ensures.put c.of.ensures.all q.0 q.1 c.requires.short h))
