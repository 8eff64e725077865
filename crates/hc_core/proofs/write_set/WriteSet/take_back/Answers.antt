use Rattle.std.proofs.Common.{◌∙◌, ◌-◌, arith, refl, sym, ap, subst, take, List}
use Rattle.hc_core.specs.Account.{without}
use Rattle.hc_base.specs.Lookup.{Among}
use Rattle.hc_core.specs.Running.{HaveSameWrites}
use Rattle.hc_core.specs.WriteSet.{Held, IsKeyAt, is_of_key}
use Rattle.hc_core.specs.declared.cells.Write.{Write}
use Rattle.hc_core.proofs.FrontWrites.{Shrunk, found_put, has_position, shrunk}
use Rattle.hc_core.proofs.LogEntries.{holds_into}
use Rattle.hc_core.proofs.write_set.WriteSet.take_back.Goals as goal
use Rattle.std.proofs.lemmas.Slice.Eq.{bytes_eq-Decides}

-- the key is found
pub unreachable-requires : goal.unreachable-requires
unreachable-requires c =
    let held = holds_into c.args.key.now c.put.result.now (rw c.put.ensures c.requires.there) in
    has_position (is_of_key c.args.key.now) c.put.result.now _ held.1 ((bytes_eq-Decides c.args.key.now c.args.key.now).1 refl)
    c.in_default.ensures

-- the key leaves the front
less : (c : goal.After-self-1) → Shrunk c.self.inside.put (c.self.inside.put - 1) c.self.inside.writes.items c.args.key.now c.swap.new.self.items
less c =
    let found = found_put c.self.inside.writes.items c.args.key.now c.self.inside.put c.in-Some.place c.self.invariant.0
    (subst (λ (ws : List Write). IsKeyAt c.args.key.now ws c.in-Some.place) (c.put.ensures ∙ sym (ap (λ (h : Held). h.put) c.self.view_is)) c.in-Some.ensures) in
    rw c.swap.ensures.items
    (shrunk c.self.inside.writes.items c.self.inside.put (c.self.inside.put - 1) c.in-Some.place c.args.key.now (omega (arith, found.0)) c.self.invariant.0 c.self.invariant.1 found.0 found.1)

pub invariant_of-self : goal.invariant_of-self
invariant_of-self c = let l = less c in (l.within, l.once)

pub returns-clause-put : goal.returns-clause-put
returns-clause-put c = subst (λ (h : Held). HaveSameWrites (take (c.self.inside.put - 1) c.swap.new.self.items) (without c.args.key.now h.put)) c.self.view_is (less c).front

pub returns-clause-all : goal.returns-clause-all
returns-clause-all c = λ w there. (less c).all w (subst (λ (h : Held). Among w h.all) (sym c.self.view_is) there)
