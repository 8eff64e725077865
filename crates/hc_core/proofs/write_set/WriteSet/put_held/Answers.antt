use Rattle.std.proofs.Common.{◌∙◌, ◌∷◌, ◌++◌, [], sym, ap, subst, arith, position}
use Rattle.std.specs.Option.{option_copied}
use Rattle.hc_base.specs.Lookup.{Among}
use Rattle.hc_core.specs.Running.{holds_key}
use Rattle.hc_core.specs.WriteSet.{Held, IsWriteAt, is_write}
use Rattle.hc_core.specs.declared.cells.Write.{Write}
use Rattle.hc_core.proofs.FrontWrites.{Grown, found_held, grown_held, has_position, write_passes}
use Rattle.hc_core.proofs.write_set.WriteSet.put_held.Goals as goal

-- the write is found
pub unreachable-requires : goal.unreachable-requires
unreachable-requires c =
    let w : Write = record { key = c.args.key.now; rec = option_copied c.args.rec } in
    has_position _ _ w (subst (λ (h : Held). Among w h.all) (sym c.self.view_is) c.requires.there) (write_passes w.key w.rec)
    (ap (λ ws. position (is_write w.key w.rec) ws) (sym c.as_slice.ensures.value) ∙ c.in_default.ensures)

-- and its key is not put
pub swap-requires-clause-j_in_bounds : goal.swap-requires-clause-j_in_bounds
swap-requires-clause-j_in_bounds c =
    let new = ap (λ (h : Held). holds_key c.args.key.now h.put) c.self.view_is ∙ c.requires.new in
    let found = subst (λ ws. IsWriteAt c.args.key.now (option_copied c.args.rec) ws c.in-Some.place) c.as_slice.ensures.value c.in-Some.ensures in
    let at = found_held c.self.inside.writes.items c.args.key.now (option_copied c.args.rec) c.self.inside.put c.in-Some.place c.self.invariant.0 new found in
    omega (arith, at.low, at.within, c.self.inside.writes.ok.0)

-- so it comes to the front
grown : (c : goal.After-self-1)
    → Grown c.self.inside.put c.self.inside.writes.items (record { key = c.args.key.now; rec = option_copied c.args.rec }) c.swap.new.self.items
grown c =
    let new = ap (λ (h : Held). holds_key c.args.key.now h.put) c.self.view_is ∙ c.requires.new in
    let found = subst (λ ws. IsWriteAt c.args.key.now (option_copied c.args.rec) ws c.in-Some.place) c.as_slice.ensures.value c.in-Some.ensures in
    rw c.swap.ensures.items
    (grown_held c.self.inside.writes.items (record { key = c.args.key.now; rec = option_copied c.args.rec }) c.self.inside.put c.in-Some.place c.self.invariant.1 new
    (found_held c.self.inside.writes.items c.args.key.now (option_copied c.args.rec) c.self.inside.put c.in-Some.place c.self.invariant.0 new found))

pub invariant_of-self : goal.invariant_of-self
invariant_of-self c = let g = grown c in (g.within, g.once)

pub returns-clause-put : goal.returns-clause-put
returns-clause-put c = (grown c).front ∙ ap (λ (h : Held). h.put ++ record { key = c.args.key.now; rec = option_copied c.args.rec } ∷ []) c.self.view_is

pub returns-clause-all : goal.returns-clause-all
returns-clause-all c = λ w there. (grown c).all w (subst (λ (h : Held). Among w h.all) (sym c.self.view_is) there)
