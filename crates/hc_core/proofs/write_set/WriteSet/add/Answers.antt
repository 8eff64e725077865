use Rattle.std.proofs.Common.{◌∙◌, ◌∷◌, ◌++◌, [], sym, ap, subst, arith}
use Rattle.std.specs.Option.{option_copied}
use Rattle.hc_base.specs.Lookup.{Among}
use Rattle.hc_core.specs.Running.{holds_key}
use Rattle.hc_core.specs.WriteSet.{Held}
use Rattle.hc_core.proofs.FrontWrites.{Grown, grown_either}
use Rattle.hc_core.proofs.write_set.WriteSet.add.Goals as goal

-- nothing has changed
pub invariant_of-self : goal.invariant_of-self
invariant_of-self c = rw c.in_err-place.ensures.no_memory c.self.invariant

-- the write is held, and comes to the front
pub swap-requires-clause-j_in_bounds : goal.swap-requires-clause-j_in_bounds
swap-requires-clause-j_in_bounds c =
    let new = ap (λ (h : Held). holds_key c.args.key.now h.put) c.self.view_is ∙ c.requires.new in
    let either = grown_either c.self.inside.writes.items c.hold.new.writes.items (record { key = c.args.key.now; rec = option_copied c.args.rec }) c.self.inside.put c.in_ok-place.place
    c.self.invariant.0 c.self.invariant.1 new c.in_ok-place.ensures.held in
    omega (arith, either.2, c.hold.new.writes.ok.0)

grown : (c : goal.After-self-1) → Grown c.self.inside.put c.self.inside.writes.items (record { key = c.args.key.now; rec = option_copied c.args.rec }) c.swap.new.self.items
grown c =
    let new = ap (λ (h : Held). holds_key c.args.key.now h.put) c.self.view_is ∙ c.requires.new in
    rw c.swap.ensures.items
    ((grown_either c.self.inside.writes.items c.hold.new.writes.items (record { key = c.args.key.now; rec = option_copied c.args.rec }) c.self.inside.put c.in_ok-place.place
    c.self.invariant.0 c.self.invariant.1 new c.in_ok-place.ensures.held).0)

pub invariant_of-self-2 : goal.invariant_of-self-2
invariant_of-self-2 c = let g = grown c in (g.within, g.once)

pub returns-clause-put : goal.returns-clause-put
returns-clause-put c = (grown c).front ∙ ap (λ (h : Held). h.put ++ record { key = c.args.key.now; rec = option_copied c.args.rec } ∷ []) c.self.view_is

pub returns-clause-all : goal.returns-clause-all
returns-clause-all c = λ w there. (grown c).all w (subst (λ (h : Held). Among w h.all) (sym c.self.view_is) there)
