use Rattle.std.proofs.Common.{ap, arith, refl, List, Option, Some, Vec, Global}
use Rattle.std.specs.Prelude.{option_map}
use Rattle.hc_meaning.specs.Runs.Walk.{Item}
use Rattle.hc_judge.specs.declared.shown.Part.{Part}
use Rattle.hc_judge.specs.declared.turn.Turn.{Turn}
use Rattle.hc_judge.specs.Cuts.{Place}
use Rattle.hc_judge.specs.Turns.{close_as, item_as, move_as}
use Rattle.hc_judge.proofs.Walks.{steps_belongs, steps_closes}
use Rattle.hc_judge.proofs.cutting.Walk.step.Goals as goal

-- the items in what may be there
abbrev items_in : Option (Vec Part Global) → Option (List Item)
items_in = option_map (λ (parts : Vec Part Global). parts.items)

pub returns-in_ok-parts-in-Belongs : goal.returns-in_ok-parts-in-Belongs
returns-in_ok-parts-in-Belongs c =
    let place : Place = record { conn = c.self.inside.conn; closed = c.self.inside.closed.items; opened = items_in c.self.inside.opened } in
    let parts : List Item = c.in_ok-parts-in-Belongs.parts.items in
    steps_belongs c.args.self.now place (record { conn = place.conn; closed = place.closed; opened = Some parts }) c.args.command.now (move_as c.args.turn c.args.command.now c.args.reply.now)
    (item_as c.in-Belongs.what c.args.command.now c.args.reply.now) c.new.result parts (items_in c.take.result)
    c.self.view_is (ap (λ (t : Turn). move_as t c.args.command.now c.args.reply.now) c.in-Belongs.is)
    c.in_ok-parts-in-Belongs.ensures (ap items_in c.take.ensures.value) c.new.ensures refl

pub returns-in_ok-push-in-Closes : goal.returns-in_ok-push-in-Closes
returns-in_ok-push-in-Closes c =
    let place : Place = record { conn = c.self.inside.conn; closed = c.self.inside.closed.items; opened = items_in c.self.inside.opened } in
    let parts : List Item = c.in_ok-parts-in-Closes.parts.items in
    steps_closes c.args.self.now place (record { conn = place.conn; closed = c.push.new.self.items; opened = items_in c.take-in-Closes.new.self }) c.args.command.now (move_as c.args.turn c.args.command.now c.args.reply.now)
    (item_as c.in-Closes.what c.args.command.now c.args.reply.now) c.new-in-Closes.result (close_as c.in-Closes.closing) c.in-Closes.ending parts (items_in c.take-in-Closes.result) c.len-before.result c.new-in-Closes-2.result c.push.new.self.items
    c.self.view_is (ap (λ (t : Turn). move_as t c.args.command.now c.args.reply.now) c.in-Closes.is)
    c.in_ok-parts-in-Closes.ensures (ap items_in c.take-in-Closes.ensures.value) c.new-in-Closes.ensures (omega (arith, c.len-before.ensures, c.self.inside.closed.ok)) c.new-in-Closes-2.ensures c.in_ok-push-in-Closes.ensures.items
    (ap (λ (o : Option (Vec Part Global)). record { conn = place.conn; closed = c.push.new.self.items; opened = items_in o }) c.take-in-Closes.ensures.after)
