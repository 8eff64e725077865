-- Before the new entry, itself, or after it.
use Rattle.std.proofs.Common.{ap, ◌∙◌, arith}
use Rattle.std.specs.List.{slice_get}
use Rattle.hc_page.proofs.Entries.{few_entries}
use Rattle.hc_split.specs.Joined.{joined_entries}
use Rattle.hc_split.proofs.Joining.{from_after, from_before, from_new, joined_long}
use Rattle.hc_split.proofs.joined.Joined.source.Goals as goal

pub overflow_add-result : goal.overflow_add-result
overflow_add-result c =
    let h = c.requires.there in
    omega (arith, h.2, joined_long c.args.self.now h.0 h.1, h.1.around.in_list, few_entries c.args.self.now.page.now.words h.0 h.1.will.page)

pub returns-then-slot-self : goal.returns-then-slot-self
returns-then-slot-self c = record { source = λ d is inside. from_before c.args.self.now d is c.args.slot c.if-slot-self.true }

pub returns-then-slot-self-2 : goal.returns-then-slot-self-2
returns-then-slot-self-2 c = record { source = λ d is inside. ap (λ n. slice_get (joined_entries c.args.self.now d) n) c.if-slot-self-2.true ∙ from_new c.args.self.now d is }

pub returns-else-slot-self-2 : goal.returns-else-slot-self-2
returns-else-slot-self-2 c = record { source = λ d is inside. from_after c.args.self.now d is c.args.slot (omega (arith, c.if-slot-self.false, c.if-slot-self-2.false)) inside }
