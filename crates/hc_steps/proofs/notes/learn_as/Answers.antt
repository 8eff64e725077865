-- The join keeps the rule.
use Rattle.std.proofs.Common.{sym, ap, subst, arith}
use Rattle.atomic_table.specs.Table.{State, Joins}
use Rattle.hc_rows.proofs.Steps.{total_some}
use Rattle.hc_rule.specs.declared.view.View.{View}
use Rattle.hc_rule.specs.Rule.{Holds}
use Rattle.hc_rule.specs.Views.{nobody}
use Rattle.hc_rule.specs.Kinds.Note.{informed}
use Rattle.hc_rule.proofs.Kept.Note.{note_joins}
use Rattle.hc_steps.proofs.notes.learn_as.Goals as goal

pub join_seat-requires : goal.join_seat-requires
join_seat-requires c =
    let y = c.args.layout.now in
    let v = c.args.seat.now.me.0 in
    let w = c.args.note.me.0 in
    let some = total_some y in (
      c.requires.seated.0,
      c.requires.note.0,
      ap (λ m. m.1) c.requires.note.1,
      omega (arith, some, c.requires.seated.2),
      subst (λ k. Joins (λ (s : State Unit View). Holds k s.words s.views) c.args.seat.now.id v c.args.note.id w (informed v w) nobody) (sym c.requires.seated.1) (note_joins y c.args.seat.now.id c.args.note.id v w c.requires.note.2),
    )
