use Rattle.std.proofs.Common.{ap}
use Rattle.atomic_table.specs.Table.{keeps}
use Rattle.hc_core.specs.Diary.{noted}
use Rattle.hc_core.proofs.diary.Diary.note_as.Goals as goal

-- the view gets the entry, and nothing else changes
pub load-requires : goal.load-requires
load-requires g c =
    let view = noted c.self.inside.seat.me.0 g.N.Noting.entry in
    (c.self.invariant.0, c.self.invariant.1, λ s h len at word. (view, keeps, tt, tt, ap (λ held. (view, held)) c.self.invariant.2))
