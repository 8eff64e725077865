-- The split keeps the rule.
use Rattle.std.proofs.Common.{sym, subst, arith}
use Rattle.atomic_table.specs.Table.{State, Splits}
use Rattle.hc_rows.proofs.Steps.{total_some}
use Rattle.hc_rule.specs.declared.view.View.{View}
use Rattle.hc_rule.specs.Rule.{Holds}
use Rattle.hc_rule.specs.Kinds.Deal.{dealer_after, seat_dealt}
use Rattle.hc_rule.proofs.Kept.Deal.{deal_splits}
use Rattle.hc_steps.proofs.region.deal_as.Goals as goal

pub split_seat-requires : goal.split_seat-requires
split_seat-requires c =
    let y = c.args.layout.now in
    let v = c.args.seat.now.me.0 in
    let some = total_some y in (
      c.requires.seated.0,
      omega (arith, some, c.requires.seated.2),
      subst (λ k. Splits (λ (s : State Unit View). Holds k s.words s.views) c.args.seat.now.id v (dealer_after v) (seat_dealt v)) (sym c.requires.seated.1)
          (deal_splits y c.args.seat.now.id c.args.dealt v c.requires.dealer c.requires.room),
    )
