use Rattle.std.proofs.Common.{inl, ⊎_elim}
use Rattle.hc_range.proofs.Searched.{empty_holds_none}
use Rattle.hc_range.proofs.union.add_with_room.Goals as goal

pub returns-then-not-is_non_empty-clause-added : goal.returns-then-not-is_non_empty-clause-added
returns-then-not-is_non_empty-clause-added c = λ key. (
  λ h. inl h,
  ⊎_elim (λ h. h) (λ at. absurd (empty_holds_none c.args.range key c.is_non_empty.result c.is_non_empty.ensures c.if-not-is_non_empty.true at)),
)
