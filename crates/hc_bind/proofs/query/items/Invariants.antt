-- The items so far are told.
use Rattle.std.proofs.Common.{◌≡◌, [], map, take, Ok}
use Rattle.hc_schema.specs.Binding.Faults.{walk}
use Rattle.hc_schema.specs.Binding.Queries.{with_item}
use Rattle.hc_bind.specs.Settings.{read_on, answer_of}
use Rattle.hc_bind.proofs.query.items.Given as goal

abbrev pub invariant-loop-item : goal.invariant-loop-item
invariant-loop-item l = walk (with_item (read_on l.setting)) [] (take l.item-index l.list) ≡ Ok (map answer_of l.out.items)
