use Rattle.hc_range.proofs.ByteOrder.{below_irrefl}
use Rattle.std.proofs.Common.{refl, [], rules}
use Rattle.hc_machine_tests.proofs.list_desk.a_desk_reads_an_empty_store.Goals as goal

-- the empty key is in the range of all keys
pub read_part-requires-clause-from : goal.read_part-requires-clause-from
read_part-requires-clause-from g c = (rw c.in_ok-from_slice.ensures (below_irrefl []), refl)
