use Rattle.std.proofs.Common.{◌≡◌, ◌-◌, min, length, take, drop, arith}
use Rattle.std.proofs.lemmas.Grind.{common_steps}
use Rattle.hc_io.proofs.Reading.{reads_front}
use Rattle.hc_io.proofs.memory_source.read_on.Goals as goal

-- The copied slice is the front of what was left, which the lemma speaks of.
pub returns-clause-reads : goal.returns-clause-reads
returns-clause-reads c =
    let copied : c.copy_from_slice.new.self ≡ take c.min-count.result (drop c.args.at.now c.args.bytes.now) =
    grind (arith, common_steps) in
    let count : c.min-count.result ≡ min (length c.args.buffer.now) (length c.args.bytes.now - c.args.at.now) =
    grind (arith, common_steps) in
    rw copied (reads_front c.args.at.now c.min-count.result c.args.bytes.now c.args.buffer.now count)
