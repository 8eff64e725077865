-- The reader or writer of a source or a sink over the standard library, and how often it failed.
use Rattle.std.specs.Prelude.{ℕ}
use Rattle.hc_io.specs.declared.standard.StdSource.{StdSource}
use Rattle.hc_io.specs.declared.standard.StdSink.{StdSink}

abbrev pub reader_of : {R : Type 0} → StdSource R → R
reader_of source = source.reader

-- how many reads failed, up to the greatest value of a u64
abbrev pub failed_reads : {R : Type 0} → StdSource R → ℕ
failed_reads source = source.faults

abbrev pub writer_of : {W : Type 0} → StdSink W → W
writer_of sink = sink.writer

-- how many writes failed, up to the greatest value of a u64
abbrev pub failed_writes : {W : Type 0} → StdSink W → ℕ
failed_writes sink = sink.faults
