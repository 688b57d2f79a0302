-- What the sources and sinks over a reader or a writer of the system are made of.
use Rattle.std.specs.Prelude.{ℕ}
use Rattle.outside.specs.declared.streams.StreamSource.{StreamSource}
use Rattle.outside.specs.declared.streams.StreamSink.{StreamSink}

-- the reader below a source
abbrev pub reader_of : {R : Type 0} → StreamSource R → R
reader_of s = s.reader

-- how many reads of a source failed
abbrev pub read_faults : {R : Type 0} → StreamSource R → ℕ
read_faults s = s.faults

-- the writer below a sink
abbrev pub writer_of : {W : Type 0} → StreamSink W → W
writer_of s = s.writer

-- how many writes of a sink failed
abbrev pub write_faults : {W : Type 0} → StreamSink W → ℕ
write_faults s = s.faults
