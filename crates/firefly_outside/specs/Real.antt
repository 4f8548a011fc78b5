-- What sources, sinks and trees of the system show.
use Rattle.std.specs.Prelude.{ℕ}
use Rattle.firefly_outside.specs.declared.real.ReaderSource.{ReaderSource}
use Rattle.firefly_outside.specs.declared.real.WriterSink.{WriterSink}
use Rattle.firefly_outside.specs.declared.dir_tree.DirTree.{DirTree}

-- the reader of a source
abbrev pub reader_of : {R : Type 0} → ReaderSource R → R
reader_of s = s.inner

-- the writer of a sink
abbrev pub writer_of : {W : Type 0} → WriterSink W → W
writer_of s = s.inner

abbrev pub reader_faults : {R : Type 0} → ReaderSource R → ℕ
reader_faults s = s.faults

abbrev pub writer_faults : {W : Type 0} → WriterSink W → ℕ
writer_faults s = s.faults

-- how often a tree of the system has failed
abbrev pub dir_faults : {R F A : Type 0} → DirTree R F A → ℕ
dir_faults t = t.faults
