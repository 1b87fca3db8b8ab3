-- What is known of a writer that was made to count.
use Rattle.ps_writing.specs.declared.counts.Counts.{Counts}
use Rattle.ps_writing.specs.declared.told.Counting.{Counting}

-- the writer that it was made around
abbrev pub inner_of : {W : Type 0} → Counting W → W
inner_of {W} writer = writer.inner

-- the counts of a writer that counts
abbrev pub counts_of : {W : Type 0} → Counting W → Counts
counts_of {W} writer = writer.counts
