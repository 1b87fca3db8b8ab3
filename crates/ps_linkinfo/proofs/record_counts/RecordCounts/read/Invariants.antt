use Rattle.ps_linkinfo.proofs.Vocabulary.{◌≡◌, List, record_counts_of, Record}
use Rattle.ps_linkinfo.proofs.Walks.{Walked}
use Rattle.ps_linkinfo.proofs.record_counts.RecordCounts.read.Given as goal

-- the counts is that of the records that were given
abbrev pub invariant-loop-item : goal.invariant-loop-item
invariant-loop-item l = (rs : List Record) × Walked l.fn.order l.fn.bytes l.item-iterator rs
    × (l.counts ≡ record_counts_of rs)
