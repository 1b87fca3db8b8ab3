use Rattle.ps_listing.proofs.Vocabulary.{true, Written}
use Rattle.ps_listing.specs.ListText.{uses_from}
use Rattle.ps_listing.proofs.Rows.{numbered_uses}
use Rattle.ps_listing.proofs.parts.add_each_use.Given as goal

-- the uses of the records that are left are still to be written
abbrev pub invariant-loop-record : goal.invariant-loop-record
invariant-loop-record g l = Written g.S.TextWriter.added l.fn.text
    (uses_from l.form true l.records) (numbered_uses l.form l.first l.record-iterator) l.text
