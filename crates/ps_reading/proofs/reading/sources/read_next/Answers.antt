use Rattle.ps_reading.proofs.Vocabulary.{◌≡◌, ◌∙◌, Option, option_and_then, result_ok, Segment, opened, IsRead}
use Rattle.ps_reading.specs.Sources.{own_segment}
use Rattle.ps_reading.specs.Faults.{source_fault}
use Rattle.ps_reading.specs.Readings.{read_segment}
use Rattle.ps_reading.proofs.ReadingSources.{all_with, by_fault, kept, kept_read}
use Rattle.ps_reading.proofs.reading.sources.read_next.Goals as goal

pub returns : goal.returns
returns c =
    let host = c.args.host.now in
    let libs = opened host.order c.args.libs.now in
    let fault = source_fault host.order host.file libs c.args.slot in
    let own = own_segment host.order host.file libs c.args.slot in
    let read = c.read_slot-read in
    let segment : Option Segment = option_and_then (λ s. s) (result_ok read.result) in
    let is : segment ≡ read_segment host.order host.file libs c.args.slot =
    kept fault own read.result read.ensures.fault read.ensures.segment ∙ by_fault fault own in
    record {
      fault = c.add_segment.ensures.fault ∙ read.ensures.fault;
      segments = rw (← is) c.add_segment.ensures.segments;
      read = rw c.add_segment.ensures.segments
          (all_with (IsRead host.order host.file libs) c.args.segments.now.items segment
          c.requires.read (kept_read (IsRead host.order host.file libs) read.result
          read.ensures.read));
    }
