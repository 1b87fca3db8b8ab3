-- The faults of a link once its files were read, step by step: of each step the first fault in its
-- own order, and a later step is looked at only where no earlier one has a fault. Those of reading
-- are passed on.
pub use Rattle.ps_reading.specs.Faults.{host_fault, is_role, slot_reason, library_reason, library_fault, entries_reason, entry_fault, information_fault, code_fault, request_fault, role_fault, source_fault}
unfoldable pub use Rattle.ps_reading.specs.Faults.{slots_fault, no_host_fault, libraries_fault, sources_fault}
use Rattle.std.specs.Prelude.{ℕ, ◌+◌, List, [], ◌∷◌, map, nat_lt, Option, Some, None, option_and_then}
use Rattle.std.specs.Option.{option_map, option_or}
use Rattle.ps_words.specs.FaultPlaces.{in_slot, in_record, in_reference}
use Rattle.ps_words.specs.declared.order.Order.{Order}
use Rattle.ps_words.specs.declared.fault.Reason.{Reason}
use Rattle.ps_words.specs.declared.fault.Reason.TheVariants as reason
use Rattle.ps_words.specs.declared.fault.Fault.{Fault}
use Rattle.ps_codefile.specs.Procedures.{table_of, is_reserved}
use Rattle.ps_linkinfo.specs.RecordCounts.{next_of}
use Rattle.ps_resolve.specs.Privates.{owner_of, first_private_fault, private_words, total_words}
use Rattle.ps_reading.specs.Searches.{fault_if}
use Rattle.ps_reading.specs.Sources.{Segment, host_of, host_records}
use Rattle.ps_resolve.specs.Symbols.{first_duplicate}
use Rattle.ps_resolve.specs.References.{Known, records_fault}
use Rattle.ps_resolve.specs.Linking.{known_of, grown_data_size}
use Rattle.ps_resolve.specs.declared.edits.data_size.TheConstants.{MAX_DATA_SIZE}

-- 7. the definitions of the host's segment
unfoldable pub definitions_fault : List Segment → Option Fault
definitions_fault segs = option_and_then
    (λ s. option_map (λ rec. in_record 0 s.slot rec reason.DoubledDefinition)
    (first_duplicate s.records)) (host_of segs)

-- 8. the privates
unfoldable pub privates_fault : List Segment → Option Fault
privates_fault segs = first_private_fault (next_of (host_records segs)) (map owner_of segs)

-- 9. the host's data size
abbrev pub size_fault : Order → ℕ → Segment → Option Fault
size_fault order words s =
    option_and_then (λ t. fault_if (nat_lt MAX_DATA_SIZE (grown_data_size order s.code words t))
    (in_slot 0 s.slot reason.DataTooLarge)) (table_of order s.code 1)

-- the fault of the host's data size
unfoldable pub data_fault : Order → List Segment → Option Fault
data_fault order segs = option_and_then (size_fault order (total_words segs)) (host_of segs)

-- 10. the references of each segment, of which those after one segment's are looked at with the
--     offset of the privates after its own
abbrev pub in_segment : ℕ → ℕ → ℕ × (Option ℕ × Reason) → Fault
in_segment file slot (rec, (None, why)) = in_record file slot rec why
in_segment file slot (rec, (Some reference, why)) = in_reference file slot rec reference why

-- the first fault of the references of a segment, whose privates begin at this offset
abbrev pub segment_fault : Order → Known → ℕ → Segment → Option Fault
segment_fault order known free s = option_map (in_segment s.file s.slot)
    (records_fault known (is_reserved order s.code) s.code 0 free [] s.records)

-- the first fault of the references of these segments, whose privates begin at this offset
abbrev pub references_fault_from : Order → Known → ℕ → List Segment → Option Fault
references_fault_from order known free [] = None
references_fault_from order known free (s ∷ ss) =
    option_or (segment_fault order known free s)
    (references_fault_from order known (free + private_words s.records) ss)

-- the first fault of the references of a link
unfoldable pub references_fault : Order → List Segment → Option Fault
references_fault order segs = references_fault_from order (known_of segs)
    (next_of (host_records segs)) segs

-- what is looked at once all segments were read
unfoldable pub linking_fault : Order → List Segment → Option Fault
linking_fault order segs = option_or (definitions_fault segs)
    (option_or (privates_fault segs) (option_or (data_fault order segs)
    (references_fault order segs)))
