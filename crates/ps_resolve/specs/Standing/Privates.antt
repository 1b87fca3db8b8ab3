-- Faults of the private variables.
use Rattle.std.specs.Prelude.{◌≡◌, ℕ, ◌+◌, ◌<◌, List, true}
use Rattle.ps_linkinfo.specs.declared.record.LinkRecord.{LinkRecord as Record}
use Rattle.ps_reading.specs.Sources.{Segment}
use Rattle.ps_reading.specs.Added.{segments}
use Rattle.ps_linkinfo.specs.RecordCounts.{is_private_reference}
use Rattle.ps_resolve.specs.References.{words_taken}
use Rattle.ps_resolve.specs.LinkedBytes.{private_offset}
use Rattle.ps_words.specs.FaultPlaces.{in_record}
use Rattle.ps_words.specs.declared.order.Order.{Order}
use Rattle.ps_words.specs.declared.fault.Reason.{Reason}
use Rattle.ps_words.specs.declared.fault.Fault.{Fault}
use Rattle.ps_words.specs.declared.fault.Reason.TheVariants as reason
use Rattle.ps_reading.specs.Standing.Phrases.{Because, SomeItem}
use Rattle.ps_resolve.specs.Standing.Segments.{SomeSegment}
use Rattle.ps_resolve.specs.Standing.Definitions.{HasEarlierNamesake}
use Rattle.ps_resolve.specs.declared.allotment.TheConstants.{MAX_NEXT_FREE}

-- A PRIVREF has the name of an earlier one of its segment, or its private ends after offset
-- MAX_NEXT_FREE.
abbrev pub PrivateHas : List Segment → Segment → ℕ → Record → Reason → Type 0
PrivateHas segs s rec r reason.DoubledPrivate =
    HasEarlierNamesake is_private_reference s.records rec r
PrivateHas segs s rec r reason.NoRoom = (is_private_reference r.body ≡ true)
    × (MAX_NEXT_FREE < private_offset segs s.slot rec + words_taken r.body)
PrivateHas segs s rec r other = ⊥

-- a fault of a private variable, reported with its record
abbrev pub InPrivates : Order → List ℕ → List (List ℕ) → Fault → Type 0
InPrivates order host libs f =
    SomeSegment order host libs (λ s. SomeItem s.records (λ rec r.
    Because (in_record s.file s.slot rec) (PrivateHas (segments order host libs) s rec r) f))
