-- Faults of the definitions, which are records of the host's segment.
use Rattle.std.specs.Prelude.{◌≡◌, ℕ, List, slice_get, Bool, true, Some}
use Rattle.ps_linkinfo.specs.declared.record.Body.{Body}
use Rattle.ps_linkinfo.specs.declared.record.LinkRecord.{LinkRecord as Record}
use Rattle.ps_words.specs.FaultPlaces.{in_record}
use Rattle.ps_words.specs.declared.order.Order.{Order}
use Rattle.ps_words.specs.declared.fault.Fault.{Fault}
use Rattle.ps_words.specs.declared.fault.Reason.TheVariants as reason
use Rattle.ps_reading.specs.Standing.Phrases.{SomeBelow, SomeItem}
use Rattle.ps_resolve.specs.Standing.Segments.{OfHostSegment}
use Rattle.ps_linkinfo.specs.RecordCounts.{is_definition}

-- the record passes the test, and so does an earlier one that has its name
abbrev pub HasEarlierNamesake : (Body → Bool) → List Record → ℕ → Record → Type 0
HasEarlierNamesake test records rec r =
    (test r.body ≡ true) × SomeBelow rec
    (λ other. (q : Record) × (slice_get records other ≡ Some q)
    × ((test q.body ≡ true) × (q.name ≡ r.name)))

-- a record of the host's segment defines a name that an earlier one defines
abbrev pub InDefinitions : Order → List ℕ → List (List ℕ) → Fault → Type 0
InDefinitions order host libs f =
    OfHostSegment order host libs (λ s. SomeItem s.records (λ rec r.
    (f ≡ in_record 0 s.slot rec reason.DoubledDefinition)
    × HasEarlierNamesake is_definition s.records rec r))
