-- A plan of a link: its segments, and the edits that link them.
use Rattle.std.specs.Prelude.{◌≡◌, ℕ, ◌+◌, ◌<◌, List, [], ◌∷◌, length, map, IsPermutation, ⊤, Some, None}
use Rattle.ps_words.specs.Edits.{AreEdits, patched_byte}
use Rattle.ps_words.specs.declared.order.Order.{Order}
use Rattle.ps_words.specs.declared.edit.Edit.{Edit}
use Rattle.ps_reading.specs.Sources.{Segment, order_of, host_records}
use Rattle.ps_reading.specs.Added.{segments, slot_names}
use Rattle.ps_linkinfo.specs.RecordCounts.{next_of}
use Rattle.ps_resolve.specs.Privates.{owner_of, all_allotted, total_words}
use Rattle.ps_resolve.specs.Symbols.{definitions}
use Rattle.ps_resolve.specs.Linking.{edited_segments, linked_byte, data_size}
use Rattle.ps_resolve.specs.Faults.{linking_fault}
use Rattle.ps_resolve.specs.AllFaults.{first_fault}
use Rattle.ps_reading.specs.Readings.{reading_fault}
use Rattle.ps_resolve.specs.Stops.{IsStop}
use Rattle.ps_resolve.specs.declared.definitions.Def.{Def}
use Rattle.ps_resolve.specs.declared.allotment.Private.{Private}
use Rattle.ps_resolve.specs.declared.linkage.Stop.{Stop}
use Rattle.ps_resolve.specs.declared.linkage.Stop.TheVariants.{Refused, Memory}

-- what links segments, of a host in this byte order; the edits are in the order of the segments
pub record Links : Type 0 where
  pub order : Order
  pub edits : List (List Edit)
  pub definitions : List (List ℕ × Def)
  pub privates : List Private
  pub next_free : ℕ
  pub private_words : ℕ
  pub data_size : ℕ

-- what a plan holds; the names are those of all slots, by slot, the sources are the segments of the
-- link, and the edits are in their order
pub record Planned : Type 0 where
  pub order : Order
  pub host : List ℕ
  pub names : List (List ℕ)
  pub sources : List Segment
  pub edits : List (List Edit)
  pub definitions : List (List ℕ × Def)
  pub privates : List Private
  pub next_free : ℕ
  pub private_words : ℕ
  pub data_size : ℕ

-- Edits of a segment, ready to be stored: in the order of their places, and apart; one for each of
-- its own, which are all that it has; and they make each byte the linked byte.
pub record LinksSegment (order : Order) (s : Segment) (own edits : List Edit) : Type 0 where
  pub ready : AreEdits (length s.code) edits
  pub each : IsPermutation own edits
  pub bytes : (p : ℕ) → p < length s.code
      → patched_byte order s.code edits p ≡ linked_byte order (s, own) p

-- each list of edits links its segment, and there are as many lists as segments
abbrev pub LinkSegments : Order → List (Segment × List Edit) → List (List Edit) → Type 0
LinkSegments order [] [] = ⊤
LinkSegments order ((s, own) ∷ es) (d ∷ ds) =
    LinksSegment order s own d × LinkSegments order es ds
LinkSegments order [] (d ∷ ds) = ⊥
LinkSegments order (e ∷ es) [] = ⊥

-- what links these segments, where the host has this byte order
pub record AreLinks (host_order : Order) (segs : List Segment) (links : Links) : Type 0 where
  pub order : links.order ≡ host_order
  pub edits : LinkSegments host_order (edited_segments host_order segs) links.edits
  pub definitions : links.definitions ≡ definitions (host_records segs)
  pub privates : links.privates ≡ all_allotted (next_of (host_records segs)) (map owner_of segs)
  pub next_free : links.next_free ≡ next_of (host_records segs) + total_words segs
  pub private_words : links.private_words ≡ total_words segs
  pub data_size : links.data_size ≡ data_size host_order segs

-- the plan is that of a link of these segments, of which the host file has this content
pub record IsPlanOf (host_order : Order) (host : List ℕ) (segs : List Segment)
    (plan : Planned) : Type 0 where
  pub order : plan.order ≡ host_order
  pub of_host : plan.host ≡ host
  pub names : plan.names ≡ slot_names host segs
  pub sources : plan.sources ≡ segs
  pub edits : LinkSegments host_order (edited_segments host_order segs) plan.edits
  pub definitions : plan.definitions ≡ definitions (host_records segs)
  pub privates : plan.privates ≡ all_allotted (next_of (host_records segs)) (map owner_of segs)
  pub next_free : plan.next_free ≡ next_of (host_records segs) + total_words segs
  pub private_words : plan.private_words ≡ total_words segs
  pub data_size : plan.data_size ≡ data_size host_order segs

-- the plan is that of a link of these files
abbrev pub IsPlan : List ℕ → List (List ℕ) → Planned → Type 0
IsPlan host libs plan = IsPlanOf (order_of host) host (segments (order_of host) host libs) plan

-- why there is no plan of a link of these segments: their first fault, or memory ran out
abbrev pub AreStopped : Order → List Segment → Stop → Type 0
AreStopped order segs = IsStop ⊤ (linking_fault order segs)

-- why there is no plan: the first fault of all, or memory ran out where nothing that is looked at
-- before has a fault
abbrev pub IsStopped : List ℕ → List (List ℕ) → Stop → Type 0
IsStopped host libs (Refused fault) = first_fault host libs ≡ Some fault
IsStopped host libs Memory = reading_fault host libs ≡ None
