-- Faults of the references: of the record, and of each place that it names.
use Rattle.std.specs.Prelude.{◌≡◌, ◌≢◌, ◌⊎◌, ℕ, ◌+◌, ◌<◌, ◌≤◌, List, [], ◌∷◌, length, slice_get, true, Some}
use Rattle.ps_words.specs.Words.{displacement_at}
use Rattle.ps_codefile.specs.Procedures.{is_reserved}
use Rattle.ps_linkinfo.specs.Records.{refs_of}
use Rattle.ps_linkinfo.specs.declared.record.Body.{Body}
use Rattle.ps_linkinfo.specs.declared.record.Body.TheVariants.{PublRef, PrivRef}
use Rattle.ps_linkinfo.specs.declared.record.LinkRecord.{LinkRecord as Record}
use Rattle.ps_resolve.specs.First.{Before}
use Rattle.ps_reading.specs.Sources.{Segment, host_records}
use Rattle.ps_reading.specs.Added.{segments}
use Rattle.ps_resolve.specs.LinkedBytes.{Covers, private_offset}
use Rattle.ps_resolve.specs.Symbols.{definitions}
use Rattle.ps_resolve.specs.declared.definitions.Def.{Def}
use Rattle.ps_resolve.specs.declared.definitions.DefKind.TheVariants.{Public, Constant}
use Rattle.ps_words.specs.FaultPlaces.{in_record, in_reference}
use Rattle.ps_words.specs.declared.order.Order.{Order}
use Rattle.ps_words.specs.declared.fault.Reason.{Reason}
use Rattle.ps_words.specs.declared.fault.Fault.{Fault}
use Rattle.ps_words.specs.declared.fault.Reason.TheVariants as reason
use Rattle.ps_reading.specs.Standing.Phrases.{Because, SomeItem}
use Rattle.ps_resolve.specs.Standing.Segments.{SomeSegment}
use Rattle.ps_words.specs.declared.words.TheConstants.{MAX_OPERAND}

-- the name's definition is this one: the first that has the name
abbrev pub Defines : List (List ℕ × Def) → List ℕ → Def → Type 0
Defines ds name d =
    SomeItem ds (λ k e. ((e.0 ≡ name) × (e.1 ≡ d))
    × ((lesser : ℕ) (other : List ℕ × Def) → lesser < k
    → slice_get ds lesser ≡ Some other → other.0 ≢ name))

-- A PUBLREF names nothing that the host defines, or a constant; a UNITREF always finds its unit,
-- which was added where it was missing.
abbrev pub RecordHas : List Segment → List ℕ → Body → Reason → Type 0
RecordHas segs name (PublRef refs) reason.MissingDefinition =
    SomeItem (definitions (host_records segs)) (λ k d. d.0 ≡ name) → ⊥
RecordHas segs name (PublRef refs) reason.IllKind =
    (d : Def) × Defines (definitions (host_records segs)) name d × (d.kind ≡ Constant)
RecordHas segs name body other = ⊥

-- The operand at x of record `rec` becomes more than a BIG operand can hold: of a PUBLREF its
-- displacement and the value of the name's definition, which is a public one; of a PRIVREF its
-- displacement and the offset of its private.
abbrev pub IsTooLarge : List Segment → Segment → ℕ → List ℕ → Body → ℕ → Type 0
IsTooLarge segs s rec name (PublRef refs) x =
    (d : Def) × Defines (definitions (host_records segs)) name d × (d.kind ≡ Public)
    × (MAX_OPERAND < displacement_at s.code x + d.value)
IsTooLarge segs s rec name (PrivRef words refs) x =
    MAX_OPERAND < displacement_at s.code x + private_offset segs s.slot rec
IsTooLarge segs s rec name other x = ⊥

-- operands at x and at y cover a place in common
abbrev pub Meet : Body → ℕ → Body → ℕ → Type 0
Meet body x other y = (p : ℕ) × Covers body x p × Covers other y p

-- The operand at x reaches after the code, or into the procedure dictionary or an attribute table,
-- or meets the operand of an earlier reference of the segment, or becomes more than a BIG operand
-- can hold.
abbrev pub ReferenceHas : Order → List Segment → Segment → ℕ → Record → ℕ → ℕ
    → Reason → Type 0
ReferenceHas order segs s rec r i x reason.OutsideCode =
    (p : ℕ) × Covers r.body x p × (length s.code ≤ p)
ReferenceHas order segs s rec r i x reason.ReservedPlace =
    (p : ℕ) × Covers r.body x p × (is_reserved order s.code p ≡ true)
ReferenceHas order segs s rec r i x reason.Overlap =
    SomeItem s.records (λ lesser q. SomeItem (refs_of q.body)
    (λ j y. Before (lesser ∷ j ∷ []) (rec ∷ i ∷ []) × Meet r.body x q.body y))
ReferenceHas order segs s rec r i x reason.OperandTooLarge =
    IsTooLarge segs s rec r.name r.body x
ReferenceHas order segs s rec r i x other = ⊥

-- a fault of a record of a segment of the link, reported with the record; or of one of its
-- references, reported with both
abbrev pub InReferences : Order → List ℕ → List (List ℕ) → Fault → Type 0
InReferences order host libs f =
    SomeSegment order host libs (λ s. SomeItem s.records (λ rec r.
    Because (in_record s.file s.slot rec) (RecordHas (segments order host libs) r.name r.body) f
    ⊎ SomeItem (refs_of r.body) (λ i x. Because (in_reference s.file s.slot rec i)
    (ReferenceHas order (segments order host libs) s rec r i x) f)))
