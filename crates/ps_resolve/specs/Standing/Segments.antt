-- What is said of a segment of the link.
use Rattle.std.specs.Prelude.{◌≡◌, ℕ, ◌<◌, List, Some}
use Rattle.ps_reading.specs.Sources.{Segment, host_of}
use Rattle.ps_reading.specs.Added.{segments, segment_at}
use Rattle.ps_words.specs.declared.order.Order.{Order}
use Rattle.ps_codefile.specs.declared.dictionary_layout.TheConstants.{SLOTS}

-- a segment of the linked file, in its slot
abbrev pub IsSegment : Order → List ℕ → List (List ℕ) → Segment → Type 0
IsSegment order host libs s = (s.slot < SLOTS) × (segment_at order host libs s.slot ≡ Some s)

-- P holds of a segment of the link
abbrev pub SomeSegment : Order → List ℕ → List (List ℕ) → (Segment → Type 0) → Type 0
SomeSegment order host libs P = (s : Segment) × IsSegment order host libs s × P s

-- P holds of the host's own segment
abbrev pub OfHostSegment : Order → List ℕ → List (List ℕ) → (Segment → Type 0)
    → Type 0
OfHostSegment order host libs P = (s : Segment) × (host_of (segments order host libs) ≡ Some s)
    × P s
